-- Blocks that are put among others and taken out, and the units that they have.
use Rattle.std.proofs.Common.{◌≡◌, ◌≢◌, ℕ, ◌+◌, ◌-◌, ◌<◌, ◌≤◌, ◌⊎◌, true, false, Bool, List, length, set, Option, Some, None, sym, subst, ◌∙◌, arith, inl, inr}
use Rattle.std.proofs.lemmas.Bool.{cases_lt, cases_eq}
use Rattle.std.proofs.lemmas.List.{get_or-set_same, get_or-set_other, get_or_past}
use Rattle.entity_region.specs.declared.place.Place.{Place}
use Rattle.entity_region.specs.Units.{unit_at, IsClear, IsFilled}
use Rattle.entity_region.specs.Sound.{units_of, end_unit, place_at, IsCovered, AreLaidOut, AreMarked}

pub some_units : (n : ℕ) → 0 < n → 0 < units_of n
some_units n some = omega arith

pub live_below : (places : List (Option Place)) (i : ℕ) (p : Place) → place_at places i ≡ Some p → i < length places
live_below places i p is = elim (cases_lt i (length places)) [
  | inl below ↦ below
  | inr past ↦ let none = get_or_past places i None past in absurd cc
]

pub place_same : (places : List (Option Place)) (i : ℕ) (o : Option Place) → i < length places → place_at (set places i o) i ≡ o
place_same places i o below = get_or-set_same places i o None below

pub place_other : (places : List (Option Place)) (i j : ℕ) (o : Option Place) → i ≢ j → place_at (set places i o) j ≡ place_at places j
place_other places i j o differs = get_or-set_other places i j o None (λ same. differs (sym same))

-- ---- a block that is put where its units are clear

-- each block in `set places i (Some p)` is p or one that was there
pub old_or_new : (places : List (Option Place)) (i j : ℕ) (p q : Place) → i < length places → place_at (set places i (Some p)) j ≡ Some q
    → ((i ≡ j) × (p ≡ q)) ⊎ ((i ≢ j) × (place_at places j ≡ Some q))
old_or_new places i j p q below is = elim (cases_eq i j) [
  | inl same ↦
      let here = place_same places i (Some p) below in
      let there : place_at (set places i (Some p)) i ≡ Some q = subst (λ k. place_at (set places i (Some p)) k ≡ Some q) (sym same) is in
      inl (same, cc)
  | inr differs ↦ inr (differs, sym (place_other places i j (Some p) differs) ∙ is)
]

-- a block has none of the units that are clear
pub clear_of : (count : ℕ) (units : List Bool) (places : List (Option Place)) (at n j : ℕ) (q : Place) → AreLaidOut count places → AreMarked count units places → IsClear units at n → 0 < n
    → place_at places j ≡ Some q → (at + n ≤ q.unit) ⊎ (end_unit q ≤ at)
clear_of count units places at n j q laid_out marked clear some is =
    let some_q = some_units q.len (laid_out.some j q is) in
    elim (cases_lt q.unit (at + n)) [
      | inl before ↦ elim (cases_lt at (end_unit q)) [
        | inl over ↦ elim (cases_lt at q.unit) [
          | inl later ↦
              absurd (marked.clear q.unit (clear.clear q.unit (omega arith) before) (record { number = j; place = q; is = is; low = omega arith; high = omega arith }))
          | inr earlier ↦
              absurd (marked.clear at (clear.clear at (omega arith) (omega arith)) (record { number = j; place = q; is = is; low = earlier; high = over }))
        ]
        | inr behind ↦ inr behind
      ]
      | inr behind ↦ inl behind
    ]

pub laid_out_put : (count : ℕ) (units : List Bool) (places : List (Option Place)) (i : ℕ) (p : Place) → AreLaidOut count places → AreMarked count units places → i < length places
    → 0 < p.len → IsClear units p.unit (units_of p.len) → AreLaidOut count (set places i (Some p))
laid_out_put count units places i p laid_out marked below some clear =
    let some_p = some_units p.len some in
    record {
      some = λ j q is. elim (old_or_new places i j p q below is) [
        | inl here ↦ subst (λ (x : Place). 0 < x.len) here.1 some
        | inr there ↦ laid_out.some j q there.1
      ];
      inside = λ j q is. elim (old_or_new places i j p q below is) [
        | inl here ↦
            let last = marked.clear_in (p.unit + (units_of p.len - 1)) (clear.clear (p.unit + (units_of p.len - 1)) (omega arith) (omega arith)) in
            subst (λ (x : Place). end_unit x ≤ count) here.1 (omega arith)
        | inr there ↦ laid_out.inside j q there.1
      ];
      apart = λ j k q r first second differs. elim (old_or_new places i j p q below first) [
        | inl here ↦ elim (old_or_new places i k p r below second) [
          | inl again ↦ absurd (differs (sym here.0 ∙ again.0))
          | inr there ↦ subst (λ (x : Place). (end_unit x ≤ r.unit) ⊎ (end_unit r ≤ x.unit)) here.1 (clear_of count units places p.unit (units_of p.len) k r laid_out marked clear some_p there.1)
        ]
        | inr there ↦ elim (old_or_new places i k p r below second) [
          | inl here ↦
              subst (λ (x : Place). (end_unit q ≤ x.unit) ⊎ (end_unit x ≤ q.unit)) here.1 (elim (clear_of count units places p.unit (units_of p.len) j q laid_out marked clear some_p there.1) [
                | inl behind ↦ inr behind
                | inr before ↦ inl before
              ])
          | inr again ↦ laid_out.apart j k q r there.1 again.1 differs
        ]
      ];
    }

pub marked_put : (count : ℕ) (units new : List Bool) (places : List (Option Place)) (i : ℕ) (p : Place) → AreMarked count units places → i < length places → place_at places i ≡ None
    → IsFilled units new p.unit (end_unit p) true → AreMarked count new (set places i (Some p))
marked_put count units new places i p marked below free filled =
    let same_count = filled.count in
    let outside : (u : ℕ) → unit_at new u ≡ false → ((u < p.unit) ⊎ (end_unit p ≤ u)) × (unit_at units u ≡ false) =
    λ u clear. elim (cases_lt u p.unit) [
      | inl before ↦ (inl before, sym (filled.before u before) ∙ clear)
      | inr low ↦ elim (cases_lt u (end_unit p)) [
        | inl high ↦ let used = filled.within u low high in absurd cc
        | inr behind ↦ (inr behind, sym (filled.behind u behind) ∙ clear)
      ]
    ] in
    let kept : (u : ℕ) → u < count → unit_at units u ≡ true → IsCovered (set places i (Some p)) u =
    λ u inside used.
    let by = marked.used u inside used in
    let differs : i ≢ by.number = λ same. let none : place_at places by.number ≡ None = subst (λ k. place_at places k ≡ None) same free in let some = by.is in absurd cc in
    record { number = by.number; place = by.place; is = place_other places i by.number (Some p) differs ∙ by.is; low = by.low; high = by.high } in
    record {
      fits = omega (arith, marked.fits, same_count);
      used = λ u inside used. elim (cases_lt u p.unit) [
        | inl before ↦ kept u inside (sym (filled.before u before) ∙ used)
        | inr low ↦ elim (cases_lt u (end_unit p)) [
          | inl high ↦ record { number = i; place = p; is = place_same places i (Some p) below; low = low; high = high }
          | inr behind ↦ kept u inside (sym (filled.behind u behind) ∙ used)
        ]
      ];
      clear_in = λ u clear. marked.clear_in u (outside u clear).1;
      clear = λ u clear by.
          let out = outside u clear in
          let low = by.low in
          let high = by.high in
          elim (old_or_new places i by.number p by.place below by.is) [
            | inl here ↦
                let low_p : p.unit ≤ u = subst (λ (x : Place). x.unit ≤ u) (sym here.1) low in
                let high_p : u < end_unit p = subst (λ (x : Place). u < end_unit x) (sym here.1) high in
                elim out.0 [
                  | inl before ↦ absurd (omega arith)
                  | inr behind ↦ absurd (omega arith)
                ]
            | inr there ↦ marked.clear u out.1 (record { number = by.number; place = by.place; is = there.1; low = low; high = high })
          ];
    }

-- ---- a block that is taken out

-- each block in `set places i None` was there under another number
old_other : (places : List (Option Place)) (i j : ℕ) (q : Place) → i < length places → place_at (set places i None) j ≡ Some q → (i ≢ j) × (place_at places j ≡ Some q)
old_other places i j q below is = elim (cases_eq i j) [
  | inl same ↦
      let here = place_same places i None below in
      let there : place_at (set places i None) i ≡ Some q = subst (λ k. place_at (set places i None) k ≡ Some q) (sym same) is in
      absurd cc
  | inr differs ↦ (differs, sym (place_other places i j None differs) ∙ is)
]

pub laid_out_given : (count : ℕ) (places : List (Option Place)) (i : ℕ) → AreLaidOut count places → i < length places → AreLaidOut count (set places i None)
laid_out_given count places i laid_out below = record {
  some = λ j q is. laid_out.some j q (old_other places i j q below is).1;
  inside = λ j q is. laid_out.inside j q (old_other places i j q below is).1;
  apart = λ j k q r first second differs. laid_out.apart j k q r (old_other places i j q below first).1 (old_other places i k r below second).1 differs;
}

pub marked_given : (count : ℕ) (units new : List Bool) (places : List (Option Place)) (i : ℕ) (p : Place) → AreLaidOut count places → AreMarked count units places → place_at places i ≡ Some p
    → IsFilled units new p.unit (end_unit p) false → AreMarked count new (set places i None)
marked_given count units new places i p laid_out marked is filled =
    let below = live_below places i p is in
    let same_count = filled.count in
    let inside_p = laid_out.inside i p is in
    let kept : (u : ℕ) → u < count → unit_at units u ≡ true → (u < p.unit) ⊎ (end_unit p ≤ u) → IsCovered (set places i None) u =
    λ u inside used out.
    let by = marked.used u inside used in
    let low = by.low in
    let high = by.high in
    let differs : i ≢ by.number = λ same.
    let at_i : place_at places i ≡ Some by.place = subst (λ k. place_at places k ≡ Some by.place) (sym same) by.is in
    let same_place : p ≡ by.place = cc in
    let low_p : p.unit ≤ u = subst (λ (x : Place). x.unit ≤ u) (sym same_place) low in
    let high_p : u < end_unit p = subst (λ (x : Place). u < end_unit x) (sym same_place) high in
    elim out [
      | inl before ↦ absurd (omega arith)
      | inr behind ↦ absurd (omega arith)
    ] in
    record { number = by.number; place = by.place; is = place_other places i by.number None differs ∙ by.is; low = low; high = high } in
    let apart_from : (u : ℕ) → p.unit ≤ u → u < end_unit p → IsCovered (set places i None) u → ⊥ =
    λ u low high by.
    let other = old_other places i by.number by.place below by.is in
    let low_q = by.low in
    let high_q = by.high in
    elim (laid_out.apart i by.number p by.place is other.1 other.0) [
      | inl before ↦ omega arith
      | inr behind ↦ omega arith
    ] in
    record {
      fits = omega (arith, marked.fits, same_count);
      used = λ u inside used. elim (cases_lt u p.unit) [
        | inl before ↦ kept u inside (sym (filled.before u before) ∙ used) (inl before)
        | inr low ↦ elim (cases_lt u (end_unit p)) [
          | inl high ↦ let clear = filled.within u low high in absurd cc
          | inr behind ↦ kept u inside (sym (filled.behind u behind) ∙ used) (inr behind)
        ]
      ];
      clear_in = λ u clear. elim (cases_lt u p.unit) [
        | inl before ↦ marked.clear_in u (sym (filled.before u before) ∙ clear)
        | inr low ↦ elim (cases_lt u (end_unit p)) [
          | inl high ↦ omega arith
          | inr behind ↦ marked.clear_in u (sym (filled.behind u behind) ∙ clear)
        ]
      ];
      clear = λ u clear by. elim (cases_lt u p.unit) [
        | inl before ↦
            let other = old_other places i by.number by.place below by.is in
            marked.clear u (sym (filled.before u before) ∙ clear) (record { number = by.number; place = by.place; is = other.1; low = by.low; high = by.high })
        | inr low ↦ elim (cases_lt u (end_unit p)) [
          | inl high ↦ apart_from u low high by
          | inr behind ↦
              let other = old_other places i by.number by.place below by.is in
              marked.clear u (sym (filled.behind u behind) ∙ clear) (record { number = by.number; place = by.place; is = other.1; low = by.low; high = by.high })
        ]
      ];
    }
