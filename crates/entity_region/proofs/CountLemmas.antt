-- How many units are clear, how many blocks have, and which numbers are free.
use Rattle.std.proofs.Common.{◌≡◌, ◌≢◌, ℕ, zero, suc, ◌+◌, ◌-◌, ◌<◌, ◌≤◌, min, true, false, not, Bool, cond, List, length, get_or, set, take, Option, Some, None, sym, ap, subst, ◌∙◌, arith, inl, inr, length-set}
use Rattle.std.specs.Prelude.{is_some}
use Rattle.std.specs.List.{sum_by}
use Rattle.std.specs.Option.{option_map_or}
use Rattle.std.proofs.lemmas.Bool.{cases_lt, cases_Bool}
use Rattle.std.proofs.lemmas.List.{get_or-set_same, get_or-set_other, take_all}
use Rattle.std.proofs.lemmas.List.Sums.{sum_by_more, sum_by-set, count_by-le-length}
use Rattle.entity_region.specs.declared.place.Place.{Place}
use Rattle.entity_region.specs.Units.{unit_at, IsClear, IsFilled}
use Rattle.entity_region.specs.Sound.{units_of, end_unit, place_at, AreMarked, AreSpare, taken, clear_units}
use Rattle.entity_region.proofs.LayoutLemmas.{place_same, place_other, live_below}

abbrev clear_one : Bool → ℕ
clear_one b = cond (not b) 1 0

-- among the first k units
filled_first : (old new : List Bool) (from to k : ℕ) → IsFilled old new from to true → IsClear old from (to - from) → from ≤ to → k ≤ length old
    → sum_by clear_one (take k new) + (min k to - min k from) ≡ sum_by clear_one (take k old)
filled_first old new from to zero filled clear order within = omega arith
filled_first old new from to (suc k) filled clear order within =
    let same = filled.count in
    let before = filled_first old new from to k filled clear order (omega arith) in
    let next : k + 1 ≡ suc k = omega arith in
    let more_old = subst (λ n. sum_by clear_one (take n old) ≡ sum_by clear_one (take k old) + clear_one (get_or old k true)) next (sum_by_more clear_one old k true (omega arith)) in
    let more_new = subst (λ n. sum_by clear_one (take n new) ≡ sum_by clear_one (take k new) + clear_one (get_or new k true)) next (sum_by_more clear_one new k true (omega arith)) in
    elim (cases_lt k from) [
      | inl below ↦ let unit = ap clear_one (filled.before k below) in omega arith
      | inr low ↦ elim (cases_lt k to) [
        | inl high ↦
            let now : clear_one (unit_at new k) ≡ 0 = ap clear_one (filled.within k low high) in
            let was : clear_one (unit_at old k) ≡ 1 = ap clear_one (clear.clear k low (omega arith)) in
            omega arith
        | inr behind ↦ let unit = ap clear_one (filled.behind k behind) in omega arith
      ]
    ]

-- clear units that are filled are clear no more
pub filled_count : (old new : List Bool) (from to : ℕ) → IsFilled old new from to true → IsClear old from (to - from) → from ≤ to → to ≤ length old
    → clear_units new + (to - from) ≡ clear_units old
filled_count old new from to filled clear order inside =
    let same = filled.count in
    let all = filled_first old new from to (length old) filled clear order (omega arith) in
    let old_all : take (length old) old ≡ old = take_all (length old) old (omega arith) in
    let new_all : take (length old) new ≡ new = take_all (length old) new (omega arith) in
    let old_sum : sum_by clear_one (take (length old) old) ≡ clear_units old = ap (sum_by clear_one) old_all in
    let new_sum : sum_by clear_one (take (length old) new) ≡ clear_units new = ap (sum_by clear_one) new_all in
    omega arith

-- used units that are cleared are clear
pub cleared_count : (old new : List Bool) (from to : ℕ) → IsFilled old new from to false → ((u : ℕ) → from ≤ u → u < to → unit_at old u ≡ true) → from ≤ to → to ≤ length old
    → clear_units new ≡ clear_units old + (to - from)
cleared_count old new from to filled used order inside =
    let same = filled.count in
    let back : IsFilled new old from to true = record {
      count = sym filled.count;
      within = used;
      before = λ u below. sym (filled.before u below);
      behind = λ u above. sym (filled.behind u above);
    } in
    let clear : IsClear new from (to - from) = record { inside = omega arith; clear = λ u low high. filled.within u low (omega arith) } in
    let count = filled_count new old from to back clear order (omega arith) in
    omega arith

-- the units of a block are used
pub block_used : (count : ℕ) (units : List Bool) (places : List (Option Place)) (i : ℕ) (p : Place) → AreMarked count units places → place_at places i ≡ Some p → (u : ℕ) → p.unit ≤ u → u < end_unit p
    → unit_at units u ≡ true
block_used count units places i p marked is u low high = elim (cases_Bool (unit_at units u)) [
  | inl used ↦ used
  | inr clear ↦ absurd (marked.clear u clear (record { number = i; place = p; is = is; low = low; high = high }))
]

abbrev units_in : Option Place → ℕ
units_in place = option_map_or (λ p. units_of p.len) place 0

pub taken_put : (places : List (Option Place)) (i : ℕ) (p : Place) → i < length places → place_at places i ≡ None → taken (set places i (Some p)) ≡ taken places + units_of p.len
taken_put places i p below none =
    let sum = sum_by-set units_in places i (Some p) None below in
    let was : units_in (place_at places i) ≡ 0 = ap units_in none in
    let all : taken (set places i (Some p)) + units_in (place_at places i) ≡ taken places + units_of p.len = sum in
    omega arith

pub taken_given : (places : List (Option Place)) (i : ℕ) (p : Place) → place_at places i ≡ Some p → taken (set places i None) + units_of p.len ≡ taken places
taken_given places i p is =
    let sum = sum_by-set units_in places i None None (live_below places i p is) in
    let was : units_in (place_at places i) ≡ units_of p.len = ap units_in is in
    let all : taken (set places i None) + units_in (place_at places i) ≡ taken places + 0 = sum in
    omega arith

-- ---- numbers

abbrev one : Option Place → ℕ
one place = cond (is_some place) 1 0

pub spare_put : (numbers : List ℕ) (live : ℕ) (places : List (Option Place)) (p : Place) → AreSpare numbers live places → live < length numbers
    → AreSpare numbers (live + 1) (set places (get_or numbers live 0) (Some p))
spare_put numbers live places p spare below =
    let number = get_or numbers live 0 in
    let within = spare.inside live (omega arith) below in
    let none = spare.none live (omega arith) below in
    let len = length-set places number (Some p) in
    let counted = spare.counted in
    record {
      all = omega (arith, spare.all);
      inside = λ k low high. omega (arith, spare.inside k (omega arith) high);
      none = λ k low high. place_other places number (get_or numbers k 0) (Some p) (spare.distinct live k (omega arith) (omega arith) high) ∙ spare.none k (omega arith) high;
      distinct = λ j k low order high. spare.distinct j k (omega arith) order high;
      counted =
          let sum : sum_by one (set places number (Some p)) + one (place_at places number) ≡ sum_by one places + 1 = sum_by-set one places number (Some p) None within in
          let was : one (place_at places number) ≡ 0 = ap one none in
          let had : sum_by one places ≡ live = spare.counted in
          let all : sum_by one (set places number (Some p)) ≡ live + 1 = omega arith in
          all;
    }

pub some_live : (numbers : List ℕ) (live : ℕ) (places : List (Option Place)) (i : ℕ) (p : Place) → AreSpare numbers live places → place_at places i ≡ Some p → (0 < live) × (live ≤ length numbers)
some_live numbers live places i p spare is =
    let sum : sum_by one (set places i None) + one (place_at places i) ≡ sum_by one places + 0 = sum_by-set one places i None None (live_below places i p is) in
    let was : one (place_at places i) ≡ 1 = ap one is in
    let had : sum_by one places ≡ live = spare.counted in
    let few : sum_by one places ≤ length places = count_by-le-length is_some places in
    let all = spare.all in
    (omega arith, omega arith)

pub spare_given : (numbers : List ℕ) (live : ℕ) (places : List (Option Place)) (i : ℕ) (p : Place) → AreSpare numbers live places → place_at places i ≡ Some p
    → AreSpare (set numbers (live - 1) i) (live - 1) (set places i None)
spare_given numbers live places i p spare is =
    let below = live_below places i p is in
    let some = some_live numbers live places i p spare is in
    let least = some.0 in
    let greatest = some.1 in
    let len = length-set places i None in
    let numbers_len = length-set numbers (live - 1) i in
    let here : get_or (set numbers (live - 1) i) (live - 1) 0 ≡ i = get_or-set_same numbers (live - 1) i 0 (omega arith) in
    let there : (k : ℕ) → live ≤ k → get_or (set numbers (live - 1) i) k 0 ≡ get_or numbers k 0 = λ k low. get_or-set_other numbers (live - 1) k i 0 (omega arith) in
    let apart : (k : ℕ) → live ≤ k → k < length numbers → i ≢ get_or numbers k 0 =
    λ k low high same. let none = subst (λ n. place_at places n ≡ None) (sym same) (spare.none k low high) in absurd cc in
    record {
      all = omega (arith, spare.all);
      inside = λ k low high. elim (cases_lt k live) [
        | inl last ↦ let same : k ≡ live - 1 = omega arith in rw (same, here, len) below
        | inr behind ↦ rw (there k behind, len) (spare.inside k behind (omega arith))
      ];
      none = λ k low high. elim (cases_lt k live) [
        | inl last ↦ let same : k ≡ live - 1 = omega arith in rw (same, here) (place_same places i None below)
        | inr behind ↦ rw (there k behind) (place_other places i (get_or numbers k 0) None (apart k behind (omega arith)) ∙ spare.none k behind (omega arith))
      ];
      distinct = λ j k low order high. elim (cases_lt j live) [
        | inl last ↦ let same : j ≡ live - 1 = omega arith in rw (same, here, there k (omega arith)) (apart k (omega arith) (omega arith))
        | inr behind ↦ rw (there j behind, there k (omega arith)) (spare.distinct j k behind order (omega arith))
      ];
      counted =
          let sum : sum_by one (set places i None) + one (place_at places i) ≡ sum_by one places + 0 = sum_by-set one places i None None below in
          let was : one (place_at places i) ≡ 1 = ap one is in
          let had : sum_by one places ≡ live = spare.counted in
          let left : sum_by one (set places i None) ≡ live - 1 = omega arith in
          left;
    }

-- a clear run has no more units than are clear
clear_first : (units : List Bool) (at n k : ℕ) → IsClear units at n → k ≤ length units → min k (at + n) - min k at ≤ sum_by clear_one (take k units)
clear_first units at n zero clear within = omega arith
clear_first units at n (suc k) clear within =
    let before = clear_first units at n k clear (omega arith) in
    let next : k + 1 ≡ suc k = omega arith in
    let more = subst (λ m. sum_by clear_one (take m units) ≡ sum_by clear_one (take k units) + clear_one (get_or units k true)) next (sum_by_more clear_one units k true (omega arith)) in
    elim (cases_lt k at) [
      | inl below ↦ omega arith
      | inr low ↦ elim (cases_lt k (at + n)) [
        | inl high ↦ let one : clear_one (unit_at units k) ≡ 1 = ap clear_one (clear.clear k low high) in omega arith
        | inr behind ↦ omega arith
      ]
    ]

pub clear_count : (units : List Bool) (at n : ℕ) → IsClear units at n → n ≤ clear_units units
clear_count units at n clear =
    let inside = clear.inside in
    let all = clear_first units at n (length units) clear (omega arith) in
    let whole : sum_by clear_one (take (length units) units) ≡ clear_units units = ap (sum_by clear_one) (take_all (length units) units (omega arith)) in
    omega arith
