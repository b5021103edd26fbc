-- Clear runs of units, and of two parts behind one another.
use Rattle.std.proofs.Common.{◌≡◌, ◌≢◌, ℕ, ◌+◌, ◌-◌, ◌<◌, ◌≤◌, max, true, false, Bool, List, ◌++◌, length, refl, sym, ap, subst, ◌∙◌, arith, inl, inr, length-append}
use Rattle.std.proofs.lemmas.Bool.{cases_lt, cases_eq}
use Rattle.std.proofs.lemmas.List.{get_or_append_left, get_or-append_right}
use Rattle.entity_region.specs.declared.runs.Runs.{Runs}
use Rattle.entity_region.specs.Units.{unit_at, IsClear, AreRuns, AreJoined, IsThere, IsFirstClear, IsScanned, IsSought}

pub none_clear : (units : List Bool) (at : ℕ) → at ≤ length units → IsClear units at 0
none_clear units at within = record { inside = omega arith; clear = λ u from to. absurd (omega arith) }

-- a part of a clear run
pub part_clear : (units : List Bool) (at n other m : ℕ) → IsClear units at n → at ≤ other → other + m ≤ at + n → IsClear units other m
part_clear units at n other m run from to = record {
  inside = let inside = run.inside in omega arith;
  clear = λ u low high. run.clear u (omega arith) (omega arith);
}

-- two runs behind one another
pub both_clear : (units : List Bool) (at n m : ℕ) → IsClear units at n → IsClear units (at + n) m → IsClear units at (n + m)
both_clear units at n m first second = record {
  inside = let inside = second.inside in omega arith;
  clear = λ u low high. elim (cases_lt u (at + n)) [
    | inl below ↦ first.clear u low below
    | inr above ↦ second.clear u above (omega arith)
  ];
}

-- in two parts
pub clear_in_front : (xs ys : List Bool) (at n : ℕ) → IsClear xs at n → IsClear (xs ++ ys) at n
clear_in_front xs ys at n run = record {
  inside = let inside = run.inside in omega (arith, length-append xs ys);
  clear = λ u low high. let inside = run.inside in get_or_append_left xs ys true u (omega arith) ∙ run.clear u low high;
}

pub clear_in_back : (xs ys : List Bool) (at n : ℕ) → IsClear ys at n → IsClear (xs ++ ys) (length xs + at) n
clear_in_back xs ys at n run = record {
  inside = let inside = run.inside in omega (arith, length-append xs ys);
  clear = λ u low high.
      get_or-append_right xs ys (length xs) u true refl (omega arith) ∙ run.clear (u - length xs) (omega arith) (omega arith);
}

pub front_clear : (xs ys : List Bool) (at n : ℕ) → IsClear (xs ++ ys) at n → at + n ≤ length xs → IsClear xs at n
front_clear xs ys at n run within = record {
  inside = within;
  clear = λ u low high. sym (get_or_append_left xs ys true u (omega arith)) ∙ run.clear u low high;
}

pub back_clear : (xs ys : List Bool) (at n : ℕ) → IsClear (xs ++ ys) at n → length xs ≤ at → IsClear ys (at - length xs) n
back_clear xs ys at n run behind = record {
  inside = let inside = run.inside in omega (arith, length-append xs ys);
  clear = λ u low high.
      let same : length xs + u - length xs ≡ u = omega arith in
      sym (ap (λ k. unit_at ys k) same) ∙ sym (get_or-append_right xs ys (length xs) (length xs + u) true refl (omega arith)) ∙ run.clear (length xs + u) (omega arith) (omega arith);
}

-- a run over the seam
pub seam_front : (xs ys : List Bool) (at n : ℕ) → IsClear (xs ++ ys) at n → at ≤ length xs → length xs ≤ at + n → IsClear xs at (length xs - at)
seam_front xs ys at n run before behind =
    front_clear xs ys at (length xs - at) (part_clear (xs ++ ys) at n at (length xs - at) run (omega arith) (omega arith)) (omega arith)

pub seam_back : (xs ys : List Bool) (at n : ℕ) → IsClear (xs ++ ys) at n → at ≤ length xs → length xs ≤ at + n → IsClear ys 0 (at + n - length xs)
seam_back xs ys at n run before behind =
    let rest = back_clear xs ys (length xs) (at + n - length xs) (part_clear (xs ++ ys) at n (length xs) (at + n - length xs) run (omega arith) (omega arith)) (omega arith) in
    let start : length xs - length xs ≡ 0 = omega arith in
    subst (λ k. IsClear ys k (at + n - length xs)) start rest

-- a run over the seam of two parts
pub over_seam : (xs ys : List Bool) (a b : ℕ) → a ≤ length xs → IsClear xs (length xs - a) a → IsClear ys 0 b → IsClear (xs ++ ys) (length xs - a) (a + b)
over_seam xs ys a b within first second =
    let start : length xs + 0 ≡ length xs - a + a = omega arith in
    both_clear (xs ++ ys) (length xs - a) a b (clear_in_front xs ys _ _ first) (subst (λ k. IsClear (xs ++ ys) k b) start (clear_in_back xs ys 0 b second))

-- the runs at the back stand where they end
pub back_start : (units : List Bool) (runs : Runs) (known : AreRuns units runs) → IsClear units (length units - runs.back) runs.back
back_start units runs known =
    let is = known.back_is in
    let at : known.back_at ≡ length units - runs.back = omega arith in
    subst (λ k. IsClear units k runs.back) at known.back

joined_front : (xs ys : List Bool) (r s t : Runs) → AreRuns xs r → AreRuns ys s → AreJoined r (length xs) s (length ys) t → IsClear (xs ++ ys) 0 t.front
joined_front xs ys r s t left right joined =
    let inside = left.front.inside in
    elim (cases_lt r.front (length xs)) [
      | inl within ↦ subst (λ n. IsClear (xs ++ ys) 0 n) (sym (joined.front_within within)) (clear_in_front xs ys 0 r.front left.front)
      | inr over ↦
          let all : r.front ≡ length xs = omega arith in
          let start : length xs - length xs ≡ 0 = omega arith in
          let first = subst (λ k. IsClear xs k (length xs)) (sym start) (subst (λ n. IsClear xs 0 n) all left.front) in
          let both = subst (λ k. IsClear (xs ++ ys) k (length xs + s.front)) start (over_seam xs ys (length xs) s.front (omega arith) first right.front) in
          subst (λ n. IsClear (xs ++ ys) 0 n) (sym (joined.front_over all)) both
    ]

joined_front_most : (xs ys : List Bool) (r s t : Runs) → AreRuns xs r → AreRuns ys s → AreJoined r (length xs) s (length ys) t → (n : ℕ) → IsClear (xs ++ ys) 0 n → n ≤ t.front
joined_front_most xs ys r s t left right joined n run =
    let inside = left.front.inside in
    elim (cases_lt r.front (length xs)) [
      | inl within ↦
          let same = joined.front_within within in
          elim (cases_lt (length xs) n) [
            | inl longer ↦
                let whole = left.front_most (length xs) (front_clear xs ys 0 (length xs) (part_clear (xs ++ ys) 0 n 0 (length xs) run (omega arith) (omega arith)) (omega arith)) in
                omega arith
            | inr short ↦ let least = left.front_most n (front_clear xs ys 0 n run (omega arith)) in omega arith
          ]
      | inr over ↦
          let all : r.front ≡ length xs = omega arith in
          let same = joined.front_over all in
          elim (cases_lt (length xs) n) [
            | inl longer ↦
                let rest = right.front_most (0 + n - length xs) (seam_back xs ys 0 n run (omega arith) (omega arith)) in
                omega arith
            | inr short ↦ omega arith
          ]
    ]

joined_back : (xs ys : List Bool) (r s t : Runs) → AreRuns xs r → AreRuns ys s → AreJoined r (length xs) s (length ys) t
    → (t.back ≤ length (xs ++ ys)) × IsClear (xs ++ ys) (length (xs ++ ys) - t.back) t.back
joined_back xs ys r s t left right joined =
    let len = length-append xs ys in
    let first_is = left.back_is in
    let second_is = right.back_is in
    elim (cases_lt s.back (length ys)) [
      | inl within ↦
          let same = joined.back_within within in
          let at : length xs + (length ys - s.back) ≡ length (xs ++ ys) - t.back = omega arith in
          let run = clear_in_back xs ys (length ys - s.back) s.back (back_start ys s right) in
          (omega arith, subst (λ n. IsClear (xs ++ ys) (length (xs ++ ys) - t.back) n) (sym same) (subst (λ k. IsClear (xs ++ ys) k s.back) at run))
      | inr over ↦
          let all : s.back ≡ length ys = omega arith in
          let same = joined.back_over all in
          let start : length ys - s.back ≡ 0 = omega arith in
          let second = subst (λ n. IsClear ys 0 n) all (subst (λ k. IsClear ys k s.back) start (back_start ys s right)) in
          let run = over_seam xs ys r.back (length ys) (omega arith) (back_start xs r left) second in
          let sum : r.back + length ys ≡ t.back = omega arith in
          let at : length xs - r.back ≡ length (xs ++ ys) - t.back = omega arith in
          (omega arith, subst (λ n. IsClear (xs ++ ys) (length (xs ++ ys) - t.back) n) sum (subst (λ k. IsClear (xs ++ ys) k (r.back + length ys)) at run))
    ]

joined_back_most : (xs ys : List Bool) (r s t : Runs) → AreRuns xs r → AreRuns ys s → AreJoined r (length xs) s (length ys) t
    → (at n : ℕ) → IsClear (xs ++ ys) at n → at + n ≡ length (xs ++ ys) → n ≤ t.back
joined_back_most xs ys r s t left right joined at n run to_end =
    let len = length-append xs ys in
    let second_is = right.back_is in
    elim (cases_lt at (length xs)) [
      | inl before ↦
          let tail = seam_back xs ys at n run (omega arith) (omega arith) in
          let rest = right.back_most 0 (at + n - length xs) tail (omega arith) in
          let all : s.back ≡ length ys = omega arith in
          let same = joined.back_over all in
          let head = left.back_most at (length xs - at) (seam_front xs ys at n run (omega arith) (omega arith)) (omega arith) in
          omega arith
      | inr behind ↦
          let rest = right.back_most (at - length xs) n (back_clear xs ys at n run behind) (omega arith) in
          elim (cases_lt s.back (length ys)) [
            | inl within ↦ let same = joined.back_within within in omega arith
            | inr over ↦
                let all : s.back ≡ length ys = omega arith in
                let same = joined.back_over all in
                omega arith
          ]
    ]

joined_most_most : (xs ys : List Bool) (r s t : Runs) → AreRuns xs r → AreRuns ys s → AreJoined r (length xs) s (length ys) t → (at n : ℕ) → IsClear (xs ++ ys) at n → n ≤ t.most
joined_most_most xs ys r s t left right joined at n run =
    let is = joined.most in
    elim (cases_lt at (length xs)) [
      | inl before ↦ elim (cases_lt (length xs) (at + n)) [
        | inl over ↦
            let head = left.back_most at (length xs - at) (seam_front xs ys at n run (omega arith) (omega arith)) (omega arith) in
            let tail = right.front_most (at + n - length xs) (seam_back xs ys at n run (omega arith) (omega arith)) in
            omega arith
        | inr within ↦ let one = left.most_most at n (front_clear xs ys at n run within) in omega arith
      ]
      | inr behind ↦ let one = right.most_most (at - length xs) n (back_clear xs ys at n run behind) in omega arith
    ]

joined_most : (xs ys : List Bool) (r s t : Runs) → AreRuns xs r → AreRuns ys s → AreJoined r (length xs) s (length ys) t → IsThere (xs ++ ys) t.most
joined_most xs ys r s t left right joined =
    let is = joined.most in
    let first_is = left.back_is in
    let seam = over_seam xs ys r.back s.front (omega arith) (back_start xs r left) right.front in
    elim (cases_lt (max r.most s.most) (r.back + s.front)) [
      | inl longer ↦
          let same : r.back + s.front ≡ t.most = omega arith in
          record { at = length xs - r.back; clear = subst (λ n. IsClear (xs ++ ys) (length xs - r.back) n) same seam }
      | inr shorter ↦ elim (cases_lt r.most s.most) [
        | inl second ↦
            let same : s.most ≡ t.most = omega arith in
            record { at = length xs + right.most_at; clear = subst (λ n. IsClear (xs ++ ys) (length xs + right.most_at) n) same (clear_in_back xs ys _ _ right.most) }
        | inr first ↦
            let same : r.most ≡ t.most = omega arith in
            record { at = left.most_at; clear = subst (λ n. IsClear (xs ++ ys) left.most_at n) same (clear_in_front xs ys _ _ left.most) }
      ]
    ]

-- the runs of two parts tell those of the whole
pub joined_runs : (xs ys : List Bool) (r s t : Runs) → AreRuns xs r → AreRuns ys s → AreJoined r (length xs) s (length ys) t → AreRuns (xs ++ ys) t
joined_runs xs ys r s t left right joined =
    let back = joined_back xs ys r s t left right joined in
    let within = back.0 in
    let most = joined_most xs ys r s t left right joined in
    record {
      front = joined_front xs ys r s t left right joined;
      front_most = joined_front_most xs ys r s t left right joined;
      back_at = length (xs ++ ys) - t.back;
      back_is = omega arith;
      back = back.1;
      back_most = joined_back_most xs ys r s t left right joined;
      most_at = most.at;
      most = most.clear;
      most_most = joined_most_most xs ys r s t left right joined;
    }

-- ---- a look at one unit after another

-- a clear run does not have a used unit
passes : (units : List Bool) (at n u : ℕ) → IsClear units at n → unit_at units u ≡ true → at ≤ u → u < at + n → ⊥
passes units at n u run used low high = let clear = run.clear u low high in absurd cc

-- one unit more at the end of a run
longer_clear : (units : List Bool) (at n : ℕ) → IsClear units at n → at + n < length units → unit_at units (at + n) ≡ false → IsClear units at (n + 1)
longer_clear units at n run inside clear =
    both_clear units at n 1 run (record {
      inside = omega arith;
      clear = λ u low high. let same : at + n ≡ u = omega arith in subst (λ k. unit_at units k ≡ false) same clear;
    })

pub scanned_none : (units : List Bool) → IsScanned units 0 0 0 0
scanned_none units = record {
  place_in = omega arith;
  front_in = omega arith;
  front_clear = none_clear units 0 (omega arith);
  front_most = λ n run within. within;
  back_in = omega arith;
  back_clear = none_clear units 0 (omega arith);
  back_most = λ at n run end. omega arith;
  most_at = 0;
  most_in = omega arith;
  most_clear = none_clear units 0 (omega arith);
  most_most = λ at n run within. omega arith;
}

scanned_used : (units : List Bool) (place front back most : ℕ) → IsScanned units place front back most → place < length units → unit_at units place ≡ true
    → IsScanned units (place + 1) front 0 most
scanned_used units place front back most known inside used =
    let front_in = known.front_in in
    let most_in = known.most_in in
    record {
      place_in = omega arith;
      front_in = omega arith;
      front_clear = known.front_clear;
      front_most = λ n run within. elim (cases_lt place n) [
        | inl longer ↦ absurd (passes units 0 n place run used (omega arith) (omega arith))
        | inr short ↦ known.front_most n run short
      ];
      back_in = omega arith;
      back_clear = none_clear units (place + 1 - 0) (omega arith);
      back_most = λ at n run end. elim (cases_lt 0 n) [
        | inl some ↦ absurd (passes units at n place run used (omega arith) (omega arith))
        | inr none ↦ none
      ];
      most_at = known.most_at;
      most_in = omega arith;
      most_clear = known.most_clear;
      most_most = λ at n run within. elim (cases_lt place (at + n)) [
        | inl longer ↦ elim (cases_lt 0 n) [
          | inl some ↦ absurd (passes units at n place run used (omega arith) (omega arith))
          | inr none ↦ omega arith
        ]
        | inr short ↦ known.most_most at n run short
      ];
    }

-- the run at the end with one clear unit more
back_more : (units : List Bool) (place front back most : ℕ) → IsScanned units place front back most → place < length units → unit_at units place ≡ false
    → IsClear units (place + 1 - (back + 1)) (back + 1)
back_more units place front back most known inside clear =
    let back_in = known.back_in in
    let end : place ≡ place - back + back = omega arith in
    let start : place - back ≡ place + 1 - (back + 1) = omega arith in
    subst (λ k. IsClear units k (back + 1)) start
    (longer_clear units (place - back) back known.back_clear (omega arith) (subst (λ k. unit_at units k ≡ false) end clear))

back_more_most : (units : List Bool) (place front back most : ℕ) → IsScanned units place front back most
    → (at n : ℕ) → IsClear units at n → at + n ≡ place + 1 → n ≤ back + 1
back_more_most units place front back most known at n run end = elim (cases_lt 0 n) [
  | inl some ↦
      let one = known.back_most at (n - 1) (part_clear units at n at (n - 1) run (omega arith) (omega arith)) (omega arith) in
      omega arith
  | inr none ↦ omega arith
]

most_more_most : (units : List Bool) (place front back most more : ℕ) → IsScanned units place front back most → most ≤ more → back + 1 ≤ more
    → (at n : ℕ) → IsClear units at n → at + n ≤ place + 1 → n ≤ more
most_more_most units place front back most more known above_most above_back at n run within = elim (cases_lt place (at + n)) [
  | inl longer ↦ let one = back_more_most units place front back most known at n run (omega arith) in omega arith
  | inr short ↦ let one = known.most_most at n run short in omega arith
]

-- where the longest run stands once there is one more at the end
record MostMore (units : List Bool) (place more : ℕ) : Type 0 where
  at : ℕ
  within : at + more ≤ place + 1
  clear : IsClear units at more

most_more : (units : List Bool) (place front back most : ℕ) → IsScanned units place front back most → place < length units → unit_at units place ≡ false
    → MostMore units place (max most (back + 1))
most_more units place front back most known inside clear =
    let back_in = known.back_in in
    let most_in = known.most_in in
    elim (cases_lt most (back + 1)) [
      | inl longer ↦
          let same : back + 1 ≡ max most (back + 1) = omega arith in
          record {
            at = place + 1 - (back + 1);
            within = omega arith;
            clear = subst (λ n. IsClear units (place + 1 - (back + 1)) n) same (back_more units place front back most known inside clear);
          }
      | inr shorter ↦
          let same : most ≡ max most (back + 1) = omega arith in
          record { at = known.most_at; within = omega arith; clear = subst (λ n. IsClear units known.most_at n) same known.most_clear }
    ]

-- what is at the front once one more unit is clear: all of it, or what was there
record IsFrontMore (place front back more : ℕ) : Type 0 where
  all : back ≡ place → more ≡ place + 1
  some : back ≢ place → more ≡ front

front_more : (units : List Bool) (place front back most more : ℕ) → IsScanned units place front back most → place < length units → unit_at units place ≡ false
    → IsFrontMore place front back more → (more ≤ place + 1) × IsClear units 0 more
front_more units place front back most more known inside clear is =
    let front_in = known.front_in in
    elim (cases_eq back place) [
      | inl all ↦
          let same : more ≡ place + 1 = is.all all in
          let start : place + 1 - (back + 1) ≡ 0 = omega arith in
          let len : back + 1 ≡ more = omega arith in
          (omega arith, subst (λ n. IsClear units 0 n) len (subst (λ k. IsClear units k (back + 1)) start (back_more units place front back most known inside clear)))
      | inr some ↦
          let same : more ≡ front = is.some some in
          (omega arith, subst (λ n. IsClear units 0 n) (sym same) known.front_clear)
    ]

front_more_most : (units : List Bool) (place front back most more : ℕ) → IsScanned units place front back most → IsFrontMore place front back more
    → (n : ℕ) → IsClear units 0 n → n ≤ place + 1 → n ≤ more
front_more_most units place front back most more known is n run within =
    let back_in = known.back_in in
    elim (cases_eq back place) [
      | inl all ↦ let same : more ≡ place + 1 = is.all all in omega arith
      | inr some ↦
          let same : more ≡ front = is.some some in
          elim (cases_lt place n) [
            | inl longer ↦
                let one = back_more_most units place front back most known 0 n run (omega arith) in
                absurd (some (omega arith))
            | inr short ↦ let one = known.front_most n run short in omega arith
          ]
    ]

scanned_clear : (units : List Bool) (place front back most more : ℕ) → IsScanned units place front back most → place < length units → unit_at units place ≡ false
    → IsFrontMore place front back more → IsScanned units (place + 1) more (back + 1) (max most (back + 1))
scanned_clear units place front back most more known inside clear is =
    let back_in = known.back_in in
    let head = front_more units place front back most more known inside clear is in
    let longest = most_more units place front back most known inside clear in
    record {
      place_in = omega arith;
      front_in = head.0;
      front_clear = head.1;
      front_most = front_more_most units place front back most more known is;
      back_in = omega arith;
      back_clear = back_more units place front back most known inside clear;
      back_most = back_more_most units place front back most known;
      most_at = longest.at;
      most_in = longest.within;
      most_clear = longest.clear;
      most_most = most_more_most units place front back most (max most (back + 1)) known (omega arith) (omega arith);
    }

-- one unit more, used or clear
pub scanned_more : (units : List Bool) (place front back most front_now back_now most_now : ℕ) (used : Bool) → IsScanned units place front back most → place < length units
    → unit_at units place ≡ used → (used ≡ true → back_now ≡ 0) → (used ≡ false → back_now ≡ back + 1)
    → (back_now ≡ place + 1 → front_now ≡ back_now) → (back_now ≢ place + 1 → front_now ≡ front) → most_now ≡ max most back_now
    → IsScanned units (place + 1) front_now back_now most_now
scanned_more units place front back most front_now back_now most_now true known inside is when_used when_clear all some longest =
    let back_is = when_used refl in
    let front_is = some (λ same. absurd (omega arith)) in
    let most_is : most_now ≡ most = omega arith in
    subst (λ k. IsScanned units (place + 1) front_now k most_now) (sym back_is)
    (subst (λ k. IsScanned units (place + 1) k 0 most_now) (sym front_is)
    (subst (λ k. IsScanned units (place + 1) front 0 k) (sym most_is) (scanned_used units place front back most known inside is)))
scanned_more units place front back most front_now back_now most_now false known inside is when_used when_clear all some longest =
    let back_is = when_clear refl in
    let most_is : most_now ≡ max most (back + 1) = omega arith in
    let fronts : IsFrontMore place front back front_now = record {
      all = λ same. let whole : back_now ≡ place + 1 = omega arith in let is = all whole in omega arith;
      some = λ differs. some (λ whole. differs (omega arith));
    } in
    subst (λ k. IsScanned units (place + 1) front_now k most_now) (sym back_is)
    (subst (λ k. IsScanned units (place + 1) front_now (back + 1) k) (sym most_is) (scanned_clear units place front back most front_now known inside is fronts))

pub scanned_all : (units : List Bool) (front back most : ℕ) → IsScanned units (length units) front back most → AreRuns units (record { front = front; back = back; most = most })
scanned_all units front back most known =
    let back_in = known.back_in in
    let most_in = known.most_in in
    record {
      front = known.front_clear;
      front_most = λ n run. known.front_most n run (let inside = run.inside in omega arith);
      back_at = length units - back;
      back_is = omega arith;
      back = known.back_clear;
      back_most = known.back_most;
      most_at = known.most_at;
      most = known.most_clear;
      most_most = λ at n run. known.most_most at n run run.inside;
    }

-- ---- the first run of a length

pub sought_none : (units : List Bool) (wanted : ℕ) → 0 < wanted → IsSought units wanted 0 0
sought_none units wanted some = record {
  place_in = omega arith;
  short = some;
  run_in = omega arith;
  run_clear = none_clear units 0 (omega arith);
  none_before = λ at run. omega arith;
}

pub sought_used : (units : List Bool) (wanted place run : ℕ) → IsSought units wanted place run → place < length units → unit_at units place ≡ true
    → IsSought units wanted (place + 1) 0
sought_used units wanted place run known inside used =
    let short = known.short in
    record {
      place_in = omega arith;
      short = omega arith;
      run_in = omega arith;
      run_clear = none_clear units (place + 1 - 0) (omega arith);
      none_before = λ at found.
          let least = known.none_before at found in
          elim (cases_lt place at) [
            | inl behind ↦ omega arith
            | inr before ↦ absurd (passes units at wanted place found used before (omega arith))
          ];
    }

sought_run : (units : List Bool) (wanted place run : ℕ) → IsSought units wanted place run → place < length units → unit_at units place ≡ false
    → IsClear units (place + 1 - (run + 1)) (run + 1)
sought_run units wanted place run known inside clear =
    let run_in = known.run_in in
    let end : place ≡ place - run + run = omega arith in
    let start : place - run ≡ place + 1 - (run + 1) = omega arith in
    subst (λ k. IsClear units k (run + 1)) start
    (longer_clear units (place - run) run known.run_clear (omega arith) (subst (λ k. unit_at units k ≡ false) end clear))

pub sought_clear : (units : List Bool) (wanted place run : ℕ) → IsSought units wanted place run → place < length units → unit_at units place ≡ false → run + 1 ≢ wanted
    → IsSought units wanted (place + 1) (run + 1)
sought_clear units wanted place run known inside clear differs =
    let short = known.short in
    let run_in = known.run_in in
    record {
      place_in = omega arith;
      short = omega arith;
      run_in = omega arith;
      run_clear = sought_run units wanted place run known inside clear;
      none_before = λ at found. let least = known.none_before at found in omega arith;
    }

pub sought_found : (units : List Bool) (wanted place run : ℕ) → IsSought units wanted place run → place < length units → unit_at units place ≡ false → run + 1 ≡ wanted
    → IsFirstClear units wanted (place + 1 - wanted)
sought_found units wanted place run known inside clear is = record {
  clear = subst (λ n. IsClear units (place + 1 - n) n) is (sought_run units wanted place run known inside clear);
  first = λ other found. let least = known.none_before other found in omega arith;
}

pub sought_all : (units : List Bool) (wanted run : ℕ) → IsSought units wanted (length units) run → IsThere units wanted → ⊥
sought_all units wanted run known there =
    let least = known.none_before there.at there.clear in
    let inside = there.clear.inside in
    let short = known.short in
    absurd (omega arith)
