-- Live blocks that are noted in a list, each once.
use Rattle.std.proofs.Common.{◌≡◌, ◌≢◌, ℕ, zero, suc, ◌+◌, ◌-◌, ◌<◌, ◌≤◌, ◌⊎◌, true, false, Bool, cond, nat_eq, List, [], ◌∷◌, ◌++◌, length, set, take, Option, Some, None, refl, sym, ap, subst, ◌∙◌, arith, inl, inr, length-append}
use Rattle.std.specs.Prelude.{is_some}
use Rattle.std.proofs.lemmas.Bool.{cases_lt, cases_eq, cases_Bool}
use Rattle.std.proofs.lemmas.Bool.Decides.{nat_tests}
use Rattle.std.proofs.lemmas.List.{get_or_append_left, get_or-append_right, take_more_set}
use Rattle.std.proofs.lemmas.List.Sums.{sum_by_push, sum_by-cons}
use Rattle.std.proofs.lemmas.List.Elements.{All-get_or, All-from_get_or}
use Rattle.std.proofs.lemmas.List.Sorted.{All-permutation, sum_by-IsPermutation}
use Rattle.std.specs.List.Sorted.{IsPermutation}
use Rattle.entity_region.specs.declared.place.Place.{Place}
use Rattle.entity_region.specs.declared.packing.Ordered.{Ordered}
use Rattle.entity_region.specs.Sound.{place_at}
use Rattle.entity_region.specs.Packing.{ordered_at, times, one_if_live, IsPlacedAt, IsListed, IsListedTo, IsWaiting}

abbrev one_zero : Bool → ℕ
one_zero b = cond b 1 0

abbrev one_time_of : Ordered → ℕ → ℕ
one_time_of m n = cond (nat_eq m.number n) 1 0

one_time : (m : Ordered) (n : ℕ) → ((m.number ≡ n) × (one_time_of m n ≡ 1)) ⊎ ((m.number ≢ n) × (one_time_of m n ≡ 0))
one_time m n = elim (cases_eq m.number n) [
  | inl same ↦ inl (same, let is : nat_eq m.number n ≡ true = grind (arith, nat_tests) in ap one_zero is)
  | inr differs ↦ inr (differs, let is : nat_eq m.number n ≡ false = grind (arith, nat_tests) in ap one_zero is)
]

pub listed_start : (places : List (Option Place)) → IsListedTo places 0 []
listed_start places = record { each = λ k inside. absurd (omega arith); below = λ n inside. absurd (omega arith); above = λ n outside. refl }

pub listed_none : (places : List (Option Place)) (n : ℕ) (order : List Ordered) → IsListedTo places n order → place_at places n ≡ None → IsListedTo places (n + 1) order
listed_none places n order listed none = record {
  each = listed.each;
  below = λ m inside. elim (cases_lt m n) [
    | inl before ↦ listed.below m before
    | inr last ↦ let same : n ≡ m = omega arith in listed.above m last ∙ sym (ap one_if_live (subst (λ k. place_at places k ≡ None) same none))
  ];
  above = λ m outside. listed.above m (omega arith);
}

pub listed_some : (places : List (Option Place)) (n : ℕ) (order : List Ordered) (p : Place) → IsListedTo places n order → place_at places n ≡ Some p
    → IsListedTo places (n + 1) (order ++ (record { unit = p.unit; number = n }) ∷ [])
listed_some places n order p listed is =
    let m : Ordered = record { unit = p.unit; number = n } in
    let len = length-append order (m ∷ []) in
    record {
      each = λ k inside. elim (cases_lt k (length order)) [
        | inl before ↦ subst (IsPlacedAt places) (sym (get_or_append_left order (m ∷ []) (record { unit = 0; number = 0 }) k before)) (listed.each k before)
        | inr last ↦
            let same : k - length order ≡ 0 = omega arith in
            let here : ordered_at (order ++ m ∷ []) k ≡ m = get_or-append_right order (m ∷ []) (length order) k (record { unit = 0; number = 0 }) refl last ∙ ap (λ i. ordered_at (m ∷ []) i) same in
            subst (IsPlacedAt places) (sym here) (record { place = p; is = is; unit = refl })
      ];
      below = λ number inside.
          let sum = sum_by_push (λ x. cond (nat_eq x.number number) 1 0) order m in
          elim (one_time m number) [
            | inl one ↦ let none = listed.above number (omega (arith, one.0)) in let live : one_if_live (place_at places number) ≡ 1 = ap one_if_live (subst (λ k. place_at places k ≡ Some p) one.0 is) in let o = one.1 in omega arith
            | inr other ↦ let before = listed.below number (let d = other.0 in omega arith) in let o = other.1 in omega arith
          ];
      above = λ number outside.
          let sum = sum_by_push (λ x. cond (nat_eq x.number number) 1 0) order m in
          elim (one_time m number) [
            | inl one ↦ let d = one.0 in absurd (omega arith)
            | inr other ↦ let before = listed.above number (omega arith) in let o = other.1 in omega arith
          ];
    }

-- the same, where the list stands at the front of a longer one
pub listed_put : (places : List (Option Place)) (n noted : ℕ) (order : List Ordered) (p : Place) → IsListedTo places n (take noted order) → noted < length order → place_at places n ≡ Some p
    → IsListedTo places (n + 1) (take (noted + 1) (set order noted (record { unit = p.unit; number = n })))
listed_put places n noted order p listed below is =
    subst (IsListedTo places (n + 1)) (sym (take_more_set order noted (record { unit = p.unit; number = n }) below)) (listed_some places n (take noted order) p listed is)

-- a number that stands at a place is counted
times_one : (order : List Ordered) (n j : ℕ) → j < length order → (ordered_at order j).number ≡ n → 1 ≤ times n order
times_one [] n j inside is = absurd (omega arith)
times_one (m ∷ ms) n zero inside is =
    let sum = sum_by-cons (λ x. cond (nat_eq x.number n) 1 0) m ms in
    elim (one_time m n) [
      | inl one ↦ let o = one.1 in omega arith
      | inr other ↦ absurd (other.0 is)
    ]
times_one (m ∷ ms) n (suc j) inside is =
    let sum = sum_by-cons (λ x. cond (nat_eq x.number n) 1 0) m ms in
    let rest = times_one ms n j (omega arith) is in
    omega arith

-- one that stands at two places is counted twice
times_two : (order : List Ordered) (n i j : ℕ) → i < j → j < length order → (ordered_at order i).number ≡ n → (ordered_at order j).number ≡ n → 2 ≤ times n order
times_two [] n i j apart inside first second = absurd (omega arith)
times_two (m ∷ ms) n i zero apart inside first second = absurd (omega arith)
times_two (m ∷ ms) n zero (suc j) apart inside first second =
    let sum = sum_by-cons (λ x. cond (nat_eq x.number n) 1 0) m ms in
    let rest = times_one ms n j (omega arith) second in
    elim (one_time m n) [
      | inl one ↦ let o = one.1 in omega arith
      | inr other ↦ absurd (other.0 first)
    ]
times_two (m ∷ ms) n (suc i) (suc j) apart inside first second =
    let sum = sum_by-cons (λ x. cond (nat_eq x.number n) 1 0) m ms in
    let rest = times_two ms n i j (omega arith) (omega arith) first second in
    omega arith

-- one that is counted stands somewhere
times_found : (order : List Ordered) (n : ℕ) → 1 ≤ times n order → IsWaiting order 0 n
times_found [] n some = absurd (omega arith)
times_found (m ∷ ms) n some =
    let sum = sum_by-cons (λ x. cond (nat_eq x.number n) 1 0) m ms in
    elim (one_time m n) [
      | inl one ↦ record { at = 0; behind = omega arith; inside = omega arith; is = one.0 }
      | inr other ↦
          let o = other.1 in
          let rest = times_found ms n (omega arith) in
          let inside = rest.inside in
          record { at = suc rest.at; behind = omega arith; inside = omega arith; is = rest.is }
    ]

pub listed_apart : (places : List (Option Place)) (order : List Ordered) (i j : ℕ) → IsListed places order → i < j → j < length order → (ordered_at order i).number ≢ (ordered_at order j).number
listed_apart places order i j listed apart inside same =
    let n = (ordered_at order j).number in
    let twice = times_two order n i j apart inside same refl in
    let once = listed.once n in
    elim (cases_Bool (is_some (place_at places n))) [
      | inl live ↦ let one : one_if_live (place_at places n) ≡ 1 = ap one_zero live in omega arith
      | inr none ↦ let zero_is : one_if_live (place_at places n) ≡ 0 = ap one_zero none in omega arith
    ]

pub listed_found : (places : List (Option Place)) (order : List Ordered) (n : ℕ) (p : Place) → IsListed places order → place_at places n ≡ Some p → IsWaiting order 0 n
listed_found places order n p listed is =
    let once = listed.once n in
    let one : one_if_live (place_at places n) ≡ 1 = ap one_if_live is in
    times_found order n (omega arith)

-- a list in another order
pub listed_sorted : (places : List (Option Place)) (order new : List Ordered) → IsListed places order → IsPermutation order new → IsListed places new
listed_sorted places order new listed shuffled = record {
  each = λ k inside.
      let none : Ordered = record { unit = 0; number = 0 } in
      All-get_or (IsPlacedAt places) new k none inside (All-permutation (IsPlacedAt places) order new shuffled (All-from_get_or (IsPlacedAt places) order none listed.each));
  once = λ n. sum_by-IsPermutation (λ m. cond (nat_eq m.number n) 1 0) order new shuffled ∙ listed.once n;
}
