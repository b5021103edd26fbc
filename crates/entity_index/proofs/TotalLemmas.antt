-- How a sum over a finite map changes with the map, and what bounds it.
use Rattle.std.proofs.Common.{◌≡◌, ℕ, zero, suc, ◌+◌, ◌-◌, ◌*◌, ◌^◌, ◌<◌, ◌≤◌, Bool, true, false, cond, ◌&&◌, List, [], ◌∷◌, length, Option, Some, None, refl, sym, ap, subst, ◌∙◌, inl, inr, arith}
use Rattle.std.specs.Prelude.{sum_by, T}
use Rattle.std.specs.Option.{option_map_or}
use Rattle.std.proofs.lemmas.List.Sums.{sum_by-cons}
use Rattle.std.proofs.lemmas.Bool.{cases_eq}
use Rattle.std.proofs.lemmas.Bool.Decides.{nat_tests}
use Rattle.std.specs.declared.cmp.Ordering.{Ordering}
use Rattle.std.specs.declared.cmp.Ordering.TheVariants.{Less, Equal, Greater}
use Rattle.std.specs.Ordering.{nat_cmp, eq_by_cmp, is_eq, is_lt}
use Rattle.std.specs.Cmp.{nat_cmp_total}
use Rattle.std.specs.FinMap.{FinMap, entries, get, insert, remove, len, empty, len-empty, find, put, is_sorted, entries_sorted, entries-insert, get-entries, len-entries}
use Rattle.std.specs.FinMap.Entries.{below_all, by_order}
use Rattle.oid_table.specs.MapLaws.{same_key, other_key, get-remove_same, insert-remove_back}
use Rattle.entity_index.specs.Totals.{total}

and_left : (a b : Bool) → T (a && b) → T a
and_left true b both = tt
and_left false b both = both

and_right : (a b : Bool) → T (a && b) → T b
and_right true b both = both
and_right false b both = absurd both

below : (k j : ℕ) → T (is_lt (nat_cmp k j)) → k < j
below k j less = grind (arith, nat_tests)

not_above : (k j : ℕ) → nat_cmp k j ≡ Less → k ≤ j
not_above k j less = grind (arith, nat_tests)

module _ {V : Type 0} where
  -- a key is not among greater ones
  find_below : (q k : ℕ) (es : List (ℕ × V)) → q ≤ k → T (below_all nat_cmp k es) → find nat_cmp q es ≡ None
  find_below q k [] least above = refl
  find_below q k (e ∷ es) least above =
      let less = below k e.0 (and_left _ _ above) in
      rw (other_key q e.0 (λ same. omega arith)) (find_below q k es least (and_right _ _ above))

  find_first : (e : ℕ × V) (es : List (ℕ × V)) → find nat_cmp e.0 (e ∷ es) ≡ Some e.1
  find_first e es = rw (same_key e.0) refl

  find_later : (e : ℕ × V) (es : List (ℕ × V)) (k : ℕ) (v : V) → T (is_sorted nat_cmp (e ∷ es)) → find nat_cmp k es ≡ Some v → find nat_cmp k (e ∷ es) ≡ Some v
  find_later e es k v sorted found =
      elim (cases_eq k e.0) [
        | inl same ↦ let none = find_below k e.0 es (omega arith) (and_left _ _ sorted) in absurd cc
        | inr differs ↦ rw (other_key k e.0 differs) found
      ]

  -- the sum over entries in order
  abbrev sum_of : (V → ℕ) → List (ℕ × V) → ℕ
  sum_of weight es = sum_by (λ entry. weight entry.1) es

  sum_of-cons : (weight : V → ℕ) (e : ℕ × V) (es : List (ℕ × V)) → sum_of weight (e ∷ es) ≡ weight e.1 + sum_of weight es
  sum_of-cons weight e es = sum_by-cons (λ (entry : ℕ × V). weight entry.1) e es

  sum_of-put : (weight : V → ℕ) (k : ℕ) (v : V) (es : List (ℕ × V)) → T (is_sorted nat_cmp es)
      → sum_of weight (put nat_cmp k v es) + option_map_or weight (find nat_cmp k es) 0 ≡ sum_of weight es + weight v
  sum_of-put weight k v [] sorted = let one = sum_of-cons weight (k, v) [] in omega arith
  sum_of-put weight k v (e ∷ es) sorted =
      let whole = sum_of-cons weight e es in
      elim (nat_cmp k e.0) as (λ r. nat_cmp k e.0 ≡ r → sum_of weight (by_order r ((k, v) ∷ e ∷ es) ((e.0, v) ∷ es) (e ∷ put nat_cmp k v es)) + option_map_or weight (cond (is_eq r) (Some e.1) (find nat_cmp k es)) 0 ≡ sum_of weight (e ∷ es) + weight v) [
        | Less ↦ λ less.
            let none : option_map_or weight (find nat_cmp k es) 0 ≡ 0 = ap (λ o. option_map_or weight o 0) (find_below k e.0 es (not_above k e.0 less) (and_left _ _ sorted)) in
            let more = sum_of-cons weight (k, v) (e ∷ es) in
            omega arith
        | Equal ↦ λ same. let changed = sum_of-cons weight (e.0, v) es in omega arith
        | Greater ↦ λ more.
            let later = sum_of-put weight k v es (and_right (below_all nat_cmp e.0 es) (is_sorted nat_cmp es) sorted) in
            let changed = sum_of-cons weight e (put nat_cmp k v es) in
            omega arith
      ] refl

  sum_of-≤ : (weight other : V → ℕ) (es : List (ℕ × V)) → T (is_sorted nat_cmp es) → ((k : ℕ) (v : V) → find nat_cmp k es ≡ Some v → weight v ≤ other v) → sum_of weight es ≤ sum_of other es
  sum_of-≤ weight other [] sorted each = omega arith
  sum_of-≤ weight other (e ∷ es) sorted each =
      let first = each e.0 e.1 (find_first e es) in
      let later = sum_of-≤ weight other es (and_right (below_all nat_cmp e.0 es) (is_sorted nat_cmp es) sorted) (λ k v found. each k v (find_later e es k v sorted found)) in
      let a = sum_of-cons weight e es in
      let b = sum_of-cons other e es in
      omega arith

  sum_of-ones : (es : List (ℕ × V)) → sum_of (λ _. 1) es ≡ length es
  sum_of-ones [] = refl
  sum_of-ones (e ∷ es) = let later = sum_of-ones es in let whole = sum_of-cons (λ (_ : V). 1) e es in omega arith

  sum_of-times : (weight : V → ℕ) (es : List (ℕ × V)) → sum_of (λ v. (2 ^ 64 - 1) * weight v) es ≡ (2 ^ 64 - 1) * sum_of weight es
  sum_of-times weight [] = refl
  sum_of-times weight (e ∷ es) =
      let later = sum_of-times weight es in
      let whole = sum_of-cons weight e es in
      let times = sum_of-cons (λ v. (2 ^ 64 - 1) * weight v) e es in
      omega arith

  module _ (weight : V → ℕ) (m : FinMap nat_cmp V) where
    pub total-insert : (k : ℕ) (v : V) → total weight (insert m k v) + option_map_or weight (get m k) 0 ≡ total weight m + weight v
    total-insert k v =
        ap (λ es. sum_of weight es + option_map_or weight (get m k) 0) (entries-insert nat_cmp_total m k v)
        ∙ ap (λ o. sum_of weight (put nat_cmp k v (entries m)) + option_map_or weight o 0) (get-entries m k)
        ∙ sum_of-put weight k v (entries m) (entries_sorted m)

    pub total-≤ : (other : V → ℕ) → ((k : ℕ) (v : V) → get m k ≡ Some v → weight v ≤ other v) → total weight m ≤ total other m
    total-≤ other each = sum_of-≤ weight other (entries m) (entries_sorted m) (λ k v found. each k v (get-entries m k ∙ found))

    pub total-times : total (λ v. (2 ^ 64 - 1) * weight v) m ≡ (2 ^ 64 - 1) * total weight m
    total-times = sum_of-times weight (entries m)

  pub total-ones : (m : FinMap nat_cmp V) → total (λ _. 1) m ≡ len m
  total-ones m = sum_of-ones (entries m) ∙ sym (len-entries m)

  pub total-remove : (weight : V → ℕ) (m : FinMap nat_cmp V) (k : ℕ) (v : V) → get m k ≡ Some v → total weight (remove m k) + weight v ≡ total weight m
  total-remove weight m k v had =
      let put_back = total-insert weight (remove m k) k v in
      let none : option_map_or weight (get (remove m k) k) 0 ≡ 0 = ap (λ o. option_map_or weight o 0) (get-remove_same m k) in
      let back : total weight (insert (remove m k) k v) ≡ total weight m = ap (total weight) (insert-remove_back m k v had) in
      omega arith

  pub total-empty : (weight : V → ℕ) → total weight empty ≡ 0
  total-empty weight = by_length (entries empty) (sym (len-entries empty) ∙ len-empty nat_cmp V)
    where
      by_length : (es : List (ℕ × V)) → length es ≡ 0 → sum_of weight es ≡ 0
      by_length [] none = refl
      by_length (e ∷ es) none = absurd (omega arith)
