-- The first of some files by rising number that is used too little is the least.
use Rattle.std.proofs.Common.{◌≡◌, ◌≢◌, ℕ, ◌+◌, ◌<◌, ◌≤◌, List, map, length, get_or, refl, sym, ap, subst, ◌∙◌, inl, inr, arith}
use Rattle.std.proofs.lemmas.Bool.{cases_lt}
use Rattle.std.specs.List.Sorted.{IsStrictlyIncreasing}
use Rattle.std.proofs.lemmas.List.{get_or_default, get_or-map, length-map}
use Rattle.std.proofs.lemmas.List.Kept.{AllPairs-from_increasing}
use Rattle.std.specs.Ordering.{nat_cmp}
use Rattle.std.specs.FinMap.{FinMap}
use Rattle.entity_index.specs.declared.row.Row.{Row}
use Rattle.entity_index.specs.Rows.{IsTooEmpty, IsSparse}

module _ (rows : FinMap nat_cmp Row) (minimum use_rate head : ℕ) (files : List (ℕ × ℕ)) where
  -- the file at this index is the head, or is used enough
  abbrev pub IsUsedEnough : ℕ → Type 0
  IsUsedEnough k =
      let file = get_or files k (0, 0) in
      file.0 ≢ head → IsTooEmpty rows minimum use_rate file.0 file.1 → ⊥

  -- none of them
  pub none_sparse : ((k : ℕ) → k < length files → IsUsedEnough k) → (file : ℕ) → IsSparse rows minimum use_rate head files file → ⊥
  none_sparse enough file s =
      let k = s.listed.0 in
      let at : get_or files k (0, 0) ≡ (file, s.length) = get_or_default files k (0, 0) (file, s.length) s.listed.1 ∙ s.listed.2 in
      enough k s.listed.1
      (subst (λ (f : ℕ × ℕ). f.0 ≢ head) (sym at) s.not_head)
      (subst (λ (f : ℕ × ℕ). IsTooEmpty rows minimum use_rate f.0 f.1) (sym at) s.too_empty)

  -- where those in front of it are used enough
  pub least_sparse : IsStrictlyIncreasing (map (λ file. file.0) files) → (k : ℕ) → k < length files → ((j : ℕ) → j < k → IsUsedEnough j)
      → (other : ℕ) → IsSparse rows minimum use_rate head files other → (get_or files k (0, 0)).0 ≤ other
  least_sparse rising k k_in enough other s =
      let j = s.listed.0 in
      let at : get_or files j (0, 0) ≡ (other, s.length) = get_or_default files j (0, 0) (other, s.length) s.listed.1 ∙ s.listed.2 in
      let number : (get_or files j (0, 0)).0 ≡ other = ap (λ (f : ℕ × ℕ). f.0) at in
      elim (cases_lt j k) [
        | inl before ↦ absurd (enough j before
            (subst (λ (f : ℕ × ℕ). f.0 ≢ head) (sym at) s.not_head)
            (subst (λ (f : ℕ × ℕ). IsTooEmpty rows minimum use_rate f.0 f.1) (sym at) s.too_empty))
        | inr not_before ↦ elim (cases_lt k j) [
          | inl after ↦
              let numbers = map (λ (f : ℕ × ℕ). f.0) files in
              let within : j < length numbers = subst (λ n. j < n) (sym (length-map files (λ (f : ℕ × ℕ). f.0))) s.listed.1 in
              let less = AllPairs-from_increasing numbers rising k j 0 after within in
              let a = get_or-map (λ (f : ℕ × ℕ). f.0) files k (0, 0) 0 k_in in
              let b = get_or-map (λ (f : ℕ × ℕ). f.0) files j (0, 0) 0 s.listed.1 in
              omega arith
          | inr not_after ↦ let same : j ≡ k = omega arith in subst (λ i. (get_or files i (0, 0)).0 ≤ other) same (omega arith)
        ]
      ]
