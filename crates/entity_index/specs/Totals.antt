-- Sums over the values of a finite map.
use Rattle.std.specs.Prelude.{ℕ, sum_by}
use Rattle.std.specs.Ordering.{nat_cmp}
use Rattle.std.specs.FinMap.{FinMap, entries}

-- the sum of what each value weighs
abbrev pub total : {V : Type 0} → (V → ℕ) → FinMap nat_cmp V → ℕ
total weight m = sum_by (λ entry. weight entry.1) (entries m)
