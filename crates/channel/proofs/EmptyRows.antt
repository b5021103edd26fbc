-- The rows of an empty table.
use Rattle.std.proofs.Common.{◌≡◌, ℕ, Option, Some, None, sym, ap, ◌∙◌}
use Rattle.std.specs.Ordering.{nat_cmp}
use Rattle.std.specs.FinMap.{FinMap, empty, get, get-empty}
use Rattle.entity_index.specs.declared.row.Row.{Row}

pub no_row : (rows : FinMap nat_cmp Row) (id : ℕ) (row : Row) → rows ≡ empty → get rows id ≡ Some row → ⊥
no_row rows id row none is = apart row (sym (get-empty nat_cmp id) ∙ ap (λ (rows : FinMap nat_cmp Row). get rows id) (sym none) ∙ is)
  where
    apart : (row : Row) → ◌≡◌ {A = Option Row} None (Some row) → ⊥
    apart row e = cc
