-- The rows of live entities, and what they take of each data file.
use Rattle.std.specs.Prelude.{◌≡◌, ◌≢◌, ℕ, ◌+◌, ◌*◌, ◌<◌, ◌⊎◌, List, Contains, Bool, true, false, Option, IfSome, nat_eq, if◌then◌else◌}
use Rattle.std.specs.Ordering.{nat_cmp}
use Rattle.std.specs.FinMap.{FinMap}
use Rattle.oid_table.specs.Table.{Table, value_at, with_value}
use Rattle.entity_index.specs.Totals.{total}
use Rattle.entity_index.specs.declared.row.Row.{Row}
use Rattle.entity_index.specs.declared.row.State.{State}

-- what a row takes of a data file
abbrev pub bytes_in : ℕ → Row → ℕ
bytes_in file row = if nat_eq row.file file then row.header.length else 0

-- what all rows take of a data file
abbrev pub used_in : FinMap nat_cmp Row → ℕ → ℕ
used_in rows file = total (bytes_in file) rows

-- a row with another state, with its entity held, and with its entity let go
abbrev pub with_state : State → Row → Row
with_state state row = record row { state = state }

abbrev pub pinned : Row → Row
pinned row = record row { state = record row.state { pinned = true } }

abbrev pub unpinned : Row → Row
unpinned row = record row { state = record row.state { pinned = false } }

-- the row of the id is changed so, and nothing else
abbrev pub ChangesRow : Table Row → Table Row → ℕ → (Row → Row) → Type 0
ChangesRow old new id change = IfSome (value_at old id) (λ row. new ≡ with_value old id (change row))

-- a data file of this length is short, or the rows take less of it than so much per thousand
abbrev pub IsTooEmpty : FinMap nat_cmp Row → ℕ → ℕ → ℕ → ℕ → Type 0
IsTooEmpty rows minimum use_rate file length = (length < minimum) ⊎ (used_in rows file * 1000 < length * use_rate)

-- among these data files, each with its length, one that is not the head is too empty
pub record IsSparse (rows : FinMap nat_cmp Row) (minimum use_rate head : ℕ) (files : List (ℕ × ℕ)) (file : ℕ) : Type 0 where
  pub length : ℕ
  pub listed : Contains files (file, length)
  pub not_head : file ≢ head
  pub too_empty : IsTooEmpty rows minimum use_rate file length
