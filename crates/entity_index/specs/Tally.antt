-- What is kept of each data file beside the rows. No public clause cites this module.
use Rattle.std.specs.Prelude.{◌≡◌, ℕ, ◌+◌, ◌-◌, ◌^◌, ◌<◌, Bool, Option, Some, nat_eq, if◌then◌else◌}
use Rattle.std.specs.Option.{option_map_or}
use Rattle.std.specs.Ordering.{nat_cmp}
use Rattle.std.specs.FinMap.{FinMap, get, insert, remove, len}
use Rattle.entity_index.specs.Totals.{total}
use Rattle.entity_index.specs.Rows.{used_in}
use Rattle.entity_index.specs.declared.row.Row.{Row}
use Rattle.entity_index.specs.declared.tally.FileUse.{FileUse}

-- the bytes and the rows that are kept of a file, 0 where it has no row
abbrev pub bytes_of : FinMap nat_cmp FileUse → ℕ → ℕ
bytes_of used file = option_map_or (λ kept. kept.bytes) (get used file) 0

abbrev pub rows_of : FinMap nat_cmp FileUse → ℕ → ℕ
rows_of used file = option_map_or (λ kept. kept.rows) (get used file) 0

-- what is kept once a row of so many bytes is added to a file
abbrev pub counted_in : FinMap nat_cmp FileUse → ℕ → ℕ → FinMap nat_cmp FileUse
counted_in used file length = insert used file (record { bytes = bytes_of used file + length; rows = rows_of used file + 1 })

-- and once one is taken away
abbrev pub counted_out : FinMap nat_cmp FileUse → ℕ → ℕ → FinMap nat_cmp FileUse
counted_out used file length =
    if nat_eq (rows_of used file) 1
    then remove used file
    else insert used file (record { bytes = bytes_of used file - length; rows = rows_of used file - 1 })

-- how many rows are in a file, by one row
abbrev pub row_in : ℕ → Row → ℕ
row_in file row = if nat_eq row.file file then 1 else 0

-- each file that has a row is kept with the sum of its rows' lengths and their number, and no other
pub record IsTally (rows : FinMap nat_cmp Row) (used : FinMap nat_cmp FileUse) : Type 0 where
  pub bytes : (file : ℕ) → bytes_of used file ≡ used_in rows file
  pub counts : (file : ℕ) → rows_of used file ≡ total (row_in file) rows
  pub some : (file : ℕ) (kept : FileUse) → get used file ≡ Some kept → 0 < kept.rows
  pub all : total (λ kept. kept.rows) used ≡ len rows
  pub fit : (id : ℕ) (row : Row) → get rows id ≡ Some row → row.header.length < 2 ^ 64
