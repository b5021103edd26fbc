-- The row of an entity that was found on the disk.
use Rattle.std.specs.Prelude.{ℕ, false}
use Rattle.entity_form.specs.declared.places.Header.{Header}
use Rattle.entity_index.specs.declared.row.Row.{Row}

-- where the entity of this header stands; it is not pinned
abbrev pub opened_row : ℕ → ℕ → Header → Row
opened_row file at header = record { file = file; at = at; header = header; state = record { pinned = false; marked = false; grey = false; swept_odd = false; next = 0 } }
