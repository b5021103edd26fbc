-- What storing a part makes of the rows. No public clause cites this module.
use Rattle.std.specs.Prelude.{ℕ, ◌+◌, Bool, true, false, List, [], ◌∷◌}
use Rattle.std.specs.Ordering.{nat_cmp}
use Rattle.std.specs.FinMap.{FinMap, get, insert}
use Rattle.graph_model.specs.declared.entity.Record.{Record}
use Rattle.entity_form.specs.declared.places.Header.{Header}
use Rattle.entity_index.specs.declared.row.Row.{Row}
use Rattle.entity_index.specs.declared.row.State.{State}
use Rattle.channel.specs.Entities.{header_for}
use Rattle.channel.specs.declared.part.Slot.{Slot}

-- an entity that was just stored is pinned
abbrev pub stored_state : Bool → State
stored_state odd = record { pinned = true; marked = false; grey = false; swept_odd = odd; next = 0 }

abbrev pub row_at : Bool → ℕ → ℕ → Header → Row
row_at odd file at header = record { file = file; at = at; header = header; state = stored_state odd }

-- the rows once entities with these headers stand one behind another from a place on
abbrev pub rows_behind : Bool → ℕ → ℕ → List Header → FinMap nat_cmp Row → FinMap nat_cmp Row
rows_behind odd file at [] rows = rows
rows_behind odd file at (h ∷ headers) rows = rows_behind odd file (at + h.length) headers (insert rows h.id (row_at odd file at h))

-- the slot with the row that its id has
abbrev pub with_before : FinMap nat_cmp Row → Slot → Slot
with_before rows s = record s { before = get rows s.header.id }

-- the slot of a record, with the row that its id has
abbrev pub slot_for : FinMap nat_cmp Row → Record → Slot
slot_for rows r = record { header = header_for r; before = get rows r.id }
