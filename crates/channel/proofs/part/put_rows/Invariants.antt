use Rattle.std.proofs.Common.{◌≡◌, ◌+◌, ◌<◌, ◌≤◌, ◌^◌, ℕ, Bool, true, List, ◌++◌, length, map, take, drop}
use Rattle.std.specs.Prelude.{sum_by}
use Rattle.std.specs.List.{AllByRecursion}
use Rattle.std.specs.Ordering.{nat_cmp}
use Rattle.std.specs.FinMap.{FinMap, get}
use Rattle.graph_model.specs.Ids.{rises}
use Rattle.entity_index.specs.declared.row.Row.{Row}
use Rattle.channel.specs.Parts.{headers_in}
use Rattle.channel.specs.Taking.{rows_behind, with_before}
use Rattle.channel.specs.declared.part.Slot.{Slot}
use Rattle.channel.proofs.part.put_rows.Given as goal

abbrev pub id_of : Slot → ℕ
id_of s = s.header.id

abbrev pub size_of : Slot → ℕ
size_of s = s.header.length

-- the first `i` of the slots have their rows, and the next entity stands at `at`
pub record ArePut (odd : Bool) (old : List Slot) (was : FinMap nat_cmp Row) (file start i : ℕ) (slots : List Slot) (now : FinMap nat_cmp Row) (at : ℕ) : Type 0 where
  pub rows : rows_behind odd file at (headers_in (drop i old)) now ≡ rows_behind odd file start (headers_in old) was
  pub slots_are : slots ≡ map (with_before was) (take i old) ++ drop i old
  pub same : AllByRecursion (λ (s : Slot). get now s.header.id ≡ get was s.header.id) (drop i old)
  pub ordered : rises (map id_of (drop i old)) ≡ true
  pub fits : at + sum_by size_of (drop i old) < 2 ^ 64

abbrev pub invariant-loop-slot : goal.invariant-loop-slot
invariant-loop-slot l = record {
  put : ArePut l.swept_odd l.fn.slots l.fn.index.contents l.place.file l.place.at l.slot-index l.slots l.index.contents l.at;
  room : length l.fn.slots ≤ l.index.spare + l.slot-index;
}
