use Rattle.std.proofs.Common.{◌≡◌, ◌≤◌, ◌+◌, ◌-◌, ◌^◌, min, drop}
use Rattle.graph_model.specs.Stores.{total_size}
use Rattle.core_machine.proofs.permission.total_size.Given as goal

abbrev pub invariant-loop-record : goal.invariant-loop-record
invariant-loop-record l = (l.total ≤ 2 ^ 64 - 1) × (min (l.total + total_size (drop l.record-index l.records)) (2 ^ 64 - 1) ≡ min (total_size l.records) (2 ^ 64 - 1))
