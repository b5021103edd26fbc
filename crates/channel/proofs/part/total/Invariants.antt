use Rattle.std.proofs.Common.{◌≡◌, ◌+◌, drop}
use Rattle.graph_model.specs.Stores.{total_size}
use Rattle.channel.proofs.part.total.Given as goal

abbrev pub invariant-loop-record : goal.invariant-loop-record
invariant-loop-record l = l.total + total_size (drop l.record-index l.records) ≡ total_size l.records
