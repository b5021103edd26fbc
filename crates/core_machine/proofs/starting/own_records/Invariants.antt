use Rattle.std.proofs.Common.{◌≡◌, take}
use Rattle.std.specs.List.{filter}
use Rattle.graph_model.specs.declared.entity.Record.{Record}
use Rattle.core_steps.specs.Core.{is_home}
use Rattle.core_machine.proofs.starting.own_records.Given as goal

abbrev pub invariant-loop-record : goal.invariant-loop-record
invariant-loop-record l = l.own.items ≡ filter (λ (r : Record). is_home l.channels l.number r.id) (take l.record-index l.records)
