use Rattle.std.proofs.Common.{◌≡◌, drop}
use Rattle.std.specs.List.{list_all}
use Rattle.graph_model.specs.Stores.{is_good_record}
use Rattle.core_machine.proofs.permission.are_good_records.Given as goal

abbrev pub invariant-loop-record : goal.invariant-loop-record
invariant-loop-record l = list_all (is_good_record l.graph l.held l.op) (drop l.record-index l.record-items) ≡ list_all (is_good_record l.graph l.held l.op) l.record-items
