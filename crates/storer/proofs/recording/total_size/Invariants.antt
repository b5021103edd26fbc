use Rattle.std.proofs.Common.{◌≡◌, ◌≤◌, ◌*◌, take}
use Rattle.storer.specs.Faults.{total_of}
use Rattle.storer.proofs.recording.total_size.Given as goal

abbrev pub invariant-loop-record : goal.invariant-loop-record
invariant-loop-record l = (l.total ≡ total_of (take l.record-index l.records)) × (l.total ≤ l.record-index * 1048576)
