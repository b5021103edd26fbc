use Rattle.std.proofs.Common.{◌≡◌, ◌≤◌, take, length}
use Rattle.graph_model.specs.Graph.{put_all}
use Rattle.graph_model.proofs.entity.Records.put_all.Given as goal

abbrev pub invariant-loop-left : goal.invariant-loop-left
invariant-loop-left l = (l.left ≤ length l.records) × (put_all (take l.left l.records) l.self ≡ put_all l.records l.fn.self)

abbrev pub decreases-loop-left : goal.decreases-loop-left
decreases-loop-left l = l.left
