use Rattle.std.proofs.Common.{◌≡◌, drop}
use Rattle.core_steps.specs.Rows.{mark_edges}
use Rattle.core_machine.proofs.marking.mark_edges.Given as goal

abbrev pub invariant-loop-id : goal.invariant-loop-id
invariant-loop-id l = mark_edges l.place (drop l.id-index l.id-items) l.made ≡ mark_edges l.place l.id-items l.initial.made
