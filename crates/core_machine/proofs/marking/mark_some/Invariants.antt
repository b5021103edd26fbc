use Rattle.std.proofs.Common.{◌≡◌, drop, Some}
use Rattle.core_steps.specs.Rows.{each_of, mark_one}
use Rattle.core_machine.proofs.marking.mark_some.Given as goal

abbrev pub invariant-loop-id : goal.invariant-loop-id
invariant-loop-id l = each_of (mark_one l.place) (drop l.id-index l.id-items) (Some l.made) ≡ each_of (mark_one l.place) l.id-items (Some l.initial.made)
