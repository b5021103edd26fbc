use Rattle.std.proofs.Common.{◌≡◌, ◌≤◌, ◌+◌, ◌^◌, drop, Some}
use Rattle.core_steps.specs.Rows.{each_of, deliver_one}
use Rattle.core_machine.proofs.marking.deliver.Given as goal

abbrev pub invariant-loop-id : goal.invariant-loop-id
invariant-loop-id l = (l.made.1.credit ≤ 2 ^ 33 + l.id-index) × (each_of (deliver_one l.place) (drop l.id-index l.id-items) (Some l.made) ≡ each_of (deliver_one l.place) l.id-items (Some l.initial.made))
