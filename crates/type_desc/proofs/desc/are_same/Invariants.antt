use Rattle.std.proofs.Common.{◌≡◌, take}
use Rattle.type_desc.proofs.desc.are_same.Given as goal

abbrev pub invariant-loop-i : goal.invariant-loop-i
invariant-loop-i l = take l.i l.members ≡ take l.i l.others
