use Rattle.legacy_mapping.proofs.PositionLemmas.{ArePositionsBelow}
use Rattle.legacy_mapping.proofs.positions.positions.Given as goal

abbrev pub invariant-loop-i : goal.invariant-loop-i
invariant-loop-i l = ArePositionsBelow l.members l.i l.positions
