use Rattle.type_dictionary.proofs.NameSets.{AreNamesBelow}
use Rattle.type_dictionary.proofs.repeats.all_differ.Given as goal

abbrev pub invariant-loop-member : goal.invariant-loop-member
invariant-loop-member l = AreNamesBelow l.members l.member-index l.names
