-- A new file takes a place, and an old one keeps its own.
use Rattle.entity_index.proofs.TallyLemmas.{room-insert}
use Rattle.entity_index.proofs.tally.count_in.Goals as goal

pub returns-clause-places : goal.returns-clause-places
returns-clause-places c = room-insert _ _ _ _ c.insert.result _ _ c.insert.ensures.old c.insert.ensures.contents c.insert.ensures.spare
