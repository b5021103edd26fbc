-- A file that is given up leaves its place.
use Rattle.entity_index.proofs.TallyLemmas.{room-insert, room-remove}
use Rattle.entity_index.proofs.tally.count_out.Goals as goal

pub returns-then-kept-eq1-clause-places : goal.returns-then-kept-eq1-clause-places
returns-then-kept-eq1-clause-places c = room-remove _ _ _ c.remove.result _ _ c.remove.ensures.removed c.remove.ensures.contents c.remove.ensures.spare

pub returns-else-kept-eq1-clause-places : goal.returns-else-kept-eq1-clause-places
returns-else-kept-eq1-clause-places c = room-insert _ _ _ _ c.insert.result _ _ c.insert.ensures.old c.insert.ensures.contents c.insert.ensures.spare
