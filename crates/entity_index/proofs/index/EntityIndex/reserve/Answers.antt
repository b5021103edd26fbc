-- No more files than rows.
use Rattle.entity_index.proofs.TallyLemmas.{files-≤}
use Rattle.entity_index.proofs.index.EntityIndex.reserve.Goals as goal

pub overflow_sub-files : goal.overflow_sub-files
overflow_sub-files c = rw (c.len.ensures, c.len-2.ensures) (files-≤ _ _ c.self.invariant.0)
