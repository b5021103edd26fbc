-- The files so far are used enough.
use Rattle.std.proofs.Common.{ℕ, ◌<◌}
use Rattle.entity_index.proofs.SparseLemmas.{IsUsedEnough}
use Rattle.entity_index.proofs.index.EntityIndex.sparse_file.Given as goal

abbrev pub invariant-loop-file : goal.invariant-loop-file
invariant-loop-file l = (k : ℕ) → k < l.file-index → IsUsedEnough l.self.contents l.minimum l.use_rate l.head l.files k
