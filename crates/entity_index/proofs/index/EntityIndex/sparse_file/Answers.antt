-- The first file that is used too little is the least, since the numbers rise.
use Rattle.std.proofs.Common.{arith}
use Rattle.entity_index.proofs.SparseLemmas.{least_sparse, none_sparse}
use Rattle.entity_index.proofs.index.EntityIndex.sparse_file.Goals as goal

pub returns-then-is_too_empty-clause-least : goal.returns-then-is_too_empty-clause-least
returns-then-is_too_empty-clause-least c =
    least_sparse c.args.self.now.contents c.args.minimum c.args.use_rate c.args.head c.args.files.now c.requires c.loop-file.file-index c.loop-file-test.true c.loop-file.invariant

pub returns-clause-none : goal.returns-clause-none
returns-clause-none c =
    none_sparse c.args.self.now.contents c.args.minimum c.args.use_rate c.args.head c.args.files.now (λ k k_in. c.loop-file.invariant k (omega arith))
