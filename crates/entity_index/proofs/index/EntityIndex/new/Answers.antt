-- No rows take nothing of any file.
use Rattle.std.proofs.Common.{arith}
use Rattle.std.specs.Ordering.{nat_cmp}
use Rattle.std.specs.FinMap.{len-empty}
use Rattle.entity_index.specs.declared.row.Row.{Row}
use Rattle.entity_index.proofs.TallyLemmas.{IsTally-empty, IsTally-in_place, files-≤}
use Rattle.entity_index.proofs.index.EntityIndex.new.Goals as goal

pub invariant_of-result : goal.invariant_of-result
invariant_of-result c =
    let none = len-empty nat_cmp Row in
    rw (c.new.ensures.contents, c.new-2.ensures.contents) (IsTally-empty, omega arith)
