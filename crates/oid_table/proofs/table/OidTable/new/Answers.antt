-- No slots are sound.
use Rattle.std.proofs.Common.{refl, arith}
use Rattle.std.specs.Ordering.{nat_cmp}
use Rattle.std.specs.FinMap.{len-empty}
use Rattle.oid_table.proofs.table.OidTable.new.Goals as goal

pub invariant_of-result : goal.invariant_of-result
invariant_of-result g c = rw c.new.ensures.items (record {
  reached = λ place key x held x_in before. absurd (omega arith);
  counted = refl;
  sized = len-empty nat_cmp g.row.V.Denot;
  room = omega arith;
})
