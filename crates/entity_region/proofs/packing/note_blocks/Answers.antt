use Rattle.std.proofs.Common.{arith}
use Rattle.entity_region.proofs.ListedLemmas.{listed_put, listed_none}
use Rattle.entity_region.proofs.packing.note_blocks.Goals as goal
use Rattle.entity_region.proofs.packing.note_blocks.Goals.{in-Some, in-None}

pub numbers-preserved : goal.numbers-preserved
numbers-preserved c = elim c.match-place.branch [
  | in-Some w ↦
      let few = c.numbers.invariant.few in
      rw (w.order-is, w.noted-is) (record {
        few = omega arith;
        listed = listed_put c.args.places.now c.numbers.number c.numbers.noted c.numbers.order w.in-Some.place c.numbers.invariant.listed
            (omega (arith, c.numbers-test.true, c.numbers.auto.order, c.requires)) w.in-Some.is;
      })
  | in-None w ↦
      let few = c.numbers.invariant.few in
      rw (w.order-is, w.noted-is) (record { few = omega arith; listed = listed_none c.args.places.now c.numbers.number _ c.numbers.invariant.listed w.in-None.is })
]
