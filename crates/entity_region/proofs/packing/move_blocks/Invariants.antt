use Rattle.entity_region.specs.Packing.{AreMoved}
use Rattle.entity_region.proofs.packing.move_blocks.Given as goal

abbrev pub invariant-moves : goal.invariant-moves
invariant-moves l = AreMoved l.initial.bytes l.initial.places l.order l.block-index l.bytes l.places l.to
