use Rattle.entity_region.proofs.ListedLemmas.{listed_apart}
use Rattle.entity_region.proofs.PackLemmas.{moved_start, moved_all, may_move, moved_more}
use Rattle.entity_region.proofs.packing.move_blocks.Goals as goal

pub moves-init : goal.moves-init
moves-init c = moved_start c.args.bytes.now c.args.places.now c.args.order.now c.requires.listed c.requires.ready

pub move_block-to-requires : goal.move_block-to-requires
move_block-to-requires c = may_move c.args.bytes.now c.args.places.now c.args.order.now c.moves.block-index c.moves.bytes c.moves.places c.moves.to c.moves.invariant c.moves-test.true

pub moves-preserved : goal.moves-preserved
moves-preserved c =
    moved_more c.args.bytes.now c.args.places.now c.args.order.now c.moves.block-index c.moves.bytes c.moves.places c.moves.to c.moves.invariant
    (λ i j apart inside. listed_apart c.args.places.now c.args.order.now i j c.requires.listed apart inside) c.requires.rising c.moves-test.true
    c.move_block-to.new.bytes c.move_block-to.new.places c.move_block-to.result c.move_block-to.ensures

pub returns : goal.returns
returns c = moved_all c.args.bytes.now c.args.places.now c.args.order.now c.moves.block-index c.moves.bytes c.moves.places c.moves.to c.moves.invariant c.moves-test.false
