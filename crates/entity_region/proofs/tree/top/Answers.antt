use Rattle.entity_region.proofs.TreeLemmas.{top_runs}
use Rattle.entity_region.proofs.tree.top.Goals as goal

pub returns : goal.returns
returns c = (top_runs c.args.levels c.args.nodes.now c.args.units.now _ c.requires).1
