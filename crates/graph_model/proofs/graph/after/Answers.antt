use Rattle.std.proofs.Common.{◌≡◌, arith}
use Rattle.std.proofs.lemmas.Grind.{common_steps}
use Rattle.graph_model.specs.Graph.{after}
use Rattle.graph_model.proofs.Graphs.{entity_of_after}
use Rattle.graph_model.proofs.Rising.{rises_after}
use Rattle.graph_model.proofs.graph.after.Goals as goal

pub returns-clause-entities : goal.returns-clause-entities
returns-clause-entities c x =
    let whole : c.loop-store.records ≡ after c.args.graph.now c.args.stores.now.items = grind (arith, common_steps) in
    rw whole (entity_of_after c.args.graph.now c.args.stores.now.items x)

pub returns-clause-order : goal.returns-clause-order
returns-clause-order c e =
    let whole : c.loop-store.records ≡ after c.args.graph.now c.args.stores.now.items = grind (arith, common_steps) in
    rw whole (rises_after c.args.graph.now c.args.stores.now.items e)
