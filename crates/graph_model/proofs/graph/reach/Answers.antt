use Rattle.std.proofs.Common.{◌≡◌, [], arith}
use Rattle.std.proofs.lemmas.Grind.{common_steps}
use Rattle.graph_model.proofs.Walks.{search_keeps, search_shrinks, search_ends}
use Rattle.graph_model.proofs.graph.reach.Goals as goal

pub loop-id-smaller : goal.loop-id-smaller
loop-id-smaller c =
    rw c.in-Some.ensures.items (search_shrinks c.args.graph.now c.loop-id.reached c.pop.new.self.items c.in-Some.id c.look_at.new.reached c.look_at.new.open_ids.items
    (record { known = c.in_ok-look_at.ensures.known; new = c.in_ok-look_at.ensures.new }))

pub loop-id-preserved : goal.loop-id-preserved
loop-id-preserved c =
    search_keeps c.args.graph.now c.args.starts.now c.loop-id.reached c.pop.new.self.items c.in-Some.id c.look_at.new.reached c.look_at.new.open_ids.items
    (record { known = c.in_ok-look_at.ensures.known; new = c.in_ok-look_at.ensures.new }) (rw c.in-Some.ensures.items at c.loop-id.invariant)

pub returns-clause-walks : goal.returns-clause-walks
returns-clause-walks c x =
    let none : c.loop-id.open_ids.items ≡ [] = grind (arith, common_steps) in
    search_ends c.args.graph.now c.args.starts.now c.loop-id.reached (rw none at c.loop-id.invariant) x
