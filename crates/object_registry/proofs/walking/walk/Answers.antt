use Rattle.std.proofs.Common.{◌≡◌, [], arith}
use Rattle.std.proofs.lemmas.Grind.{common_steps}
use Rattle.graph_model.proofs.Walks.{search_keeps, search_shrinks}
use Rattle.object_registry.proofs.Finds.{search_finds}
use Rattle.object_registry.proofs.walking.walk.Goals as goal

pub loop-id-smaller : goal.loop-id-smaller
loop-id-smaller g c =
    rw c.in-Some.ensures.items (search_shrinks (g.E.Edges.graph c.args.edges.now) c.loop-id.found.keys c.pop.new.self.items c.in-Some.id c.look_at.new.found.keys c.look_at.new.open_ids.items
    (record { known = c.in_ok-look_at.ensures.known; new = c.in_ok-look_at.ensures.new }))

pub loop-id-preserved : goal.loop-id-preserved
loop-id-preserved g c =
    search_keeps (g.E.Edges.graph c.args.edges.now) c.args.starts.now c.loop-id.found.keys c.pop.new.self.items c.in-Some.id c.look_at.new.found.keys c.look_at.new.open_ids.items
    (record { known = c.in_ok-look_at.ensures.known; new = c.in_ok-look_at.ensures.new }) (rw c.in-Some.ensures.items at c.loop-id.invariant)

pub returns : goal.returns
returns g c =
    let none : c.loop-id.open_ids.items ≡ [] = grind (arith, common_steps) in
    search_finds (g.E.Edges.graph c.args.edges.now) c.args.starts.now c.loop-id.found.keys (rw none at c.loop-id.invariant)
