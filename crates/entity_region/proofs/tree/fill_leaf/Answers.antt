use Rattle.std.proofs.Common.{◌≡◌, ◌-◌, length, take, drop, replicate, arith, ap, refl, ◌∙◌}
use Rattle.std.proofs.lemmas.List.{length-take, length-drop}
use Rattle.entity_region.proofs.TreeLemmas.{filled_put, leaf_node}
use Rattle.entity_region.proofs.tree.fill_leaf.Goals as goal

pub returns-clause-leaf : goal.returns-clause-leaf
returns-clause-leaf c = leaf_node c.args.nodes.now _ c.scan.result c.requires.node c.scan.ensures

pub returns-clause-filled : goal.returns-clause-filled
returns-clause-filled c =
    let part = take (c.args.to - c.args.from) (drop c.args.from c.args.units.now) in
    let len : length part ≡ c.args.to - c.args.from = omega (arith, length-take (c.args.to - c.args.from) (drop c.args.from c.args.units.now), length-drop c.args.from c.args.units.now) in
    let filled = c.fill.ensures.after (λ y same. same) ∙ ap (λ n. replicate n c.args.used) len in
    filled_put c.args.units.now _ c.fill.new.self c.args.from c.args.to c.args.used c.requires.order c.requires.inside filled refl
