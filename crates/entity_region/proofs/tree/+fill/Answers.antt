use Rattle.std.proofs.Common.{◌≡◌, ◌-◌, ◌/◌, ◌∷◌, ◌++◌, length, min, max, arith, subst, sym, ap, ◌∙◌}
use Rattle.entity_region.specs.Units.{IsFilled, AreJoined}
use Rattle.entity_region.proofs.TreeLemmas.{parts_of, runs_fit, filled_both, tree_of}
use Rattle.entity_region.proofs.tree.+fill.Goals as goal

pub fill-requires : goal.fill-requires
fill-requires t c =
    let nodes_are = c.in-Some.ensures.cases.0 ∙ ap (λ k. c.in-Some.node.now ∷ k) c.split_at_mut-left.ensures.value in
    let parts = parts_of c.args.levels c.args.nodes.now c.split_at_mut-left.result.0.now c.split_at_mut-left.result.1.now c.in-Some.node.now c.args.units.now c.split_at_mut-front.result.0.now c.split_at_mut-front.result.1.now
    c.if-levels-eq0.false c.requires.tree nodes_are c.split_at_mut-left.ensures.front_len c.split_at_mut-front.ensures.value c.split_at_mut-front.ensures.front_len in
    (omega arith, (parts.left_tree, (omega arith, omega arith)))

pub fill-requires-2 : goal.fill-requires-2
fill-requires-2 t c =
    let nodes_are = c.in-Some.ensures.cases.0 ∙ ap (λ k. c.in-Some.node.now ∷ k) c.split_at_mut-left.ensures.value in
    let parts = parts_of c.args.levels c.args.nodes.now c.split_at_mut-left.result.0.now c.split_at_mut-left.result.1.now c.in-Some.node.now c.args.units.now c.split_at_mut-front.result.0.now c.split_at_mut-front.result.1.now
    c.if-levels-eq0.false c.requires.tree nodes_are c.split_at_mut-left.ensures.front_len c.split_at_mut-front.ensures.value c.split_at_mut-front.ensures.front_len in
    (omega arith, (parts.right_tree, (omega arith, omega arith)))

pub join-requires-clause-others_front : goal.join-requires-clause-others_front
join-requires-clause-others_front t c =
    let nodes_are = c.in-Some.ensures.cases.0 ∙ ap (λ k. c.in-Some.node.now ∷ k) c.split_at_mut-left.ensures.value in
    let parts = parts_of c.args.levels c.args.nodes.now c.split_at_mut-left.result.0.now c.split_at_mut-left.result.1.now c.in-Some.node.now c.args.units.now c.split_at_mut-front.result.0.now c.split_at_mut-front.result.1.now
    c.if-levels-eq0.false c.requires.tree nodes_are c.split_at_mut-left.ensures.front_len c.split_at_mut-front.ensures.value c.split_at_mut-front.ensures.front_len in
    let halves = parts.halves in
    let same = c.fill-2.auto.units in
    let fit = runs_fit c.fill-2.new.units c.top-second.result c.top-second.ensures in
    omega arith

pub join-requires-clause-others_back : goal.join-requires-clause-others_back
join-requires-clause-others_back t c =
    let nodes_are = c.in-Some.ensures.cases.0 ∙ ap (λ k. c.in-Some.node.now ∷ k) c.split_at_mut-left.ensures.value in
    let parts = parts_of c.args.levels c.args.nodes.now c.split_at_mut-left.result.0.now c.split_at_mut-left.result.1.now c.in-Some.node.now c.args.units.now c.split_at_mut-front.result.0.now c.split_at_mut-front.result.1.now
    c.if-levels-eq0.false c.requires.tree nodes_are c.split_at_mut-left.ensures.front_len c.split_at_mut-front.ensures.value c.split_at_mut-front.ensures.front_len in
    let halves = parts.halves in
    let same = c.fill-2.auto.units in
    let fit = runs_fit c.fill-2.new.units c.top-second.result c.top-second.ensures in
    omega arith

pub returns-clause-tree : goal.returns-clause-tree
returns-clause-tree t c =
    let nodes_are = c.in-Some.ensures.cases.0 ∙ ap (λ k. c.in-Some.node.now ∷ k) c.split_at_mut-left.ensures.value in
    let parts = parts_of c.args.levels c.args.nodes.now c.split_at_mut-left.result.0.now c.split_at_mut-left.result.1.now c.in-Some.node.now c.args.units.now c.split_at_mut-front.result.0.now c.split_at_mut-front.result.1.now
    c.if-levels-eq0.false c.requires.tree nodes_are c.split_at_mut-left.ensures.front_len c.split_at_mut-front.ensures.value c.split_at_mut-front.ensures.front_len in
    let halves = parts.halves in
    let even = parts.even in
    let front_len : length c.fill.new.units ≡ length c.args.units.now / 2 = c.fill.auto.units ∙ c.split_at_mut-front.ensures.front_len in
    let back_len : length c.fill-2.new.units ≡ length c.args.units.now / 2 = c.fill-2.auto.units ∙ sym halves ∙ c.split_at_mut-front.ensures.front_len in
    let joined = subst (λ n. AreJoined c.top-first.result (length c.fill.new.units) c.top-second.result n c.join.result) (sym back_len)
    (subst (λ n. AreJoined c.top-first.result n c.top-second.result (length c.args.units.now / 2) c.join.result) (sym front_len) c.join.ensures) in
    tree_of c.args.levels c.fill.new.nodes c.fill-2.new.nodes c.join.result c.top-first.result c.top-second.result c.fill.new.units c.fill-2.new.units c.if-levels-eq0.false
    c.fill.ensures.tree c.fill-2.ensures.tree (c.fill.auto.nodes ∙ even ∙ sym c.fill-2.auto.nodes) (front_len ∙ sym back_len) c.top-first.ensures c.top-second.ensures joined

pub returns-clause-filled : goal.returns-clause-filled
returns-clause-filled t c =
    let front = c.split_at_mut-front.result.0.now in
    let back = c.split_at_mut-front.result.1.now in
    let half = length c.args.units.now / 2 in
    let first = subst (λ n. IsFilled front c.fill.new.units n (min c.args.to half) c.args.used) c.min.ensures (subst (λ n. IsFilled front c.fill.new.units c.min.result n c.args.used) c.min-2.ensures c.fill.ensures.filled) in
    let second = subst (λ n. IsFilled back c.fill-2.new.units (n - half) (max c.args.to half - half) c.args.used) c.max.ensures (subst (λ n. IsFilled back c.fill-2.new.units (c.max.result - half) (n - half) c.args.used) c.max-2.ensures c.fill-2.ensures.filled) in
    subst (λ k. IsFilled k (c.fill.new.units ++ c.fill-2.new.units) c.args.from c.args.to c.args.used) (sym c.split_at_mut-front.ensures.value)
    (filled_both front back c.fill.new.units c.fill-2.new.units c.args.from c.args.to c.args.used half (sym c.split_at_mut-front.ensures.front_len) c.requires.order first second)
