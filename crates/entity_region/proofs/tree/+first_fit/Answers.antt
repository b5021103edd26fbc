use Rattle.std.proofs.Common.{◌+◌, ◌-◌, ◌∷◌, length, arith, subst, sym, ap, ◌∙◌}
use Rattle.entity_region.specs.Units.{IsThere, IsFirstClear}
use Rattle.entity_region.proofs.TreeLemmas.{parts_of, there_of, first_in_front, first_over_seam, there_in_back, first_in_back}
use Rattle.entity_region.proofs.tree.+first_fit.Goals as goal

pub top-first-requires : goal.top-first-requires
top-first-requires t c =
    let nodes_are = c.in-Some.ensures.cases.0 ∙ ap (λ k. c.in-Some._top.now ∷ k) c.split_at.ensures.by_index.0 in
    let parts = parts_of c.args.levels c.args.nodes.now c.split_at.result.0.now c.split_at.result.1.now c.in-Some._top.now c.args.units.now c.split_at-2.result.0.now c.split_at-2.result.1.now
    c.if-levels-eq0.false c.requires.tree nodes_are c.split_at.ensures.front_len c.split_at-2.ensures.by_index.0 c.split_at-2.ensures.front_len in
    parts.left_tree

pub top-second-requires : goal.top-second-requires
top-second-requires t c =
    let nodes_are = c.in-Some.ensures.cases.0 ∙ ap (λ k. c.in-Some._top.now ∷ k) c.split_at.ensures.by_index.0 in
    let parts = parts_of c.args.levels c.args.nodes.now c.split_at.result.0.now c.split_at.result.1.now c.in-Some._top.now c.args.units.now c.split_at-2.result.0.now c.split_at-2.result.1.now
    c.if-levels-eq0.false c.requires.tree nodes_are c.split_at.ensures.front_len c.split_at-2.ensures.by_index.0 c.split_at-2.ensures.front_len in
    parts.right_tree

pub first_fit-requires : goal.first_fit-requires
first_fit-requires t c =
    let nodes_are = c.in-Some.ensures.cases.0 ∙ ap (λ k. c.in-Some._top.now ∷ k) c.split_at.ensures.by_index.0 in
    let parts = parts_of c.args.levels c.args.nodes.now c.split_at.result.0.now c.split_at.result.1.now c.in-Some._top.now c.args.units.now c.split_at-2.result.0.now c.split_at-2.result.1.now
    c.if-levels-eq0.false c.requires.tree nodes_are c.split_at.ensures.front_len c.split_at-2.ensures.by_index.0 c.split_at-2.ensures.front_len in
    let some = c.if-levels-eq0.false in
    (omega arith, (parts.left_tree, (c.requires.some, there_of c.split_at-2.result.0.now c.top-first.result c.args.wanted c.top-first.ensures c.if-wanted-first.true)))

pub first_fit-requires-else-wanted-first-2 : goal.first_fit-requires-else-wanted-first-2
first_fit-requires-else-wanted-first-2 t c =
    let nodes_are = c.in-Some.ensures.cases.0 ∙ ap (λ k. c.in-Some._top.now ∷ k) c.split_at.ensures.by_index.0 in
    let parts = parts_of c.args.levels c.args.nodes.now c.split_at.result.0.now c.split_at.result.1.now c.in-Some._top.now c.args.units.now c.split_at-2.result.0.now c.split_at-2.result.1.now
    c.if-levels-eq0.false c.requires.tree nodes_are c.split_at.ensures.front_len c.split_at-2.ensures.by_index.0 c.split_at-2.ensures.front_len in (
      omega arith,
      (
        parts.right_tree,
        (
          c.requires.some,
          there_in_back c.split_at-2.result.0.now c.split_at-2.result.1.now c.top-first.result c.top-second.result c.args.wanted c.top-first.ensures c.top-second.ensures (omega arith) (omega arith)
              (subst (λ k. IsThere k c.args.wanted) c.split_at-2.ensures.by_index.0 c.requires.there),
        ),
      ),
    )

pub returns-then-wanted-first : goal.returns-then-wanted-first
returns-then-wanted-first t c =
    subst (λ k. IsFirstClear k c.args.wanted c.first_fit.result) (sym c.split_at-2.ensures.by_index.0) (first_in_front c.split_at-2.result.0.now c.split_at-2.result.1.now c.args.wanted c.first_fit.result c.first_fit.ensures)

pub returns-then-wanted-first-2 : goal.returns-then-wanted-first-2
returns-then-wanted-first-2 t c =
    let found = first_over_seam c.split_at-2.result.0.now c.split_at-2.result.1.now c.top-first.result c.top-second.result c.args.wanted c.requires.some c.top-first.ensures c.top-second.ensures (omega arith) (omega arith) in
    subst (λ n. IsFirstClear c.args.units.now c.args.wanted (n - c.top-first.result.back)) c.split_at-2.ensures.front_len
    (subst (λ k. IsFirstClear k c.args.wanted (length c.split_at-2.result.0.now - c.top-first.result.back)) (sym c.split_at-2.ensures.by_index.0) found)

pub returns-else-wanted-first-2 : goal.returns-else-wanted-first-2
returns-else-wanted-first-2 t c =
    let found = first_in_back c.split_at-2.result.0.now c.split_at-2.result.1.now c.top-first.result c.top-second.result c.args.wanted c.first_fit-else-wanted-first-2.result c.top-first.ensures c.top-second.ensures (omega arith) (omega arith)
    c.first_fit-else-wanted-first-2.ensures in
    subst (λ n. IsFirstClear c.args.units.now c.args.wanted (n + c.first_fit-else-wanted-first-2.result)) c.split_at-2.ensures.front_len
    (subst (λ k. IsFirstClear k c.args.wanted (length c.split_at-2.result.0.now + c.first_fit-else-wanted-first-2.result)) (sym c.split_at-2.ensures.by_index.0) found)
