use Rattle.std.proofs.Common.{◌+◌, length, drop, true, arith, subst, ◌∙◌}
use Rattle.std.proofs.lemmas.List.{get_or_default}
use Rattle.entity_region.specs.Units.{AreRuns, IsFirstClear, IsFilled}
use Rattle.entity_region.proofs.LayoutLemmas.{some_units}
use Rattle.entity_region.proofs.RegionLemmas.{written_back, number_left, run_fits, sound_taken, view_taken, view_full}
use Rattle.entity_region.proofs.region.Region.take.Goals as goal

pub returns-then-top-wanted-clause-none : goal.returns-then-top-wanted-clause-none
returns-then-top-wanted-clause-none c =
    let known = subst (λ k. AreRuns k c.top.result) c.deref-2.ensures.value c.top.ensures in
    rw (← c.self.view_is) (view_full _ _ _ _ _ _ _ _ _ c.self.invariant c.top.result c.units_of-wanted.result c.args.n c.units_of-wanted.ensures known c.if-top-wanted.true)

pub index-number-requires : goal.index-number-requires
index-number-requires c =
    let left = number_left _ _ _ _ _ _ _ _ _ c.self.invariant (rw (← c.self.view_is) at c.requires.room) in
    omega (arith, c.self.inside.numbers.ok.0)

pub index_mut-requires : goal.index_mut-requires
index_mut-requires c =
    let left = number_left _ _ _ _ _ _ _ _ _ c.self.invariant (rw (← c.self.view_is) at c.requires.room) in
    let number = c.index-number.ensures ∙ get_or_default c.self.inside.numbers.items c.self.inside.live _ 0 left in
    let below = c.self.invariant.spare.inside c.self.inside.live (omega arith) left in
    rw number (omega (arith, c.self.inside.places.ok.0))

pub overflow_mul-self : goal.overflow_mul-self
overflow_mul-self c =
    let first = subst (λ k. IsFirstClear k c.units_of-wanted.result c.first_fit-unit.result) c.deref-4.ensures.value c.first_fit-unit.ensures in
    let some = some_units c.args.n c.requires.some in
    let fits = run_fits _ _ _ _ _ _ _ _ _ c.self.invariant c.first_fit-unit.result c.units_of-wanted.result (omega arith) first.clear in
    let size = c.self.inside.bytes.ok.0 in
    let sized = c.self.invariant.sized in
    omega arith

pub overflow_sub-self : goal.overflow_sub-self
overflow_sub-self c =
    let first = subst (λ k. IsFirstClear k c.units_of-wanted.result c.first_fit-unit.result) c.deref-4.ensures.value c.first_fit-unit.ensures in
    let some = some_units c.args.n c.requires.some in
    let fits = run_fits _ _ _ _ _ _ _ _ _ c.self.invariant c.first_fit-unit.result c.units_of-wanted.result (omega arith) first.clear in
    let free = c.self.invariant.free_is in
    omega arith

pub invariant_of-self : goal.invariant_of-self
invariant_of-self c =
    let left = number_left _ _ _ _ _ _ _ _ _ c.self.invariant (rw (← c.self.view_is) at c.requires.room) in
    let number = c.index-number.ensures ∙ get_or_default c.self.inside.numbers.items c.self.inside.live _ 0 left in
    let first = subst (λ k. IsFirstClear k c.units_of-wanted.result c.first_fit-unit.result) c.deref-4.ensures.value c.first_fit-unit.ensures in
    let filled = subst (λ k. IsFilled k c.fill.new.units c.first_fit-unit.result (c.first_fit-unit.result + c.units_of-wanted.result) true) c.deref_mut-2.ensures.value c.fill.ensures.filled in
    let units = written_back c.self.inside.units.len c.fill.new.units (drop (length c.fill.new.units) c.self.inside.units.items) (c.fill.auto.units ∙ c.deref_mut-2.ensures.len) in
    let nodes = written_back c.self.inside.nodes.len c.fill.new.nodes (drop (length c.fill.new.nodes) c.self.inside.nodes.items) (c.fill.auto.nodes ∙ c.deref_mut.ensures.len) in
    rw (units, nodes) (sound_taken _ _ _ _ _ _ _ _ _ c.self.invariant c.fill.new.units c.fill.new.nodes c.index-number.result.now c.first_fit-unit.result c.units_of-wanted.result c.args.n left number c.requires.some
    c.units_of-wanted.ensures first c.fill.ensures.tree filled)

pub returns-clause-taken : goal.returns-clause-taken
returns-clause-taken c =
    let left = number_left _ _ _ _ _ _ _ _ _ c.self.invariant (rw (← c.self.view_is) at c.requires.room) in
    let number = c.index-number.ensures ∙ get_or_default c.self.inside.numbers.items c.self.inside.live _ 0 left in
    let first = subst (λ k. IsFirstClear k c.units_of-wanted.result c.first_fit-unit.result) c.deref-4.ensures.value c.first_fit-unit.ensures in
    rw (← c.self.view_is) (view_taken _ _ _ _ _ _ _ _ _ c.self.invariant c.index-number.result.now c.first_fit-unit.result c.units_of-wanted.result c.args.n left number c.requires.some c.units_of-wanted.ensures first)
