use Rattle.std.proofs.Common.{◌≡◌, ◌+◌, length, drop, Some, false, subst, ◌∙◌}
use Rattle.entity_region.specs.Units.{IsFilled}
use Rattle.entity_region.specs.Sound.{place_at}
use Rattle.entity_region.proofs.RegionLemmas.{written_back, sound_given, view_given}
use Rattle.entity_region.proofs.region.Region.give.Goals as goal

pub invariant_of-self : goal.invariant_of-self
invariant_of-self c =
    let is = subst (λ k. place_at k c.block.inside.number ≡ Some c.place_of-place.result) c.deref.ensures.value c.place_of-place.ensures in
    let filled = subst (λ k. IsFilled k c.fill.new.units c.place_of-place.result.unit (c.place_of-place.result.unit + c.units_of-units.result) false) c.deref_mut-2.ensures.value c.fill.ensures.filled in
    let units = written_back c.self.inside.units.len c.fill.new.units (drop (length c.fill.new.units) c.self.inside.units.items) (c.fill.auto.units ∙ c.deref_mut-2.ensures.len) in
    let nodes = written_back c.self.inside.nodes.len c.fill.new.nodes (drop (length c.fill.new.nodes) c.self.inside.nodes.items) (c.fill.auto.nodes ∙ c.deref_mut.ensures.len) in
    rw (units, nodes) (sound_given _ _ _ _ _ _ _ _ _ c.self.invariant c.fill.new.units c.fill.new.nodes c.block.inside.number c.units_of-units.result c.place_of-place.result is c.units_of-units.ensures c.fill.ensures.tree filled)

pub returns : goal.returns
returns c = rw (← c.self.view_is, ← c.block.view_is) (view_given _ _ _ _ _ _ _ _ _ c.self.invariant c.block.inside.number)
