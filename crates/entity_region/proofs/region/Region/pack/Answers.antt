use Rattle.std.proofs.Common.{◌≡◌, ◌*◌, ◌/◌, ◌++◌, length, take, drop, true, false, arith, sym, ap, subst, ◌∙◌}
use Rattle.entity_region.specs.Units.{IsFilled}
use Rattle.entity_region.specs.Space.{IsPacked}
use Rattle.entity_region.specs.Sound.{space_of}
use Rattle.entity_region.specs.Packing.{IsPackedTo}
use Rattle.entity_region.proofs.RegionLemmas.{written_back}
use Rattle.entity_region.proofs.PackLemmas.{sound_packed, packed_view}
use Rattle.entity_region.proofs.region.Region.pack.Goals as goal

pub invariant_of-self : goal.invariant_of-self
invariant_of-self c =
    let r = c.self.inside in
    let new = c.move_blocks-used.new in
    let used = c.move_blocks-used.result in
    let bytes = written_back r.bytes.len new.bytes (drop (length new.bytes) r.bytes.items) (c.move_blocks-used.auto.bytes ∙ c.deref_mut-3.ensures.len) in
    let places = written_back r.places.len new.places (drop (length new.places) r.places.items) (c.move_blocks-used.auto.places ∙ c.deref_mut-2.ensures.len) in
    let order = written_back r.order.len c.order_blocks-listed.new.order (drop (length c.order_blocks-listed.new.order) r.order.items) (c.order_blocks-listed.auto.order ∙ c.deref_mut.ensures.len) in
    let room : length c.order_blocks-listed.new.order ≡ length r.order.items = c.order_blocks-listed.ensures.count ∙ ap length c.deref_mut.ensures.value in
    let units = written_back r.units.len c.fill.new.units (drop (length c.fill.new.units) r.units.items) (c.fill.auto.units ∙ c.deref_mut-5.ensures.len) in
    let nodes = written_back r.nodes.len c.fill.new.nodes (drop (length c.fill.new.nodes) r.nodes.items) (c.fill.auto.nodes ∙ c.deref_mut-4.ensures.len) in
    let units_now = written_back r.units.len c.fill-2.new.units (drop (length c.fill-2.new.units) (take r.units.len (c.fill.new.units ++ drop (length c.fill.new.units) r.units.items))) (c.fill-2.auto.units ∙ c.deref_mut-7.ensures.len) in
    let nodes_now = written_back r.nodes.len c.fill-2.new.nodes (drop (length c.fill-2.new.nodes) (take r.nodes.len (c.fill.new.nodes ++ drop (length c.fill.new.nodes) r.nodes.items))) (c.fill-2.auto.nodes ∙ c.deref_mut-6.ensures.len) in
    let count = c.len-count.result / 16 in
    let sized : length new.bytes ≡ 16 * count = omega (arith, c.self.invariant.sized, c.move_blocks-used.auto.bytes, c.deref_mut-3.ensures.len, r.bytes.ok.0, c.len-count.ensures) in
    let all = subst (λ k. IsPackedTo k r.places.items new.bytes new.places used) c.deref_mut-3.ensures.value
    (subst (λ k. IsPackedTo c.deref_mut-3.result.now k new.bytes new.places used) c.deref_mut-2.ensures.value c.move_blocks-used.ensures) in
    let front = subst (λ k. IsFilled k c.fill.new.units 0 used true) c.deref_mut-5.ensures.value c.fill.ensures.filled in
    let back = subst (λ k. IsFilled k c.fill-2.new.units used count false) (c.deref_mut-7.ensures.value ∙ units) c.fill-2.ensures.filled in
    rw (bytes, units_now, nodes_now, places, order, room) (sound_packed r.bytes.items r.places.items new.bytes new.places used count all sized r.units.items c.fill.new.units c.fill-2.new.units r.nodes.items c.fill-2.new.nodes
    r.levels r.numbers.items r.live r.free (length r.order.items) c.self.invariant front back c.fill-2.ensures.tree)

pub returns : goal.returns
returns c =
    let r = c.self.inside in
    let new = c.move_blocks-used.new in
    let used = c.move_blocks-used.result in
    let bytes = written_back r.bytes.len new.bytes (drop (length new.bytes) r.bytes.items) (c.move_blocks-used.auto.bytes ∙ c.deref_mut-3.ensures.len) in
    let places = written_back r.places.len new.places (drop (length new.places) r.places.items) (c.move_blocks-used.auto.places ∙ c.deref_mut-2.ensures.len) in
    let units = written_back r.units.len c.fill.new.units (drop (length c.fill.new.units) r.units.items) (c.fill.auto.units ∙ c.deref_mut-5.ensures.len) in
    let count = c.len-count.result / 16 in
    let sized : length new.bytes ≡ 16 * count = omega (arith, c.self.invariant.sized, c.move_blocks-used.auto.bytes, c.deref_mut-3.ensures.len, r.bytes.ok.0, c.len-count.ensures) in
    let all = subst (λ k. IsPackedTo k r.places.items new.bytes new.places used) c.deref_mut-3.ensures.value
    (subst (λ k. IsPackedTo c.deref_mut-3.result.now k new.bytes new.places used) c.deref_mut-2.ensures.value c.move_blocks-used.ensures) in
    let front = subst (λ k. IsFilled k c.fill.new.units 0 used true) c.deref_mut-5.ensures.value c.fill.ensures.filled in
    let back = subst (λ k. IsFilled k c.fill-2.new.units used count false) (c.deref_mut-7.ensures.value ∙ units) c.fill-2.ensures.filled in
    let packed = packed_view r.bytes.items r.places.items new.bytes new.places used count all sized r.units.items c.fill.new.units c.fill-2.new.units r.nodes.items c.fill-2.new.nodes
    r.levels r.numbers.items r.live r.free (length r.order.items) c.self.invariant front back c.fill-2.ensures.tree in
    rw (← c.self.view_is) (subst (λ b. IsPacked (space_of r.bytes.items r.places.items) (space_of b (take r.places.len (new.places ++ drop (length new.places) r.places.items)))) (sym bytes)
    (subst (λ p. IsPacked (space_of r.bytes.items r.places.items) (space_of new.bytes p)) (sym places) packed))
