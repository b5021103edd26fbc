use Rattle.std.proofs.Common.{◌≡◌, ◌*◌, ◌/◌, length, map, drop, arith, ap, subst, sym, ◌∙◌}
use Rattle.std.specs.Option.{option_map}
use Rattle.entity_region.specs.Sound.{IsSound, placed_of}
use Rattle.entity_region.proofs.RegionLemmas.{written_back}
use Rattle.entity_region.proofs.NewLemmas.{shaped_tree, sound_new, none_view}
use Rattle.entity_region.proofs.region.Region.new.Goals as goal

pub fill-requires-clause-tree : goal.fill-requires-clause-tree
fill-requires-clause-tree c =
    shaped_tree _ _ _ _ _ c.shape_for-shape.ensures.fits (c.deref_mut.ensures.value ∙ c.in_ok-nodes.ensures.items_if_clones_equal (λ y same. same))
    (c.deref_mut-2.ensures.value ∙ c.in_ok-units.ensures.items_if_clones_equal (λ y same. same))

pub invariant_of-result : goal.invariant_of-result
invariant_of-result c =
    let units = written_back c.in_ok-units.units.len c.fill.new.units (drop (length c.fill.new.units) c.in_ok-units.units.items) (c.fill.auto.units ∙ c.deref_mut-2.ensures.len) in
    let nodes = written_back c.in_ok-nodes.nodes.len c.fill.new.nodes (drop (length c.fill.new.nodes) c.in_ok-nodes.nodes.items) (c.fill.auto.nodes ∙ c.deref_mut.ensures.len) in
    let before = c.deref_mut-2.ensures.value ∙ c.in_ok-units.ensures.items_if_clones_equal (λ y same. same) in
    let even = c.requires.even in
    let whole : 16 * (c.args.bytes / 16) ≡ c.args.bytes = omega arith in
    let size = sym c.in_ok-vec.field-0.ok.0 ∙ c.in_ok-vec.ensures.len in
    let sized : length c.in_ok-vec.field-0.items ≡ 16 * (c.args.bytes / 16) = omega arith in
    rw (units, nodes) (subst (λ n. IsSound c.in_ok-vec.field-0.items c.fill.new.units c.fill.new.nodes c.shape_for-shape.result.levels c.in_ok-no_places.field-0.items c.in_ok-all_numbers.field-0.items 0 n (length c.in_ok-vec-2.field-0.items)) whole
    (sound_new _ _ _ _ _ _ _ _ _ _ _ sized c.shape_for-shape.ensures.enough before c.fill.ensures.tree c.fill.ensures.filled c.in_ok-no_places.ensures c.in_ok-all_numbers.ensures (sym c.in_ok-vec-2.field-0.ok.0 ∙ c.in_ok-vec-2.ensures.len)))

pub returns-clause-none : goal.returns-clause-none
returns-clause-none c = ap (map (option_map placed_of)) c.in_ok-no_places.ensures ∙ none_view c.args.blocks
