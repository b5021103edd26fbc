use Rattle.std.proofs.Common.{◌≡◌, ◌+◌, ◌-◌, ◌*◌, length, take, drop, length-drop, Some, arith, refl, sym, ap, subst, ◌∙◌}
use Rattle.std.specs.Option.{option_map}
use Rattle.std.proofs.lemmas.List.{length-take}
use Rattle.entity_region.specs.Space.{block_at}
use Rattle.entity_region.specs.Sound.{place_at, placed_of, space_of}
use Rattle.entity_region.proofs.ViewLemmas.{block_view, disjoint_view, written_items}
use Rattle.entity_region.proofs.WrittenLemmas.{written_apart}
use Rattle.entity_region.proofs.region.Region.bytes_mut.Goals as goal

pub returns : goal.returns
returns c =
    let bytes = c.self.inside.bytes in
    let places = c.self.inside.places.items in
    let p = c.place_of-place.result in
    let is = subst (λ k. place_at k c.block.inside.number ≡ Some p) c.deref.ensures.value c.place_of-place.ensures in
    let shown : block_at (space_of bytes.items places) c.block.inside.number ≡ Some (placed_of p) = block_view bytes.items places c.block.inside.number ∙ ap (option_map placed_of) is in
    let inside = c.self.invariant.laid_out.inside c.block.inside.number p is in
    let sized = c.self.invariant.sized in
    let whole : 16 * p.unit + p.len - 16 * p.unit ≡ p.len = omega arith in
    let len : length (take p.len (drop (16 * p.unit) bytes.items)) ≡ p.len = simp (length-take, length-drop) (omega arith) in
    let lent = ap length (c.run_mut.ensures.value ∙ ap (λ n. take n (drop (16 * p.unit) bytes.items)) whole) ∙ len in (
      (
        refl,
        λ w. rw (← c.self.view_is, ← c.block.view_is, shown) (ap (λ k. record { memory = k; blocks = (space_of bytes.items places).blocks }) (written_items bytes.items w (16 * p.unit) bytes.len bytes.ok.0 (omega arith))),
      ),
      record {
        writes_back = tt;
        value = rw (← c.self.view_is, ← c.block.view_is, shown) (ap Some (sym (c.run_mut.ensures.value ∙ ap (λ n. take n (drop (16 * p.unit) bytes.items)) whole)));
        written = λ w same. rw (← c.self.view_is, ← c.block.view_is) (written_apart (space_of bytes.items places) c.block.inside.number (placed_of p) w
            (disjoint_view c.self.invariant.count bytes.items places sized c.self.invariant.laid_out) shown (same ∙ lent));
      },
    )
