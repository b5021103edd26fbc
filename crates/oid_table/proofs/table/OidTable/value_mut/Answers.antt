-- A write of the value leaves the key where it is.
use Rattle.std.proofs.Common.{◌≡◌, refl, sym, ap, ◌∙◌}
use Rattle.std.proofs.lemmas.Option.{get_or_from_slice_get}
use Rattle.oid_table.specs.declared.slot.Slot.TheVariants.{Full}
use Rattle.oid_table.specs.Slots.{value_of}
use Rattle.oid_table.proofs.TableLemmas.{full_at, key_at-holds, IsSound-rewrite, contents_of-rewrite, keys-rewrite, get-full, same_table}
use Rattle.oid_table.proofs.table.OidTable.value_mut.Goals as goal

pub invariant_of-self-lent : goal.invariant_of-self-lent
invariant_of-self-lent g c w =
    let slots = c.self.inside.slots.items in
    let found = full_at slots c.args.place (rw (← c.self.view_is) at c.requires) in
    let slot_is : c.index_mut.result.now ≡ Full found.0 found.1.value = c.index_mut.ensures.value ∙ get_or_from_slice_get slots c.args.place _ _ found.1.full in
    rw slot_is (IsSound-rewrite slots c.self.invariant.reached c.args.place found.0 found.1.value found.1.full w _ _ c.self.invariant)

pub returns : goal.returns
returns g c =
    let slots = c.self.inside.slots.items in
    let found = full_at slots c.args.place (rw (← c.self.view_is) at c.requires) in
    let slot_is : c.index_mut.result.now ≡ Full found.0 found.1.value = c.index_mut.ensures.value ∙ get_or_from_slice_get slots c.args.place _ _ found.1.full in
    let shown = key_at-holds slots c.args.place found.0 found.1 in
    let reached = c.self.invariant.reached in (
      (
        refl,
        λ w. rw (← c.self.view_is, slot_is, shown) (same_table _ _ _ _ _
            (contents_of-rewrite slots reached c.args.place found.0 found.1.value found.1.full w)
            (keys-rewrite slots reached c.args.place found.0 found.1.value found.1.full w)),
      ),
      record {
        writes_back = tt;
        value = rw (← c.self.view_is, shown) (get-full slots reached c.args.place found.0 found.1.value found.1.full ∙ ap value_of (sym slot_is) ∙ c.value_mut.ensures.value);
      },
    )
