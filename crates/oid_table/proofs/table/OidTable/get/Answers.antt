-- The value stands where the key does.
use Rattle.std.proofs.Common.{ap, sym, ◌∙◌}
use Rattle.std.proofs.lemmas.Option.{get_or_from_slice_get}
use Rattle.oid_table.specs.Slots.{value_of}
use Rattle.oid_table.proofs.TableLemmas.{Holds-from_key_at, get-full}
use Rattle.oid_table.proofs.table.OidTable.get.Goals as goal

pub returns : goal.returns
returns g c =
    let slots = c.self.inside.slots.items in
    let held = Holds-from_key_at slots c.in_ok-place.place c.args.key (rw (← c.self.view_is) at c.in_ok-place.ensures.found) in
    let slot_is = c.index.ensures ∙ get_or_from_slice_get slots c.in_ok-place.place _ _ held.full in
    rw (← c.self.view_is) (c.value.ensures ∙ ap value_of slot_is ∙ sym (get-full slots c.self.invariant.reached c.in_ok-place.place c.args.key held.value held.full))
