-- The key's slot is emptied, and the gap is closed.
use Rattle.std.proofs.Common.{◌≡◌, length, set, drop, count_by, sym, ap, ◌∙◌, arith, length-set}
use Rattle.std.proofs.lemmas.Option.{get_or_from_slice_get}
use Rattle.oid_table.specs.MapLaws.{remove-absent}
use Rattle.oid_table.specs.declared.slot.Slot.TheVariants.{Empty}
use Rattle.oid_table.specs.Slots.{value_of, contents_of, is_full}
use Rattle.oid_table.proofs.TableLemmas.{Holds-from_key_at, gap_is_empty, IsReachedBut-take, HasOtherEmpty-take, IsSound-take, contents_of-taken, get-full, written_back}
use Rattle.oid_table.proofs.table.OidTable.remove.Goals as goal

pub returns-in_err-place-clause-contents : goal.returns-in_err-place-clause-contents
returns-in_err-place-clause-contents g c = sym (remove-absent _ c.args.key c.in_err-place.ensures.absent)

pub close_gap-requires-clause-gap : goal.close_gap-requires-clause-gap
close_gap-requires-clause-gap g c =
    let held = Holds-from_key_at _ c.in_ok-place.place c.args.key (rw (← c.self.view_is) at c.in_ok-place.ensures.found) in
    rw (c.deref_mut.ensures.value, c.replace-removed.ensures.after) (gap_is_empty _ _ _ c.self.invariant c.in_ok-place.place c.args.key held.value held.full)

pub close_gap-requires-clause-reached : goal.close_gap-requires-clause-reached
close_gap-requires-clause-reached g c =
    let held = Holds-from_key_at _ c.in_ok-place.place c.args.key (rw (← c.self.view_is) at c.in_ok-place.ensures.found) in
    rw (c.deref_mut.ensures.value, c.replace-removed.ensures.after) (IsReachedBut-take _ _ _ c.self.invariant c.in_ok-place.place c.args.key held.value held.full)

pub close_gap-requires-clause-other : goal.close_gap-requires-clause-other
close_gap-requires-clause-other g c =
    let held = Holds-from_key_at _ c.in_ok-place.place c.args.key (rw (← c.self.view_is) at c.in_ok-place.ensures.found) in
    rw (c.deref_mut.ensures.value, c.replace-removed.ensures.after) (HasOtherEmpty-take _ _ _ c.self.invariant c.in_ok-place.place c.args.key held.value held.full)

pub invariant_of-self : goal.invariant_of-self
invariant_of-self g c =
    let slots = c.self.inside.slots.items in
    let held = Holds-from_key_at _ c.in_ok-place.place c.args.key (rw (← c.self.view_is) at c.in_ok-place.ensures.found) in
    let taken = c.deref_mut.ensures.value ∙ ap (set slots c.in_ok-place.place) c.replace-removed.ensures.after in
    let ok = c.self.inside.slots.ok in
    let same : length c.close_gap.new.slots ≡ length slots = c.close_gap.auto.slots ∙ ap length taken ∙ length-set slots c.in_ok-place.place Empty in
    let rest = drop (length c.close_gap.new.slots) (set slots c.in_ok-place.place c.replace-removed.new.dest) in
    let whole = written_back c.self.inside.slots.len c.close_gap.new.slots rest (omega arith) in
    let contents = c.close_gap.ensures.contents ∙ ap contents_of taken in
    let count = c.close_gap.ensures.count ∙ ap (count_by is_full) taken in
    rw whole (IsSound-take slots _ _ c.self.invariant c.in_ok-place.place c.args.key held.value held.full c.close_gap.new.slots c.close_gap.ensures.reached contents count same)

pub returns-clause-removed : goal.returns-clause-removed
returns-clause-removed g c =
    let held = Holds-from_key_at _ c.in_ok-place.place c.args.key (rw (← c.self.view_is) at c.in_ok-place.ensures.found) in
    let slot_is = c.index_mut.ensures.value ∙ get_or_from_slice_get c.self.inside.slots.items c.in_ok-place.place _ _ held.full in
    rw (← c.self.view_is) (c.into_value.ensures ∙ ap value_of (c.replace-removed.ensures.value ∙ slot_is) ∙ sym (get-full _ c.self.invariant.reached c.in_ok-place.place c.args.key held.value held.full))

pub returns-clause-contents : goal.returns-clause-contents
returns-clause-contents g c =
    let slots = c.self.inside.slots.items in
    let held = Holds-from_key_at _ c.in_ok-place.place c.args.key (rw (← c.self.view_is) at c.in_ok-place.ensures.found) in
    let taken = c.deref_mut.ensures.value ∙ ap (set slots c.in_ok-place.place) c.replace-removed.ensures.after in
    let ok = c.self.inside.slots.ok in
    let same : length c.close_gap.new.slots ≡ length slots = c.close_gap.auto.slots ∙ ap length taken ∙ length-set slots c.in_ok-place.place Empty in
    let rest = drop (length c.close_gap.new.slots) (set slots c.in_ok-place.place c.replace-removed.new.dest) in
    let whole = written_back c.self.inside.slots.len c.close_gap.new.slots rest (omega arith) in
    let contents = c.close_gap.ensures.contents ∙ ap contents_of taken in
    rw (← c.self.view_is, whole) (contents ∙ contents_of-taken slots c.self.invariant.reached c.in_ok-place.place c.args.key held.value held.full)
