-- The key keeps its place and gets the value, or goes where the search for it ends.
use Rattle.std.proofs.Common.{◌≡◌, ◌<◌, Some, sym, ap, ◌∙◌, arith}
use Rattle.std.specs.Prelude.{is_some}
use Rattle.std.proofs.lemmas.Option.{get_or_from_slice_get}
use Rattle.oid_table.specs.Slots.{value_of}
use Rattle.oid_table.proofs.ContentsLemmas.{get-lacks, contents_of-set_new}
use Rattle.oid_table.proofs.TableLemmas.{HasEmpty-sound, some_places, IsSound-rewrite, IsSound-fill, contents_of-rewrite, keys-rewrite, get-full, KeepsPlaces-same, KeepsPlaces-fill}
use Rattle.oid_table.proofs.table.OidTable.insert.Goals as goal

pub search-requires-clause-reached : goal.search-requires-clause-reached
search-requires-clause-reached g c = rw c.deref.ensures.value c.self.invariant.reached

pub search-requires-clause-empty : goal.search-requires-clause-empty
search-requires-clause-empty g c =
    rw c.deref.ensures.value (HasEmpty-sound _ _ _ c.self.invariant (some_places _ _ _ c.self.invariant c.args.key (rw (← c.self.view_is) at c.requires)))

pub invariant_of-self : goal.invariant_of-self
invariant_of-self g c =
    let held = rw c.deref.ensures.value at c.in-Ok.ensures.searched in
    rw c.replace.ensures.after (IsSound-rewrite _ c.self.invariant.reached c.in-Ok.place c.args.key held.value held.full c.args.value _ _ c.self.invariant)

pub overflow_sub-self : goal.overflow_sub-self
overflow_sub-self g c =
    let free = rw c.deref.ensures.value at c.in-Err.ensures.searched in
    let room = rw (← c.self.view_is) at c.requires in
    room (ap is_some (get-lacks _ c.args.key free.1))

pub invariant_of-self-in-Err : goal.invariant_of-self-in-Err
invariant_of-self-in-Err g c =
    let free = rw c.deref.ensures.value at c.in-Err.ensures.searched in
    let room = rw (← c.self.view_is) at c.requires in
    IsSound-fill _ _ _ c.self.invariant c.in-Err.place c.args.key c.args.value free.0 free.1 (room (ap is_some (get-lacks _ c.args.key free.1)))

pub returns-in-Ok-clause-old : goal.returns-in-Ok-clause-old
returns-in-Ok-clause-old g c =
    let held = rw c.deref.ensures.value at c.in-Ok.ensures.searched in
    let slot_is = c.index_mut.ensures.value ∙ get_or_from_slice_get c.self.inside.slots.items c.in-Ok.place _ _ held.full in
    rw (← c.self.view_is) (c.into_value.ensures ∙ ap value_of (c.replace.ensures.value ∙ slot_is) ∙ sym (get-full _ c.self.invariant.reached c.in-Ok.place c.args.key held.value held.full))

pub returns-in-Ok-clause-contents : goal.returns-in-Ok-clause-contents
returns-in-Ok-clause-contents g c =
    let held = rw c.deref.ensures.value at c.in-Ok.ensures.searched in
    rw (← c.self.view_is, c.replace.ensures.after) (contents_of-rewrite _ c.self.invariant.reached c.in-Ok.place c.args.key held.value held.full c.args.value)

pub returns-in-Ok-clause-spare : goal.returns-in-Ok-clause-spare
returns-in-Ok-clause-spare g c =
    let held = rw c.deref.ensures.value at c.in-Ok.ensures.searched in
    let slot_is = c.index_mut.ensures.value ∙ get_or_from_slice_get c.self.inside.slots.items c.in-Ok.place _ _ held.full in
    let had : c.into_value.result ≡ Some held.value = c.into_value.ensures ∙ ap value_of (c.replace.ensures.value ∙ slot_is) in
    rw (← c.self.view_is, had) (omega arith)

pub returns-in-Ok-clause-places : goal.returns-in-Ok-clause-places
returns-in-Ok-clause-places g c =
    let held = rw c.deref.ensures.value at c.in-Ok.ensures.searched in
    rw (← c.self.view_is, c.replace.ensures.after) (KeepsPlaces-same _ _ (keys-rewrite _ c.self.invariant.reached c.in-Ok.place c.args.key held.value held.full c.args.value))

pub returns-in-Err-clause-old : goal.returns-in-Err-clause-old
returns-in-Err-clause-old g c =
    let free = rw c.deref.ensures.value at c.in-Err.ensures.searched in
    rw (← c.self.view_is) (sym (get-lacks _ c.args.key free.1))

pub returns-in-Err-clause-contents : goal.returns-in-Err-clause-contents
returns-in-Err-clause-contents g c =
    let free = rw c.deref.ensures.value at c.in-Err.ensures.searched in
    rw (← c.self.view_is) (contents_of-set_new _ c.in-Err.place c.args.key c.args.value free.0.empty free.1)

pub returns-in-Err-clause-spare : goal.returns-in-Err-clause-spare
returns-in-Err-clause-spare g c =
    let free = rw c.deref.ensures.value at c.in-Err.ensures.searched in
    let room = rw (← c.self.view_is) at c.requires in
    let some : 0 < c.self.inside.spare = room (ap is_some (get-lacks _ c.args.key free.1)) in
    rw (← c.self.view_is) (omega arith)

pub returns-in-Err-clause-places : goal.returns-in-Err-clause-places
returns-in-Err-clause-places g c =
    let free = rw c.deref.ensures.value at c.in-Err.ensures.searched in
    rw (← c.self.view_is) (KeepsPlaces-fill _ c.in-Err.place c.args.key c.args.value _ _ _ _ free.0.empty)

pub returns-in-Ok-clause-fits : goal.returns-in-Ok-clause-fits
returns-in-Ok-clause-fits g c =
    let held = rw c.deref.ensures.value at c.in-Ok.ensures.searched in
    let sound = IsSound-rewrite _ c.self.invariant.reached c.in-Ok.place c.args.key held.value held.full c.args.value _ _ c.self.invariant in
    let room = c.self.invariant.room in
    let ok = c.self.inside.slots.ok in
    rw (c.replace.ensures.after, sound.sized) (omega arith)

pub returns-in-Err-clause-fits : goal.returns-in-Err-clause-fits
returns-in-Err-clause-fits g c =
    let free = rw c.deref.ensures.value at c.in-Err.ensures.searched in
    let more = rw (← c.self.view_is) at c.requires in
    let some = more (ap is_some (get-lacks _ c.args.key free.1)) in
    let sound = IsSound-fill _ _ _ c.self.invariant c.in-Err.place c.args.key c.args.value free.0 free.1 some in
    let room = c.self.invariant.room in
    let ok = c.self.inside.slots.ok in
    rw sound.sized (omega arith)
