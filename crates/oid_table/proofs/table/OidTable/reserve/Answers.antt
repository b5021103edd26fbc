-- The new slots hold what the old ones held, and a quarter of them stays empty.
use Rattle.std.proofs.Common.{◌≡◌, ◌≤◌, ◌+◌, ◌-◌, ◌/◌, length, drop, count_by, ap, ◌∙◌, arith}
use Rattle.std.proofs.lemmas.List.{length-replicate}
use Rattle.oid_table.specs.declared.slot.Slot.TheVariants.{Empty}
use Rattle.oid_table.specs.Slots.{contents_of, is_full}
use Rattle.oid_table.proofs.TableLemmas.{IsSound-refill, IfSome-from_ok, written_back}
use Rattle.oid_table.proofs.table.OidTable.reserve.Goals as goal

pub refill-requires-clause-reached : goal.refill-requires-clause-reached
refill-requires-clause-reached g c = rw c.replace-old.ensures.value c.self.invariant.reached

pub invariant_of-self : goal.invariant_of-self
invariant_of-self g c =
    let enough = IfSome-from_ok (λ places. c.self.inside.len + c.args.n ≤ places - places / 4) c.places_for.result _ c.in_ok-places.places c.in_ok-places.ensures.value c.places_for.ensures.enough in
    let several = IfSome-from_ok (λ places. 8 ≤ places) c.places_for.result _ c.in_ok-places.places c.in_ok-places.ensures.value c.places_for.ensures.several in
    let blank = c.replace-old.ensures.after in
    let new = c.replace-old.new.dest in
    let ok = new.ok in
    let filled = c.in_ok-slots.ensures in
    let size : length c.refill.new.slots ≡ c.in_ok-places.places =
    c.refill.auto.slots ∙ ap length c.deref_mut.ensures.value ∙ ap (λ v. length v.items) blank ∙ ap length filled ∙ length-replicate c.in_ok-places.places Empty in
    let same : length c.refill.new.slots ≡ length new.items = c.refill.auto.slots ∙ ap length c.deref_mut.ensures.value in
    let rest = drop (length c.refill.new.slots) new.items in
    let whole = written_back new.len c.refill.new.slots rest (omega arith) in
    let contents = c.refill.ensures.contents ∙ ap (λ v. contents_of v.items) c.replace-old.ensures.value in
    let count = c.refill.ensures.count ∙ ap (λ v. count_by is_full v.items) c.replace-old.ensures.value in
    rw (whole, c.capacity.ensures) (IsSound-refill _ _ _ _ c.in_ok-places.places c.self.invariant c.refill.ensures.reached contents count size several (omega arith))
