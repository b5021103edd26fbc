-- Each key that is popped is new, and goes where the search for it ends.
use Rattle.std.proofs.Common.{◌++◌, ◌∷◌, [], subst, ap, ◌∙◌}
use Rattle.oid_table.proofs.PourLemmas.{IsPoured, IsPoured-start, IsPoured-empty, IsPoured-full, is_new, has_room}
use Rattle.oid_table.proofs.probing.refill.Goals as goal

pub keys-init : goal.keys-init
keys-init g c = IsPoured-start _ _ c.requires.empty

pub put_new-requires-clause-empty : goal.put_new-requires-clause-empty
put_new-requires-clause-empty g c =
    let left = c.in-Some.ensures.items ∙ ap (λ s. c.pop.new.self.items ++ s ∷ []) c.in-Full.is in
    has_room _ _ _ c.in-Full.key c.in-Full.value (subst (λ xs. IsPoured c.args.old.items xs c.keys.slots) left c.keys.invariant) (rw c.keys.auto.slots c.requires.room)

pub put_new-requires-clause-new : goal.put_new-requires-clause-new
put_new-requires-clause-new g c =
    let left = c.in-Some.ensures.items ∙ ap (λ s. c.pop.new.self.items ++ s ∷ []) c.in-Full.is in
    is_new _ _ _ c.in-Full.key c.in-Full.value (subst (λ xs. IsPoured c.args.old.items xs c.keys.slots) left c.keys.invariant)

pub keys-preserved-in-Full : goal.keys-preserved-in-Full
keys-preserved-in-Full g c =
    let left = c.in-Some.ensures.items ∙ ap (λ s. c.pop.new.self.items ++ s ∷ []) c.in-Full.is in
    let put = c.put_new.ensures in
    IsPoured-full _ _ _ c.in-Full.key c.in-Full.value (subst (λ xs. IsPoured c.args.old.items xs c.keys.slots) left c.keys.invariant) c.requires.reached _ put.reached put.contents put.count

pub keys-preserved : goal.keys-preserved
keys-preserved g c =
    let left = c.in-Some.ensures.items ∙ ap (λ s. c.pop.new.self.items ++ s ∷ []) c.in_default-slot.is in
    IsPoured-empty _ _ _ (subst (λ xs. IsPoured c.args.old.items xs c.keys.slots) left c.keys.invariant)
