-- One more empty slot.
use Rattle.std.proofs.Common.{ap, ◌∙◌, ◌++◌, ◌∷◌, []}
use Rattle.std.proofs.lemmas.List.{replicate-append-replicate}
use Rattle.oid_table.specs.declared.slot.Slot.TheVariants.{Empty}
use Rattle.oid_table.proofs.table.empty_slots.Goals as goal

pub loop-place-preserved : goal.loop-place-preserved
loop-place-preserved g c =
    c.in_ok-push.ensures.items ∙ ap (λ xs. xs ++ Empty ∷ []) c.loop-place.invariant ∙ replicate-append-replicate c.loop-place._place 1 Empty
