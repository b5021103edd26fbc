use Rattle.std.proofs.Common.{ap, ◌∙◌, ◌++◌, ◌∷◌, [], None}
use Rattle.std.proofs.lemmas.List.{replicate-append-replicate}
use Rattle.entity_region.proofs.region.no_places.Goals as goal

pub loop-number-preserved : goal.loop-number-preserved
loop-number-preserved c =
    c.in_ok-push.ensures.items ∙ ap (λ xs. xs ++ None ∷ []) c.loop-number.invariant ∙ replicate-append-replicate c.loop-number._number 1 None
