-- With each entity that it takes, a loading comes nearer to its end.
use Rattle.std.proofs.Common.{◌∙◌, List, ℕ, Some, ap}
use Rattle.graph_model.specs.Ids.{has}
use Rattle.graph_model.specs.declared.entity.Entity.{Entity}
use Rattle.type_desc.specs.declared.desc.TypeDesc.{TypeDesc}
use Rattle.refactor_table.specs.declared.name.Pair.{Pair}
use Rattle.session_model.specs.Instances.{Instances}
use Rattle.lazy_refs.specs.Advances.{IsAskedNext, IsDoneNext, IsUndoneNext}
use Rattle.lazy_refs.specs.Walks.{Progress, TurnsWith}
use Rattle.lazy_refs.specs.declared.step.LoadStep.{LoadStep}
use Rattle.lazy_refs.specs.declared.step.LoadStep.TheVariants as steps

pub done_next : (types : List TypeDesc) (pairs : List Pair) (instances : Instances) (entity : Entity) (old new : Progress) (step : LoadStep)
    → TurnsWith types pairs instances entity old new step → IsDoneNext (Some entity) old new step
done_next types pairs instances entity old new (steps.Want id) t = λ fresh. t.2.turns.goes_on.done ∙ t.2.turns.takes.done fresh
done_next types pairs instances entity old new (steps.Ready all) t = tt
done_next types pairs instances entity old new (steps.NoType id) t = tt
done_next types pairs instances entity old new (steps.WrongKind id) t = tt
done_next types pairs instances entity old new (steps.Broken id) t = tt

pub asked_next : (types : List TypeDesc) (pairs : List Pair) (instances : Instances) (entity : Entity) (old new : Progress) (step : LoadStep)
    → TurnsWith types pairs instances entity old new step → IsAskedNext new step
asked_next types pairs instances entity old new (steps.Want id) t = t.2.turns.goes_on.asked
asked_next types pairs instances entity old new (steps.Ready all) t = tt
asked_next types pairs instances entity old new (steps.NoType id) t = tt
asked_next types pairs instances entity old new (steps.WrongKind id) t = tt
asked_next types pairs instances entity old new (steps.Broken id) t = tt

pub undone_next : (types : List TypeDesc) (pairs : List Pair) (instances : Instances) (entity : Entity) (old new : Progress) (step : LoadStep)
    → TurnsWith types pairs instances entity old new step → IsUndoneNext new step
undone_next types pairs instances entity old new (steps.Want id) t =
    ap (λ (done : List ℕ). has new.asked done) t.2.turns.goes_on.done ∙ (ap (λ (x : ℕ). has x t.2.turns.between.done) t.2.turns.goes_on.asked ∙ t.2.turns.goes_on.next.fresh)
undone_next types pairs instances entity old new (steps.Ready all) t = tt
undone_next types pairs instances entity old new (steps.NoType id) t = tt
undone_next types pairs instances entity old new (steps.WrongKind id) t = tt
undone_next types pairs instances entity old new (steps.Broken id) t = tt
