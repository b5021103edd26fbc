-- What one call of a loading leaves: with each entity that it takes it comes nearer to its end.
use Rattle.std.specs.Prelude.{◌≡◌, false, Option, Some}
use Rattle.graph_model.specs.Ids.{has, insert}
use Rattle.graph_model.specs.declared.entity.Entity.{Entity}
use Rattle.lazy_refs.specs.Walks.{Progress}
use Rattle.lazy_refs.specs.declared.step.LoadStep.{LoadStep}
use Rattle.lazy_refs.specs.declared.step.LoadStep.TheVariants as steps

-- where an entity was given and another id is asked for, the id before it is done too
abbrev pub IsDoneNext : Option Entity → Progress → Progress → LoadStep → Type 0
IsDoneNext (Some entity) old new (steps.Want id) = has old.asked old.done ≡ false → new.done ≡ insert old.asked old.done
IsDoneNext _ old new step = Unit {0}

-- what is asked for is not done
abbrev pub IsUndone : Progress → Type 0
IsUndone p = has p.asked p.done ≡ false

abbrev pub IsUndoneNext : Progress → LoadStep → Type 0
IsUndoneNext p (steps.Want id) = IsUndone p
IsUndoneNext p step = Unit {0}

-- an id that is asked for is the one whose entity the next call takes
abbrev pub IsAskedNext : Progress → LoadStep → Type 0
IsAskedNext p (steps.Want id) = p.asked ≡ id
IsAskedNext p step = Unit {0}
