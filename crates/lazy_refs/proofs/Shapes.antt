-- An entity that holds an object, and has the root's type where it is the root, is well-formed.
use Rattle.std.proofs.Common.{refl, List, ℕ, Some}
use Rattle.graph_model.specs.declared.entity.Entity.{Entity}
use Rattle.type_desc.specs.declared.desc.TypeDesc.{TypeDesc}
use Rattle.entity_form.specs.declared.value.Object.{Object}
use Rattle.refactor_table.specs.declared.name.Pair.{Pair}
use Rattle.session_model.specs.Instances.{Instances}
use Rattle.session_model.specs.WellFormed.{IsWellFormed}
use Rattle.lazy_refs.specs.Forms.{IsObjectAt}
use Rattle.lazy_refs.specs.Steps.{IsBrokenAtAsked}
use Rattle.lazy_refs.specs.Walks.{Progress, TurnsWith}
use Rattle.lazy_refs.specs.declared.step.LoadStep.{LoadStep}
use Rattle.lazy_refs.specs.declared.step.LoadStep.TheVariants as steps

pub well_formed : (types : List TypeDesc) (id : ℕ) (entity : Entity) (object : Object) → IsObjectAt types id entity object → IsWellFormed types id entity
well_formed types id entity object at = record { desc = at.held.desc; known = at.held.known; values = object.values; holds = at.held.holds; root = at.root }

-- a step with an entity tells whether it is well-formed
pub broken_at_asked : (types : List TypeDesc) (pairs : List Pair) (instances : Instances) (entity : Entity) (old new : Progress) (step : LoadStep)
    → TurnsWith types pairs instances entity old new step → IsBrokenAtAsked types old (Some entity) step
broken_at_asked types pairs instances entity old new (steps.Want id) t = well_formed types old.asked entity t.0 t.1
broken_at_asked types pairs instances entity old new (steps.Ready all) t = well_formed types old.asked entity t.0 t.1
broken_at_asked types pairs instances entity old new (steps.NoType id) t = well_formed types old.asked entity t.0 t.1
broken_at_asked types pairs instances entity old new (steps.WrongKind id) t = well_formed types old.asked entity t.0 t.1
broken_at_asked types pairs instances entity old new (steps.Broken id) t = t
