-- Where an entity is given that is not well-formed.
use Rattle.std.specs.Prelude.{◌≡◌, ℕ, Option, Some, None, List}
use Rattle.graph_model.specs.declared.ask.Reply.{Reply}
use Rattle.graph_model.specs.declared.ask.Reply.TheVariants as replies
use Rattle.graph_model.specs.declared.entity.Entity.{Entity}
use Rattle.type_desc.specs.declared.desc.TypeDesc.{TypeDesc}
use Rattle.session_model.specs.WellFormed.{IsWellFormed}
use Rattle.lazy_refs.specs.declared.step.LoadStep.{LoadStep}
use Rattle.lazy_refs.specs.declared.step.LoadStep.TheVariants as load_steps
use Rattle.session_lines.specs.declared.exporting.ExportStep.{ExportStep}
use Rattle.session_lines.specs.declared.exporting.ExportStep.TheVariants as export_steps
use Rattle.session_lines.specs.declared.outcome.Outcome.{Outcome}
use Rattle.session_lines.specs.declared.outcome.Outcome.TheVariants as outcomes
use Rattle.session_lines.specs.declared.outcome.Phase.{Phase}
use Rattle.session_lines.specs.declared.outcome.Phase.TheVariants as phases
use Rattle.session_lines.specs.declared.outcome.Waiting.{Waiting}
use Rattle.session_lines.specs.declared.outcome.Waiting.TheVariants as waits

-- an entity that is given, and the id that was asked for
pub record Taken : Type 0 where
  pub id : ℕ
  pub entity : Entity

abbrev pub taken_for : Option ℕ → Option Entity → Option Taken
taken_for (Some id) (Some entity) = Some (record { id = id; entity = entity })
taken_for _ _ = None

-- the taken id is broken exactly where its entity is not well-formed; and no other id is
abbrev pub IsBrokenAt : List TypeDesc → Option Taken → (broken : Option ℕ) → Type 0
IsBrokenAt types None None = Unit {0}
IsBrokenAt types None (Some id) = ⊥
IsBrokenAt types (Some taken) None = IsWellFormed types taken.id taken.entity
IsBrokenAt types (Some taken) (Some id) = (id ≡ taken.id) × ¬ (IsWellFormed types taken.id taken.entity)

-- ---- the id that is told as broken

abbrev pub broken_by_export : ExportStep → Option ℕ
broken_by_export (export_steps.Broken id) = Some id
broken_by_export _ = None

abbrev pub broken_by_loading : LoadStep → Option ℕ
broken_by_loading (load_steps.Broken id) = Some id
broken_by_loading _ = None

abbrev pub broken_by : Outcome → Option ℕ
broken_by (outcomes.Broken id) = Some id
broken_by _ = None

-- ---- the id that was asked for, and what is given for it

abbrev pub asked_in : Phase → Option ℕ
asked_in (phases.Looking loading purpose) = Some loading.asked
asked_in (phases.Exporting export) = export.asked
asked_in _ = None

-- what is looked up while this is waited for
abbrev pub looked_up : Waiting → Option ℕ
looked_up (waits.ForReply phase) = asked_in phase
looked_up _ = None

abbrev pub entity_in : Reply → Option Entity
entity_in (replies.Found entity) = Some entity
entity_in _ = None
