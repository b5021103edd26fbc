-- How many replies and prints a line still takes at most.
use Rattle.std.specs.Prelude.{◌≡◌, ℕ, ◌+◌, ◌*◌, not, true, Option, Some, None, List, length}
use Rattle.std.specs.List.{filter}
use Rattle.graph_model.specs.Ids.{has}
use Rattle.graph_model.specs.Graph.{Graph, lists}
use Rattle.graph_model.specs.declared.entity.Record.{Record}
use Rattle.session_lines.specs.declared.exporting.Stage.{Stage}
use Rattle.session_lines.specs.declared.exporting.Stage.TheVariants as stages
use Rattle.session_lines.specs.declared.outcome.Outcome.{Outcome}
use Rattle.session_lines.specs.declared.outcome.Outcome.TheVariants as outcomes
use Rattle.session_lines.specs.declared.outcome.Phase.{Phase}
use Rattle.session_lines.specs.declared.outcome.Phase.TheVariants as phases
use Rattle.session_lines.specs.declared.outcome.Purpose.{Purpose}
use Rattle.session_lines.specs.declared.outcome.Purpose.TheVariants as purposes
use Rattle.session_lines.specs.declared.outcome.Waiting.{Waiting}
use Rattle.session_lines.specs.declared.outcome.Waiting.TheVariants as waits
use Rattle.session_lines.specs.Exports.{Exported, due}

-- the graph lists what is asked for, if anything is
abbrev pub IsListed : Option ℕ → Graph → Type 0
IsListed None g = Unit {0}
IsListed (Some id) g = lists g id ≡ true

-- how many entities of the graph are not among these ids
abbrev pub unseen : List ℕ → Graph → ℕ
unseen seen g = length (filter (λ (r : Record). not (has r.id seen)) g)

-- an entity is looked at once while walking, and once more to be told and printed
abbrev pub stage_steps : Stage → Exported → Graph → ℕ
stage_steps stages.Walking p g = 4 * unseen p.left g + 3 * length p.left + 1
stage_steps stages.Telling p g = 3 * length p.left + 2 * length (due p.asked) + 2

abbrev pub export_steps : Exported → Graph → ℕ
export_steps p g = stage_steps p.stage p g

abbrev pub purpose_steps : Purpose → Graph → ℕ
purpose_steps (purposes.Start command) g = 4 * length g + 4
purpose_steps (purposes.Follow new id) g = 2

abbrev pub phase_steps : Phase → Graph → ℕ
phase_steps (phases.Saying text) g = 2
phase_steps (phases.Storing count) g = 2
phase_steps phases.Collecting g = 2
phase_steps (phases.Looking loading purpose) g = unseen loading.done g + purpose_steps purpose g + 1
phase_steps (phases.Holding purpose) g = purpose_steps purpose g
phase_steps (phases.Exporting export) g = export_steps export g

abbrev pub steps_left : Waiting → Graph → ℕ
steps_left waits.ForLine g = 0
steps_left (waits.ForReply phase) g = phase_steps phase g
steps_left waits.ForPrinted g = 1
steps_left waits.GivenUp g = 0
steps_left (waits.ForNextLine export) g = export_steps export g + 1

abbrev pub outcome_steps : Outcome → Graph → ℕ
outcome_steps (outcomes.Answer text) g = 1
outcome_steps (outcomes.Ask ask phase) g = phase_steps phase g
outcome_steps (outcomes.Line text export) g = export_steps export g + 1
outcome_steps (outcomes.Broken id) g = 0

-- an answer, or an ask whose reply is answered at once
abbrev pub IsShort : Outcome → Type 0
IsShort (outcomes.Answer text) = Unit {0}
IsShort (outcomes.Ask ask (phases.Saying text)) = Unit {0}
IsShort (outcomes.Ask ask (phases.Storing count)) = Unit {0}
IsShort (outcomes.Ask ask phases.Collecting) = Unit {0}
IsShort _ = ⊥
