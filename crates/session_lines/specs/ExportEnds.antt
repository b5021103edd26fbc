-- What is left of an export: its steps, and the rest of its answer.
use Rattle.std.specs.Prelude.{◌≡◌, ℕ, ◌+◌, List, [], ◌++◌}
use Rattle.graph_model.specs.Graph.{Graph}
use Rattle.graph_model.specs.Served.{Storage}
use Rattle.session_model.specs.Answer.{State, Turn, export_turn}
use Rattle.session_lines.specs.Exports.{Exported}
use Rattle.session_lines.specs.Stands.{IsAtState}
use Rattle.session_lines.specs.Steps.{export_steps}
use Rattle.session_lines.specs.declared.exporting.ExportStep.{ExportStep}
use Rattle.session_lines.specs.declared.exporting.ExportStep.TheVariants as steps
use Rattle.session_lines.specs.declared.memory.Memory.{Memory}

-- how many replies and prints come at most once this step was given
abbrev pub steps_behind : ExportStep → Exported → Graph → ℕ
steps_behind (steps.Look id) p g = export_steps p g
steps_behind (steps.Line bytes) p g = export_steps p g + 1
steps_behind (steps.End bytes) p g = 1
steps_behind (steps.Broken id) p g = 0

-- the turn is what is left of an export's answer behind this text
pub record IsRestBehind (text : List ℕ) (state : State) (memory : Memory) (storage : Storage) (turn : Turn) : Type 0 where
  pub stands : IsAtState memory storage state
  pub told : text ++ turn.text ≡ (export_turn state).text
  pub records : turn.records ≡ []
  pub stores : turn.stores ≡ []
  pub housekeeping : turn.housekeeping ≡ []
  pub state_is : turn.state ≡ state
