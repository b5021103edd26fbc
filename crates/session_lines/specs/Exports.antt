-- How far an export has come, and what it promises of the graph whose entities it is given.
use Rattle.std.specs.Prelude.{◌≡◌, ℕ, Bool, true, false, ◌||◌, if◌then◌else◌, Option, Some, None, is_some, unwrap_or, List, [], ◌∷◌, ◌++◌, length}
use Rattle.std.specs.List.{flat_map}
use Rattle.graph_model.specs.Ids.{has, insert, rises}
use Rattle.graph_model.specs.Graph.{Graph, IsReached, edges, entity_of, has_edge, lists}
use Rattle.graph_model.specs.declared.entity.Entity.{Entity}
use Rattle.type_desc.specs.declared.desc.TypeDesc.{TypeDesc}
use Rattle.entity_form.specs.declared.value.Object.{Object}
use Rattle.lazy_refs.specs.Forms.{IsObjectOf}
use Rattle.session_model.specs.Answer.{State, Turn, export_turn, exported, reached_records}
use Rattle.session_model.specs.Sound.{IsRightGraph}
use Rattle.graph_model.specs.Served.{Storage}
use Rattle.session_lines.specs.declared.memory.Memory.{Memory}
use Rattle.session_lines.specs.Lines.{IsLine}
use Rattle.session_lines.specs.Stands.{IsAtState}
use Rattle.session_lines.specs.declared.exporting.ExportStep.{ExportStep}
use Rattle.session_lines.specs.declared.exporting.ExportStep.TheVariants as steps
use Rattle.session_lines.specs.declared.exporting.Stage.{Stage}
use Rattle.session_lines.specs.declared.exporting.Stage.TheVariants as stages

-- whether it walks or tells; the id whose entity is due; while walking the ids that were looked at, while telling those that are left; what waits; and the number of all lines
pub record Exported : Type 0 where
  pub stage : Stage
  pub asked : Option ℕ
  pub left : List ℕ
  pub waiting : List ℕ
  pub count : ℕ

-- the root is due where there is one
abbrev pub root_of : Bool → Option ℕ
root_of rooted = if rooted then Some 1 else None

abbrev pub begun : Bool → Exported
begun rooted = record { stage = stages.Walking; asked = root_of rooted; left = []; waiting = []; count = 0 }

-- the id was looked at, and what its entity names waits
abbrev pub looked : ℕ → Entity → Exported → Exported
looked id entity p = record p { asked = None; left = insert id p.left; waiting = p.waiting ++ edges entity }

abbrev pub due : Option ℕ → List ℕ
due None = []
due (Some id) = id ∷ []

-- ---- the walk

-- the root, where the graph has it
abbrev pub starts : Graph → List ℕ
starts g = due (root_of (lists g 1))

-- the starts, and the edges of what was looked at, were looked at or are open; these are reached
pub record IsWalking (g : Graph) (from seen open_ids : List ℕ) : Type 0 where
  pub starts_known : (x : ℕ) → has x from ≡ true → (has x seen || has x open_ids) ≡ true
  pub edges_known : (x y : ℕ) → has x seen ≡ true → has_edge g x y ≡ true → (has y seen || has y open_ids) ≡ true
  pub is_reached : (x : ℕ) → (has x seen || has x open_ids) ≡ true → IsReached g from x
  pub order : rises seen ≡ true

-- what is asked for was not looked at
abbrev pub IsFresh : Option ℕ → List ℕ → Type 0
IsFresh None seen = Unit {0}
IsFresh (Some id) seen = has id seen ≡ false

-- while walking, what is asked for was not looked at
abbrev pub IsUnseen : Stage → Option ℕ → List ℕ → Type 0
IsUnseen stages.Walking asked seen = IsFresh asked seen
IsUnseen stages.Telling asked seen = Unit {0}

-- ---- the lines

abbrev pub no_entity : Entity
no_entity = record { type_id = 0; refs = []; plain = [] }

-- the line of the graph's entity of an id
abbrev pub line_at : State → ℕ → List ℕ
line_at state x = exported state (record { id = x; entity = unwrap_or (entity_of state.graph x) no_entity })

-- what the root reaches
abbrev pub reached_from_root : State → Graph
reached_from_root state = reached_records state.graph (1 ∷ [])

-- behind the text the lines of the due id and of those that are left are to come
pub record IsTelling (state : State) (text : List ℕ) (p : Exported) : Type 0 where
  pub told : text ++ flat_map (line_at state) (due p.asked ++ p.left) ≡ flat_map (exported state) (reached_from_root state)
  pub count : p.count ≡ length (reached_from_root state)
  pub kept : (x : ℕ) → has x (due p.asked ++ p.left) ≡ true → lists (reached_from_root state) x ≡ true

-- ---- the export

abbrev pub IsInStage : Stage → State → List ℕ → Exported → Type 0
IsInStage stages.Walking state text p = (text ≡ []) × IsWalking state.graph (starts state.graph) p.left (p.waiting ++ due p.asked) × IsFresh p.asked p.left
IsInStage stages.Telling state text p = IsTelling state text p

-- the graph is right, and so far the text was told
pub record IsExporting (state : State) (text : List ℕ) (p : Exported) : Type 0 where
  pub graph : IsRightGraph state.types state.next_id state.graph
  pub at : IsInStage p.stage state text p

-- what is given is the entity of the due id; or none is given
abbrev pub IsGiven : Graph → Exported → Option Entity → Type 0
IsGiven g p None = Unit {0}
IsGiven g p (Some entity) = (x : ℕ) → p.asked ≡ Some x → entity_of g x ≡ Some entity

-- an id is asked for that the root reaches; or a line was told; or with the last line the text is the model's. No entity is broken.
abbrev pub IsExportStep : State → List ℕ → Exported → ExportStep → Type 0
IsExportStep state text p (steps.Look id) = (p.asked ≡ Some id) × (lists (reached_from_root state) id ≡ true) × IsExporting state text p
IsExportStep state text p (steps.Line bytes) = (p.asked ≡ None) × IsLine bytes × IsExporting state (text ++ bytes) p
IsExportStep state text p (steps.End bytes) = IsLine bytes × (text ++ bytes ≡ (export_turn state).text)
IsExportStep state text p (steps.Broken id) = ⊥

-- the bytes are the line of every entity that holds the object, by its stored type
abbrev pub IsLineOf : List TypeDesc → ℕ → Object → List ℕ → Type 0
IsLineOf types id object bytes = (state : State) (entity : Entity) → state.types ≡ types → IsObjectOf types entity object → bytes ≡ exported state (record { id = id; entity = entity })

-- an id that is asked for is the one whose entity is due
abbrev pub IsDueNext : Exported → ExportStep → Type 0
IsDueNext p (steps.Look id) = p.asked ≡ Some id
IsDueNext p step = Unit {0}

-- and no entity is broken
abbrev pub IsUnbrokenStep : Exported → ExportStep → Type 0
IsUnbrokenStep p (steps.Broken id) = ⊥
IsUnbrokenStep p step = IsDueNext p step

-- ---- the line `export`

-- the state is where the script stands, and of the answer this text was told; the rest is due, and nothing else
pub record IsTellingFor (export : Exported) (memory : Memory) (storage : Storage) (turn : Turn) : Type 0 where
  pub state : State
  pub stands : IsAtState memory storage state
  pub text : List ℕ
  pub exporting : IsExporting state text export
  pub told : text ++ turn.text ≡ (export_turn state).text
  pub records : turn.records ≡ []
  pub stores : turn.stores ≡ []
  pub housekeeping : turn.housekeeping ≡ []
  pub state_is : turn.state ≡ state

-- and the entity is that of the id that was asked for
pub record TellsEntity (export : Exported) (entity : Entity) (memory : Memory) (storage : Storage) (turn : Turn) : Type 0 where
  pub telling : IsTellingFor export memory storage turn
  pub given : IsGiven storage.graph export (Some entity)
  pub asked : is_some export.asked ≡ true

-- the line is due next, and what is due behind it is told later
pub record TellsLine (line : List ℕ) (export : Exported) (memory : Memory) (storage : Storage) (turn : Turn) : Type 0 where
  pub rest : List ℕ
  pub text : turn.text ≡ line ++ rest
  pub is_line : IsLine line
  pub telling : IsTellingFor export memory storage (record turn { text = rest })
  pub asked : export.asked ≡ None
