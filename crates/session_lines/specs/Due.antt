-- What is still due of a line: a turn of the model, of which the answers, the records, the stores and the housekeeping are taken away one after another.
use Rattle.std.specs.Prelude.{◌≡◌, ℕ, Bool, Some, List, [], ◌∷◌, ◌++◌, length, codes}
use Rattle.std.specs.Fmt.{decimal}
use Rattle.graph_model.specs.declared.ask.Ask.{Ask}
use Rattle.graph_model.specs.declared.ask.Ask.TheVariants as asks
use Rattle.graph_model.specs.declared.ask.Reply.{Reply}
use Rattle.graph_model.specs.declared.ask.Reply.TheVariants as replies
use Rattle.graph_model.specs.Served.{Storage, MayAsk, Served}
use Rattle.session_model.specs.Answer.{Turn, Collecting, Tidying}
use Rattle.session_lines.specs.declared.memory.Memory.{Memory}
use Rattle.session_lines.specs.declared.outcome.Outcome.{Outcome}
use Rattle.session_lines.specs.declared.outcome.Outcome.TheVariants as outcomes
use Rattle.session_lines.specs.declared.outcome.Phase.{Phase}
use Rattle.session_lines.specs.declared.outcome.Phase.TheVariants as phases
use Rattle.session_lines.specs.Exports.{TellsEntity, TellsLine}
use Rattle.session_lines.specs.Lines.{IsLine}
use Rattle.session_lines.specs.Loads.{ComesAfterLoading, TakesEntity}
use Rattle.session_lines.specs.Stands.{IsAtState}

abbrev pub rest_of : {A : Type 0} → List A → List A
rest_of [] = []
rest_of (x ∷ xs) = xs

-- the turn once this was asked: a store, a type record and housekeeping are due no more
abbrev pub without : Ask → Turn → Turn
without (asks.Store op) turn = record turn { stores = rest_of turn.stores }
without (asks.KeepType bytes) turn = record turn { records = rest_of turn.records }
without (asks.Look x) turn = turn
without (asks.Hold xs) turn = turn
without (asks.Release xs) turn = turn
without asks.Collect turn = record turn { housekeeping = rest_of turn.housekeeping }
without asks.Tidy turn = record turn { housekeeping = rest_of turn.housekeeping }

-- what is asked is what is due next: of the stores, the type records and the housekeeping, the first
abbrev pub IsDue : Ask → Turn → Type 0
IsDue (asks.Store op) turn = turn.stores ≡ op ∷ rest_of turn.stores
IsDue (asks.KeepType bytes) turn = turn.records ≡ bytes ∷ rest_of turn.records
IsDue (asks.Look x) turn = Unit {0}
IsDue (asks.Hold xs) turn = Unit {0}
IsDue (asks.Release xs) turn = Unit {0}
IsDue asks.Collect turn = turn.housekeeping ≡ Collecting ∷ rest_of turn.housekeeping
IsDue asks.Tidy turn = turn.housekeeping ≡ Tidying ∷ rest_of turn.housekeeping

-- nothing is due but this text, and all else is at the turn's state
pub record Answers (text : List ℕ) (memory : Memory) (storage : Storage) (turn : Turn) : Type 0 where
  pub text_is : turn.text ≡ text
  pub line : IsLine text
  pub records : turn.records ≡ []
  pub stores : turn.stores ≡ []
  pub housekeeping : turn.housekeeping ≡ []
  pub stands : IsAtState memory storage turn.state

-- the answer to a store of so many records
abbrev pub stored_text : ℕ → ℕ → List ℕ
stored_text number count = (codes "stored " ++ (decimal number ++ (32 ∷ decimal count))) ++ 10 ∷ []

abbrev pub kept_text : ℕ → List ℕ
kept_text count = (codes "kept " ++ decimal count) ++ 10 ∷ []

-- what is due once the reply has come
abbrev pub Replied : Phase → Reply → Memory → Storage → Turn → Type 0
Replied (phases.Saying text) reply memory storage turn = Answers text memory storage turn
Replied (phases.Storing count) (replies.Stored number) memory storage turn = Answers (stored_text number count) memory storage turn
Replied phases.Collecting (replies.Count count) memory storage turn = Answers (kept_text count) memory storage turn
Replied (phases.Looking loading purpose) (replies.Found entity) memory storage turn = TakesEntity purpose loading entity memory storage turn
Replied (phases.Holding purpose) replies.Held memory storage turn = ComesAfterLoading purpose memory storage turn
Replied (phases.Exporting export) (replies.Found entity) memory storage turn = TellsEntity export entity memory storage turn
Replied _ _ memory storage turn = ⊥

-- the ask is one of those whose reply the phase takes
abbrev pub SuitsPhase : Ask → Phase → Type 0
SuitsPhase (asks.Look x) (phases.Looking loading purpose) = loading.asked ≡ x
SuitsPhase (asks.Look x) (phases.Exporting export) = export.asked ≡ Some x
SuitsPhase (asks.Hold xs) (phases.Holding purpose) = Unit {0}
SuitsPhase (asks.Release xs) (phases.Saying text) = Unit {0}
SuitsPhase (asks.Store op) (phases.Storing count) = count ≡ length op.records
SuitsPhase (asks.KeepType bytes) (phases.Saying text) = Unit {0}
SuitsPhase asks.Collect phases.Collecting = Unit {0}
SuitsPhase asks.Tidy (phases.Saying text) = Unit {0}
SuitsPhase _ _ = ⊥

-- an ask that may be asked and is due; and what is due after it once it is served
pub record Awaits (is_next_type : List (List ℕ) → List ℕ → Bool) (ask : Ask) (phase : Phase) (memory : Memory) (storage : Storage) (turn : Turn) : Type 0 where
  pub may : MayAsk is_next_type storage ask
  pub due : IsDue ask turn
  pub suits : SuitsPhase ask phase
  pub then_ : (reply : Reply) (new : Storage) → Served storage ask reply new → Replied phase reply memory new (without ask turn)

-- what a command comes to is what is due
abbrev pub Meets : (List (List ℕ) → List ℕ → Bool) → Outcome → Memory → Storage → Turn → Type 0
Meets is_next_type (outcomes.Answer text) memory storage turn = Answers text memory storage turn
Meets is_next_type (outcomes.Ask ask phase) memory storage turn = Awaits is_next_type ask phase memory storage turn
Meets is_next_type (outcomes.Line text export) memory storage turn = TellsLine text export memory storage turn
Meets is_next_type (outcomes.Broken id) memory storage turn = ⊥
