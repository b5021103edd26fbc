-- What a session is given, and what it gives: each ask may be asked, and what is printed is what is due.
use Rattle.std.specs.Prelude.{◌≡◌, ◌≤◌, ◌<◌, ℕ, Bool, List, [], ◌++◌}
use Rattle.graph_model.specs.declared.ask.Ask.{Ask}
use Rattle.graph_model.specs.declared.ask.Reply.{Reply}
use Rattle.graph_model.specs.Served.{Storage, MayAsk, Served}
use Rattle.session_model.specs.Answer.{State, Turn, turn}
use Rattle.session_lines.specs.declared.memory.Memory.{Memory}
use Rattle.session_lines.specs.declared.outcome.Waiting.{Waiting}
use Rattle.session_lines.specs.declared.outcome.Waiting.TheVariants as waits
use Rattle.session.specs.declared.session.Given.{Given}
use Rattle.session.specs.declared.session.Given.TheVariants as given
use Rattle.session.specs.Sessions.{SessionView}
use Rattle.session.specs.declared.session.SessionStep.{SessionStep as Step}
use Rattle.session.specs.declared.session.SessionStep.TheVariants as step
use Rattle.session_lines.specs.Due.{IsDue, Replied, SuitsPhase, without}
use Rattle.session_lines.specs.Exports.{IsTellingFor}
use Rattle.session_lines.specs.Limits.{most_bytes}
use Rattle.session_lines.specs.Lines.{IsLine}
use Rattle.session_lines.specs.Stands.{IsAtState}
use Rattle.session_lines.specs.Steps.{steps_left}

-- nothing is due any more, and all is at the turn's state
pub record IsDone (memory : Memory) (storage : Storage) (turn : Turn) : Type 0 where
  pub text : turn.text ≡ []
  pub records : turn.records ≡ []
  pub stores : turn.stores ≡ []
  pub housekeeping : turn.housekeeping ≡ []
  pub stands : IsAtState memory storage turn.state

-- a line comes: all of its turn is due
pub record BeginsLine (text : List ℕ) (memory : Memory) (storage : Storage) (due : Turn) : Type 0 where
  pub state : State
  pub stands : IsAtState memory storage state
  pub due_is : due ≡ turn most_bytes state text

-- what is due once the line was printed
abbrev pub AfterPrint : Waiting → Memory → Storage → Turn → Type 0
AfterPrint waits.ForPrinted memory storage due = IsDone memory storage due
AfterPrint (waits.ForNextLine export) memory storage due = IsTellingFor export memory storage due
AfterPrint _ memory storage due = ⊥

-- what is due once the reply has come
abbrev pub AfterReply : Waiting → Reply → Memory → Storage → Turn → Type 0
AfterReply (waits.ForReply phase) reply memory storage due = Replied phase reply memory storage due
AfterReply _ reply memory storage due = ⊥

-- a line may come
abbrev pub AwaitsLine : Waiting → Type 0
AwaitsLine waits.ForLine = Unit {0}
AwaitsLine _ = ⊥

-- what is given is what the session waits for, and then this is due
abbrev pub MayGive : Given → SessionView → Storage → Turn → Type 0
MayGive (given.Line text) session storage due = AwaitsLine session.waiting × BeginsLine text session.memory storage due
MayGive (given.Reply reply) session storage due = AfterReply session.waiting reply session.memory storage due
MayGive given.Printed session storage due = AfterPrint session.waiting session.memory storage due

-- what is waited for is the reply to the ask
abbrev pub AwaitsReply : Ask → Waiting → Type 0
AwaitsReply ask (waits.ForReply phase) = SuitsPhase ask phase
AwaitsReply ask _ = ⊥

-- the ask may be asked and is due; once it is served its reply may be given
pub record Asks (is_next_type : List (List ℕ) → List ℕ → Bool) (ask : Ask) (session : SessionView) (storage : Storage) (due : Turn) : Type 0 where
  pub may : MayAsk is_next_type storage ask
  pub due_next : IsDue ask due
  pub suits : AwaitsReply ask session.waiting
  pub then_ : (reply : Reply) (new : Storage) → Served storage ask reply new → AfterReply session.waiting reply session.memory new (without ask due)
  pub steady : (reply : Reply) (new : Storage) → Served storage ask reply new → steps_left session.waiting new.graph ≤ steps_left session.waiting storage.graph

-- a whole line is due next, with nothing to be stored, recorded or kept house; the rest comes once it was printed
pub record Prints (line : List ℕ) (session : SessionView) (storage : Storage) (due : Turn) : Type 0 where
  pub rest : List ℕ
  pub text : due.text ≡ line ++ rest
  pub is_line : IsLine line
  pub records : due.records ≡ []
  pub stores : due.stores ≡ []
  pub housekeeping : due.housekeeping ≡ []
  pub then_ : AfterPrint session.waiting session.memory storage (record due { text = rest })

-- what comes next of what is due. No entity is broken.
abbrev pub IsDueStep : (List (List ℕ) → List ℕ → Bool) → Step → SessionView → Storage → Turn → Type 0
IsDueStep is_next_type (step.Ask ask) session storage due = Asks is_next_type ask session storage due
IsDueStep is_next_type (step.Print line) session storage due = Prints line session storage due
IsDueStep is_next_type step.Done session storage due = AwaitsLine session.waiting × IsDone session.memory storage due
IsDueStep is_next_type (step.Broken id) session storage due = ⊥

-- behind a line, each reply and each print brings its end nearer
abbrev pub ComesNearer : Given → (before now : ℕ) → Type 0
ComesNearer (given.Line text) before now = Unit {0}
ComesNearer _ before now = now < before
