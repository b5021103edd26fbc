-- Within a line: what of its turn is done, and what is due, over a storage that keeps it.
use Rattle.std.specs.Prelude.{◌≡◌, ◌≤◌, ◌⊎◌, ℕ, Bool, true, IsTrue, Option, Some, None, List, [], ◌∷◌, ◌++◌}
use Rattle.graph_model.specs.declared.entity.StoreOp.{StoreOp}
use Rattle.graph_model.specs.Graph.{put_all}
use Rattle.graph_model.specs.Served.{Storage}
use Rattle.graph_model.specs.Stores.{total_size}
use Rattle.type_desc.specs.declared.desc.TypeDesc.{TypeDesc}
use Rattle.type_dictionary.specs.Records.{IsNextRecord, records_from}
use Rattle.session_model.specs.Answer.{Turn}
use Rattle.session.specs.Dealing.{AwaitsLine, IsDone, MayGive}
use Rattle.session.specs.declared.session.Given.{Given}
use Rattle.session.specs.declared.session.Given.TheVariants as given
use Rattle.session.specs.Sessions.{SessionView as Session}
use Rattle.session.specs.declared.session.SessionStep.{SessionStep as Step}
use Rattle.session.specs.declared.session.SessionStep.TheVariants as step
use Rattle.plain_storage.specs.Held.{IsSoundGraph, PlainHeld}
use Rattle.plain_storage.specs.Keeping.{Keeps, MayServe, Plain, held_in, storage_of}
use Rattle.store_run.specs.Answer.{held_behind}
use Rattle.store_run.specs.Run.{EndsLine}

-- ---- what a line makes

pub record MakesNothing (held : PlainHeld) (turn : Turn) : Type 0 where
  pub records : turn.records ≡ []
  pub stores : turn.stores ≡ []
  pub types : turn.state.types ≡ held.types

-- the record of one more type
pub record MakesType (held : PlainHeld) (turn : Turn) : Type 0 where
  pub text : List ℕ
  pub desc : TypeDesc
  pub next : IsNextRecord held.types text desc
  pub records : turn.records ≡ text ∷ []
  pub stores : turn.stores ≡ []
  pub types : turn.state.types ≡ held.types ++ desc ∷ []

-- one store, which is one payload and leaves a sound graph
pub record MakesStore (held : PlainHeld) (turn : Turn) : Type 0 where
  pub op : StoreOp
  pub records : turn.records ≡ []
  pub stores : turn.stores ≡ op ∷ []
  pub types : turn.state.types ≡ held.types
  pub fits : total_size op.records ≤ 1048560
  pub sound : IsSoundGraph held.types (put_all op.records held.graph)

-- a line makes at most one record or one store, and never both
abbrev pub MakesOne : PlainHeld → Turn → Type 0
MakesOne held turn = MakesNothing held turn ⊎ (MakesType held turn ⊎ MakesStore held turn)

-- ---- what is done of it

-- a line's turn, what is held before it, and what was written before it
pub record LineBegun : Type 0 where
  pub turn : Turn
  pub held : PlainHeld
  pub written : List ℕ

-- nothing is done yet: all is due, and what is held is what was held
pub record IsBefore (line : LineBegun) (due : Turn) (put : List ℕ) (held : PlainHeld) : Type 0 where
  pub put_none : put ≡ []
  pub records : due.records ≡ line.turn.records
  pub stores : due.stores ≡ line.turn.stores
  pub held_is : held ≡ line.held

-- what the line makes is made, and held
pub record IsBehind (line : LineBegun) (due : Turn) (held : PlainHeld) : Type 0 where
  pub records : due.records ≡ []
  pub stores : due.stores ≡ []
  pub held_is : held ≡ held_behind line.held line.turn

-- Of the line's turn this was put, in whole lines, and the rest is due. The session stands as `Stands` says over the storage with these types.
-- The disk, if it is `kept`, keeps what is in memory, and the sink, if it is `told`, has what was put.
pub record IsWithin (told kept : Bool) (line : LineBegun) (Stands : Storage → Turn → Type 0) (plain : Plain) (reads : ℕ → List ℕ) (written : List ℕ) : Type 0 where
  pub types : List TypeDesc
  pub due : Turn
  pub put : List ℕ
  pub stands : Stands (storage_of plain (records_from 16 types)) due
  pub makes : MakesOne line.held line.turn
  pub text : line.turn.text ≡ put ++ due.text
  pub state : due.state ≡ line.turn.state
  pub whole : EndsLine put
  pub stage : IsBefore line due put (held_in plain types) ⊎ IsBehind line due (held_in plain types)
  pub keeps : IsTrue kept → Keeps plain types reads
  pub wrote : IsTrue told → written ≡ line.written ++ put

-- ---- from step to step

-- each record of a type may come next; that it is the right one is known of what is due
abbrev pub any_record : List (List ℕ) → List ℕ → Bool
any_record types text = true

-- what is due stands behind what is given, or nothing is due and a line is awaited
abbrev pub StandsFor : Option Given → Session → Storage → Turn → Type 0
StandsFor (Some given) session storage due = MayGive given session storage due
StandsFor None session storage due = AwaitsLine session.waiting × IsDone session.memory storage due

-- what comes next can be carried out
abbrev pub MayCarry : Plain → Step → Type 0
MayCarry plain (step.Ask ask) = MayServe plain ask
MayCarry plain (step.Print line) = Unit {0}
MayCarry plain step.Done = Unit {0}
MayCarry plain (step.Broken id) = ⊥

-- what is given within a line is no line
abbrev pub IsNoLine : Option Given → Type 0
IsNoLine (Some (given.Line text)) = ⊥
IsNoLine (Some (given.Reply reply)) = Unit {0}
IsNoLine (Some given.Printed) = Unit {0}
IsNoLine None = Unit {0}
