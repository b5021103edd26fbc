-- A session over a plain storage, between two lines and within one.
use Rattle.std.specs.Prelude.{◌≡◌, ◌≢◌, ◌<◌, ℕ, Bool, List, [], ◌++◌, length}
use Rattle.type_dictionary.specs.Records.{records_from}
use Rattle.session_model.specs.Answer.{State, Turn}
use Rattle.session.specs.Dealing.{AwaitsLine}
use Rattle.session_lines.specs.Stands.{IsAtState}
use Rattle.session.specs.Sessions.{SessionView as Session}
use Rattle.plain_storage.specs.Held.{IsPlainStored, PlainHeld}
use Rattle.plain_storage.specs.Images.{EachPair}
use Rattle.plain_storage.specs.Keeping.{HoldsEither, Plain, storage_of}
use Rattle.store_run.specs.Answer.{held_behind}
use Rattle.store_run.specs.Full.{IsFullFor}
use Rattle.store_run.specs.Run.{EndsLine}
use Rattle.store_run.specs.declared.stop.Stop.{Stop}
use Rattle.store_run.specs.declared.stop.Stop.TheVariants.{WriteFault, Full}

-- the session waits for a line, and stands over the storage at this state
pub record IsAt (session : Session) (plain : Plain) (state : State) : Type 0 where
  pub waits : AwaitsLine session.waiting
  pub stands : IsAtState session.memory (storage_of plain (records_from 16 state.types)) state

-- A run ends within a line, or right behind its answer. What was put is a front of its answer, of whole lines unless the sink failed. Each image holds what was held before, or what is held behind the line; where a byte was put, the latter.
pub record IsTurnCut (turn : Turn) (held : PlainHeld) (stop : Stop) (written0 written : List ℕ) (reads : ℕ → List ℕ) (leaves : ℕ → List ℕ → Bool) : Type 0 where
  pub part : List ℕ
  pub part_rest : List ℕ
  pub answer_is : turn.text ≡ part ++ part_rest
  pub answered : written ≡ written0 ++ part
  pub line_end : stop ≢ WriteFault → EndsLine part
  pub full : stop ≡ Full → (part ≡ []) × IsFullFor turn reads
  pub images : EachPair leaves (HoldsEither held (held_behind held turn))
  pub begun : 0 < length part → EachPair leaves (λ image0 image1. IsPlainStored image0 image1 (held_behind held turn))
