-- What a run promises.
use Rattle.std.specs.Prelude.{◌≡◌, ◌⊎◌, ℕ, ◌+◌, ◌≤◌, ◌<◌, Bool, List, [], ◌∷◌, ◌++◌, length, take}
use Rattle.graph_model.specs.declared.entity.StoreOp.{StoreOp}
use Rattle.graph_model.specs.Graph.{after}
use Rattle.type_desc.specs.declared.desc.TypeDesc.{TypeDesc}
use Rattle.plain_storage.specs.Held.{IsPlainStored, PlainHeld}
use Rattle.plain_storage.specs.Images.{AreClean, EachPair}
use Rattle.graph_model.specs.Stores.{next_after}
use Rattle.store_run.specs.Lines.{lines_of}
use Rattle.store_run.specs.Answer.{answer, answers, held_after, opened_on, state_after}
use Rattle.store_run.specs.Full.{IsFullForNext}
use Rattle.store_run.specs.declared.status.Status.{Status}
use Rattle.store_run.specs.declared.status.Status.TheVariants.{Done, WriteFault, Full}

-- the text begins with these bytes
pub record IsFrontOf (text bytes : List ℕ) : Type 0 where
  pub rest : List ℕ
  pub split : text ≡ bytes ++ rest

-- the bytes are none, or end with a line feed
abbrev pub EndsLine : List ℕ → Type 0
EndsLine bytes = (bytes ≡ []) ⊎ ((front : List ℕ) × (bytes ≡ front ++ 10 ∷ []))

-- some bytes were put in between, and P holds of them
abbrev pub Puts : (List ℕ → Type 0) → (before now : List ℕ) → Type 0
Puts P before now = (put : List ℕ) × (now ≡ before ++ put) × P put

-- What a sink got of the model's text, and what is left of the source. At the end it is all, and nothing is left. Else it is a front of whole lines, and only a fault of the sink cuts within a line.
abbrev pub IsAnswered : Status → (text before now left : List ℕ) → Type 0
IsAnswered Done text before now left = (now ≡ before ++ text) × (left ≡ [])
IsAnswered WriteFault text before now left = Puts (IsFrontOf text) before now
IsAnswered _ text before now left = Puts (λ put. IsFrontOf text put × EndsLine put) before now

-- `done` are the script's first lines, whose answers were put whole; of the answer to the line behind them a part was put, and not all
pub record AreAnswered (start : PlainHeld) (script before now : List ℕ) (done rest : List (List ℕ)) : Type 0 where
  pub lines : lines_of script ≡ done ++ rest
  pub part : List ℕ
  pub part_rest : List ℕ
  pub next_answer : answers (state_after (opened_on start) done) (take 1 rest) ≡ part ++ part_rest
  pub short : 0 < length part → 0 < length part_rest
  pub put : now ≡ before ++ (answers (opened_on start) done ++ part)

-- The images hold what the answered lines made, the types and the graph after their stores; and of the line behind them all or nothing.
pub record HoldsPrefix (start : PlainHeld) (script before now image0 image1 : List ℕ) : Type 0 where
  pub done : List (List ℕ)
  pub rest : List (List ℕ)
  pub answered : AreAnswered start script before now done rest
  pub held : IsPlainStored image0 image1 (held_after start done) ⊎ IsPlainStored image0 image1 (held_after start (done ++ take 1 rest))

-- The images hold the graph after the first `count` stores: all that are acknowledged, and at most one more.
pub record HoldsAcknowledged (start : PlainHeld) (stores : List StoreOp) (acknowledged : ℕ) (image0 image1 : List ℕ) : Type 0 where
  pub count : ℕ
  pub every_acknowledged : acknowledged ≤ count
  pub one_more : count ≤ acknowledged + 1
  pub within : count ≤ length stores
  pub types : List TypeDesc
  pub held : IsPlainStored image0 image1 (record {
    types = types;
    graph = after start.graph (take count stores);
    number = start.number + count;
    next_id = next_after start.next_id (take count stores);
  })

-- the files hold this, and a stop leaves nothing else of them
pub record IsCleanWith (start : PlainHeld) (reads : ℕ → List ℕ) (leaves : ℕ → List ℕ → Bool) : Type 0 where
  pub stored : IsPlainStored (reads 0) (reads 1) start
  pub clean : AreClean reads leaves

-- the line behind those that were answered is to store or to record a type, and the log for it is over its limit
pub record IsDue (start : PlainHeld) (script before now : List ℕ) (reads : ℕ → List ℕ) : Type 0 where
  pub done : List (List ℕ)
  pub rest : List (List ℕ)
  pub answered : AreAnswered start script before now done rest
  pub full : IsFullForNext (state_after (opened_on start) done) rest reads

-- what a run over this start promises, whatever its status
pub record IsRun (start : PlainHeld) (status : Status) (script left before now : List ℕ) (reads : ℕ → List ℕ) (leaves : ℕ → List ℕ → Bool) : Type 0 where
  pub answered : IsAnswered status (answer start script).bytes before now left
  pub prefix : EachPair leaves (HoldsPrefix start script before now)
  pub all_stored : status ≡ Done → EachPair leaves (λ image0 image1. IsPlainStored image0 image1 (held_after start (lines_of script)))
  pub due : status ≡ Full → IsDue start script before now reads
