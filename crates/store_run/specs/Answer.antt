-- What a script is answered over what a disk holds, and what the disk holds behind it. No file is known here.
use Rattle.std.specs.Prelude.{ℕ, ◌+◌, List, [], ◌∷◌, length}
use Rattle.graph_model.specs.declared.entity.StoreOp.{StoreOp}
use Rattle.graph_model.specs.Graph.{after}
use Rattle.session_model.specs.Answer.{Answer, State, Turn, answer_from, opened, turn}
use Rattle.session_lines.specs.Limits.{most_bytes}
use Rattle.plain_storage.specs.Held.{PlainHeld}
use Rattle.graph_model.specs.Stores.{next_after}
use Rattle.store_run.specs.Lines.{lines_of}

-- where a script begins over what is held
abbrev pub opened_on : PlainHeld → State
opened_on held = opened held.types held.graph held.number held.next_id

-- what a script is answered, and the records and stores that it makes
abbrev pub answer : PlainHeld → List ℕ → Answer
answer start script = answer_from most_bytes (opened_on start) (lines_of script)

-- the state behind lines
abbrev pub state_after : State → List (List ℕ) → State
state_after state [] = state
state_after state (line ∷ lines) = state_after (turn most_bytes state line).state lines

abbrev pub answers : State → List (List ℕ) → List ℕ
answers state lines = (answer_from most_bytes state lines).bytes

abbrev pub stores_of : State → List (List ℕ) → List StoreOp
stores_of state lines = (answer_from most_bytes state lines).stores

abbrev pub records_of : State → List (List ℕ) → List (List ℕ)
records_of state lines = (answer_from most_bytes state lines).records

-- what is held after these stores, with the types of a state
abbrev pub held_with : PlainHeld → State → List StoreOp → PlainHeld
held_with held state stores = record {
  types = state.types;
  graph = after held.graph stores;
  number = held.number + length stores;
  next_id = next_after held.next_id stores;
}

-- what is held behind a line's turn
abbrev pub held_behind : PlainHeld → Turn → PlainHeld
held_behind held turn = held_with held turn.state turn.stores

-- what is held behind lines: the types that they leave, and the graph after their stores
abbrev pub held_after : PlainHeld → List (List ℕ) → PlainHeld
held_after start lines = held_with start (state_after (opened_on start) lines) (stores_of (opened_on start) lines)
