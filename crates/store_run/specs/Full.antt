-- What a line is to keep, where the log for it is over its limit.
use Rattle.std.specs.Prelude.{◌⊎◌, ℕ, ◌<◌, List, [], ◌∷◌, length}
use Rattle.session_model.specs.Answer.{State, Turn, turn}
use Rattle.session_lines.specs.Limits.{most_bytes}
use Rattle.plain_storage.specs.Logs.{IsOverLimit}

-- the turn makes a store, and the log of stores is over its limit
pub record IsStoreFull (turn : Turn) (reads : ℕ → List ℕ) : Type 0 where
  pub due : 0 < length turn.stores
  pub over : IsOverLimit (reads 0)

-- the turn makes the record of a type, and the log of types is over its limit
pub record IsTypeFull (turn : Turn) (reads : ℕ → List ℕ) : Type 0 where
  pub due : 0 < length turn.records
  pub over : IsOverLimit (reads 1)

-- what the turn makes cannot be kept
abbrev pub IsFullFor : Turn → (ℕ → List ℕ) → Type 0
IsFullFor turn reads = IsStoreFull turn reads ⊎ IsTypeFull turn reads

-- what the first of the lines makes cannot be kept
abbrev pub IsFullForNext : State → List (List ℕ) → (ℕ → List ℕ) → Type 0
IsFullForNext state [] reads = ⊥
IsFullForNext state (line ∷ lines) reads = IsFullFor (turn most_bytes state line) reads
