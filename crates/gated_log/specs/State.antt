-- An opening and a log, as contracts see them.
use Rattle.std.specs.Prelude.{ℕ, Bool, List}

-- a log that is read to be opened
pub record OpeningState : Type 0 where
  pub file : ℕ
  pub header : List ℕ
  -- the length of the file
  pub len : ℕ
  -- the place of the next gate
  pub at : ℕ
  -- the payloads passed
  pub count : ℕ
  -- that gate is known to be not open
  pub ended : Bool

-- a log that is open
pub record LogState : Type 0 where
  pub file : ℕ
  pub header : List ℕ
  -- the place behind the last gate reached
  pub length : ℕ
  -- the payloads
  pub count : ℕ
