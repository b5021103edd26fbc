-- What a call leaves of what a unit tells, whether or not its disk tells what it reads.
use Rattle.std.specs.Prelude.{◌≡◌, ◌⊎◌, ◌^◌, true, None}
use Rattle.core_steps.specs.declared.unit.Ending.{Ending}
use Rattle.core_steps.specs.declared.unit.Ending.TheVariants.{Sound, Fault, Full, Broken}
use Rattle.core_steps.specs.Told.{GoesOn, Told}

-- what is so of a unit that ended so: it is failed; it is full, or its store has a number above 2^63; it does not tell
abbrev pub IsRightEnding : Ending → Told → Type 0
IsRightEnding Sound t = ⊥
IsRightEnding Fault t = t.failed ≡ true
IsRightEnding (Full number) t = (t.full ≡ true) ⊎ (number ≡ 2 ^ 63)
IsRightEnding (Broken id) t = t.part ≡ None

-- the ending is as before, or right
abbrev pub EndsRight : Told → Told → Type 0
EndsRight old new = (new.ending ≡ old.ending) ⊎ IsRightEnding new.ending new

-- what any call leaves
pub record IsTurn (old new : Told) : Type 0 where
  pub goes_on : GoesOn old new
  pub ends : EndsRight old new
