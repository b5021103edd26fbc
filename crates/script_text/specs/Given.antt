-- What the rest of a `set` line is as a number.
use Rattle.std.specs.Prelude.{◌≡◌, ℕ, ℤ, false, List, ◌++◌, Option, Some, None, option_map}
use Rattle.session_model.specs.Answer.{is_in_range}
use Rattle.script_text.specs.declared.given.GivenInteger.{GivenInteger}
use Rattle.script_text.specs.declared.given.GivenInteger.TheVariants.{Fits, Misfits, OutOfRange}

-- the number is told where it is in range; else that there is none, or that it is out of range
abbrev pub TellsInteger : GivenInteger → Option ℤ → Type 0
TellsInteger (Fits n) given = given ≡ Some n
TellsInteger Misfits given = given ≡ None
TellsInteger OutOfRange given = (z : ℤ) × (given ≡ Some z) × (is_in_range z ≡ false)

-- what was read before, and what is read of the rest
abbrev pub with_front : List ℕ → Option (List ℕ) → Option (List ℕ)
with_front front bytes = option_map (λ more. front ++ more) bytes
