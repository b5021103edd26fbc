-- When a line is refused, and what is read of one.
use Rattle.std.specs.Prelude.{◌≡◌, ℕ, List, Some, Result, MatchResult}
use Rattle.type_desc.specs.Prefixes.{IsLongestBeginning}
use Rattle.session_model.specs.Commands as model
use Rattle.script_text.specs.Meaning.{meant}
use Rattle.script_text.specs.declared.command.Command.{Command}
use Rattle.script_text.specs.declared.fault.LineFault.{LineFault}
use Rattle.script_text.specs.declared.fault.LineFault.TheVariants as faults

-- the text spells a command
abbrev pub IsLine : List ℕ → Type 0
IsLine text = (command : model.Command) × (model.command_of text ≡ Some command)

-- the text spells no command, and the place is the length of its longest prefix that begins one
abbrev pub StandsAt : List ℕ → LineFault → Type 0
StandsAt text faults.NoMemory = Unit {0}
StandsAt text (faults.BadLine at) = ¬ (IsLine text) × IsLongestBeginning IsLine text at

-- the command was read, unless memory ran out
abbrev pub IsReadAs : Result Command LineFault → model.Command → Type 0
IsReadAs result command = MatchResult result (λ read. meant read ≡ command) (λ fault. fault ≡ faults.NoMemory)
