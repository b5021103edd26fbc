-- How calls of the files are refused.
use Rattle.std.specs.Prelude.{ℕ, Result, Ok, Err}
use Rattle.gated_log.specs.declared.log.AppendFault.{AppendFault}
use Rattle.gated_log.specs.declared.log.AppendFault.TheVariants as log
use Rattle.channel_files.specs.declared.fault.FilesFault.{FilesFault}
use Rattle.channel_files.specs.declared.fault.FilesFault.TheVariants as files

-- the fault of a log, as one of the files
abbrev pub fault_of : AppendFault → FilesFault
fault_of log.Fault = files.Fault
fault_of (log.Full length) = files.Full length

-- the refusal is `Fault`, or `Full` with such a number
abbrev pub IsFaultOrFull : (ℕ → Type 0) → FilesFault → Type 0
IsFaultOrFull P files.Fault = Unit {0}
IsFaultOrFull P (files.Full number) = P number
IsFaultOrFull P (files.Unconfirmed number) = ⊥
IsFaultOrFull P (files.Changed at) = ⊥

-- the refusal is `Fault`, or `Changed` with such a place
abbrev pub IsFaultOrChanged : (ℕ → Type 0) → FilesFault → Type 0
IsFaultOrChanged P files.Fault = Unit {0}
IsFaultOrChanged P (files.Full number) = ⊥
IsFaultOrChanged P (files.Unconfirmed number) = ⊥
IsFaultOrChanged P (files.Changed at) = P at

-- what holds of each answer but `Fault`
abbrev pub UnlessFault : {A : Type 0} → Result A FilesFault → Type 0 → Type 0
UnlessFault (Ok a) P = P
UnlessFault (Err files.Fault) P = Unit {0}
UnlessFault (Err (files.Full number)) P = P
UnlessFault (Err (files.Unconfirmed number)) P = P
UnlessFault (Err (files.Changed at)) P = P
