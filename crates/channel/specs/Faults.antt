-- What the answer of a call makes of a channel's ending, and when the channel is failed.
use Rattle.std.specs.Prelude.{◌≡◌, ℕ, Bool, true, Result, Ok, Err}
use Rattle.core_steps.specs.declared.unit.Ending.{Ending}
use Rattle.core_steps.specs.declared.unit.Ending.TheVariants as ending
use Rattle.channel.specs.declared.fault.ChannelFault.{ChannelFault}
use Rattle.channel.specs.declared.fault.ChannelFault.TheVariants.{Fault, Full, Gone, Changed}

abbrev pub ending_of : ChannelFault → Ending
ending_of Fault = ending.Fault
ending_of (Full number) = ending.Full number
ending_of (Gone id) = ending.Broken id
ending_of (Changed id) = ending.Broken id

-- the ending once a call gave this answer
abbrev pub ending_after : {A : Type 0} → Result A ChannelFault → Ending → Ending
ending_after (Ok a) before = before
ending_after (Err fault) before = ending_of fault

-- whether the channel is failed then
abbrev pub failed_with : ChannelFault → Bool → Bool
failed_with Fault before = true
failed_with (Full number) before = before
failed_with (Gone id) before = before
failed_with (Changed id) before = before

abbrev pub failed_after : {A : Type 0} → Result A ChannelFault → Bool → Bool
failed_after (Ok a) before = before
failed_after (Err fault) before = failed_with fault before

-- what holds of each answer but `Fault`
abbrev pub UnlessFault : {A : Type 0} → Result A ChannelFault → Type 0 → Type 0
UnlessFault (Ok a) P = P
UnlessFault (Err Fault) P = Unit {0}
UnlessFault (Err (Full number)) P = P
UnlessFault (Err (Gone id)) P = P
UnlessFault (Err (Changed id)) P = P

-- what a lookup of an id may be refused with
abbrev pub IsFaultOf : ℕ → ChannelFault → Type 0
IsFaultOf id Fault = Unit {0}
IsFaultOf id (Full number) = ⊥
IsFaultOf id (Gone x) = x ≡ id
IsFaultOf id (Changed x) = x ≡ id

-- and where the disk tells what it reads
abbrev pub IsGoneOrFault : ℕ → ChannelFault → Type 0
IsGoneOrFault id Fault = Unit {0}
IsGoneOrFault id (Full number) = ⊥
IsGoneOrFault id (Gone x) = x ≡ id
IsGoneOrFault id (Changed x) = ⊥

-- the refusal is `Fault`, or `Full` with this number
abbrev pub IsFaultOrFull : ℕ → ChannelFault → Type 0
IsFaultOrFull n Fault = Unit {0}
IsFaultOrFull n (Full number) = number ≡ n
IsFaultOrFull n (Gone id) = ⊥
IsFaultOrFull n (Changed id) = ⊥
