-- The seventeen events.
use Rattle.std.specs.Prelude.{Bool, true, false}
pub use Rattle.core_steps.specs.declared.event.Event.{Event}
pub use Rattle.core_steps.specs.declared.event.Event.TheVariants.{Reserve, Return, BeginCycle, BeginMark, MarkSome, Deliver, ReportBegun, CloseCycle, SweepSome, ReportSwept, StoreBegin, StorePart, StoreEnd, Confirm, Pin, Unpin, Tidy}
pub use Rattle.core_steps.specs.declared.event.Step.{Step}
use Rattle.core_steps.specs.declared.unit.EventKind.{EventKind}
use Rattle.core_steps.specs.declared.unit.EventKind.TheVariants as kind

abbrev pub kind_of : Event → EventKind
kind_of (Reserve n) = kind.Reserve
kind_of (Return n) = kind.Return
kind_of BeginCycle = kind.BeginCycle
kind_of BeginMark = kind.BeginMark
kind_of (MarkSome xs) = kind.MarkSome
kind_of (Deliver xs) = kind.Deliver
kind_of (ReportBegun j) = kind.ReportBegun
kind_of CloseCycle = kind.CloseCycle
kind_of (SweepSome xs) = kind.SweepSome
kind_of (ReportSwept j) = kind.ReportSwept
kind_of (StoreBegin op) = kind.StoreBegin
kind_of StorePart = kind.StorePart
kind_of StoreEnd = kind.StoreEnd
kind_of Confirm = kind.Confirm
kind_of (Pin x) = kind.Pin
kind_of (Unpin x) = kind.Unpin
kind_of Tidy = kind.Tidy

-- the event neither makes a store nor changes a pin
abbrev pub is_quiet : Event → Bool
is_quiet (StoreBegin op) = false
is_quiet StorePart = false
is_quiet StoreEnd = false
is_quiet (Pin x) = false
is_quiet (Unpin x) = false
is_quiet _ = true

-- an event that a worker may make: it is not of stores or pins, so it neither asks for nor changes the book, the pins and the confirmed numbers
abbrev pub is_worker : Event → Bool
is_worker (StoreBegin op) = false
is_worker StorePart = false
is_worker StoreEnd = false
is_worker Confirm = false
is_worker (Pin x) = false
is_worker (Unpin x) = false
is_worker _ = true
