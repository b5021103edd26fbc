-- What is due on a unit for a hand, which no worker passes over.
use Rattle.std.specs.Prelude.{◌≡◌, ◌≢◌, ◌⊎◌, ℕ, ◌+◌, ◌<◌, ◌≤◌, ◌^◌, true, is_some, Option, Some, None, [], ◌∷◌, length}
use Rattle.graph_model.specs.declared.entity.Entity.{Entity}
use Rattle.graph_model.specs.Ids.{has}
use Rattle.graph_model.specs.Graph.{entity_of}
use Rattle.core_steps.specs.declared.event.Event.{Event}
use Rattle.core_steps.specs.declared.event.Event.TheVariants.{BeginCycle, BeginMark, CloseCycle, Deliver, MarkSome, ReportBegun, ReportSwept, SweepSome}
use Rattle.core_steps.specs.declared.state.CoreChannel.{CoreChannel}
use Rattle.core_steps.specs.declared.unit.Ending.{Ending}
use Rattle.core_steps.specs.declared.unit.Ending.TheVariants.{Sound, Fault, Full, Broken}
use Rattle.core_steps.specs.Core.{Hand}
use Rattle.core_steps.specs.declared.state.Place.{Place}
use Rattle.core_steps.specs.Rows.{Part, Channel, Monitor, part_step}
use Rattle.core_steps.specs.Told.{Told}

abbrev pub references_of : Option Entity → ℕ
references_of None = 0
references_of (Some e) = length e.refs

-- credit and batch of the hand have room for the references of each grey id
abbrev pub HasRoom : CoreChannel → Hand → Type 0
HasRoom c h = (x : ℕ) → has x c.grey ≡ true → (references_of (entity_of c.table x) ≤ h.credit) × (length h.transit + references_of (entity_of c.table x) ≤ 131072)

-- what a worker may not leave undone where it is allowed: reports, closing, opening a cycle of a number up to 2^63, delivering an id, beginning to
-- mark, sweeping, and marking an id where there is room for any
abbrev pub IsWanted : Part → Hand → Event → Type 0
IsWanted (Monitor m) h (ReportBegun j) = Unit {0}
IsWanted (Monitor m) h (ReportSwept j) = Unit {0}
IsWanted (Monitor m) h CloseCycle = Unit {0}
IsWanted (Monitor m) h BeginCycle = m.cycle < 2 ^ 63
IsWanted (Channel c) h (Deliver xs) = xs ≢ []
IsWanted (Channel c) h BeginMark = Unit {0}
IsWanted (Channel c) h (SweepSome xs) = Unit {0}
IsWanted (Channel c) h (MarkSome xs) = (x : ℕ) × (xs ≡ x ∷ []) × HasRoom c h
IsWanted q h e = ⊥

-- the event is due: wanted, and allowed
abbrev pub IsDue : Place → Part → Hand → Event → Type 0
IsDue p q h e = IsWanted q h e × (is_some (part_step p q h e) ≡ true)

-- the unit takes no more events
abbrev pub IsOver : Ending → Type 0
IsOver Sound = ⊥
IsOver Fault = Unit {0}
IsOver (Full n) = Unit {0}
IsOver (Broken x) = ⊥

-- nothing is due on the unit for the hand
abbrev pub NothingIsDue : Place → Told → Hand → Type 0
NothingIsDue p t h = IsOver t.ending ⊎ ((q : Part) (e : Event) → t.part ≡ Some q → IsDue p q h e → ⊥)

-- a worker begins no cycle of a number above 2^63
abbrev pub IsEarly : Part → Event → Type 0
IsEarly (Monitor m) BeginCycle = m.cycle < 2 ^ 63
IsEarly q e = Unit {0}
