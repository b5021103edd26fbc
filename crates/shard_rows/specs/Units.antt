-- What a unit in memory tells, the first units, and what turns on them keep.
use Rattle.std.specs.Prelude.{◌≡◌, ℕ, ◌+◌, Bool, true, false, nat_eq, Some, None, List, [], ◌∷◌}
use Rattle.graph_model.specs.declared.entity.StoreOp.{StoreOp}
use Rattle.core_steps.specs.declared.unit.Ending.TheVariants.{Sound}
use Rattle.core_steps.specs.declared.state.Book.{Book}
use Rattle.core_steps.specs.declared.state.CoreChannel.{CoreChannel}
use Rattle.core_steps.specs.declared.state.Phase.{Phase}
use Rattle.core_steps.specs.declared.state.Phase.TheVariants.{Idle, Marking}
use Rattle.core_steps.specs.declared.event.Event.{Event}
use Rattle.core_steps.specs.declared.event.Event.TheVariants.{Pin, StoreBegin}
use Rattle.core_steps.specs.Core.{Hand, next_before}
use Rattle.core_steps.specs.Rows as core
use Rattle.core_steps.specs.Rows.{Part}
use Rattle.core_steps.specs.Steps.{start_monitor}
use Rattle.core_steps.specs.Told.{Told}
use Rattle.shards.specs.Known.{Known}
use Rattle.shard_rows.specs.declared.units.EmptyChannel.{EmptyChannel}
use Rattle.shard_rows.specs.declared.units.Stage.{Stage}
use Rattle.shard_rows.specs.declared.units.Stage.TheVariants as stage
use Rattle.shard_rows.specs.declared.units.MemoryUnit.{MemoryUnit}
use Rattle.shard_rows.specs.declared.units.MemoryUnit.TheVariants.{Channel, Monitor}

-- a sound unit of that part and next id, with no disk
abbrev pub telling : Part → ℕ → Told
telling p n = record {
  part = Some p;
  ending = Sound;
  faults = 0;
  failed = false;
  full = false;
  next_id = n;
  log_channels = 0;
  prepared = None;
  types = [];
  tried = None;
}

abbrev pub phase_of : Stage → Phase
phase_of (stage.Idle b) = Idle b
phase_of (stage.Marking b) = Marking b

-- the channel of the core: it has no id
abbrev pub core_of : EmptyChannel → CoreChannel
core_of c = record { table = []; marked = []; grey = []; pins = []; phase = phase_of c.stage; last_part = c.last_part; confirmed = c.confirmed }

-- the next id of a channel's log is always 1024
abbrev pub told_of : MemoryUnit → Told
told_of (Channel c log) = telling (core.Channel (core_of c)) 1024
told_of (Monitor m log) = telling (core.Monitor m) 0

-- one of two channels without an id, at the start
abbrev pub first_channel : MemoryUnit
first_channel = Channel (record { stage = stage.Idle 0; last_part = 0; confirmed = 0 }) tt

-- the two, and the monitor, at the start in format 1
abbrev pub first_units : List MemoryUnit
first_units = first_channel ∷ first_channel ∷ Monitor (start_monitor 0 2 1) tt ∷ []

-- STORES THAT LIST NO ID

abbrev pub IsPlainOp : StoreOp → Type 0
IsPlainOp op = (op.records ≡ []) × (op.next_id ≡ 1024)

-- no store lists an id or changes the next id
abbrev pub IsPlain : Book → Type 0
IsPlain b = (next_before b ≡ 1024) × ((op : StoreOp) → b.opened ≡ Some op → IsPlainOp op)

-- what a turn leaves of a pass: the actor, those that joined it, and, where every unit tells, that stores are plain
abbrev pub IsAlike : Known MemoryUnit → Known MemoryUnit → Type 0
IsAlike v w = (w.own.actor ≡ v.own.actor) × (w.joined ≡ v.joined) × (w.desk.made ≡ v.desk.made) × (w.tells ≡ v.tells)
    × (v.tells ≡ true → IsPlain v.desk.book → IsPlain w.desk.book)

-- the session's pass, where no pass has joined it and there are so many actors
abbrev pub IsSession : ℕ → Known MemoryUnit → Type 0
IsSession n v = (v.own.actor ≡ 0) × (v.joined ≡ []) × (v.desk.made ≡ n) × (v.tells ≡ true) × IsPlain v.desk.book

-- EVENTS

-- the rest of the core has no say in the event
abbrev pub is_free : Event → Bool
is_free (StoreBegin op) = false
is_free (Pin x) = false
is_free _ = true

-- the channel is to begin marking in the cycle that the hand saw
abbrev pub is_next : Stage → Hand → Bool
is_next (stage.Idle b) h = nat_eq h.cycle_seen (b + 1)
is_next (stage.Marking b) h = false

abbrev pub is_idle : Stage → Bool
is_idle (stage.Idle b) = true
is_idle (stage.Marking b) = false
