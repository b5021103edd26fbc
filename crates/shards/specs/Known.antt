-- What a pass knows: of itself, of the turn that it has, and, where it is the session's, of the stores.
use Rattle.std.specs.Prelude.{◌≡◌, ℕ, ◌+◌, ◌-◌, ◌^◌, ◌||◌, cond, Bool, true, false, is_some, nat_lt, Option, Some, None, List, [], ◌∷◌, ◌++◌, map, length, set, replicate}
use Rattle.std.specs.List.{list_all}
use Rattle.atomic_table.specs.Seated.{TableId}
use Rattle.graph_model.specs.Graph.{Graph, put_all}
use Rattle.core_steps.specs.declared.unit.Ending.{Ending}
use Rattle.core_steps.specs.declared.unit.Ending.TheVariants.{Sound, Fault, Full, Broken}
use Rattle.core_steps.specs.declared.state.CoreMonitor.{CoreMonitor}
use Rattle.core_steps.specs.declared.state.OpenStore.{OpenStore}
use Rattle.core_steps.specs.declared.state.Phase.{Phase}
use Rattle.core_steps.specs.declared.state.Phase.TheVariants.{Idle, Marking, Sweeping}
use Rattle.core_steps.specs.Core.{Core, Hand, new_hand, pins_of}
use Rattle.core_steps.specs.Events.{is_quiet}
use Rattle.graph_model.specs.declared.entity.StoreOp.{StoreOp}
use Rattle.core_steps.specs.declared.state.Book.{Book}
use Rattle.core_steps.specs.declared.event.Event.{Event}
use Rattle.core_steps.specs.declared.event.Event.TheVariants.{BeginCycle}
use Rattle.core_steps.specs.declared.event.Step.{Step}
use Rattle.core_steps.specs.Rows.{Part, Channel, Monitor}
use Rattle.core_steps.specs.Steps.{book_after, pins_then, start, with_actor}
use Rattle.core_steps.specs.Told.{Told, Listed, listed}

-- WHAT A PASS KNOWS

-- an actor, what it holds, and the steps that it made, in order
pub record Own : Type 0 where
  pub actor : ℕ
  pub hand : Hand
  pub mine : List Step

-- what only actor 0 knows: the start, the book, the pins of each channel, what is listed of each unit, how many actors there are; how often
-- each unit's disk had failed at the start; whether its hand had a store of a number above 2^63 open behind a turn; how many cycles it began;
-- the first cycle that it saw after its last store or change of a pin; and, by channel, the last cycle of which a turn of it found or left
-- that channel Idle
pub record Desk : Type 0 where
  pub start : Core
  pub book : Book
  pub pins : List (List ℕ)
  pub lists : List Listed
  pub made : ℕ
  pub counts : List ℕ
  pub late : Bool
  pub begun : ℕ
  pub since : Option ℕ
  pub idle : List (Option ℕ)

-- how often a turn was tried, and the shard and what its word read at the last try
pub record Tries : Type 0 where
  pub count : ℕ
  pub shard : ℕ
  pub read : ℕ

-- an ending that a turn left behind, and of which shard
pub record Ended : Type 0 where
  pub shard : ℕ
  pub ending : Ending

-- whether it set the stop, and whether it has seen it
pub record Stop : Type 0 where
  pub has_set : Bool
  pub has_seen : Bool

pub record Known (C : Type 0) : Type 0 where
  -- the pass has not been joined into another
  pub live : Bool
  -- every unit tells
  pub tells : Bool
  pub channels : ℕ
  pub own : Own
  -- the actors whose passes were joined into this one
  pub joined : List Own
  -- the shard whose turn it has, with the unit as it was taken
  pub taken : Option (ℕ × C)
  pub desk : Desk
  pub tries : Tries
  -- the last ending that a turn of its own left behind, and those of the passes that were joined into it
  pub ended : Option Ended
  pub endings : List Ended
  pub stop : Stop

-- what the contract of a pass sees: the table that it is of, and what it knows
pub record PassState (C : Type 0) : Type 0 where
  pub table : TableId
  pub known : Known C

-- what the contract of a turn sees: besides, the shard, and the unit as it was taken
pub record TurnState (C : Type 0) : Type 0 where
  pub table : TableId
  pub known : Known C
  pub shard : ℕ
  pub was : C

-- what the contract of the shards sees: their table, and the number of channels
pub record ShardsState : Type 0 where
  pub table : TableId
  pub channels : ℕ

-- THE FIRST VIEWS

abbrev pub no_book : Book
no_book = record { start = []; start_next = 0; ended = []; opened = None }

abbrev pub no_monitor : CoreMonitor
no_monitor = record { format = 0; cycle = 0; closed = true; begun = []; swept = []; pending = 0; stores_begun = 0; stores_ended = 0 }

abbrev pub no_desk : Desk
no_desk = record { start = record { channels = []; monitor = no_monitor; hands = []; book = no_book }; book = no_book; pins = []; lists = []; made = 0; counts = []; late = false; begun = 0; since = None; idle = [] }

module _ {C : Type 0} where
  -- a new pass of an actor with a new hand
  abbrev pub newcomer : Bool → ℕ → ℕ → Known C
  newcomer tells channels actor = record {
    live = true;
    tells = tells;
    channels = channels;
    own = record { actor = actor; hand = new_hand; mine = [] };
    joined = [];
    taken = None;
    desk = no_desk;
    tries = record { count = 0; shard = 0; read = 0 };
    ended = None;
    endings = [];
    stop = record { has_set = false; has_seen = false };
  }

  -- what is left of a pass that was joined
  abbrev pub spent : Known C
  spent = record (newcomer false 0 0) { live = false }

  abbrev pub known_in : List (Known C) → Known C
  known_in [] = spent
  known_in (v ∷ vs) = v

-- every unit tells
abbrev pub all_tell : List Told → Bool
all_tell ts = list_all (λ (t : Told). is_some t.part) ts

abbrev pub table_in : Option Part → Graph
table_in (Some (Channel x)) = x.table
table_in (Some (Monitor m)) = []
table_in None = []

-- the graph in the tables of the units
abbrev pub graph_in : List Told → Graph
graph_in [] = []
graph_in (t ∷ ts) = put_all (table_in t.part) (graph_in ts)

abbrev pub monitor_or : Option Part → CoreMonitor → CoreMonitor
monitor_or (Some (Monitor m)) n = m
monitor_or (Some (Channel x)) n = n
monitor_or None n = n

-- the monitor among the units
abbrev pub monitor_in : List Told → CoreMonitor
monitor_in [] = no_monitor
monitor_in (t ∷ ts) = monitor_or t.part (monitor_in ts)

-- the start of a core with one actor whose graph is in the units' tables, and whose number of stores and format are the monitor's
abbrev pub start_in : List Told → ℕ → Core
start_in ts next_id = start (graph_in ts) next_id (monitor_in ts).stores_ended (length ts - 1) 1 (monitor_in ts).format

-- the first pass, which is the session's
abbrev pub session_pass : {C : Type 0} → List Told → ℕ → Known C
session_pass ts next_id = record (newcomer (all_tell ts) (length ts - 1) 0) {
  desk = record {
    start = start_in ts next_id;
    book = (start_in ts next_id).book;
    pins = pins_of (start_in ts next_id).channels;
    lists = map listed ts;
    made = 1;
    counts = map (λ (t : Told). t.faults) ts;
    late = false;
    begun = 0;
    since = None;
    idle = replicate (length ts - 1) None;
  };
}

-- WHAT A STEP MAKES OF IT

abbrev pub is_late_in : Option OpenStore → Bool
is_late_in None = false
is_late_in (Some o) = nat_lt (2 ^ 63) o.number

-- a store of a number above 2^63 is open in the hand
abbrev pub is_late : Hand → Bool
is_late h = is_late_in h.opened

-- one try more, of this shard, whose word read so
abbrev pub tried_more : Tries → ℕ → ℕ → Tries
tried_more t k n = record { count = t.count + 1; shard = k; read = n }

-- an ending in place of the one before, where it is not Sound
abbrev pub ended_then : Option Ended → ℕ → Ending → Option Ended
ended_then o k Sound = o
ended_then o k Fault = Some (record { shard = k; ending = Fault })
ended_then o k (Full n) = Some (record { shard = k; ending = Full n })
ended_then o k (Broken x) = Some (record { shard = k; ending = Broken x })

abbrev pub book_then : Book → Option Event → Book
book_then b None = b
book_then b (Some e) = book_after b e

abbrev pub pins_with : List (List ℕ) → ℕ → Option Part → List (List ℕ)
pins_with pss k None = pss
pins_with pss k (Some p) = pins_then pss k p

abbrev pub pins_after : List (List ℕ) → ℕ → Option Part → Option Event → List (List ℕ)
pins_after pss k p None = pss
pins_after pss k p (Some e) = pins_with pss k p

abbrev pub steps_then : Own → ℕ → Option Event → List Step
steps_then o k None = o.mine
steps_then o k (Some e) = o.mine ++ record { actor = o.actor; shard = k; event = e } ∷ []

-- the cycle of a monitor is seen, where no store is open
abbrev pub cycle_in : Option StoreOp → Option Part → Option ℕ
cycle_in None (Some (Monitor m)) = Some m.cycle
cycle_in None (Some (Channel x)) = None
cycle_in None None = None
cycle_in (Some op) p = None

abbrev pub first_seen : Option ℕ → Option ℕ → Option ℕ
first_seen (Some b) seen = Some b
first_seen None seen = seen

-- the first cycle seen after the last store or change of a pin, behind a turn that left this book and this part
abbrev pub since_then : Option ℕ → Book → Option Part → Option Event → Option ℕ
since_then since b p None = since
since_then since b p (Some e) = cond (is_quiet e) (first_seen since (cycle_in b.opened p)) None

-- how many cycles an event begins
abbrev pub begins : Option Event → ℕ
begins (Some BeginCycle) = 1
begins _ = 0

abbrev pub idle_in : List (Option ℕ) → ℕ → Phase → List (Option ℕ)
idle_in l k (Idle c) = set l k (Some c)
idle_in l k (Marking c) = l
idle_in l k (Sweeping c left) = l

-- the cycles of which channels were Idle, with shard k seen as this part
abbrev pub idle_then : List (Option ℕ) → ℕ → Option Part → List (Option ℕ)
idle_then l k None = l
idle_then l k (Some (Channel x)) = idle_in l k x.phase
idle_then l k (Some (Monitor m)) = l

-- the desk once shard k came back, from what it told to what it tells, by an event or by none
abbrev pub desk_then : Desk → ℕ → Told → Told → Hand → Option Event → Desk
desk_then d k t t' h o = record {
  start = d.start;
  book = book_then d.book o;
  pins = pins_after d.pins k t'.part o;
  lists = set d.lists k (listed t');
  made = d.made;
  counts = d.counts;
  late = d.late || is_late h;
  begun = d.begun + begins o;
  since = since_then d.since (book_then d.book o) t'.part o;
  idle = idle_then (idle_then d.idle k t.part) k t'.part;
}

abbrev pub own_ending : Option Ended → List Ended
own_ending None = []
own_ending (Some e) = e ∷ []

module _ {C : Type 0} where
  -- it took the turn of shard k, with this unit
  abbrev pub took : Known C → ℕ → C → Known C
  took v k u = record v { taken = Some (k, u); tries = tried_more v.tries k 0 }

  -- shard k was taken
  abbrev pub refused : Known C → ℕ → Known C
  refused v k = record v { tries = tried_more v.tries k 1 }

  -- the turn of shard k went back, with a unit that told t and tells t', and this hand, by an event or by none
  abbrev pub gave : Known C → ℕ → Told → Told → Hand → Option Event → Known C
  gave v k t t' h o = record v {
    own = record { actor = v.own.actor; hand = h; mine = steps_then v.own k o };
    taken = None;
    desk = desk_then v.desk k t t' h o;
    ended = ended_then v.ended k t'.ending;
  }

  -- one more pass was split off
  abbrev pub dealt : Known C → Known C
  dealt v = record v { desk = record v.desk { start = with_actor v.desk.start; made = v.desk.made + 1 } }

  -- another pass was joined into it
  abbrev pub joined_with : Known C → Known C → Known C
  joined_with v w = record v { joined = v.joined ++ w.own ∷ w.joined; endings = v.endings ++ (own_ending w.ended ++ w.endings) }

  -- it set the stop
  abbrev pub stopping : Known C → Known C
  stopping v = record v { stop = record v.stop { has_set = true } }

  -- it saw the stop
  abbrev pub saw_stop : Known C → Known C
  saw_stop v = record v { stop = record v.stop { has_seen = true } }

  -- some tries later
  abbrev pub IsLater : Known C → Known C → Type 0
  IsLater v w = (t : Tries) × (w ≡ record v { tries = t })
