-- The rows of the events: where a shard and a hand allow each, and what it makes of them.
use Rattle.std.specs.Prelude.{ℕ, ◌+◌, ◌-◌, ◌^◌, Bool, true, false, cond, not, ◌&&◌, ◌||◌, nat_le, nat_eq, nat_lt, Option, Some, None, List, [], ◌∷◌, map, length, set}
use Rattle.std.specs.List.{filter, list_all, list_any, range_with_len}
use Rattle.graph_model.specs.declared.entity.Record.{Record}
use Rattle.graph_model.specs.declared.entity.StoreOp.{StoreOp}
pub use Rattle.core_steps.specs.declared.state.Place.{Place}
use Rattle.graph_model.specs.Ids.{has, insert, add, add_all, remove, remove_all}
use Rattle.graph_model.specs.Graph.{entity_of, edges_of, lists, ids, put_all, without}
use Rattle.core_steps.specs.Core.{Phase, Idle, Marking, Sweeping, CoreChannel, CoreMonitor, OpenStore, Hand, is_home}
use Rattle.core_steps.specs.Events.{Event, Reserve, Return, BeginCycle, BeginMark, MarkSome, Deliver, ReportBegun, CloseCycle, SweepSome, ReportSwept, StoreBegin, StorePart, StoreEnd, Confirm, Pin, Unpin, Tidy}

-- what one shard stands for
pub data Part : Type 0 where
  Channel : CoreChannel → Part
  Monitor : CoreMonitor → Part

-- both are channels, or both the monitor
abbrev pub SameKind : Part → Part → Type 0
SameKind (Channel x) (Channel y) = Unit {0}
SameKind (Monitor x) (Monitor y) = Unit {0}
SameKind (Channel x) (Monitor y) = ⊥
SameKind (Monitor x) (Channel y) = ⊥

-- x where the test holds
abbrev pub given : {A : Type 0} → Bool → A → Option A
given b x = cond b (Some x) None

-- EVENTS OF THE MONITOR

-- the hand sees cycle, closing and ended stores as they are after the event
abbrev pub seeing : CoreMonitor → Hand → CoreMonitor × Hand
seeing m h = (m, record h { cycle_seen = m.cycle; closed_seen = m.closed; ended_seen = m.stores_ended })

abbrev pub all_set : List Bool → Bool
all_set fs = list_all (λ (b : Bool). b) fs

abbrev pub all_clear : List Bool → List Bool
all_clear fs = map (λ (b : Bool). false) fs

-- some record's id belongs to channel j of n
abbrev pub has_part : ℕ → List Record → ℕ → Bool
has_part n rs j = list_any (λ (r : Record). is_home n j r.id) rs

-- the channels of a store, of n: all in format 1, and in format 2 those that a listed id belongs to
abbrev pub store_channels : ℕ → ℕ → List Record → List ℕ
store_channels format n rs = filter (λ (j : ℕ). nat_eq format 1 || has_part n rs j) (range_with_len 0 n)

-- each channel of the open store has its part
abbrev pub is_complete : OpenStore → Bool
is_complete o = list_all (λ (j : ℕ). has j o.written) o.channels

abbrev pub end_store : CoreMonitor → Hand → Option OpenStore → Option (CoreMonitor × Hand)
end_store m h None = None
end_store m h (Some o) = given (is_complete o)
    (seeing (record m { stores_ended = m.stores_ended + 1 }) (record h { opened = None }))

-- what the monitor asks of StoreBegin: no store is open, another number is left, and in format 2 the store lists an id
abbrev pub may_begin : CoreMonitor → StoreOp → Bool
may_begin m op = nat_eq m.stores_begun m.stores_ended
    && (nat_le m.stores_begun (2 ^ 63) && (nat_eq m.format 1 || nat_lt 0 (length op.records)))

-- the store that StoreBegin opens in the hand
abbrev pub begun_store : CoreMonitor → StoreOp → OpenStore
begun_store m op = record { number = m.stores_begun + 1; channels = store_channels m.format (length m.begun) op.records; written = [] }

abbrev pub monitor_step : CoreMonitor → Hand → Event → Option (CoreMonitor × Hand)
monitor_step m h (Reserve n) = given (nat_le (h.credit + n) (2 ^ 32))
    (seeing (record m { pending = m.pending + n }) (record h { credit = h.credit + n }))
-- pending becomes 0 where it is less than n
monitor_step m h (Return n) = given (nat_le n h.credit)
    (seeing (record m { pending = m.pending - n }) (record h { credit = h.credit - n }))
monitor_step m h BeginCycle = given (m.closed && (all_set m.swept && nat_lt (m.cycle + 1) (2 ^ 64)))
    (seeing (record m { cycle = m.cycle + 1; closed = false; begun = all_clear m.begun; swept = all_clear m.swept }) h)
monitor_step m h (ReportBegun j) = given (has j h.begun_reports)
    (seeing (record m { begun = set m.begun j true }) (record h { begun_reports = remove j h.begun_reports }))
monitor_step m h CloseCycle = given (not m.closed && (nat_eq m.pending 0 && (nat_eq m.stores_begun m.stores_ended && all_set m.begun)))
    (seeing (record m { closed = true }) h)
monitor_step m h (ReportSwept j) = given (has j h.swept_reports)
    (seeing (record m { swept = set m.swept j true }) (record h { swept_reports = remove j h.swept_reports }))
monitor_step m h (StoreBegin op) = given (may_begin m op)
    (seeing (record m { stores_begun = m.stores_begun + 1 }) (record h { opened = Some (begun_store m op) }))
monitor_step m h StoreEnd = end_store m h h.opened
monitor_step m h _ = None

-- MARKING

-- x becomes marked and grey
abbrev pub grey_on : ℕ → CoreChannel → CoreChannel
grey_on x c = record c { marked = insert x c.marked; grey = insert x c.grey }

-- so for one credit
abbrev pub greyed : ℕ → CoreChannel × Hand → CoreChannel × Hand
greyed x r = (grey_on x r.0, record r.1 { credit = r.1.credit - 1 })

-- x stops being grey, and a credit comes back
abbrev pub ungreyed : ℕ → CoreChannel × Hand → CoreChannel × Hand
ungreyed x r = (record r.0 { grey = remove x r.0.grey }, record r.1 { credit = r.1.credit + 1 })

-- y goes in transit, for one credit
abbrev pub sent : ℕ → CoreChannel × Hand → CoreChannel × Hand
sent y r = (r.0, record r.1 { transit = insert y r.1.transit; credit = r.1.credit - 1 })

-- y has come out of transit
abbrev pub arrived : ℕ → Hand → Hand
arrived y h = record h { transit = remove y h.transit }

-- a credit comes back
abbrev pub credited : Hand → Hand
credited h = record h { credit = h.credit + 1 }

-- x is in the table and unmarked
abbrev pub is_white : ℕ → CoreChannel → Bool
is_white x c = lists c.table x && not (has x c.marked)

-- the root and the pins, as far as they are in the table
abbrev pub roots : CoreChannel → List ℕ
roots c = filter (lists c.table) (add 1 c.pins)

-- the roots become marked and grey, for one credit each
abbrev pub begin_mark : Place → Phase → CoreChannel → Hand → Option (CoreChannel × Hand)
begin_mark p (Idle b) c h = given (nat_eq h.cycle_seen (b + 1) && nat_le (length (roots c)) h.credit) (
  record c { phase = Marking (b + 1); marked = roots c; grey = roots c },
  record h { credit = h.credit - length (roots c); begun_reports = add p.number h.begun_reports },
)
begin_mark p _ c h = None

-- an edge to an own id that is white greys it; one to another channel's id puts that in transit; one credit each
abbrev pub mark_edge : Place → ℕ → CoreChannel × Hand → CoreChannel × Hand
mark_edge p y r = cond (is_home p.channels p.number y)
    (cond (is_white y r.0) (greyed y r) r)
    (sent y r)

abbrev pub mark_edges : Place → List ℕ → CoreChannel × Hand → CoreChannel × Hand
mark_edges p [] r = r
mark_edges p (y ∷ ys) r = mark_edges p ys (mark_edge p y r)

-- x is grey, a credit may come back, and credit and batch have room for n edges
abbrev pub may_mark : ℕ → ℕ → CoreChannel → Hand → Bool
may_mark x n c h = has x c.grey && (nat_lt h.credit (2 ^ 32) && (nat_le n h.credit && nat_le (length h.transit + n) 131072))

-- x stops being grey, which gives one credit back, and its edges are followed
abbrev pub mark_one : Place → ℕ → CoreChannel × Hand → Option (CoreChannel × Hand)
mark_one p x r = let es = edges_of (entity_of r.0.table x) in
    given (may_mark x (length es) r.0 r.1) (mark_edges p es (ungreyed x r))

-- an id in transit comes to its channel: one that is white is greyed for its credit, and for any other the credit comes back
abbrev pub deliver_one : Place → ℕ → CoreChannel × Hand → Option (CoreChannel × Hand)
deliver_one p y r = given (has y r.1.transit && is_home p.channels p.number y)
    (cond (is_white y r.0) (grey_on y r.0, arrived y r.1) (r.0, credited (arrived y r.1)))

-- the ids in the order given, each judged when it is taken
abbrev pub each_of : {A : Type 0} → (ℕ → A → Option A) → List ℕ → Option A → Option A
each_of f xs None = None
each_of f [] (Some a) = Some a
each_of f (x ∷ xs) (Some a) = each_of f xs (f x a)

abbrev pub if_marking : {A : Type 0} → Phase → Option A → Option A
if_marking (Marking b) o = o
if_marking _ o = None

-- SWEEPING

-- x leaves the table where it is unmarked
abbrev pub visited : ℕ → CoreChannel → CoreChannel
visited x c = cond (has x c.marked) c (record c { table = without x c.table })

-- the ids are visited, and leave those that are left
abbrev pub visit : List ℕ → CoreChannel × List ℕ → CoreChannel × List ℕ
visit [] r = r
visit (x ∷ xs) r = visit xs (visited x r.0, remove x r.1)

-- with no id left the channel is Idle, and the marks are gone
abbrev pub swept_to : Place → ℕ → CoreChannel → Hand → List ℕ → CoreChannel × Hand
swept_to p b c h [] = (
  record c { phase = Idle b; marked = []; grey = [] },
  record h { swept_reports = add p.number h.swept_reports },
)
swept_to p b c h (x ∷ left) = (record c { phase = Sweeping b (x ∷ left) }, h)

abbrev pub sweep_from : Place → ℕ → List ℕ → List ℕ → CoreChannel → Hand → Option (CoreChannel × Hand)
sweep_from p b left xs c h = given (h.closed_seen && nat_eq h.cycle_seen b) (let r = visit xs (c, left) in swept_to p b r.0 h r.1)

-- a channel that was Marking has all its ids left
abbrev pub sweep_some : Place → Phase → List ℕ → CoreChannel → Hand → Option (CoreChannel × Hand)
sweep_some p (Idle b) xs c h = None
sweep_some p (Marking b) xs c h = sweep_from p b (ids c.table) xs c h
sweep_some p (Sweeping b left) xs c h = sweep_from p b left xs c h

-- A PART OF A STORE

-- the table has the part's records, and their ids are pinned
abbrev pub part_taken : Place → ℕ → CoreChannel → CoreChannel
part_taken p k c = record c { table = put_all p.records c.table; pins = add_all (ids p.records) c.pins; last_part = k }

-- the ids become marked
abbrev pub marked_all : List ℕ → CoreChannel × Hand → CoreChannel × Hand
marked_all xs r = (record r.0 { marked = add_all xs r.0.marked }, r.1)

-- the ids become marked and grey, for one credit each that was not grey
abbrev pub greyed_all : List ℕ → CoreChannel × Hand → CoreChannel × Hand
greyed_all xs r = (
  record r.0 { marked = add_all xs r.0.marked; grey = add_all xs r.0.grey },
  record r.1 { credit = r.1.credit - (length (add_all xs r.0.grey) - length r.0.grey) },
)

-- what the part's ids do to marks and credit: on a channel that marks, in a cycle not seen closed, they are marked and grey;
-- in one seen closed, or on a channel that sweeps, they are marked, and not left to visit
abbrev pub part_marked : List ℕ → Phase → CoreChannel × Hand → CoreChannel × Hand
part_marked xs (Idle b) r = r
part_marked xs (Marking b) r = cond (r.1.closed_seen && nat_eq r.1.cycle_seen b) (marked_all xs r) (greyed_all xs r)
part_marked xs (Sweeping b left) r = (record r.0 { marked = add_all xs r.0.marked; phase = Sweeping b (remove_all xs left) }, r.1)

-- the channel is one of the store's and has not its part; its last part is older and confirmed; there is a credit for each id
abbrev pub may_take : Place → OpenStore → CoreChannel → Hand → Bool
may_take p o c h = (has p.number o.channels && not (has p.number o.written))
    && (nat_lt c.last_part o.number && (nat_eq c.confirmed c.last_part && nat_le (length p.records) h.credit))

-- the hand once the channel has its part
abbrev pub part_given : Place → OpenStore → Hand → Hand
part_given p o h = record h { opened = Some (record o { written = add p.number o.written }) }

abbrev pub store_part : Place → Option OpenStore → CoreChannel → Hand → Option (CoreChannel × Hand)
store_part p None c h = None
store_part p (Some o) c h = given (may_take p o c h)
    (part_marked (ids p.records) c.phase (part_taken p o.number c, part_given p o h))

-- PINS

-- a pin on x marks and greys it
abbrev pub marks_pin : ℕ → Phase → CoreChannel → Bool
marks_pin x (Marking b) c = not (has x c.marked)
marks_pin x _ c = false

abbrev pub pinned : ℕ → CoreChannel → CoreChannel
pinned x c = record c { pins = add x c.pins }

-- EVENTS OF A CHANNEL

abbrev pub channel_step : Place → CoreChannel → Hand → Event → Option (CoreChannel × Hand)
channel_step p c h BeginMark = begin_mark p c.phase c h
channel_step p c h (MarkSome xs) = if_marking c.phase (each_of (mark_one p) xs (Some (c, h)))
channel_step p c h (Deliver xs) = if_marking c.phase (each_of (deliver_one p) xs (Some (c, h)))
channel_step p c h (SweepSome xs) = sweep_some p c.phase xs c h
channel_step p c h StorePart = store_part p h.opened c h
channel_step p c h Confirm = given (nat_le c.last_part h.ended_seen) (record c { confirmed = c.last_part }, h)
channel_step p c h (Pin x) = given (lists c.table x && nat_le 1 h.credit)
    (cond (marks_pin x c.phase c) (greyed x (pinned x c, h)) (pinned x c, h))
channel_step p c h (Unpin x) = Some (record c { pins = remove x c.pins }, h)
channel_step p c h Tidy = given (nat_eq c.confirmed c.last_part) (c, h)
channel_step p c h _ = None

-- EVENTS OF A SHARD

abbrev pub as_channel : Option (CoreChannel × Hand) → Option (Part × Hand)
as_channel None = None
as_channel (Some r) = Some (Channel r.0, r.1)

abbrev pub as_monitor : Option (CoreMonitor × Hand) → Option (Part × Hand)
as_monitor None = None
as_monitor (Some r) = Some (Monitor r.0, r.1)

-- what an event makes of a shard and a hand, where these two allow it
abbrev pub part_step : Place → Part → Hand → Event → Option (Part × Hand)
part_step p (Channel c) h e = as_channel (channel_step p c h e)
part_step p (Monitor m) h e = as_monitor (monitor_step m h e)
