-- What holds of each core of a run: it is sound, live, and tricolour or closed.
use Rattle.std.specs.Prelude.{◌≡◌, ◌≢◌, ◌⊎◌, ℕ, ◌+◌, ◌≤◌, ◌<◌, ◌^◌, Bool, true, false, cond, not, ◌&&◌, ◌||◌, nat_eq, Option, Some, None, is_some, List, [], ◌∷◌, length, get_or}
use Rattle.graph_model.specs.Limits.{id_limit}
use Rattle.graph_model.specs.declared.entity.Entity.{Entity}
use Rattle.graph_model.specs.Ids.{has, rises}
use Rattle.graph_model.specs.Graph.{ids, has_edge, entity_of, lists, IsReached}
use Rattle.graph_model.specs.Stores.{is_good_id}
use Rattle.core_steps.specs.Core.{Phase, Idle, Marking, Sweeping, CoreChannel, CoreMonitor, OpenStore, Hand, Core, graph, open_records, written_of, channel_at, hand_at, home, held, cycle_of, left_of, is_idle, is_marking, is_idle_of}
use Rattle.core_steps.specs.Rows.{store_channels}

-- the channel that an id belongs to
abbrev pub channel_of : Core → ℕ → CoreChannel
channel_of c x = channel_at c.channels (home (length c.channels) x)

-- the channels that have their part of the open store
abbrev pub written : Core → List ℕ
written c = written_of (hand_at c.hands 0).opened

-- the open store lists x, and the channel of x has its part
abbrev pub is_written : Core → ℕ → Bool
is_written c x = lists (open_records c.book) x && has (home (length c.channels) x) (written c)

-- the open store lists x, and the channel of x has not its part
abbrev pub is_unwritten : Core → ℕ → Bool
is_unwritten c x = lists (open_records c.book) x && not (has (home (length c.channels) x) (written c))

-- x is in the table and, where the cycle b is closed, is marked there or the channel is Idle of that cycle
abbrev pub kept_on : Bool → ℕ → CoreChannel → ℕ → Bool
kept_on closed b ch x = lists ch.table x && (not closed || (has x ch.marked || is_idle_of b ch.phase))

-- the table of x's channel has x, and no sweep will take it out
abbrev pub is_kept : Core → ℕ → Bool
is_kept c x = kept_on c.monitor.closed c.monitor.cycle (channel_of c x) x

abbrev pub kept_or_unwritten : Core → ℕ → Bool
kept_or_unwritten c x = is_kept c x || is_unwritten c x

-- the last stored entity of x: the open store's where x's channel has its part, else the graph's
abbrev pub shown : Core → ℕ → Option Entity
shown c x = cond (is_written c x) (entity_of (open_records c.book) x) (entity_of (graph c.book) x)

-- LIVE

-- x is reached in the graph from the root or a held id
abbrev pub IsLiveId : Core → ℕ → Type 0
IsLiveId c x = IsReached (graph c.book) (1 ∷ held c.channels) x

-- each reached id that the graph has is in its channel's table, with the last stored entity
pub record IsLive (c : Core) : Type 0 where
  pub is_there : (x : ℕ) → IsLiveId c x → lists (graph c.book) x ≡ true → lists (channel_of c x).table x ≡ true
  pub entity : (x : ℕ) → IsLiveId c x → lists (graph c.book) x ≡ true → entity_of (channel_of c x).table x ≡ shown c x

-- SOUND: ORDER

-- the lists of a channel rise without repeats: they are sets, and their lengths are numbers of ids
pub record IsOrdered (ch : CoreChannel) : Type 0 where
  pub table : rises (ids ch.table) ≡ true
  pub marked : rises ch.marked ≡ true
  pub grey : rises ch.grey ≡ true
  pub pins : rises ch.pins ≡ true
  pub left : rises (left_of ch.phase) ≡ true

-- so do those of each channel, the graph and the open store
pub record ListsRise (c : Core) : Type 0 where
  pub channels : (j : ℕ) → IsOrdered (channel_at c.channels j)
  pub graph : rises (ids (graph c.book)) ≡ true
  pub opened : rises (ids (open_records c.book)) ≡ true

-- SOUND: WHAT HANDS SAW

-- what a hand saw of the monitor is old or true
pub record SawRight (m : CoreMonitor) (h : Hand) : Type 0 where
  pub cycle : h.cycle_seen ≤ m.cycle
  pub closed : h.cycle_seen ≡ m.cycle → h.closed_seen ≡ true → m.closed ≡ true
  pub ended : h.ended_seen ≤ m.stores_ended

abbrev pub AllSawRight : Core → Type 0
AllSawRight c = (a : ℕ) → SawRight c.monitor (hand_at c.hands a)

-- a hand with an open store has seen the present cycle closed, where it is
pub record OpenSaw (m : CoreMonitor) (h : Hand) : Type 0 where
  pub cycle : is_some h.opened ≡ true → m.closed ≡ true → h.cycle_seen ≡ m.cycle
  pub closed : is_some h.opened ≡ true → m.closed ≡ true → h.closed_seen ≡ true

abbrev pub AllOpenSaw : Core → Type 0
AllOpenSaw c = (a : ℕ) → OpenSaw c.monitor (hand_at c.hands a)

-- SOUND: PHASES, FLAGS AND REPORTS

abbrev pub flag : List Bool → ℕ → Bool
flag fs j = get_or fs j false

abbrev pub one_if : Bool → ℕ
one_if b = cond b 1 0

-- how often j is in the list
abbrev pub copies : ℕ → List ℕ → ℕ
copies j [] = 0
copies j (i ∷ is) = cond (nat_eq j i) (1 + copies j is) (copies j is)

-- how many reports of channel j the hands have together, of one kind
abbrev pub report_copies : (Hand → List ℕ) → ℕ → List Hand → ℕ
report_copies reports j [] = 0
report_copies reports j (h ∷ hs) = copies j (reports h) + report_copies reports j hs

abbrev pub begun_of : Hand → List ℕ
begun_of h = h.begun_reports

abbrev pub swept_of : Hand → List ℕ
swept_of h = h.swept_reports

-- where a channel may stand: while cycle b is open, Idle of the one before or Marking in it; once it is closed, Marking or Sweeping in it, or Idle of it
abbrev pub PhaseFits : Bool → ℕ → Phase → Type 0
PhaseFits closed b (Idle d) = cond closed d (d + 1) ≡ b
PhaseFits closed b (Marking d) = d ≡ b
PhaseFits closed b (Sweeping d left) = (d ≡ b) × (closed ≡ true)

-- each channel stands where it may; a begun or swept flag, and a hand's report of it, is true of the channel in the present cycle; a channel has
-- at most one of flag and report of each kind; and once the cycle is closed all begun flags are set
pub record PhasesFit (c : Core) : Type 0 where
  pub begun_length : length c.monitor.begun ≡ length c.channels
  pub swept_length : length c.monitor.swept ≡ length c.channels
  pub phase : (j : ℕ) → j < length c.channels → PhaseFits c.monitor.closed c.monitor.cycle (channel_at c.channels j).phase
  pub begun_flag : (j : ℕ) → flag c.monitor.begun j ≡ true → cycle_of (channel_at c.channels j).phase ≡ c.monitor.cycle
  pub begun_report : (a j : ℕ) → has j (hand_at c.hands a).begun_reports ≡ true
      → (j < length c.channels) × (cycle_of (channel_at c.channels j).phase ≡ c.monitor.cycle)
  pub swept_flag : (j : ℕ) → flag c.monitor.swept j ≡ true → (channel_at c.channels j).phase ≡ Idle c.monitor.cycle
  pub swept_report : (a j : ℕ) → has j (hand_at c.hands a).swept_reports ≡ true
      → (j < length c.channels) × ((channel_at c.channels j).phase ≡ Idle c.monitor.cycle)
  pub begun_once : (j : ℕ) → one_if (flag c.monitor.begun j) + report_copies begun_of j c.hands ≤ 1
  pub swept_once : (j : ℕ) → one_if (flag c.monitor.swept j) + report_copies swept_of j c.hands ≤ 1
  pub all_begun : c.monitor.closed ≡ true → (j : ℕ) → j < length c.channels → flag c.monitor.begun j ≡ true

-- SOUND: STORES

-- one store more began than ended where the book has one open, and else as many; then actor 0's hand has it open, with the last number and its
-- channels, and no other hand has one; a channel that has its part has that number, and any other one at most that of the last ended store, in
-- format 1 exactly that
pub record BookFits (c : Core) : Type 0 where
  pub begun : c.monitor.stores_begun ≡ c.monitor.stores_ended + one_if (is_some c.book.opened)
  pub in_hand : is_some (hand_at c.hands 0).opened ≡ is_some c.book.opened
  pub number : (o : OpenStore) → (hand_at c.hands 0).opened ≡ Some o → o.number ≡ c.monitor.stores_begun
  pub channels : (o : OpenStore) → (hand_at c.hands 0).opened ≡ Some o
      → o.channels ≡ store_channels c.monitor.format (length c.channels) (open_records c.book)
  pub no_other : (a : ℕ) → a ≢ 0 → (hand_at c.hands a).opened ≡ None
  pub part_taken : (j : ℕ) → j < length c.channels → has j (written c) ≡ true → (channel_at c.channels j).last_part ≡ c.monitor.stores_begun
  pub part_due : (j : ℕ) → j < length c.channels → has j (written c) ≡ false → (channel_at c.channels j).last_part ≤ c.monitor.stores_ended
  pub part_last : c.monitor.format ≡ 1
      → (j : ℕ) → j < length c.channels → has j (written c) ≡ false → (channel_at c.channels j).last_part ≡ c.monitor.stores_ended

-- what is confirmed has ended, and is at most the last part, in format 1 that or the one before
pub record ConfirmedFits (m : CoreMonitor) (ch : CoreChannel) : Type 0 where
  pub ended : ch.confirmed ≤ m.stores_ended
  pub high : ch.confirmed ≤ ch.last_part
  pub low : m.format ≡ 1 → ch.last_part ≤ ch.confirmed + 1

abbrev pub AllConfirmedFit : Core → Type 0
AllConfirmedFit c = (j : ℕ) → ConfirmedFits c.monitor (channel_at c.channels j)

-- SOUND: CREDIT

abbrev pub greys : List CoreChannel → ℕ
greys [] = 0
greys (c ∷ cs) = length c.grey + greys cs

-- the ids in transit and the credit of a hand
abbrev pub weight : Hand → ℕ
weight h = length h.transit + h.credit

abbrev pub weights : List Hand → ℕ
weights [] = 0
weights (h ∷ hs) = weight h + weights hs

pub record HandFits (h : Hand) : Type 0 where
  pub batch : length h.transit ≤ 131072
  pub sum : weight h ≤ 2 ^ 33

-- pending is the number of all grey ids, all ids in transit and all credit
pub record CreditFits (c : Core) : Type 0 where
  pub pending : c.monitor.pending ≡ greys c.channels + weights c.hands
  pub hands : (a : ℕ) → HandFits (hand_at c.hands a)

-- SOUND: MARKS, CONTENT, WHAT IS KEPT

-- an Idle channel has no marks; marked ids are in the table, and grey ones are marked
pub record MarksFit (ch : CoreChannel) : Type 0 where
  pub idle : is_idle ch.phase ≡ true → (ch.marked ≡ []) × (ch.grey ≡ [])
  pub marked : (x : ℕ) → has x ch.marked ≡ true → lists ch.table x ≡ true
  pub grey : (x : ℕ) → has x ch.grey ≡ true → has x ch.marked ≡ true

abbrev pub AllMarksFit : Core → Type 0
AllMarksFit c = (j : ℕ) → MarksFit (channel_at c.channels j)

-- tables have the last stored entities; table ids and pins are of their channel; ids are the root or from 1024 to below 2^48
pub record ContentFits (c : Core) : Type 0 where
  pub entity : (x : ℕ) → lists (channel_of c x).table x ≡ true → entity_of (channel_of c x).table x ≡ shown c x
  pub table_home : (j x : ℕ) → j < length c.channels → lists (channel_at c.channels j).table x ≡ true → home (length c.channels) x ≡ j
  pub pins_home : (j x : ℕ) → j < length c.channels → has x (channel_at c.channels j).pins ≡ true → home (length c.channels) x ≡ j
  pub graph_ids : (x : ℕ) → lists (graph c.book) x ≡ true → is_good_id id_limit x ≡ true
  pub open_ids : (x : ℕ) → lists (open_records c.book) x ≡ true → is_good_id id_limit x ≡ true

-- every pin is kept, and the root where the graph has it; what an open store's record leads to is kept or unwritten, and what the graph's entity of
-- a kept id leads to is kept; an id of the open store is kept or unwritten, and kept where the graph has it
pub record KeptFits (c : Core) : Type 0 where
  pub pins : (x : ℕ) → has x (held c.channels) ≡ true → is_kept c x ≡ true
  pub root : lists (graph c.book) 1 ≡ true → is_kept c 1 ≡ true
  pub open_edges : (x y : ℕ) → has_edge (open_records c.book) x y ≡ true → kept_or_unwritten c y ≡ true
  pub graph_edges : (x y : ℕ) → is_kept c x ≡ true → has_edge (graph c.book) x y ≡ true → is_kept c y ≡ true
  pub open_ids : (x : ℕ) → lists (open_records c.book) x ≡ true → kept_or_unwritten c x ≡ true
  pub open_old : (x : ℕ) → lists (open_records c.book) x ≡ true → lists (graph c.book) x ≡ true → is_kept c x ≡ true

-- what a kept table entity leads to is kept or unwritten
abbrev pub TableEdgesFit : Core → Type 0
TableEdgesFit c = (x y : ℕ) → is_kept c x ≡ true → has_edge (channel_of c x).table x y ≡ true → kept_or_unwritten c y ≡ true

pub record IsSound (c : Core) : Type 0 where
  pub some_channel : 0 < length c.channels
  pub ordered : ListsRise c
  pub saw : AllSawRight c
  pub phases : PhasesFit c
  pub book : BookFits c
  pub confirmed : AllConfirmedFit c
  pub open_saw : AllOpenSaw c
  pub credit : CreditFits c
  pub marks : AllMarksFit c
  pub content : ContentFits c
  pub kept : KeptFits c
  pub table_edges : TableEdgesFit c

-- TRICOLOUR AND CLOSED

abbrev pub InTransit : Core → ℕ → Type 0
InTransit c x = (a : ℕ) × (has x (hand_at c.hands a).transit ≡ true)

-- unwritten, and absent on a channel that is Marking
abbrev pub is_awaited : Core → ℕ → Bool
is_awaited c x = is_unwritten c x && (not (lists (channel_of c x).table x) && is_marking (channel_of c x).phase)

-- x is marked, or will be: it is in transit, or awaited
abbrev pub IsMarkedOrDue : Core → ℕ → Type 0
IsMarkedOrDue c x = (has x (channel_of c x).marked ≡ true) ⊎ (InTransit c x ⊎ (is_awaited c x ≡ true))

-- while the cycle is open: where a channel marks, the root and the pins in its table are marked;
-- and what the table entity of a marked id that is not grey leads to is marked, in transit or awaited
pub record IsTricolour (c : Core) : Type 0 where
  pub roots : (x : ℕ) → is_marking (channel_of c x).phase ≡ true → lists (channel_of c x).table x ≡ true
      → has x (1 ∷ (channel_of c x).pins) ≡ true → has x (channel_of c x).marked ≡ true
  pub edges : (x y : ℕ) → has x (channel_of c x).marked ≡ true → has x (channel_of c x).grey ≡ false
      → has_edge (channel_of c x).table x y ≡ true → IsMarkedOrDue c y

-- on a channel that sweeps, each table id that is not left is marked
abbrev pub SweptMarked : CoreChannel → Phase → Type 0
SweptMarked ch (Idle b) = Unit {0}
SweptMarked ch (Marking b) = Unit {0}
SweptMarked ch (Sweeping b left) = (x : ℕ) → lists ch.table x ≡ true → has x left ≡ false → has x ch.marked ≡ true

-- once the cycle is closed: nothing is grey or in transit, and sweeps have taken out what is unmarked, as far as they came
pub record IsClosed (c : Core) : Type 0 where
  pub no_grey : (j : ℕ) → (channel_at c.channels j).grey ≡ []
  pub no_transit : (a : ℕ) → (hand_at c.hands a).transit ≡ []
  pub swept : (j : ℕ) → SweptMarked (channel_at c.channels j) (channel_at c.channels j).phase

-- GOOD

pub record IsGood (c : Core) : Type 0 where
  pub sound : IsSound c
  pub live : IsLive c
  pub tricolour : c.monitor.closed ≡ false → IsTricolour c
  pub closed : c.monitor.closed ≡ true → IsClosed c
