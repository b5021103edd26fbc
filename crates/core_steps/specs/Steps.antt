-- Steps, runs and starts.
use Rattle.std.specs.Prelude.{◌≡◌, ◌⊎◌, ◌↔◌, ◌≤◌, ℕ, Bool, true, false, cond, ◌&&◌, nat_eq, Option, Some, None, List, [], ◌∷◌, ◌++◌, map, length, set, take, replicate, slice_get}
use Rattle.std.specs.List.{filter, range_with_len}
use Rattle.graph_model.specs.Limits.{id_limit}
use Rattle.graph_model.specs.declared.entity.Record.{Record}
use Rattle.graph_model.specs.declared.entity.StoreOp.{StoreOp}
use Rattle.graph_model.specs.Ids.{rises}
use Rattle.graph_model.specs.Graph.{Graph, ids, lists, IsReached}
use Rattle.graph_model.specs.Stores.{is_good_id, is_valid_store, may_hold}
use Rattle.core_steps.specs.Core.{Idle, CoreChannel, CoreMonitor, Hand, Book, Core, graph, next_before, open_records, new_hand, is_home, held}
use Rattle.core_steps.specs.Events.{Event, StoreBegin, StoreEnd, Pin, Step}
use Rattle.core_steps.specs.Rows.{Part, Channel, Monitor, SameKind, Place, part_step}

-- WHAT THE REST OF THE CORE SAYS

-- what an event asks of the book, the held ids and the actor: only actor 0 begins a store, and only a valid one
abbrev pub permits : Book → List ℕ → ℕ → Event → Bool
permits b held_ids actor (StoreBegin op) = nat_eq actor 0 && is_valid_store (graph b) held_ids (next_before b) op
permits b held_ids actor (Pin x) = may_hold (graph b) held_ids x
permits b held_ids actor _ = true

abbrev pub end_in : Book → Option StoreOp → Book
end_in b None = b
end_in b (Some op) = record b { ended = b.ended ++ op ∷ []; opened = None }

-- StoreBegin puts the store into the book, and StoreEnd makes it an ended one
abbrev pub book_after : Book → Event → Book
book_after b (StoreBegin op) = record b { opened = Some op }
book_after b StoreEnd = end_in b b.opened
book_after b _ = b

-- STEPS

-- the place of shard k, of n channels, by the book
abbrev pub place_in : ℕ → Book → ℕ → Place
place_in n b k = record { number = k; channels = n; records = filter (λ (r : Record). is_home n k r.id) (open_records b) }

abbrev pub place_of : Core → ℕ → Place
place_of c k = place_in (length c.channels) c.book k

abbrev pub placed : Core → ℕ → Part → Core
placed c k (Channel x) = record c { channels = set c.channels k x }
placed c k (Monitor m) = record c { monitor = m }

-- the core once a shard, a hand and the book have changed
abbrev pub changed : Core → ℕ → ℕ → Part → Hand → Event → Core
changed c a k p h e = record {
  channels = (placed c k p).channels;
  monitor = (placed c k p).monitor;
  hands = set c.hands a h;
  book = book_after c.book e;
}

abbrev pub part_of : Option CoreChannel → Bool → CoreMonitor → Option Part
part_of (Some x) here m = Some (Channel x)
part_of None true m = Some (Monitor m)
part_of None false m = None

-- the shard of a number: the channels come first, and then the monitor
abbrev pub part_at : Core → ℕ → Option Part
part_at c k = part_of (slice_get c.channels k) (nat_eq k (length c.channels)) c.monitor

abbrev pub finish : Core → Step → Option (Part × Hand) → Option Core
finish c s None = None
finish c s (Some r) = Some (changed c s.actor s.shard r.0 r.1 s.event)

abbrev pub step_of : Core → Step → Option Part → Option Hand → Option Core
step_of c s (Some p) (Some h) = cond (permits c.book (held c.channels) s.actor s.event)
    (finish c s (part_step (place_of c s.shard) p h s.event)) None
step_of c s _ _ = None

-- the core after a step, where it is allowed
abbrev pub step : Core → Step → Option Core
step c s = step_of c s (part_at c s.shard) (slice_get c.hands s.actor)

-- an allowed step: the shard and the hand that it found, that the rest of the core permits it, and what it made of the two
pub record StepMade (c : Core) (s : Step) (d : Core) : Type 0 where
  pub part : Part
  pub hand : Hand
  pub here : part_at c s.shard ≡ Some part
  pub mine : slice_get c.hands s.actor ≡ Some hand
  pub may : permits c.book (held c.channels) s.actor s.event ≡ true
  pub part' : Part
  pub hand' : Hand
  pub made : part_step (place_of c s.shard) part hand s.event ≡ Some (part', hand')
  pub gives : changed c s.actor s.shard part' hand' s.event ≡ d
  pub kind : SameKind part part'
  pub here' : part_at d s.shard ≡ Some part'
  pub mine' : slice_get d.hands s.actor ≡ Some hand'

-- the pins of each channel once a shard has changed
abbrev pub pins_then : List (List ℕ) → ℕ → Part → List (List ℕ)
pins_then pss k (Channel x) = set pss k x.pins
pins_then pss k (Monitor m) = pss

-- RUNS

abbrev pub then_run : Option Core → List Step → Option Core
then_run None ss = None
then_run (Some c) [] = Some c
then_run (Some c) (s ∷ ss) = then_run (step c s) ss

-- the core that the steps lead to, where each is allowed in the core that those before it leave
abbrev pub run : Core → List Step → Option Core
run c ss = then_run (Some c) ss

-- those of the steps that actor a made
abbrev pub steps_by : ℕ → List Step → List Step
steps_by a ss = filter (λ (s : Step). nat_eq s.actor a) ss

-- the steps before number n are allowed, and the one of that number is not, in the core that they lead to
pub record IsFirstRefused (c : Core) (ss : List Step) (n : ℕ) : Type 0 where
  pub core : Core
  pub leads : run c (take n ss) ≡ Some core
  pub bad : Step
  pub at : slice_get ss n ≡ Some bad
  pub refused : step core bad ≡ None

-- STARTS

-- channel j of n at the start: its ids of the graph, and store m as its last part, confirmed
abbrev pub start_channel : Graph → ℕ → ℕ → ℕ → CoreChannel
start_channel g m n j = record {
  table = filter (λ (r : Record). is_home n j r.id) g;
  marked = [];
  grey = [];
  pins = [];
  phase = Idle 0;
  last_part = m;
  confirmed = m;
}

-- cycle 0 is closed, all flags are set, m stores began and ended, and nothing is pending
abbrev pub start_monitor : ℕ → ℕ → ℕ → CoreMonitor
start_monitor m n format = record {
  format = format;
  cycle = 0;
  closed = true;
  begun = replicate n true;
  swept = replicate n true;
  pending = 0;
  stores_begun = m;
  stores_ended = m;
}

-- the start with the graph g, the next id, m stores, n channels, a number of actors and the format
abbrev pub start : Graph → ℕ → ℕ → ℕ → ℕ → ℕ → Core
start g next_id m n actors format = record {
  channels = map (start_channel g m n) (range_with_len 0 n);
  monitor = start_monitor m n format;
  hands = replicate actors new_hand;
  book = record { start = g; start_next = next_id; ended = []; opened = None };
}

-- a graph to start from: by rising id; empty, or with exactly the ids that its root reaches; each is 1 or from 1024 to below the next id
pub record IsStartGraph (g : Graph) (next_id : ℕ) : Type 0 where
  pub ordered : rises (ids g) ≡ true
  pub next_high : next_id ≤ id_limit
  pub good_ids : (x : ℕ) → lists g x ≡ true → is_good_id next_id x ≡ true
  pub exact : (g ≡ []) ⊎ ((x : ℕ) → (lists g x ≡ true) ↔ IsReached g (1 ∷ []) x)

-- ONE MORE ACTOR

-- the core with one more actor, whose hand is new
abbrev pub with_actor : Core → Core
with_actor c = record c { hands = c.hands ++ new_hand ∷ [] }
