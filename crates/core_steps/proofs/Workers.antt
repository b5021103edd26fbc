-- What a worker's event neither asks for nor changes: the book, the pins, the confirmed numbers and the open store.
use Rattle.std.proofs.Common.{◌≡◌, ℕ, true, ◌&&◌, List, [], ◌∷◌, length, set, Option, Some, None, refl, ap, ◌∙◌, subst, nat_eq}
use Rattle.std.specs.Prelude.{nat_eq}
use Rattle.graph_model.specs.declared.entity.Record.{Record}
use Rattle.graph_model.specs.Graph.{edges_of, entity_of, ids}
use Rattle.std.proofs.lemmas.Option.{slice_get-map}
use Rattle.std.specs.Option.{option_map}
use Rattle.core_steps.specs.Core.{Book, Core, CoreChannel, CoreMonitor, Hand, Idle, Marking, Phase, Sweeping, pins_of}
use Rattle.core_steps.specs.Events.{BeginCycle, BeginMark, CloseCycle, Confirm, Deliver, Event, MarkSome, Pin, ReportBegun, ReportSwept, Reserve, Return, Step, StoreBegin, StoreEnd, StorePart, SweepSome, Tidy, Unpin, is_worker}
use Rattle.core_steps.specs.Rows.{Channel, Monitor, Part, Place, as_channel, begin_mark, channel_step, each_of, if_marking, mark_edge, mark_edges, mark_one, part_step, sweep_some, swept_to, given, may_mark, visit, monitor_step, as_monitor, ungreyed}
use Rattle.core_steps.specs.Steps.{book_after, part_at, permits, pins_then, place_in, step, place_of}
use Rattle.core_steps.proofs.Moves.{channel_move, monitor_move}
use Rattle.core_steps.proofs.Quiet.{quiet_book, quiet_channel, worker_quiet, quiet_monitor}
use Rattle.core_steps.proofs.Shards.{set_same, channel_there, step_made, step_pins}

-- no matter whose it is, and what book and held ids say
pub permits_worker : (b b' : Book) (xs xs' : List ℕ) (a a' : ℕ) (e : Event) → is_worker e ≡ true → permits b xs a e ≡ permits b' xs' a' e
permits_worker b b' xs xs' a a' (StoreBegin op) w = cc
permits_worker b b' xs xs' a a' (Pin x) w = cc
permits_worker b b' xs xs' a a' (Reserve n) w = refl
permits_worker b b' xs xs' a a' (Return n) w = refl
permits_worker b b' xs xs' a a' BeginCycle w = refl
permits_worker b b' xs xs' a a' BeginMark w = refl
permits_worker b b' xs xs' a a' (MarkSome ids) w = refl
permits_worker b b' xs xs' a a' (Deliver ids) w = refl
permits_worker b b' xs xs' a a' (ReportBegun j) w = refl
permits_worker b b' xs xs' a a' CloseCycle w = refl
permits_worker b b' xs xs' a a' (SweepSome ids) w = refl
permits_worker b b' xs xs' a a' (ReportSwept j) w = refl
permits_worker b b' xs xs' a a' StorePart w = cc
permits_worker b b' xs xs' a a' StoreEnd w = cc
permits_worker b b' xs xs' a a' Confirm w = cc
permits_worker b b' xs xs' a a' (Unpin x) w = cc
permits_worker b b' xs xs' a a' Tidy w = refl

pub book_worker : (b : Book) (e : Event) → is_worker e ≡ true → book_after b e ≡ b
book_worker b e w = quiet_book b e (worker_quiet e w)

-- THE RECORDS OF THE OPEN STORE

each_of_same : {A : Type 0} (f g : ℕ → A → Option A) → ((x : ℕ) (a : A) → f x a ≡ g x a) → (xs : List ℕ) (o : Option A) → each_of f xs o ≡ each_of g xs o
each_of_same f g same [] None = refl
each_of_same f g same [] (Some a) = refl
each_of_same f g same (x ∷ xs) None = refl
each_of_same f g same (x ∷ xs) (Some a) = ap (each_of f xs) (same x a) ∙ each_of_same f g same xs (g x a)

edges_same : (k n : ℕ) (rs rs' : List Record) (ys : List ℕ) (r : CoreChannel × Hand)
    → mark_edges record { number = k; channels = n; records = rs } ys r ≡ mark_edges record { number = k; channels = n; records = rs' } ys r
edges_same k n rs rs' [] r = refl
edges_same k n rs rs' (y ∷ ys) r = edges_same k n rs rs' ys (mark_edge record { number = k; channels = n; records = rs } y r)

mark_same : (k n : ℕ) (rs rs' : List Record) (x : ℕ) (r : CoreChannel × Hand)
    → mark_one record { number = k; channels = n; records = rs } x r ≡ mark_one record { number = k; channels = n; records = rs' } x r
mark_same k n rs rs' x r = let es = edges_of (entity_of r.0.table x) in
    ap (given (may_mark x (length es) r.0 r.1)) (edges_same k n rs rs' es (ungreyed x r))

swept_same : (k n : ℕ) (rs rs' : List Record) (b : ℕ) (x : CoreChannel) (h : Hand) (left : List ℕ)
    → swept_to record { number = k; channels = n; records = rs } b x h left ≡ swept_to record { number = k; channels = n; records = rs' } b x h left
swept_same k n rs rs' b x h [] = refl
swept_same k n rs rs' b x h (i ∷ left) = refl

sweep_same : (k n : ℕ) (rs rs' : List Record) (xs : List ℕ) (x : CoreChannel) (h : Hand) (ph : Phase)
    → sweep_some record { number = k; channels = n; records = rs } ph xs x h ≡ sweep_some record { number = k; channels = n; records = rs' } ph xs x h
sweep_same k n rs rs' xs x h (Idle b) = refl
sweep_same k n rs rs' xs x h (Marking b) = ap (given (h.closed_seen && nat_eq h.cycle_seen b))
    (swept_same k n rs rs' b (visit xs (x, ids x.table)).0 h (visit xs (x, ids x.table)).1)
sweep_same k n rs rs' xs x h (Sweeping b left) = ap (given (h.closed_seen && nat_eq h.cycle_seen b))
    (swept_same k n rs rs' b (visit xs (x, left)).0 h (visit xs (x, left)).1)

begin_same : (k n : ℕ) (rs rs' : List Record) (x : CoreChannel) (h : Hand) (ph : Phase)
    → begin_mark record { number = k; channels = n; records = rs } ph x h ≡ begin_mark record { number = k; channels = n; records = rs' } ph x h
begin_same k n rs rs' x h (Idle b) = refl
begin_same k n rs rs' x h (Marking b) = refl
begin_same k n rs rs' x h (Sweeping b left) = refl

channel_same : (k n : ℕ) (rs rs' : List Record) (x : CoreChannel) (h : Hand) (e : Event) → is_worker e ≡ true
    → channel_step record { number = k; channels = n; records = rs } x h e ≡ channel_step record { number = k; channels = n; records = rs' } x h e
channel_same k n rs rs' x h BeginMark w = begin_same k n rs rs' x h x.phase
channel_same k n rs rs' x h (MarkSome xs) w = ap (if_marking x.phase)
    (each_of_same (mark_one record { number = k; channels = n; records = rs }) (mark_one record { number = k; channels = n; records = rs' })
    (mark_same k n rs rs') xs (Some (x, h)))
channel_same k n rs rs' x h (Deliver xs) w = refl
channel_same k n rs rs' x h (SweepSome xs) w = sweep_same k n rs rs' xs x h x.phase
channel_same k n rs rs' x h StorePart w = cc
channel_same k n rs rs' x h Confirm w = cc
channel_same k n rs rs' x h (Pin i) w = cc
channel_same k n rs rs' x h (Unpin i) w = cc
channel_same k n rs rs' x h Tidy w = refl
channel_same k n rs rs' x h (Reserve i) w = refl
channel_same k n rs rs' x h (Return i) w = refl
channel_same k n rs rs' x h BeginCycle w = refl
channel_same k n rs rs' x h (ReportBegun j) w = refl
channel_same k n rs rs' x h CloseCycle w = refl
channel_same k n rs rs' x h (ReportSwept j) w = refl
channel_same k n rs rs' x h (StoreBegin op) w = cc
channel_same k n rs rs' x h StoreEnd w = cc

-- a worker need not know the book to make its event
pub place_worker : (n k : ℕ) (b b' : Book) (q : Part) (h : Hand) (e : Event) → is_worker e ≡ true
    → part_step (place_in n b k) q h e ≡ part_step (place_in n b' k) q h e
place_worker n k b b' (Channel x) h e w = ap as_channel (channel_same k n (place_in n b k).records (place_in n b' k).records x h e w)
place_worker n k b b' (Monitor m) h e w = refl

-- PINS AND THE OPEN STORE

-- what a worker makes of a shard and a hand leaves pins and open store
pub record LeavesStores (c : Core) (k : ℕ) (q' : Part) (h h' : Hand) : Type 0 where
  pub pins_ : pins_then (pins_of c.channels) k q' ≡ pins_of c.channels
  pub opened : h'.opened ≡ h.opened

pub leaves_stores : (c : Core) (k : ℕ) (p : Place) (q q' : Part) (h h' : Hand) (e : Event) → is_worker e ≡ true → part_at c k ≡ Some q
    → part_step p q h e ≡ Some (q', h') → LeavesStores c k q' h h'
leaves_stores c k p (Channel x) q' h h' e w here = by (channel_step p x h e) refl
  where
    by : (o : Option (CoreChannel × Hand)) → channel_step p x h e ≡ o → as_channel o ≡ Some (q', h') → LeavesStores c k q' h h'
    by None made m = cc
    by (Some r) made m = let s = quiet_channel p x h e r.0 r.1 (worker_quiet e w) (channel_move p x h e r made) in
        let t : ◌≡◌ {A = Part × Hand} (Channel r.0, r.1) (q', h') = cc in subst (λ (z : Part × Hand). LeavesStores c k z.0 h z.1) t record {
          pins_ = ap (set (pins_of c.channels) k) s.pins_ ∙ set_same (pins_of c.channels) k x.pins (slice_get-map (λ (z : CoreChannel). z.pins) c.channels k
              ∙ ap (option_map (λ (z : CoreChannel). z.pins)) (channel_there c k x here));
          opened = s.opened;
        }
leaves_stores c k p (Monitor x) q' h h' e w here = by (monitor_step x h e) refl
  where
    by : (o : Option (CoreMonitor × Hand)) → monitor_step x h e ≡ o → as_monitor o ≡ Some (q', h') → LeavesStores c k q' h h'
    by None made m = cc
    by (Some r) made m = let s = quiet_monitor x h e r.0 r.1 (worker_quiet e w) (monitor_move x h e r made) in
        let t : ◌≡◌ {A = Part × Hand} (Monitor r.0, r.1) (q', h') = cc in
        subst (λ (z : Part × Hand). LeavesStores c k z.0 h z.1) t record { pins_ = refl; opened = s.opened }

pub pins_worker : (c : Core) (s : Step) (d : Core) → is_worker s.event ≡ true → step c s ≡ Some d → pins_of d.channels ≡ pins_of c.channels
pins_worker c s d w e = let m = step_made c s d e in
    step_pins c s d e ∙ (leaves_stores c s.shard (place_of c s.shard) m.part m.part' m.hand m.hand' s.event w m.here m.made).pins_
