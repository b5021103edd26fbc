-- What a quiet event leaves alone: pins, the book and the counts of stores; and tables only lose ids.
use Rattle.std.proofs.Common.{◌≡◌, ℕ, true, Some, refl, sym, ap, ◌∙◌, ⊎_elim}
use Rattle.graph_model.specs.Graph.{Graph, lists}
use Rattle.core_steps.specs.Core.{Book, Core, CoreChannel, CoreMonitor, Hand, channel_at, hand_at, held}
use Rattle.core_steps.specs.Events.{BeginCycle, BeginMark, CloseCycle, Confirm, Deliver, Event, MarkSome, Pin, ReportBegun, ReportSwept, Reserve, Return, Step, StoreBegin, StoreEnd, StorePart, SweepSome, Tidy, Unpin, is_quiet, is_worker}
use Rattle.core_steps.specs.Good.{channel_of}
use Rattle.core_steps.specs.Rows.{Channel, Place, visit}
use Rattle.core_steps.specs.Steps.{book_after, changed, place_of, step}
use Rattle.core_steps.proofs.Books.{swept_parts}
use Rattle.core_steps.proofs.Contents.{swept_table, visits_less}
use Rattle.core_steps.proofs.Glue.{ChannelEvent, step_gives}
use Rattle.core_steps.proofs.Kept.{of_changed}
use Rattle.core_steps.proofs.Lists.{held_same}
use Rattle.core_steps.proofs.Marked.{deliver_only, mark_only}
use Rattle.core_steps.proofs.Moves.{ChannelMove, MonitorMove, begins, begins_cycle, begins_store, channel_move, closes, confirms, delivers, ends_store, marks, pins, pins_white, reports_begun, reports_swept, reserves, returns, sweeps, takes, tidies, unpins}

-- ONE SHARD

pub record QuietChannel (x : CoreChannel) (h : Hand) (y : CoreChannel) (h' : Hand) : Type 0 where
  pub pins_ : y.pins ≡ x.pins
  pub less : (i : ℕ) → lists y.table i ≡ true → lists x.table i ≡ true
  pub opened : h'.opened ≡ h.opened

pub quiet_channel : (p : Place) (x : CoreChannel) (h : Hand) (e : Event) (y : CoreChannel) (h' : Hand) → is_quiet e ≡ true → ChannelMove p x h e y h'
    → QuietChannel x h y h'
quiet_channel p x h e y h' q (begins b i s l) = record { pins_ = refl; less = λ i l. l; opened = refl }
quiet_channel p x h e y h' q (marks b xs z g i m) = let o = mark_only p xs (x, h) (z, g) m in
    record { pins_ = o.pins; less = λ i l. ap (λ (t : Graph). lists t i) (sym o.table) ∙ l; opened = o.opened }
quiet_channel p x h e y h' q (delivers b xs z g i m) = let o = deliver_only p xs (x, h) (z, g) m in
    record { pins_ = o.pins; less = λ i l. ap (λ (t : Graph). lists t i) (sym o.table) ∙ l; opened = o.opened }
quiet_channel p x h e y h' q (sweeps b left xs f s t) = let z = (visit xs (x, left)).0 in let rest = (visit xs (x, left)).1 in
    let v = visits_less xs x left in let w = swept_table p b z h rest in record {
      pins_ = w.1 ∙ v.1;
      less = λ i l. (v.0 i (ap (λ (g : Graph). lists g i) (sym w.0) ∙ l)).0;
      opened = (swept_parts p b z h rest).2;
    }
quiet_channel p x h e y h' q (takes o i n l d r) = cc
quiet_channel p x h e y h' q (confirms l) = record { pins_ = refl; less = λ i l. l; opened = refl }
quiet_channel p x h e y h' q (pins i l c m) = cc
quiet_channel p x h e y h' q (pins_white i l c m) = cc
quiet_channel p x h e y h' q (unpins i) = cc
quiet_channel p x h e y h' q (tidies l) = record { pins_ = refl; less = λ i l. l; opened = refl }

pub record QuietMonitor (m : CoreMonitor) (h : Hand) (n : CoreMonitor) (h' : Hand) : Type 0 where
  pub begun : n.stores_begun ≡ m.stores_begun
  pub ended : n.stores_ended ≡ m.stores_ended
  pub opened : h'.opened ≡ h.opened

pub quiet_monitor : (m : CoreMonitor) (h : Hand) (e : Event) (n : CoreMonitor) (h' : Hand) → is_quiet e ≡ true → MonitorMove m h e n h'
    → QuietMonitor m h n h'
quiet_monitor m h e n h' q (reserves i l) = record { begun = refl; ended = refl; opened = refl }
quiet_monitor m h e n h' q (returns i l) = record { begun = refl; ended = refl; opened = refl }
quiet_monitor m h e n h' q (begins_cycle t s) = record { begun = refl; ended = refl; opened = refl }
quiet_monitor m h e n h' q (reports_begun j r) = record { begun = refl; ended = refl; opened = refl }
quiet_monitor m h e n h' q (closes o p s b) = record { begun = refl; ended = refl; opened = refl }
quiet_monitor m h e n h' q (reports_swept j r) = record { begun = refl; ended = refl; opened = refl }
quiet_monitor m h e n h' q (begins_store op s) = cc
quiet_monitor m h e n h' q (ends_store o i s) = cc

pub quiet_book : (b : Book) (e : Event) → is_quiet e ≡ true → book_after b e ≡ b
quiet_book b (Reserve n) q = refl
quiet_book b (Return n) q = refl
quiet_book b BeginCycle q = refl
quiet_book b BeginMark q = refl
quiet_book b (MarkSome xs) q = refl
quiet_book b (Deliver xs) q = refl
quiet_book b (ReportBegun j) q = refl
quiet_book b CloseCycle q = refl
quiet_book b (SweepSome xs) q = refl
quiet_book b (ReportSwept j) q = refl
quiet_book b (StoreBegin op) q = cc
quiet_book b StorePart q = cc
quiet_book b StoreEnd q = cc
quiet_book b Confirm q = refl
quiet_book b (Pin x) q = cc
quiet_book b (Unpin x) q = cc
quiet_book b Tidy q = refl

-- what a worker makes is quiet
pub worker_quiet : (e : Event) → is_worker e ≡ true → is_quiet e ≡ true
worker_quiet (Reserve n) w = refl
worker_quiet (Return n) w = refl
worker_quiet BeginCycle w = refl
worker_quiet BeginMark w = refl
worker_quiet (MarkSome xs) w = refl
worker_quiet (Deliver xs) w = refl
worker_quiet (ReportBegun j) w = refl
worker_quiet CloseCycle w = refl
worker_quiet (SweepSome xs) w = refl
worker_quiet (ReportSwept j) w = refl
worker_quiet (StoreBegin op) w = cc
worker_quiet StorePart w = cc
worker_quiet StoreEnd w = cc
worker_quiet Confirm w = cc
worker_quiet (Pin x) w = cc
worker_quiet (Unpin x) w = cc
worker_quiet Tidy w = refl

-- A STEP

pub record QuietStep (c d : Core) : Type 0 where
  pub book : d.book ≡ c.book
  pub held_ : held d.channels ≡ held c.channels
  pub less : (x : ℕ) → lists (channel_of d x).table x ≡ true → lists (channel_of c x).table x ≡ true

quiet_with : (c : Core) (a k : ℕ) (e : Event) (y : CoreChannel) (h : Hand) → is_quiet e ≡ true → ChannelEvent c a k e y h
    → QuietStep c (changed c a k (Channel y) h e)
quiet_with c a k e y h q ev = let x = channel_at c.channels k in
    let s = quiet_channel (place_of c k) x (hand_at c.hands a) e y h q (channel_move (place_of c k) x (hand_at c.hands a) e (y, h) ev.made) in record {
      book = quiet_book c.book e q;
      held_ = held_same c.channels k y s.pins_;
      less = λ i l. ⊎_elim (λ t. ap (λ (z : CoreChannel). lists z.table i) t.2 ∙ s.less i (ap (λ (z : CoreChannel). lists z.table i) (sym t.1) ∙ l))
          (λ t. ap (λ (z : CoreChannel). lists z.table i) (sym t) ∙ l) (of_changed c a k y h i ev.here);
    }

-- a quiet step leaves the book and the held ids, and tables only lose ids
pub quiet_step : (c : Core) (s : Step) (d : Core) → is_quiet s.event ≡ true → step c s ≡ Some d → QuietStep c d
quiet_step c s d q = step_gives (QuietStep c) c s (λ y h ev. quiet_with c s.actor s.shard s.event y h q ev)
    (λ m h ev. record { book = quiet_book c.book s.event q; held_ = refl; less = λ i l. l }) d
