-- What hands saw stays right.
use Rattle.std.proofs.Common.{◌≡◌, ℕ, ◌≤◌, true, false, cond, List, [], ◌∷◌, refl, sym, ◌∙◌, subst, arith}
use Rattle.std.specs.Prelude.{◌&&◌, nat_eq}
use Rattle.graph_model.specs.Graph.{ids}
use Rattle.core_steps.specs.Core.{Core, CoreChannel, CoreMonitor, Hand, Idle, Marking, Phase, Sweeping, channel_at, hand_at, new_hand}
use Rattle.core_steps.specs.Events.{Event}
use Rattle.core_steps.specs.Good.{AllSawRight, SawRight}
use Rattle.core_steps.specs.Rows.{Channel, Monitor, Place, part_marked, part_taken, swept_to, visit, part_given, marked_all, greyed_all}
use Rattle.core_steps.specs.Steps.{changed, place_of}
use Rattle.core_steps.proofs.Glue.{ChannelEvent, MonitorEvent}
use Rattle.core_steps.proofs.Lists.{each_set}
use Rattle.core_steps.proofs.Marked.{deliver_only, mark_only}
use Rattle.core_steps.proofs.Moves.{ChannelMove, MonitorMove, begins, begins_cycle, begins_store, channel_move, closes, confirms, delivers, ends_store, marks, monitor_move, pins, pins_white, reports_begun, reports_swept, reserves, returns, sweeps, takes, tidies, unpins}

pub record SameViews (h h' : Hand) : Type 0 where
  pub cycle : h'.cycle_seen ≡ h.cycle_seen
  pub closed : h'.closed_seen ≡ h.closed_seen
  pub ended : h'.ended_seen ≡ h.ended_seen

swept_views : (p : Place) (b : ℕ) (x : CoreChannel) (h : Hand) (left : List ℕ) → SameViews h (swept_to p b x h left).1
swept_views p b x h [] = record { cycle = refl; closed = refl; ended = refl }
swept_views p b x h (i ∷ left) = record { cycle = refl; closed = refl; ended = refl }

part_views : (xs : List ℕ) (ph : Phase) (r : CoreChannel × Hand) → SameViews r.1 (part_marked xs ph r).1
part_views xs (Idle b) r = record { cycle = refl; closed = refl; ended = refl }
part_views xs (Marking b) r = elim (r.1.closed_seen && nat_eq r.1.cycle_seen b) as
    (λ t. SameViews r.1 (cond {A = CoreChannel × Hand} t (marked_all xs r) (greyed_all xs r)).1) [
      | true ↦ record { cycle = refl; closed = refl; ended = refl }
      | false ↦ record { cycle = refl; closed = refl; ended = refl }
    ]
part_views xs (Sweeping b left) r = record { cycle = refl; closed = refl; ended = refl }

-- no event of a channel lets the hand see the monitor
pub channel_views : (p : Place) (x : CoreChannel) (h : Hand) (e : Event) (y : CoreChannel) (h' : Hand) → ChannelMove p x h e y h' → SameViews h h'
channel_views p x h e y h' (begins b i s l) = record { cycle = refl; closed = refl; ended = refl }
channel_views p x h e y h' (marks b xs z g i m) = let o = mark_only p xs (x, h) (z, g) m in record {
  cycle = o.cycle_seen;
  closed = o.closed_seen;
  ended = o.ended_seen;
}
channel_views p x h e y h' (delivers b xs z g i m) = let o = deliver_only p xs (x, h) (z, g) m in record {
  cycle = o.cycle_seen;
  closed = o.closed_seen;
  ended = o.ended_seen;
}
channel_views p x h e y h' (sweeps b left xs f s t) = swept_views p b (visit xs (x, left)).0 h (visit xs (x, left)).1
channel_views p x h e y h' (takes o i n l c r) = let v = part_views (ids p.records) x.phase (part_taken p o.number x, part_given p o h) in
    record { cycle = v.cycle; closed = v.closed; ended = v.ended }
channel_views p x h e y h' (confirms l) = record { cycle = refl; closed = refl; ended = refl }
channel_views p x h e y h' (pins i l c m) = record { cycle = refl; closed = refl; ended = refl }
channel_views p x h e y h' (pins_white i l c m) = record { cycle = refl; closed = refl; ended = refl }
channel_views p x h e y h' (unpins i) = record { cycle = refl; closed = refl; ended = refl }
channel_views p x h e y h' (tidies l) = record { cycle = refl; closed = refl; ended = refl }

pub views_channel : (c : Core) (a k : ℕ) (e : Event) (y : CoreChannel) (h : Hand) → AllSawRight c → ChannelEvent c a k e y h
    → AllSawRight (changed c a k (Channel y) h e)
views_channel c a k e y h saw ev = let v = channel_views (place_of c k) (channel_at c.channels k) (hand_at c.hands a) e y h
    (channel_move (place_of c k) (channel_at c.channels k) (hand_at c.hands a) e (y, h) ev.made) in let s = saw a in
    each_set (λ (b : ℕ) (g : Hand). SawRight c.monitor g) c.hands a h new_hand record {
      cycle = subst (λ (n : ℕ). n ≤ c.monitor.cycle) (sym v.cycle) s.cycle;
      closed = λ is was. s.closed (sym v.cycle ∙ is) (sym v.closed ∙ was);
      ended = subst (λ (n : ℕ). n ≤ c.monitor.stores_ended) (sym v.ended) s.ended;
    } saw

-- the monitor only goes forward
pub record Later (m n : CoreMonitor) : Type 0 where
  pub cycle : m.cycle ≤ n.cycle
  pub closed : m.cycle ≡ n.cycle → m.closed ≡ true → n.closed ≡ true
  pub ended : m.stores_ended ≤ n.stores_ended

pub monitor_later : (m : CoreMonitor) (h : Hand) (e : Event) (n : CoreMonitor) (h' : Hand) → MonitorMove m h e n h' → Later m n
monitor_later m h e n h' (reserves i l) = record { cycle = omega arith; closed = λ s t. t; ended = omega arith }
monitor_later m h e n h' (returns i l) = record { cycle = omega arith; closed = λ s t. t; ended = omega arith }
monitor_later m h e n h' (begins_cycle t s) = record { cycle = omega arith; closed = λ s t. absurd (omega arith); ended = omega arith }
monitor_later m h e n h' (reports_begun j r) = record { cycle = omega arith; closed = λ s t. t; ended = omega arith }
monitor_later m h e n h' (closes o p s b) = record { cycle = omega arith; closed = λ s t. refl; ended = omega arith }
monitor_later m h e n h' (reports_swept j r) = record { cycle = omega arith; closed = λ s t. t; ended = omega arith }
monitor_later m h e n h' (begins_store op s) = record { cycle = omega arith; closed = λ s t. t; ended = omega arith }
monitor_later m h e n h' (ends_store o i s) = record { cycle = omega arith; closed = λ s t. t; ended = omega arith }

-- after its event the hand sees the monitor as it is
pub record Sees (m : CoreMonitor) (h : Hand) : Type 0 where
  pub cycle : h.cycle_seen ≡ m.cycle
  pub closed : h.closed_seen ≡ m.closed
  pub ended : h.ended_seen ≡ m.stores_ended

pub monitor_sees : (m : CoreMonitor) (h : Hand) (e : Event) (n : CoreMonitor) (h' : Hand) → MonitorMove m h e n h' → Sees n h'
monitor_sees m h e n h' (reserves i l) = record { cycle = refl; closed = refl; ended = refl }
monitor_sees m h e n h' (returns i l) = record { cycle = refl; closed = refl; ended = refl }
monitor_sees m h e n h' (begins_cycle t s) = record { cycle = refl; closed = refl; ended = refl }
monitor_sees m h e n h' (reports_begun j r) = record { cycle = refl; closed = refl; ended = refl }
monitor_sees m h e n h' (closes o p s b) = record { cycle = refl; closed = refl; ended = refl }
monitor_sees m h e n h' (reports_swept j r) = record { cycle = refl; closed = refl; ended = refl }
monitor_sees m h e n h' (begins_store op s) = record { cycle = refl; closed = refl; ended = refl }
monitor_sees m h e n h' (ends_store o i s) = record { cycle = refl; closed = refl; ended = refl }

saw_later : (m n : CoreMonitor) (h : Hand) → Later m n → SawRight m h → SawRight n h
saw_later m n h l s = let a = l.cycle in let b = s.cycle in let d = l.ended in let f = s.ended in record {
  cycle = omega arith;
  closed = λ is was. let here : h.cycle_seen ≡ m.cycle = omega arith in l.closed (sym here ∙ is) (s.closed here was);
  ended = omega arith;
}

pub views_monitor : (c : Core) (a k : ℕ) (e : Event) (m : CoreMonitor) (h : Hand) → AllSawRight c → MonitorEvent c a e m h
    → AllSawRight (changed c a k (Monitor m) h e)
views_monitor c a k e m h saw ev = let move = monitor_move c.monitor (hand_at c.hands a) e (m, h) ev.made in
    let l = monitor_later c.monitor (hand_at c.hands a) e m h move in let v = monitor_sees c.monitor (hand_at c.hands a) e m h move in
    each_set (λ (b : ℕ) (g : Hand). SawRight m g) c.hands a h new_hand record {
      cycle = omega (arith, v.cycle);
      closed = λ is was. sym v.closed
          ∙ was;
      ended = omega (arith, v.ended);
    } (λ b. saw_later c.monitor m (hand_at c.hands b) l (saw b))
