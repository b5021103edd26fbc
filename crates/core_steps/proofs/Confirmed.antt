-- Confirmed numbers stay right, and a hand with an open store sees that the cycle closed.
use Rattle.std.proofs.Common.{◌≡◌, ◌+◌, ◌≤◌, ◌≢◌, ℕ, ◌<◌, Bool, true, false, List, length, set, Option, Some, None, refl, sym, ap, ◌∙◌, subst, arith, ⊎_elim, get_or}
use Rattle.std.specs.Prelude.{nat_eq, is_some}
use Rattle.std.proofs.lemmas.Bool.{cases_eq, eqb-true, and_parts}
use Rattle.std.proofs.lemmas.List.{get_or-set_same, get_or-set_other}
use Rattle.graph_model.specs.Graph.{ids}
use Rattle.graph_model.specs.Ids.{has}
use Rattle.graph_model.specs.Stores.{is_valid_store}
use Rattle.core_steps.specs.Core.{Core, CoreChannel, CoreMonitor, Hand, OpenStore, channel_at, graph, hand_at, held, new_hand, next_before, no_channel, written_of}
use Rattle.core_steps.specs.Events.{Event}
use Rattle.core_steps.specs.Good.{AllConfirmedFit, AllOpenSaw, AllSawRight, BookFits, ConfirmedFits, OpenSaw, SawRight, one_if}
use Rattle.core_steps.specs.Rows.{Channel, Monitor, Place, part_taken, visit, part_given}
use Rattle.core_steps.specs.Steps.{changed, place_of}
use Rattle.core_steps.proofs.Books.{no_hand_open, none_open, opened_by, part_parts, swept_parts, visit_parts}
use Rattle.core_steps.proofs.Glue.{ChannelEvent, MonitorEvent}
use Rattle.core_steps.proofs.Lists.{each_set}
use Rattle.core_steps.proofs.Marked.{deliver_only, mark_only}
use Rattle.core_steps.proofs.Moves.{ChannelMove, MonitorMove, begins, begins_cycle, begins_store, channel_move, closes, confirms, delivers, ends_store, marks, monitor_move, pins, pins_white, reports_begun, reports_swept, reserves, returns, sweeps, takes, tidies, unpins}
use Rattle.core_steps.proofs.Views.{channel_views, monitor_later, monitor_sees}

confirmed_same : (m : CoreMonitor) (x y : CoreChannel) → y.last_part ≡ x.last_part → y.confirmed ≡ x.confirmed → ConfirmedFits m x → ConfirmedFits m y
confirmed_same m x y l c f = let e = f.ended in let h = f.high in record {
  ended = omega arith;
  high = omega arith;
  low = λ one. let w = f.low one in omega arith;
}

confirmed_move : (m : CoreMonitor) (p : Place) (x : CoreChannel) (h : Hand) (e : Event) (y : CoreChannel) (h' : Hand) → SawRight m h → ConfirmedFits m x
    → ((o : OpenStore) → h.opened ≡ Some o → m.format ≡ 1 → has p.number o.written ≡ false → o.number ≤ x.last_part + 1) → ChannelMove p x h e y h'
    → ConfirmedFits m y
confirmed_move m p x h e y h' saw f next_ (begins b i s l) = confirmed_same m x y refl refl f
confirmed_move m p x h e y h' saw f next_ (marks b xs z g i q) = let o = mark_only p xs (x, h) (z, g) q in confirmed_same m x z o.last_part o.confirmed f
confirmed_move m p x h e y h' saw f next_ (delivers b xs z g i q) = let o = deliver_only p xs (x, h) (z, g) q in
    confirmed_same m x z o.last_part o.confirmed f
confirmed_move m p x h e y h' saw f next_ (sweeps b left xs r s t) = let v = visit_parts xs x left in
    let w = swept_parts p b (visit xs (x, left)).0 h (visit xs (x, left)).1 in confirmed_same m x y (w.0 ∙ v.0) (w.1 ∙ v.1) f
confirmed_move m p x h e y h' saw f next_ (takes o i n l d r) = let w = part_parts (ids p.records) x.phase (part_taken p o.number x, part_given p o h) in
    let last : y.last_part ≡ o.number = w.0 in let conf : y.confirmed ≡ x.confirmed = w.1 in let e = f.ended in record {
      ended = omega arith;
      high = omega arith;
      low = λ one. let w = next_ o i one n in omega arith;
    }
confirmed_move m p x h e y h' saw f next_ (confirms l) = let s = saw.ended in record { ended = omega arith; high = omega arith; low = λ one. omega arith }
confirmed_move m p x h e y h' saw f next_ (pins i l q t) = confirmed_same m x y refl refl f
confirmed_move m p x h e y h' saw f next_ (pins_white i l q t) = confirmed_same m x y refl refl f
confirmed_move m p x h e y h' saw f next_ (unpins i) = confirmed_same m x y refl refl f
confirmed_move m p x h e y h' saw f next_ (tidies l) = f

begun_most : (c : Core) → BookFits c → c.monitor.stores_begun ≤ c.monitor.stores_ended + 1
begun_most c f = by (is_some c.book.opened) f.begun
  where
    by : (b : Bool) → c.monitor.stores_begun ≡ c.monitor.stores_ended + one_if b → c.monitor.stores_begun ≤ c.monitor.stores_ended + 1
    by true e = omega arith
    by false e = omega arith

pub confirmed_channel : (c : Core) (a k : ℕ) (e : Event) (y : CoreChannel) (h : Hand) → AllSawRight c → BookFits c → AllConfirmedFit c
    → ChannelEvent c a k e y h → AllConfirmedFit (changed c a k (Channel y) h e)
confirmed_channel c a k e y h saw book fits ev = each_set (λ (j : ℕ) (z : CoreChannel). ConfirmedFits c.monitor z) c.channels k y no_channel
    (confirmed_move c.monitor (place_of c k) (channel_at c.channels k) (hand_at c.hands a) e y h (saw a) (fits k)
    (λ o i one n. let z = opened_by c a o book i in
    let i0 : (hand_at c.hands 0).opened ≡ Some o = subst (λ (b : ℕ). (hand_at c.hands b).opened ≡ Some o) z i in let num = book.number o i0 in
    let last = book.part_last one k ev.here (subst (λ (q : Option OpenStore). has k (written_of q) ≡ false) (sym i0) n) in
    let most = begun_most c book in omega arith) (channel_move (place_of c k) (channel_at c.channels k) (hand_at c.hands a) e (y, h) ev.made)) fits

pub format_same : (c : Core) (a : ℕ) (e : Event) (m : CoreMonitor) (h : Hand) → MonitorMove c.monitor (hand_at c.hands a) e m h → m.format ≡ c.monitor.format
format_same c a e m h (reserves i l) = refl
format_same c a e m h (returns i l) = refl
format_same c a e m h (begins_cycle t s) = refl
format_same c a e m h (reports_begun j r) = refl
format_same c a e m h (closes o p s b) = refl
format_same c a e m h (reports_swept j r) = refl
format_same c a e m h (begins_store op s) = refl
format_same c a e m h (ends_store o i s) = refl

pub confirmed_monitor : (c : Core) (a k : ℕ) (e : Event) (m : CoreMonitor) (h : Hand) → AllConfirmedFit c → MonitorEvent c a e m h
    → AllConfirmedFit (changed c a k (Monitor m) h e)
confirmed_monitor c a k e m h fits ev j = let l = (monitor_later c.monitor (hand_at c.hands a) e m h
    (monitor_move c.monitor (hand_at c.hands a) e (m, h) ev.made)).ended in let f = fits j in let d = f.ended in record {
      ended = omega arith;
      high = f.high;
      low = λ one. f.low (sym (format_same c a e m h (monitor_move c.monitor (hand_at c.hands a) e (m, h) ev.made)) ∙ one);
    }

-- an event of a channel opens and ends no store
open_same : (p : Place) (x : CoreChannel) (h : Hand) (e : Event) (y : CoreChannel) (h' : Hand) → ChannelMove p x h e y h'
    → is_some h'.opened ≡ is_some h.opened
open_same p x h e y h' (begins b i s l) = refl
open_same p x h e y h' (marks b xs z g i q) = ap (λ (o : Option OpenStore). is_some o) (mark_only p xs (x, h) (z, g) q).opened
open_same p x h e y h' (delivers b xs z g i q) = ap (λ (o : Option OpenStore). is_some o) (deliver_only p xs (x, h) (z, g) q).opened
open_same p x h e y h' (sweeps b left xs r s t) = ap (λ (o : Option OpenStore). is_some o) (swept_parts p b (visit xs (x, left)).0 h (visit xs (x, left)).1).2
open_same p x h e y h' (takes o i n l d r) = ap (λ (o : Option OpenStore). is_some o)
    (part_parts (ids p.records) x.phase (part_taken p o.number x, part_given p o h)).2 ∙ sym (ap (λ (o : Option OpenStore). is_some o) i)
open_same p x h e y h' (confirms l) = refl
open_same p x h e y h' (pins i l q t) = refl
open_same p x h e y h' (pins_white i l q t) = refl
open_same p x h e y h' (unpins i) = refl
open_same p x h e y h' (tidies l) = refl

pub open_saw_channel : (c : Core) (a k : ℕ) (e : Event) (y : CoreChannel) (h : Hand) → AllOpenSaw c → ChannelEvent c a k e y h
    → AllOpenSaw (changed c a k (Channel y) h e)
open_saw_channel c a k e y h saw ev = let move = channel_move (place_of c k) (channel_at c.channels k) (hand_at c.hands a) e (y, h) ev.made in
    let v = channel_views (place_of c k) (channel_at c.channels k) (hand_at c.hands a) e y h move in
    let o = open_same (place_of c k) (channel_at c.channels k) (hand_at c.hands a) e y h move in let s = saw a in
    each_set (λ (b : ℕ) (g : Hand). OpenSaw c.monitor g) c.hands a h new_hand record {
      cycle = λ t u. v.cycle
          ∙ s.cycle (sym o ∙ t) u;
      closed = λ t u. v.closed ∙ s.closed (sym o ∙ t) u;
    } saw

no_open : (m : CoreMonitor) (h : Hand) → h.opened ≡ None → OpenSaw m h
no_open m h e = let t : is_some h.opened ≡ false = ap (λ (o : Option OpenStore). is_some o) e in record { cycle = λ s u. cc; closed = λ s u. cc }

-- what another hand sees of an event of the monitor
others_saw : (c : Core) (a b : ℕ) (e : Event) (m : CoreMonitor) (h : Hand) → BookFits c → OpenSaw c.monitor (hand_at c.hands b) → MonitorEvent c a e m h
    → MonitorMove c.monitor (hand_at c.hands a) e m h → b ≢ a → OpenSaw m (hand_at c.hands b)
others_saw c a b e m h fits s ev (reserves i l) n = record { cycle = s.cycle; closed = s.closed }
others_saw c a b e m h fits s ev (returns i l) n = record { cycle = s.cycle; closed = s.closed }
others_saw c a b e m h fits s ev (begins_cycle t w) n = record { cycle = λ u v. cc; closed = λ u v. cc }
others_saw c a b e m h fits s ev (reports_begun j r) n = record { cycle = s.cycle; closed = s.closed }
others_saw c a b e m h fits s ev (closes o p same w) n = no_open m (hand_at c.hands b)
    (⊎_elim (λ z. subst (λ (i : ℕ). (hand_at c.hands i).opened ≡ None) (sym z) (no_hand_open c fits (none_open c fits same))) (λ z. fits.no_other b z)
    (cases_eq b 0))
others_saw c a b e m h fits s ev (reports_swept j r) n = record { cycle = s.cycle; closed = s.closed }
others_saw c a b e m h fits s ev (begins_store op w) n = let z = eqb-true a 0
    (and_parts (nat_eq a 0) (is_valid_store (graph c.book) (held c.channels) (next_before c.book) op) ev.may).0 in
    no_open m (hand_at c.hands b) (fits.no_other b (λ y. n (y ∙ sym z)))
others_saw c a b e m h fits s ev (ends_store o i w) n = let z = opened_by c a o fits i in no_open m (hand_at c.hands b) (fits.no_other b (λ y. n (y ∙ sym z)))

pub each_set_other : {A : Type 0} (P : A → Type 0) (l : List A) (k : ℕ) (y d : A) → P y → ((j : ℕ) → j ≢ k → P (get_or l j d)) → k < length l → (j : ℕ)
    → P (get_or (set l k y) j d)
each_set_other P l k y d here all b j = ⊎_elim (λ e. subst (λ (i : ℕ). P (get_or (set l k y) i d)) (sym e) (subst P (sym (get_or-set_same l k y d b)) here))
    (λ n. subst P (sym (get_or-set_other l k j y d n)) (all j n)) (cases_eq j k)

pub open_saw_monitor : (c : Core) (a k : ℕ) (e : Event) (m : CoreMonitor) (h : Hand) → BookFits c → AllOpenSaw c → MonitorEvent c a e m h
    → AllOpenSaw (changed c a k (Monitor m) h e)
open_saw_monitor c a k e m h fits saw ev = let move = monitor_move c.monitor (hand_at c.hands a) e (m, h) ev.made in
    let v = monitor_sees c.monitor (hand_at c.hands a) e m h move in
    each_set_other (OpenSaw m) c.hands a h new_hand record { cycle = λ t u. v.cycle; closed = λ t u. v.closed ∙ u }
    (λ b n. others_saw c a b e m h fits (saw b) ev move n) ev.mine
