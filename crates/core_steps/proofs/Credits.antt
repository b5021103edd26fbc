-- Pending stays the number of grey ids, ids in transit and credit.
use Rattle.std.proofs.Common.{◌≡◌, ℕ, zero, suc, ◌+◌, ◌≤◌, ◌^◌, true, false, cond, ◌&&◌, List, [], ◌∷◌, length, Some, refl, ap, ◌∙◌, subst, arith}
use Rattle.std.specs.Prelude.{nat_eq, nat_le, nat_lt}
use Rattle.std.proofs.lemmas.Bool.{leb-true, ltb-true, and_parts}
use Rattle.graph_model.specs.Graph.{Graph, edges_of, entity_of, ids, without}
use Rattle.graph_model.specs.Ids.{has, remove}
use Rattle.graph_model.proofs.IdSets.{length_add_all, length_insert, length_remove}
use Rattle.core_steps.specs.Core.{Core, CoreChannel, CoreMonitor, Hand, Idle, Marking, Phase, Sweeping, channel_at, hand_at, is_home, is_idle, new_hand}
use Rattle.core_steps.specs.Events.{Event}
use Rattle.core_steps.specs.Good.{CreditFits, HandFits, greys, weight, weights}
use Rattle.core_steps.specs.Rows.{Channel, Monitor, Place, deliver_one, greyed, is_white, mark_edge, mark_edges, mark_one, may_mark, part_marked, part_taken, swept_to, visit, part_given, sent, ungreyed, arrived, visited, marked_all, grey_on, greyed_all, credited}
use Rattle.core_steps.specs.Steps.{changed, place_of}
use Rattle.core_steps.proofs.Glue.{ChannelEvent, MonitorEvent}
use Rattle.core_steps.proofs.Lists.{each_of_keeps, each_set, given_is, greys_set, weights_set}
use Rattle.core_steps.proofs.Moves.{ChannelMove, MonitorMove, SweepFrom, begins, begins_cycle, begins_store, channel_move, closes, confirms, delivers, ends_store, marks, monitor_move, pins, pins_white, reports_begun, reports_swept, reserves, returns, sweeps, takes, tidies, unpins}

-- credit became grey ids or ids in transit, or the other way round
pub record Balanced (r s : CoreChannel × Hand) : Type 0 where
  pub sum : length s.0.grey + weight s.1 ≡ length r.0.grey + weight r.1
  pub hand : HandFits s.1

-- n edges at most went in transit, for a credit each
record Spent (n : ℕ) (r s : CoreChannel × Hand) : Type 0 where
  sum : length s.0.grey + weight s.1 ≡ length r.0.grey + weight r.1
  credit : r.1.credit ≤ s.1.credit + n
  transit : length s.1.transit ≤ length r.1.transit + n
  weight : weight s.1 ≤ weight r.1

edge_spent : (p : Place) (y : ℕ) (r : CoreChannel × Hand) → 1 ≤ r.1.credit → Spent 1 r (mark_edge p y r)
edge_spent p y r c = elim (is_home p.channels p.number y) as (λ b. Spent 1 r (cond b (cond (is_white y r.0) (greyed y r) r) (sent y r))) [
  | true ↦ elim (is_white y r.0) as (λ b. Spent 1 r (cond b (greyed y r) r)) [
    | true ↦ let g = length_insert y r.0.grey in record { sum = omega arith; credit = omega arith; transit = omega arith; weight = omega arith }
    | false ↦ record { sum = refl; credit = omega arith; transit = omega arith; weight = omega arith }
  ]
  | false ↦ let g = length_insert y r.1.transit in record { sum = omega arith; credit = omega arith; transit = omega arith; weight = omega arith }
]

edges_spent : (p : Place) (ys : List ℕ) (r : CoreChannel × Hand) → length ys ≤ r.1.credit → Spent (length ys) r (mark_edges p ys r)
edges_spent p [] r c = record { sum = refl; credit = omega arith; transit = omega arith; weight = omega arith }
edges_spent p (y ∷ ys) r c = let s = edge_spent p y r (omega arith) in let d = s.credit in let e = s.sum in let f = s.transit in let g = s.weight in
    let t = edges_spent p ys (mark_edge p y r) (omega arith) in let d' = t.credit in let e' = t.sum in let f' = t.transit in let g' = t.weight in record {
      sum = omega arith;
      credit = omega arith;
      transit = omega arith;
      weight = omega arith;
    }

mark_one_balanced : (p : Place) (r : CoreChannel × Hand) (x : ℕ) (s t : CoreChannel × Hand) → Balanced r s → mark_one p x s ≡ Some t → Balanced r t
mark_one_balanced p r x s t b e = let es = edges_of (entity_of s.0.table x) in let n = length es in let z : CoreChannel × Hand = (ungreyed x s) in
    let g = given_is (may_mark x n s.0 s.1) (mark_edges p es z) t e in
    let u = and_parts (has x s.0.grey) (nat_lt s.1.credit (2 ^ 32) && (nat_le n s.1.credit && nat_le (length s.1.transit + n) 131072)) g.0 in
    let v = and_parts (nat_lt s.1.credit (2 ^ 32)) (nat_le n s.1.credit && nat_le (length s.1.transit + n) 131072) u.1 in
    let w = and_parts (nat_le n s.1.credit) (nat_le (length s.1.transit + n) 131072) v.1 in
    let low = ltb-true s.1.credit (2 ^ 32) v.0 in let enough = leb-true n s.1.credit w.0 in let room = leb-true (length s.1.transit + n) 131072 w.1 in
    let less = length_remove x s.0.grey u.0 in
    let q = edges_spent p es z (omega arith) in let q0 = q.sum in let q1 = q.transit in let q2 = q.weight in let b0 = b.sum in let b1 = b.hand.batch in
    subst (Balanced r) g.1 record { sum = omega arith; hand = record { batch = omega arith; sum = omega arith } }

deliver_one_balanced : (p : Place) (r : CoreChannel × Hand) (x : ℕ) (s t : CoreChannel × Hand) → Balanced r s → deliver_one p x s ≡ Some t → Balanced r t
deliver_one_balanced p r y s t b e = let h : Hand = arrived y s.1 in
    let g = given_is (has y s.1.transit && is_home p.channels p.number y) (cond (is_white y s.0) (grey_on y s.0, h) (s.0, credited h)) t e in
    let u = and_parts (has y s.1.transit) (is_home p.channels p.number y) g.0 in let less = length_remove y s.1.transit u.0 in let b0 = b.sum in
    let b1 = b.hand.batch in let b2 = b.hand.sum in let more = length_insert y s.0.grey in
    subst (Balanced r) g.1 (elim (is_white y s.0) as (λ b. Balanced r (cond b (grey_on y s.0, h) (s.0, credited h))) [
      | true ↦ record { sum = omega arith; hand = record { batch = omega arith; sum = omega arith } }
      | false ↦ record { sum = omega arith; hand = record { batch = omega arith; sum = omega arith } }
    ])

pub visit_grey : (xs : List ℕ) (x : CoreChannel) (left : List ℕ) → (visit xs (x, left)).0.grey ≡ x.grey
visit_grey [] x left = refl
visit_grey (i ∷ xs) x left = visit_grey xs (visited i x) (remove i left)
    ∙ (elim (has i x.marked) as (λ b. (cond {A = CoreChannel} b x (record x { table = without i x.table })).grey ≡ x.grey) [ true ↦ refl | false ↦ refl ])

swept_balanced : (p : Place) (b : ℕ) (r : CoreChannel × Hand) (x : CoreChannel) (left : List ℕ) → x.grey ≡ [] → r.0.grey ≡ [] → HandFits r.1
    → Balanced r (swept_to p b x r.1 left)
swept_balanced p b r x [] e f h = let n : length r.0.grey ≡ 0 = ap length f in record { sum = omega arith; hand = record { batch = h.batch; sum = h.sum } }
swept_balanced p b r x (i ∷ left) e f h = let n : length r.0.grey ≡ 0 = ap length f in let m : length x.grey ≡ 0 = ap length e in record {
  sum = omega arith;
  hand = record { batch = h.batch; sum = h.sum };
}

part_balanced : (xs : List ℕ) (ph : Phase) (r : CoreChannel × Hand) → length xs ≤ r.1.credit → HandFits r.1 → Balanced r (part_marked xs ph r)
part_balanced xs (Idle b) r l h = record { sum = refl; hand = h }
part_balanced xs (Marking b) r l h = let n = length_add_all xs r.0.grey in let n0 = n.0 in let n1 = n.1 in let h0 = h.batch in let h1 = h.sum in
    elim (r.1.closed_seen && nat_eq r.1.cycle_seen b) as (λ t. Balanced r (cond {A = CoreChannel × Hand} t (marked_all xs r) (greyed_all xs r))) [
      | true ↦ record { sum = refl; hand = h }
      | false ↦ record { sum = omega arith; hand = record { batch = omega arith; sum = omega arith } }
    ]
part_balanced xs (Sweeping b left) r l h = record { sum = refl; hand = h }

-- an Idle channel has no grey id, nor has one that is swept
pub record GreyFits (x : CoreChannel) (h : Hand) : Type 0 where
  pub idle : is_idle x.phase ≡ true → x.grey ≡ []
  pub swept : (b : ℕ) (left : List ℕ) → SweepFrom x b left → h.closed_seen ≡ true → h.cycle_seen ≡ b → x.grey ≡ []

length-ids : (g : Graph) → length (ids g) ≡ length g
length-ids [] = refl
length-ids (r ∷ g) = ap suc (length-ids g)

move_balanced : (p : Place) (x : CoreChannel) (h : Hand) (e : Event) (y : CoreChannel) (h' : Hand) → GreyFits x h → HandFits h → ChannelMove p x h e y h'
    → Balanced (x, h) (y, h')
move_balanced p x h e y h' g f (begins b i s l) = let n : length x.grey ≡ 0 = ap length (g.idle (ap is_idle i)) in let f0 = f.batch in let f1 = f.sum in
    record {
      sum = omega arith;
      hand = record { batch = omega arith; sum = omega arith };
    }
move_balanced p x h e y h' g f (marks b xs z d i q) = each_of_keeps (Balanced (x, h)) (mark_one p) (mark_one_balanced p (x, h)) xs (x, h)
    (z, d) record { sum = refl; hand = f } q
move_balanced p x h e y h' g f (delivers b xs z d i q) = each_of_keeps (Balanced (x, h)) (deliver_one p) (deliver_one_balanced p (x, h)) xs (x, h)
    (z, d) record { sum = refl; hand = f } q
move_balanced p x h e y h' g f (sweeps b left xs r s t) = let clean = g.swept b left r s t in
    swept_balanced p b (x, h) (visit xs (x, left)).0 (visit xs (x, left)).1 (visit_grey xs x left ∙ clean) clean f
move_balanced p x h e y h' g f (takes o i n l d r) = let e = length-ids p.records in
    let z : CoreChannel × Hand = (part_taken p o.number x, part_given p o h) in
    let b = part_balanced (ids p.records) x.phase z (omega arith) record { batch = f.batch; sum = f.sum } in record { sum = b.sum; hand = b.hand }
move_balanced p x h e y h' g f (confirms l) = record { sum = refl; hand = f }
move_balanced p x h e y h' g f (pins i l q t) = record { sum = refl; hand = f }
move_balanced p x h e y h' g f (pins_white i l q t) = let m = length_insert i x.grey in let f0 = f.batch in let f1 = f.sum in record {
  sum = omega arith;
  hand = record { batch = omega arith; sum = omega arith };
}
move_balanced p x h e y h' g f (unpins i) = record { sum = refl; hand = f }
move_balanced p x h e y h' g f (tidies l) = record { sum = refl; hand = f }

pub credit_channel : (c : Core) (a k : ℕ) (e : Event) (y : CoreChannel) (h : Hand) → GreyFits (channel_at c.channels k) (hand_at c.hands a) → CreditFits c
    → ChannelEvent c a k e y h → CreditFits (changed c a k (Channel y) h e)
credit_channel c a k e y h g f ev = let b = move_balanced (place_of c k) (channel_at c.channels k) (hand_at c.hands a) e y h g (f.hands a)
    (channel_move (place_of c k) (channel_at c.channels k) (hand_at c.hands a) e (y, h) ev.made) in
    let s = greys_set c.channels k y ev.here in let t = weights_set c.hands a h ev.mine in let b0 = b.sum in let f0 = f.pending in
    record { pending = omega arith; hands = each_set (λ (i : ℕ) (g : Hand). HandFits g) c.hands a h new_hand b.hand f.hands }

monitor_balanced : (m : CoreMonitor) (h : Hand) (e : Event) (n : CoreMonitor) (h' : Hand) → HandFits h → MonitorMove m h e n h' → (total : ℕ)
    → weight h ≤ total → m.pending ≡ total → HandFits h' × (n.pending + weight h ≡ total + weight h')
monitor_balanced m h e n h' f (reserves i l) total w t = let f0 = f.batch in (record { batch = f.batch; sum = omega arith }, omega arith)
monitor_balanced m h e n h' f (returns i l) total w t = let f1 = f.sum in (record { batch = f.batch; sum = omega arith }, omega arith)
monitor_balanced m h e n h' f (begins_cycle q s) total w t = (record { batch = f.batch; sum = f.sum }, omega arith)
monitor_balanced m h e n h' f (reports_begun j r) total w t = (record { batch = f.batch; sum = f.sum }, omega arith)
monitor_balanced m h e n h' f (closes o p s b) total w t = (record { batch = f.batch; sum = f.sum }, omega arith)
monitor_balanced m h e n h' f (reports_swept j r) total w t = (record { batch = f.batch; sum = f.sum }, omega arith)
monitor_balanced m h e n h' f (begins_store op s) total w t = (record { batch = f.batch; sum = f.sum }, omega arith)
monitor_balanced m h e n h' f (ends_store o i s) total w t = (record { batch = f.batch; sum = f.sum }, omega arith)

pub weight_within : (l : List Hand) (a : ℕ) → weight (hand_at l a) ≤ weights l
weight_within [] a = omega arith
weight_within (h ∷ l) zero = omega arith
weight_within (h ∷ l) (suc a) = let e = weight_within l a in omega arith

pub credit_monitor : (c : Core) (a k : ℕ) (e : Event) (m : CoreMonitor) (h : Hand) → CreditFits c → MonitorEvent c a e m h
    → CreditFits (changed c a k (Monitor m) h e)
credit_monitor c a k e m h f ev = let w = weight_within c.hands a in let f0 = f.pending in
    let b = monitor_balanced c.monitor (hand_at c.hands a) e m h (f.hands a) (monitor_move c.monitor (hand_at c.hands a) e (m, h) ev.made)
    (greys c.channels + weights c.hands) (omega arith) f.pending in
    let t = weights_set c.hands a h ev.mine in let b1 = b.1 in record {
      pending = omega arith;
      hands = each_set (λ (i : ℕ) (g : Hand). HandFits g) c.hands a h new_hand b.0 f.hands;
    }
