-- The lists of channels, graph and open store stay by rising id.
use Rattle.std.proofs.Common.{◌≡◌, ℕ, true, false, cond, not, ◌&&◌, List, [], ◌∷◌, length, Option, Some, None, refl, sym, ap, ◌∙◌, subst}
use Rattle.std.specs.Prelude.{nat_eq}
use Rattle.std.proofs.lemmas.Bool.{and_parts, not-true, false_from_ne_true}
use Rattle.graph_model.specs.declared.entity.StoreOp.{StoreOp}
use Rattle.graph_model.specs.Ids.{add, has, remove, rises}
use Rattle.graph_model.specs.Graph.{Graph, edges_of, entity_of, ids, lists, without}
use Rattle.graph_model.specs.Stores.{is_valid_store}
use Rattle.graph_model.proofs.Graphs.{after_append}
use Rattle.graph_model.proofs.IdSets.{had_before}
use Rattle.graph_model.proofs.Rising.{rises_add, rises_add_all, rises_filter, rises_insert, rises_put_all, rises_remove, rises_remove_all, rises_without}
use Rattle.core_steps.specs.Core.{Book, Core, CoreChannel, CoreMonitor, Hand, Idle, Marking, Phase, Sweeping, channel_at, graph, hand_at, held, is_home, left_of, new_hand, next_before, no_channel, open_records}
use Rattle.core_steps.specs.Events.{Event}
use Rattle.core_steps.specs.Good.{AllMarksFit, IsOrdered, ListsRise, MarksFit}
use Rattle.core_steps.specs.Rows.{Channel, Monitor, Place, deliver_one, greyed, is_white, mark_edge, mark_edges, mark_one, marks_pin, may_mark, part_given, part_marked, part_taken, swept_to, visit, grey_on, sent, ungreyed, arrived, marked_all, visited, credited, greyed_all}
use Rattle.core_steps.specs.Steps.{book_after, changed, end_in, place_of}
use Rattle.core_steps.proofs.Glue.{ChannelEvent, MonitorEvent}
use Rattle.core_steps.proofs.Lists.{each_of_keeps, each_set, given_is, not_both}
use Rattle.core_steps.proofs.Marks.{MarksWithin, deliver_one_within, edges_within, mark_one_within}
use Rattle.core_steps.proofs.Moves.{ChannelMove, MonitorMove, SweepFrom, begins, begins_cycle, begins_store, channel_move, closes, confirms, delivers, ends_store, first, marks, monitor_move, next, pins, pins_white, reports_begun, reports_swept, reserves, returns, sweeps, takes, tidies, unpins}
use Rattle.core_steps.proofs.ValidStores.{valid_store}

-- A CHANNEL

-- ordered, with marks that a new mark does not repeat
abbrev Both : CoreChannel × Hand → Type 0
Both r = IsOrdered r.0 × MarksWithin r.0

-- an unmarked id becomes marked and grey
greyed_ordered : (x : CoreChannel) (i : ℕ) → has i x.marked ≡ false → Both (x, new_hand) → IsOrdered (grey_on i x)
greyed_ordered x i n b = record {
  table = b.0.table;
  marked = rises_insert i x.marked n b.0.marked;
  grey = rises_insert i x.grey (false_from_ne_true (has i x.grey) (λ g. let m = b.1.grey i g in not_both n m)) b.0.grey;
  pins = b.0.pins;
  left = b.0.left;
}

edge_ordered : (p : Place) (y : ℕ) (r : CoreChannel × Hand) → Both r → IsOrdered (mark_edge p y r).0
edge_ordered p y r b = elim (is_home p.channels p.number y) as (λ q. IsOrdered (cond {A = CoreChannel × Hand} q
    (cond (is_white y r.0) (greyed y r) r) (sent y r)).0) [
      | true ↦ (elim (is_white y r.0) as (λ q. is_white y r.0 ≡ q → IsOrdered (cond {A = CoreChannel × Hand} q (greyed y r) r).0) [
        | true ↦ λ e. greyed_ordered r.0 y (not-true (has y r.0.marked) (and_parts (lists r.0.table y) (not (has y r.0.marked)) e).1) b
        | false ↦ λ e. b.0
      ]) refl
      | false ↦ b.0
    ]

edges_ordered : (p : Place) (ys : List ℕ) (r : CoreChannel × Hand) → Both r → IsOrdered (mark_edges p ys r).0
edges_ordered p [] r b = b.0
edges_ordered p (y ∷ ys) r b = edges_ordered p ys (mark_edge p y r) (edge_ordered p y r b, edges_within p (y ∷ []) r b.1)

mark_one_ordered : (p : Place) (i : ℕ) (r s : CoreChannel × Hand) → Both r → mark_one p i r ≡ Some s → Both s
mark_one_ordered p i r s b e = let es = edges_of (entity_of r.0.table i) in
    let z : CoreChannel × Hand = (ungreyed i r) in
    let g = given_is (may_mark i (length es) r.0 r.1) (mark_edges p es z) s e in
    let o : IsOrdered z.0 = record { table = b.0.table; marked = b.0.marked; grey = rises_remove i r.0.grey b.0.grey; pins = b.0.pins; left = b.0.left } in
    let w : MarksWithin z.0 = record { marked = b.1.marked; grey = λ j f. b.1.grey j (had_before j i r.0.grey f) } in
    (subst (λ (t : CoreChannel × Hand). IsOrdered t.0) g.1 (edges_ordered p es z (o, w)), mark_one_within p i r s b.1 e)

deliver_one_ordered : (p : Place) (i : ℕ) (r s : CoreChannel × Hand) → Both r → deliver_one p i r ≡ Some s → Both s
deliver_one_ordered p y r s b e = let h : Hand = arrived y r.1 in
    let marked : CoreChannel × Hand = (grey_on y r.0, h) in
    let not_marked : CoreChannel × Hand = (r.0, credited h) in
    let g = given_is (has y r.1.transit && is_home p.channels p.number y) (cond (is_white y r.0) marked not_marked) s e in (
      subst (λ (t : CoreChannel × Hand). IsOrdered t.0) g.1
          ((elim (is_white y r.0) as (λ q. is_white y r.0 ≡ q → IsOrdered (cond {A = CoreChannel × Hand} q marked not_marked).0) [
            | true ↦ λ f. greyed_ordered r.0 y (not-true (has y r.0.marked) (and_parts (lists r.0.table y) (not (has y r.0.marked)) f).1) b
            | false ↦ λ f. b.0
          ]) refl),
      deliver_one_within p y r s b.1 e,
    )

visits_ordered : (xs : List ℕ) (x : CoreChannel) (left : List ℕ) → IsOrdered x → IsOrdered (visit xs (x, left)).0
visits_ordered [] x left o = o
visits_ordered (i ∷ xs) x left o = visits_ordered xs (visited i x) (remove i left)
    (elim (has i x.marked) as (λ q. IsOrdered (cond q x (record x { table = without i x.table }))) [
      | true ↦ o
      | false ↦ record { table = rises_without i x.table o.table; marked = o.marked; grey = o.grey; pins = o.pins; left = o.left }
    ])

visits_left : (xs : List ℕ) (x : CoreChannel) (left : List ℕ) → rises left ≡ true → rises (visit xs (x, left)).1 ≡ true
visits_left [] x left o = o
visits_left (i ∷ xs) x left o = visits_left xs (visited i x) (remove i left) (rises_remove i left o)

-- the ids that a sweep goes on from
sweep_left : (x : CoreChannel) (b : ℕ) (left : List ℕ) → SweepFrom x b left → IsOrdered x → rises left ≡ true
sweep_left x b left (first e f) o = ap rises (sym f) ∙ o.table
sweep_left x b left (next e) o = ap (λ (ph : Phase). rises (left_of ph)) (sym e) ∙ o.left

swept_ordered : (p : Place) (b : ℕ) (x : CoreChannel) (h : Hand) (left : List ℕ) → rises left ≡ true → IsOrdered x → IsOrdered (swept_to p b x h left).0
swept_ordered p b x h [] r o = record { table = o.table; marked = refl; grey = refl; pins = o.pins; left = refl }
swept_ordered p b x h (i ∷ left) r o = record { table = o.table; marked = o.marked; grey = o.grey; pins = o.pins; left = r }

part_ordered : (xs : List ℕ) (ph : Phase) (r : CoreChannel × Hand) → r.0.phase ≡ ph → IsOrdered r.0 → IsOrdered (part_marked xs ph r).0
part_ordered xs (Idle b) r is o = o
part_ordered xs (Marking b) r is o = elim (r.1.closed_seen && nat_eq r.1.cycle_seen b) as
    (λ t. IsOrdered (cond {A = CoreChannel × Hand} t (marked_all xs r) (greyed_all xs r)).0) [
      | true ↦ record { table = o.table; marked = rises_add_all xs r.0.marked o.marked; grey = o.grey; pins = o.pins; left = o.left }
      | false ↦ record {
        table = o.table;
        marked = rises_add_all xs r.0.marked o.marked;
        grey = rises_add_all xs r.0.grey o.grey;
        pins = o.pins;
        left = o.left;
      }
    ]
part_ordered xs (Sweeping b left) r is o = record {
  table = o.table;
  marked = rises_add_all xs r.0.marked o.marked;
  grey = o.grey;
  pins = o.pins;
  left = rises_remove_all xs left (ap (λ (ph : Phase). rises (left_of ph)) (sym is) ∙ o.left);
}

ordered_move : (p : Place) (x : CoreChannel) (h : Hand) (e : Event) (y : CoreChannel) (h' : Hand) → MarksFit x → IsOrdered x → ChannelMove p x h e y h'
    → IsOrdered y
ordered_move p x h e y h' w o (begins b i s l) = let r = rises_filter (lists x.table) (add 1 x.pins) (rises_add 1 x.pins o.pins) in
    record { table = o.table; marked = r; grey = r; pins = o.pins; left = refl }
ordered_move p x h e y h' w o (marks b xs z g i q) = (each_of_keeps Both (mark_one p) (mark_one_ordered p) xs (x, h) (z, g)
    (o, record { marked = w.marked; grey = w.grey }) q).0
ordered_move p x h e y h' w o (delivers b xs z g i q) = (each_of_keeps Both (deliver_one p) (deliver_one_ordered p) xs (x, h) (z, g)
    (o, record { marked = w.marked; grey = w.grey }) q).0
ordered_move p x h e y h' w o (sweeps b left xs r s t) = swept_ordered p b (visit xs (x, left)).0 h (visit xs (x, left)).1
    (visits_left xs x left (sweep_left x b left r o)) (visits_ordered xs x left o)
ordered_move p x h e y h' w o (takes q i n l d r) = part_ordered (ids p.records) x.phase (part_taken p q.number x, part_given p q h) refl record {
  table = rises_put_all p.records x.table o.table;
  marked = o.marked;
  grey = o.grey;
  pins = rises_add_all (ids p.records) x.pins o.pins;
  left = o.left;
}
ordered_move p x h e y h' w o (confirms l) = record { table = o.table; marked = o.marked; grey = o.grey; pins = o.pins; left = o.left }
ordered_move p x h e y h' w o (pins i l q t) = record { table = o.table; marked = o.marked; grey = o.grey; pins = rises_add i x.pins o.pins; left = o.left }
ordered_move p x h e y h' w o (pins_white i l q t) = let g = greyed_ordered x i (white i x x.phase t) (o, record { marked = w.marked; grey = w.grey }) in
    record { table = o.table; marked = g.marked; grey = g.grey; pins = rises_add i x.pins o.pins; left = o.left }
  where
    white : (i : ℕ) (x : CoreChannel) (ph : Phase) → marks_pin i ph x ≡ true → has i x.marked ≡ false
    white i x (Idle b) t = cc
    white i x (Marking b) t = not-true (has i x.marked) t
    white i x (Sweeping b left) t = cc
ordered_move p x h e y h' w o (unpins i) = record { table = o.table; marked = o.marked; grey = o.grey; pins = rises_remove i x.pins o.pins; left = o.left }
ordered_move p x h e y h' w o (tidies l) = o

-- THE CORE

-- no event of a channel changes the book
pub channel_book : (p : Place) (x : CoreChannel) (h : Hand) (e : Event) (y : CoreChannel) (h' : Hand) (b : Book) → ChannelMove p x h e y h'
    → book_after b e ≡ b
channel_book p x h e y h' b (begins d i s l) = refl
channel_book p x h e y h' b (marks d xs z g i q) = refl
channel_book p x h e y h' b (delivers d xs z g i q) = refl
channel_book p x h e y h' b (sweeps d left xs r s t) = refl
channel_book p x h e y h' b (takes q i n l d r) = refl
channel_book p x h e y h' b (confirms l) = refl
channel_book p x h e y h' b (pins i l q t) = refl
channel_book p x h e y h' b (pins_white i l q t) = refl
channel_book p x h e y h' b (unpins i) = refl
channel_book p x h e y h' b (tidies l) = refl

pub ordered_channel : (c : Core) (a k : ℕ) (e : Event) (y : CoreChannel) (h : Hand) → AllMarksFit c → ListsRise c → ChannelEvent c a k e y h
    → ListsRise (changed c a k (Channel y) h e)
ordered_channel c a k e y h w o ev = let x = channel_at c.channels k in let move = channel_move (place_of c k) x (hand_at c.hands a) e (y, h) ev.made in
    let same = channel_book (place_of c k) x (hand_at c.hands a) e y h c.book move in record {
      channels = each_set (λ (j : ℕ) (z : CoreChannel). IsOrdered z) c.channels k y no_channel
          (ordered_move (place_of c k) x (hand_at c.hands a) e y h (w k) (o.channels k) move) o.channels;
      graph = ap (λ (b : Book). rises (ids (graph b))) same ∙ o.graph;
      opened = ap (λ (b : Book). rises (ids (open_records b))) same ∙ o.opened;
    }

-- the book's graph and open store after a store has ended
end_ordered : (b : Book) (q : Option StoreOp) → b.opened ≡ q → rises (ids (graph b)) ≡ true → rises (ids (open_records b)) ≡ true
    → (rises (ids (graph (end_in b q))) ≡ true) × (rises (ids (open_records (end_in b q))) ≡ true)
end_ordered b None is g o = (g, o)
end_ordered b (Some op) is g o = (ap (λ (z : Graph). rises (ids z)) (after_append b.start b.ended op) ∙ rises_put_all op.records (graph b) g, refl)

ordered_led : (c : Core) (a k : ℕ) (e : Event) (m : CoreMonitor) (h : Hand) → ListsRise c → MonitorEvent c a e m h
    → MonitorMove c.monitor (hand_at c.hands a) e m h → ListsRise (changed c a k (Monitor m) h e)
ordered_led c a k e m h o ev (reserves n l) = record { channels = o.channels; graph = o.graph; opened = o.opened }
ordered_led c a k e m h o ev (returns n l) = record { channels = o.channels; graph = o.graph; opened = o.opened }
ordered_led c a k e m h o ev (begins_cycle t s) = record { channels = o.channels; graph = o.graph; opened = o.opened }
ordered_led c a k e m h o ev (reports_begun j r) = record { channels = o.channels; graph = o.graph; opened = o.opened }
ordered_led c a k e m h o ev (closes q p s b) = record { channels = o.channels; graph = o.graph; opened = o.opened }
ordered_led c a k e m h o ev (reports_swept j r) = record { channels = o.channels; graph = o.graph; opened = o.opened }
ordered_led c a k e m h o ev (begins_store op s) = let may =
    (and_parts (nat_eq a 0) (is_valid_store (graph c.book) (held c.channels) (next_before c.book) op) ev.may).1 in
    record { channels = o.channels; graph = o.graph; opened = (valid_store (graph c.book) (held c.channels) (next_before c.book) op may).ordered }
ordered_led c a k e m h o ev (ends_store q i s) = let t = end_ordered c.book c.book.opened refl o.graph o.opened in
    record { channels = o.channels; graph = t.0; opened = t.1 }

pub ordered_monitor : (c : Core) (a k : ℕ) (e : Event) (m : CoreMonitor) (h : Hand) → ListsRise c → MonitorEvent c a e m h
    → ListsRise (changed c a k (Monitor m) h e)
ordered_monitor c a k e m h o ev = ordered_led c a k e m h o ev (monitor_move c.monitor (hand_at c.hands a) e (m, h) ev.made)
