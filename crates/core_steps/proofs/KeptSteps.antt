-- Each event lets what has to stay be kept.
use Rattle.std.proofs.Common.{◌≡◌, ◌⊎◌, ℕ, zero, suc, ◌+◌, ◌≤◌, ◌<◌, Bool, true, false, cond, not, ◌||◌, ◌&&◌, List, [], ◌∷◌, length, set, get_or, length-set, Option, Some, None, refl, sym, ap, ◌∙◌, subst, arith, ⊎_elim, inl, inr}
use Rattle.std.specs.Prelude.{nat_eq}
use Rattle.std.proofs.lemmas.Bool.{eqb-true, eq-eqb, ne_eqb, cases_Bool, cases_eq, cases_lt, and_parts, and_from, or_cases, or_left, or_right, not-true, false_from_ne_true}
use Rattle.std.proofs.lemmas.List.{get_or-set_same, get_or_past, nil_from_length}
use Rattle.graph_model.specs.Graph.{Graph, edges, edges_of, entity_of, has_edge, ids, lists, or_else}
use Rattle.graph_model.specs.Ids.{add, add_all, has}
use Rattle.graph_model.specs.Stores.{is_old_edge, is_valid_store, is_good_edge, may_hold}
use Rattle.graph_model.specs.declared.entity.Entity.{Entity}
use Rattle.graph_model.specs.declared.entity.StoreOp.{StoreOp}
use Rattle.graph_model.proofs.Graphs.{has_ids, lists_put_all}
use Rattle.graph_model.proofs.IdSets.{had_before, has_add, has_add_all}
use Rattle.core_steps.specs.Core.{Book, Core, CoreChannel, CoreMonitor, Hand, Idle, Marking, OpenStore, Phase, Sweeping, channel_at, cycle_of, graph, hand_at, held, home, is_home, is_idle_of, is_marking, new_hand, next_before, no_channel, open_records, records_of, written_of}
use Rattle.core_steps.specs.Events.{Event}
use Rattle.core_steps.specs.Good.{ContentFits, CreditFits, InTransit, IsGood, KeptFits, PhaseFits, PhasesFit, channel_of, greys, is_kept, is_unwritten, kept_on, kept_or_unwritten, written}
use Rattle.core_steps.specs.Rows.{Channel, Monitor, all_set, marks_pin, part_marked, part_taken, visit, part_given, marked_all, greyed_all}
use Rattle.core_steps.specs.Steps.{changed, end_in, place_of}
use Rattle.core_steps.proofs.Books.{ending_written, none_open, opened_by, swept_parts}
use Rattle.core_steps.proofs.Contents.{Took, after_taking, ended_graph, ended_lists, ending_store, part_home, part_lists, part_took, shown_closed, swept_table, table_channel, taken_written, visits_less}
use Rattle.core_steps.proofs.Credits.{weight_within}
use Rattle.core_steps.proofs.Glue.{ChannelEvent, MonitorEvent}
use Rattle.core_steps.proofs.Kept.{begins_open, deliver_none, has_edge_lists, home_channel, kept_listed, kept_open, kept_stays, mark_none, of_changed, pinned_kept, sweep_start, swept_kept, visits_swept}
use Rattle.core_steps.proofs.Lists.{both_set, held_on, held_set, pin_is_held}
use Rattle.core_steps.proofs.Marked.{deliver_only, mark_only}
use Rattle.core_steps.proofs.Moves.{ChannelMove, MonitorMove, begins, begins_cycle, begins_store, channel_move, closes, confirms, delivers, ends_store, marks, monitor_move, pins, pins_white, reports_begun, reports_swept, reserves, returns, sweeps, takes, tidies, unpins}
use Rattle.core_steps.proofs.Phases.{all_idle, sweep_cycle}
use Rattle.core_steps.proofs.ValidStores.{list_all_at, listed_well, some_entity}

-- STOREPART

-- an id of the part is kept
part_new : (closed : Bool) (cycle : ℕ) (xs : List ℕ) (ph : Phase) (r : CoreChannel × Hand) (i : ℕ) → r.0.phase ≡ ph → PhaseFits closed cycle ph
    → has i xs ≡ true → lists r.0.table i ≡ true → kept_on closed cycle (part_marked xs ph r).0 i ≡ true
part_new closed cycle xs (Idle b) r i is fits m l = and_from (lists r.0.table i) (not closed || (has i r.0.marked || is_idle_of cycle r.0.phase)) l
    (by closed fits)
  where
    by : (t : Bool) → cond t b (b + 1) ≡ cycle → (not t || (has i r.0.marked || is_idle_of cycle r.0.phase)) ≡ true
    by true e = or_right (has i r.0.marked) (is_idle_of cycle r.0.phase) (ap (is_idle_of cycle) is ∙ eq-eqb b cycle e)
    by false e = refl
part_new closed cycle xs (Marking b) r i is fits m l = let t :
    (not closed || (has i (add_all xs r.0.marked) || is_idle_of cycle r.0.phase)) ≡ true = or_right (not closed)
    (has i (add_all xs r.0.marked) || is_idle_of cycle r.0.phase)
    (or_left (has i (add_all xs r.0.marked)) (is_idle_of cycle r.0.phase) (has_add_all i xs r.0.marked ∙ or_left (has i xs) (has i r.0.marked) m)) in
    elim (r.1.closed_seen && nat_eq r.1.cycle_seen b) as (λ t. kept_on closed cycle
    (cond {A = CoreChannel × Hand} t (marked_all xs r) (greyed_all xs r)).0 i ≡ true) [
      | true ↦ and_from (lists r.0.table i) (not closed || (has i (add_all xs r.0.marked) || is_idle_of cycle r.0.phase)) l t
      | false ↦ and_from (lists r.0.table i) (not closed || (has i (add_all xs r.0.marked) || is_idle_of cycle r.0.phase)) l t
    ]
part_new closed cycle xs (Sweeping b left) r i is fits m l = and_from (lists r.0.table i) (not closed || (has i (add_all xs r.0.marked) || false)) l
    (or_right (not closed) (has i (add_all xs r.0.marked) || false)
    (or_left (has i (add_all xs r.0.marked)) false (has_add_all i xs r.0.marked ∙ or_left (has i xs) (has i r.0.marked) m)))

-- another id is kept as it was
part_other : (closed : Bool) (cycle : ℕ) (xs : List ℕ) (ph : Phase) (r : CoreChannel × Hand) (i : ℕ) → r.0.phase ≡ ph → has i xs ≡ false
    → kept_on closed cycle (part_marked xs ph r).0 i ≡ kept_on closed cycle r.0 i
part_other closed cycle xs (Idle b) r i is n = refl
part_other closed cycle xs (Marking b) r i is n = let m : has i (add_all xs r.0.marked) ≡ has i r.0.marked = has_add_all i xs r.0.marked
    ∙ ap (λ (t : Bool). t || has i r.0.marked) n in let e = ap (λ (t : Bool). lists r.0.table i && (not closed || (t || is_idle_of cycle r.0.phase))) m in
    elim (r.1.closed_seen && nat_eq r.1.cycle_seen b) as (λ t. kept_on closed cycle
    (cond {A = CoreChannel × Hand} t (marked_all xs r) (greyed_all xs r)).0 i ≡ kept_on closed cycle r.0 i) [ true ↦ e | false ↦ e ]
part_other closed cycle xs (Sweeping b left) r i is n = let m : has i (add_all xs r.0.marked) ≡ has i r.0.marked = has_add_all i xs r.0.marked
    ∙ ap (λ (t : Bool). t || has i r.0.marked) n in
    ap (λ (t : Bool). lists r.0.table i && (not closed || (t || false))) m
    ∙ ap (λ (t : Bool). lists r.0.table i && (not closed || (has i r.0.marked || t))) (sym (ap (is_idle_of cycle) is))

-- what a channel keeps of its part and of the rest
pub record PartKept (c : Core) (k : ℕ) (y : CoreChannel) : Type 0 where
  pub new : (i : ℕ) → lists (place_of c k).records i ≡ true → kept_on c.monitor.closed c.monitor.cycle y i ≡ true
  pub other : (i : ℕ) → lists (place_of c k).records i ≡ false
      → kept_on c.monitor.closed c.monitor.cycle y i ≡ kept_on c.monitor.closed c.monitor.cycle (channel_at c.channels k) i

pub part_kept : (c : Core) (k : ℕ) (num : ℕ) (h : Hand) → PhaseFits c.monitor.closed c.monitor.cycle (channel_at c.channels k).phase
    → PartKept c k (part_marked (ids (place_of c k).records) (channel_at c.channels k).phase (part_taken (place_of c k) num (channel_at c.channels k), h)).0
part_kept c k num h fits = let x = channel_at c.channels k in let p = place_of c k in record {
  new = λ i l. part_new c.monitor.closed c.monitor.cycle (ids p.records) x.phase (part_taken p num x, h) i refl fits (has_ids p.records i ∙ l)
      (lists_put_all p.records x.table i ∙ or_left (lists p.records i) (lists x.table i) l);
  other = λ i n. part_other c.monitor.closed c.monitor.cycle (ids p.records) x.phase (part_taken p num x, h) i refl (has_ids p.records i ∙ n)
      ∙ ap (λ (t : Bool). t && (not c.monitor.closed || (has i x.marked || is_idle_of c.monitor.cycle x.phase)))
      (lists_put_all p.records x.table i ∙ ap (λ (t : Bool). t || lists x.table i) n);
}

-- the ids of the part are those that the open store lists for the channel
pub part_has : (c : Core) (k i : ℕ) → home (length c.channels) i ≡ k → lists (open_records c.book) i ≡ true → lists (place_of c k).records i ≡ true
part_has c k i e l = part_lists c k i ∙ and_from (is_home (length c.channels) k i) (lists (open_records c.book) i) (eq-eqb (home (length c.channels) i) k e) l

pub taken_unwritten : (c : Core) (k : ℕ) (o : OpenStore) (y : CoreChannel) (h : Hand) (i : ℕ) → Took c k o y h
    → is_unwritten (after_taking c k y h) i ≡ (lists (open_records c.book) i && not
    (nat_eq (home (length c.channels) i) k || has (home (length c.channels) i) (written c)))
taken_unwritten c k o y h i t = ap (λ (us : List ℕ). lists (open_records c.book) i && not (has (home (length (set c.channels k y)) i) us))
    (taken_written c k o y h t)
    ∙ (ap (λ (n : ℕ). lists (open_records c.book) i && not (has (home n i) (add k (written c)))) (length-set c.channels k y)
    ∙ ap (λ (b : Bool). lists (open_records c.book) i && not b) (has_add (home (length c.channels) i) k (written c)))

-- a kept id stays kept, with one of the part
pub taken_keeps : (c : Core) (k : ℕ) (o : OpenStore) (y : CoreChannel) (h : Hand) → Took c k o y h → PartKept c k y → (i : ℕ)
    → (is_kept c i ≡ true) ⊎ (lists (place_of c k).records i ≡ true) → is_kept (after_taking c k y h) i ≡ true
taken_keeps c k o y h t q i e = by (of_changed c 0 k y h i t.here) e (lists (place_of c k).records i) refl
  where
    keep : (z : CoreChannel) → Bool
    keep z = kept_on c.monitor.closed c.monitor.cycle z i

    by : ((home (length c.channels) i ≡ k) × (channel_of (after_taking c k y h) i ≡ y) × (channel_of c i ≡ channel_at c.channels k)) ⊎
        (channel_of (after_taking c k y h) i ≡ channel_of c i) → (is_kept c i ≡ true) ⊎ (lists (place_of c k).records i ≡ true)
        → (b : Bool) → lists (place_of c k).records i ≡ b → is_kept (after_taking c k y h) i ≡ true
    by (inl s) e true b = ap (λ (z : CoreChannel). kept_on c.monitor.closed c.monitor.cycle z i) s.1 ∙ q.new i b
    by (inl s) (inl e) false b = ap (λ (z : CoreChannel). kept_on c.monitor.closed c.monitor.cycle z i) s.1
        ∙ (q.other i b ∙ (ap (λ (z : CoreChannel). kept_on c.monitor.closed c.monitor.cycle z i) (sym s.2) ∙ e))
    by (inl s) (inr e) false b = cc
    by (inr s) (inl e) b f = ap (λ (z : CoreChannel). kept_on c.monitor.closed c.monitor.cycle z i) s ∙ e
    by (inr s) (inr e) b f = let at = (part_home c k i e).0 in
        let m = ap (λ (n : ℕ). channel_at (set c.channels k y) (home n i)) (length-set c.channels k y)
        ∙ (ap (channel_at (set c.channels k y)) at ∙ get_or-set_same c.channels k y no_channel t.here) in
        ap (λ (z : CoreChannel). kept_on c.monitor.closed c.monitor.cycle z i) m ∙ q.new i e

-- what is kept then was kept or is of the part
pub taken_kept : (c : Core) (k : ℕ) (o : OpenStore) (y : CoreChannel) (h : Hand) → Took c k o y h → PartKept c k y → (i : ℕ)
    → is_kept (after_taking c k y h) i ≡ true → (is_kept c i ≡ true) ⊎ (lists (place_of c k).records i ≡ true)
taken_kept c k o y h t q i e = by (of_changed c 0 k y h i t.here) (lists (place_of c k).records i) refl
  where
    by : ((home (length c.channels) i ≡ k) × (channel_of (after_taking c k y h) i ≡ y) × (channel_of c i ≡ channel_at c.channels k)) ⊎
        (channel_of (after_taking c k y h) i ≡ channel_of c i) → (b : Bool) → lists (place_of c k).records i ≡ b
        → (is_kept c i ≡ true) ⊎ (lists (place_of c k).records i ≡ true)
    by s true b = inr b
    by (inl s) false b = inl (ap (λ (z : CoreChannel). kept_on c.monitor.closed c.monitor.cycle z i) s.2
        ∙ (sym (q.other i b) ∙ (ap (λ (z : CoreChannel). kept_on c.monitor.closed c.monitor.cycle z i) (sym s.1) ∙ e)))
    by (inr s) false b = inl (ap (λ (z : CoreChannel). kept_on c.monitor.closed c.monitor.cycle z i) (sym s) ∙ e)

pub taken_either : (c : Core) (k : ℕ) (o : OpenStore) (y : CoreChannel) (h : Hand) → Took c k o y h → PartKept c k y → (i : ℕ)
    → kept_or_unwritten c i ≡ true → kept_or_unwritten (after_taking c k y h) i ≡ true
taken_either c k o y h t q i e = let d = after_taking c k y h in ⊎_elim (λ s. or_left (is_kept d i) (is_unwritten d i) (taken_keeps c k o y h t q i (inl s)))
    (λ s. let u = and_parts (lists (open_records c.book) i) (not (has (home (length c.channels) i) (written c))) s in ⊎_elim
    (λ at. or_left (is_kept d i) (is_unwritten d i) (taken_keeps c k o y h t q i (inr (part_has c k i at u.0))))
    (λ n. or_right (is_kept d i) (is_unwritten d i) (taken_unwritten c k o y h i t
    ∙ (ap (λ (b : Bool). lists (open_records c.book) i && not (b || has (home (length c.channels) i) (written c)))
    (ne_eqb (home (length c.channels) i) k n) ∙ s)))
    (cases_eq (home (length c.channels) i) k))
    (or_cases (is_kept c i) (is_unwritten c i) e)

pub kept_taken : (c : Core) (k : ℕ) (o : OpenStore) (y : CoreChannel) (h : Hand) → KeptFits c → Took c k o y h → PartKept c k y
    → KeptFits (after_taking c k y h)
kept_taken c k o y h f t q = let keep = taken_keeps c k o y h t q in let either = taken_either c k o y h t q in record {
  pins = λ i p. ⊎_elim (λ s. ⊎_elim (λ n. keep i (inr (sym (has_ids (place_of c k).records i) ∙ n)))
      (λ old. keep i (inl (f.pins i (pin_is_held c.channels k i old))))
      (or_cases (has i (ids (place_of c k).records)) (has i (channel_at c.channels k).pins)
      (sym (has_add_all i (ids (place_of c k).records) (channel_at c.channels k).pins) ∙ (ap (has i) (sym t.pins) ∙ s))))
      (λ s. keep i (inl (f.pins i s))) (held_set c.channels k y i p);
  root = λ l. keep 1 (inl (f.root l));
  open_edges = λ x z e. either z (f.open_edges x z e);
  graph_edges = λ x z kx e. keep z
      (inl (⊎_elim (λ s. f.graph_edges x z s e) (λ s. f.graph_edges x z (f.open_old x (part_home c k x s).1 (has_edge_lists (graph c.book) x z e)) e)
      (taken_kept c k o y h t q x kx)));
  open_ids = λ i l. either i (f.open_ids i l);
  open_old = λ i l g. keep i (inl (f.open_old i l g));
}

-- EACH EVENT OF A CHANNEL

same_kept : (c : Core) (k : ℕ) (y : CoreChannel) → c.monitor.closed ≡ false → y.table ≡ (channel_at c.channels k).table → (i : ℕ)
    → kept_on c.monitor.closed c.monitor.cycle y i ≡ kept_on c.monitor.closed c.monitor.cycle (channel_at c.channels k) i
same_kept c k y e t i = kept_open c.monitor.closed c.monitor.cycle y i e
    ∙ (ap (λ (g : Graph). lists g i) t ∙ sym (kept_open c.monitor.closed c.monitor.cycle (channel_at c.channels k) i e))

-- a pinned id of a Marking channel in a closed cycle is marked
pub white_open : (c : Core) (k i : ℕ) → is_kept c i ≡ true → channel_of c i ≡ channel_at c.channels k
    → marks_pin i (channel_at c.channels k).phase (channel_at c.channels k) ≡ true → c.monitor.closed ≡ false
white_open c k i kept at m = false_from_ne_true c.monitor.closed (λ closed. by (channel_at c.channels k) (channel_at c.channels k).phase refl m
    (and_parts (lists (channel_at c.channels k).table i) (not true ||
    (has i (channel_at c.channels k).marked || is_idle_of c.monitor.cycle (channel_at c.channels k).phase))
    (subst (λ (t : Bool). kept_on t c.monitor.cycle (channel_at c.channels k) i ≡ true) closed
    (ap (λ (z : CoreChannel). kept_on c.monitor.closed c.monitor.cycle z i) (sym at) ∙ kept))).1)
  where
    by : (x : CoreChannel) (ph : Phase) → x.phase ≡ ph → marks_pin i ph x ≡ true → (has i x.marked || is_idle_of c.monitor.cycle x.phase) ≡ true → ⊥
    by x (Idle b) e m t = cc
    by x (Marking b) e m t = ⊎_elim (λ s. let u = not-true (has i x.marked) m in cc)
        (λ s. let u : is_idle_of c.monitor.cycle x.phase ≡ false = ap (is_idle_of c.monitor.cycle) e in cc)
        (or_cases (has i x.marked) (is_idle_of c.monitor.cycle x.phase) t)
    by x (Sweeping b left) e m t = cc

pub pin_kept : (c : Core) (k i : ℕ) → ContentFits c → KeptFits c → k < length c.channels → may_hold (graph c.book) (held c.channels) i ≡ true
    → lists (channel_at c.channels k).table i ≡ true → is_kept c i ≡ true
pin_kept c k i f kf b may l = pinned_kept c i f kf may (ap (λ (z : CoreChannel). lists z.table i) (home_channel c k i f b l) ∙ l)

pub added : (xs : List ℕ) (i j : ℕ) (P : ℕ → Type 0) → has j (add i xs) ≡ true → P i → (has j xs ≡ true) ⊎ P j
added xs i j P e p = ⊎_elim (λ s. inr (subst P (sym (eqb-true j i s)) p)) (λ s. inl s) (or_cases (nat_eq j i) (has j xs) (sym (has_add j i xs) ∙ e))

kept_move : (c : Core) (a k : ℕ) (e : Event) (y : CoreChannel) (h : Hand) → IsGood c → ChannelEvent c a k e y h
    → ChannelMove (place_of c k) (channel_at c.channels k) (hand_at c.hands a) e y h → KeptFits (changed c a k (Channel y) h e)
kept_move c a k e y h good ev (begins b i s l) = kept_stays c a k y h ev.here good.sound.kept
    (λ j _. same_kept c k y (begins_open c a k b ev.here good.sound.saw good.sound.phases i s).0 refl j) refl (λ j p. inl p)
kept_move c a k e y h good ev (marks b xs z g i m) = let x = channel_at c.channels k in let o = mark_only (place_of c k) xs (x, hand_at c.hands a) (z, g) m in
    kept_stays c a k z g ev.here good.sound.kept
    (λ j _. ⊎_elim (λ closed. ap (λ (r : CoreChannel × Hand). kept_on c.monitor.closed c.monitor.cycle r.0 j)
    (sym (mark_none (place_of c k) xs (x, hand_at c.hands a) (z, g) ((good.closed closed).no_grey k) m))) (λ open_. same_kept c k z open_ o.table j)
    (cases_Bool c.monitor.closed))
    o.opened (λ j p. inl (ap (has j) (sym o.pins) ∙ p))
kept_move c a k e y h good ev (delivers b xs z g i m) = let x = channel_at c.channels k in
    let o = deliver_only (place_of c k) xs (x, hand_at c.hands a) (z, g) m in
    kept_stays c a k z g ev.here good.sound.kept
    (λ j _. ⊎_elim (λ closed. ap (λ (r : CoreChannel × Hand). kept_on c.monitor.closed c.monitor.cycle r.0 j)
    (sym (deliver_none (place_of c k) xs (x, hand_at c.hands a) (z, g) ((good.closed closed).no_transit a) m)))
    (λ open_. same_kept c k z open_ o.table j) (cases_Bool c.monitor.closed))
    o.opened (λ j p. inl (ap (has j) (sym o.pins) ∙ p))
kept_move c a k e y h good ev (sweeps b left xs f s t) = let x = channel_at c.channels k in
    let cyc = sweep_cycle x b c.monitor.cycle c.monitor.closed left f (good.sound.phases.phase k ev.here) in
    let closed = (good.sound.saw a).closed (t ∙ cyc) s in
    let v = visits_swept xs x left (sweep_start x b left f ((good.closed closed).swept k)) in
    let w = swept_table (place_of c k) b (visit xs (x, left)).0 (hand_at c.hands a) (visit xs (x, left)).1 in let less = visits_less xs x left in
    kept_stays c a k y h ev.here good.sound.kept (λ j _. subst (λ (q : Bool). kept_on q c.monitor.cycle y j ≡ kept_on q c.monitor.cycle x j) (sym closed)
    (swept_kept (place_of c k) b c.monitor.cycle x (visit xs (x, left)).0 (hand_at c.hands a) left (visit xs (x, left)).1 j cyc f v.0 v.1 v.2
    (λ i l. (less.0 i l).0)))
    (swept_parts (place_of c k) b (visit xs (x, left)).0 (hand_at c.hands a) (visit xs (x, left)).1).2 (λ j p. inl (ap (has j) (sym (w.1 ∙ less.1)) ∙ p))
kept_move c a k e y h good ev (takes o i n l d r) = let t = part_took c a k o good.sound.book ev.here ev.mine i in
    subst (λ (b : ℕ). KeptFits record { channels = set c.channels k y; monitor = c.monitor; hands = set c.hands b h; book = c.book }) (sym t.0)
    (kept_taken c k o y h good.sound.kept t.1 (part_kept c k o.number (part_given (place_of c k) o (hand_at c.hands a)) (good.sound.phases.phase k ev.here)))
kept_move c a k e y h good ev (confirms l) = kept_stays c a k y h ev.here good.sound.kept (λ j _. refl) refl (λ j p. inl p)
kept_move c a k e y h good ev (pins i l p m) = kept_stays c a k y h ev.here good.sound.kept (λ j _. refl) refl
    (λ j q. added (channel_at c.channels k).pins i j (λ n. is_kept c n ≡ true) q (pin_kept c k i good.sound.content good.sound.kept ev.here ev.may l))
kept_move c a k e y h good ev (pins_white i l p m) = let kept = pin_kept c k i good.sound.content good.sound.kept ev.here ev.may l in
    kept_stays c a k y h ev.here good.sound.kept (λ j _. same_kept c k y
    (white_open c k i kept (home_channel c k i good.sound.content ev.here l) m) refl j) refl
    (λ j q. added (channel_at c.channels k).pins i j (λ n. is_kept c n ≡ true) q kept)
kept_move c a k e y h good ev (unpins i) = kept_stays c a k y h ev.here good.sound.kept (λ j _. refl) refl
    (λ j p. inl (had_before j i (channel_at c.channels k).pins p))
kept_move c a k e y h good ev (tidies l) = kept_stays c a k y h ev.here good.sound.kept (λ j _. refl) refl (λ j p. inl p)

pub kept_channel : (c : Core) (a k : ℕ) (e : Event) (y : CoreChannel) (h : Hand) → IsGood c → ChannelEvent c a k e y h
    → KeptFits (changed c a k (Channel y) h e)
kept_channel c a k e y h good ev = kept_move c a k e y h good ev (channel_move (place_of c k) (channel_at c.channels k) (hand_at c.hands a) e (y, h) ev.made)

-- EACH EVENT OF THE MONITOR

abbrev pub core_led : Core → ℕ → CoreMonitor → Hand → Book → Core
core_led c a m h b = record { channels = c.channels; monitor = m; hands = set c.hands a h; book = b }

kept_led : (c : Core) (a : ℕ) (m : CoreMonitor) (h : Hand) → KeptFits c → ((i : ℕ) → is_kept (core_led c a m h c.book) i ≡ is_kept c i)
    → h.opened ≡ (hand_at c.hands a).opened → KeptFits (core_led c a m h c.book)
kept_led c a m h f K opened = let d = core_led c a m h c.book in
    let w : written d ≡ written c = ap written_of (both_set (λ (b : ℕ) (x z : Hand). z.opened ≡ x.opened) c.hands a h new_hand opened (λ b. refl) 0) in
    let U = λ (i : ℕ). ap (λ (t : Bool). t || is_unwritten d i) (K i)
    ∙ ap (λ (us : List ℕ). is_kept c i || (lists (open_records c.book) i && not (has (home (length c.channels) i) us))) w in record {
      pins = λ i p. K i ∙ f.pins i p;
      root = λ l. K 1 ∙ f.root l;
      open_edges = λ x z e. U z ∙ f.open_edges x z e;
      graph_edges = λ x z kx e. K z ∙ f.graph_edges x z (sym (K x) ∙ kx) e;
      open_ids = λ i l. U i ∙ f.open_ids i l;
      open_old = λ i l g. K i ∙ f.open_old i l g;
    }

-- with all channels Idle of a closed cycle, what is in a table is kept, and in the next cycle too
begins_kept : (c : Core) (i : ℕ) → PhasesFit c → c.monitor.closed ≡ true → all_set c.monitor.swept ≡ true
    → kept_on false (c.monitor.cycle + 1) (channel_of c i) i ≡ is_kept c i
begins_kept c i fits closed s = let x = channel_of c i in ⊎_elim
    (λ b. let idle = all_idle c fits s (home (length c.channels) i) b in
    sym (ap (λ (t : Bool). lists x.table i && (not t || (has i x.marked || is_idle_of c.monitor.cycle x.phase))) closed
    ∙ (ap (λ (ph : Phase). lists x.table i && (has i x.marked || is_idle_of c.monitor.cycle ph)) idle
    ∙ (ap (λ (t : Bool). lists x.table i && (has i x.marked || t)) (eq-eqb c.monitor.cycle c.monitor.cycle refl)
    ∙ (elim (has i x.marked) as (λ t. (lists x.table i && (t || true)) ≡ (lists x.table i && true)) [ true ↦ refl | false ↦ refl ])))))
    (λ b. let e : x ≡ no_channel = get_or_past c.channels (home (length c.channels) i) no_channel b in
    ap (λ (z : CoreChannel). kept_on false (c.monitor.cycle + 1) z i) e ∙ ap (λ (z : CoreChannel). kept_on c.monitor.closed c.monitor.cycle z i) (sym e))
    (cases_lt (home (length c.channels) i) (length c.channels))

-- what a store to begin lists or names
held_or_root : (c : Core) (i : ℕ) → KeptFits c → (has i (held c.channels) || nat_eq i 1) ≡ true → lists (graph c.book) i ≡ true → is_kept c i ≡ true
held_or_root c i f e l = ⊎_elim (λ s. f.pins i s) (λ s. let one = eqb-true i 1 s in
    subst (λ (x : ℕ). is_kept c x ≡ true) (sym one) (f.root (subst (λ (x : ℕ). lists (graph c.book) x ≡ true) one l)))
    (or_cases (has i (held c.channels)) (nat_eq i 1) e)

begins_store_kept : (c : Core) (m : CoreMonitor) (h : Hand) (op : StoreOp) → 0 < length c.hands → KeptFits c → m.closed ≡ c.monitor.closed
    → m.cycle ≡ c.monitor.cycle → is_valid_store (graph c.book) (held c.channels) (next_before c.book) op ≡ true → written_of h.opened ≡ []
    → KeptFits (core_led c 0 m h (record c.book { opened = Some op }))
begins_store_kept c m h op mine f clo cyc may opened = let d = core_led c 0 m h (record c.book { opened = Some op }) in
    let K = λ (i : ℕ). ap (λ (t : Bool). kept_on t m.cycle (channel_of c i) i) clo ∙ ap (λ (n : ℕ). kept_on c.monitor.closed n (channel_of c i) i) cyc in
    let ws : written d ≡ [] = ap (λ (g : Hand). written_of g.opened) (get_or-set_same c.hands 0 h new_hand mine) ∙ opened in
    let U = λ (i : ℕ) (l : lists op.records i ≡ true). or_right (is_kept d i) (is_unwritten d i)
    (ap (λ (us : List ℕ). lists op.records i && not (has (home (length c.channels) i) us)) ws ∙ ap (λ (t : Bool). t && true) l) in record {
      pins = λ i p. K i ∙ f.pins i p;
      root = λ l. K 1 ∙ f.root l;
      open_edges = λ x z e. let s = some_entity (entity_of op.records x) (has_edge_lists op.records x z e) in
          let q = listed_well (graph c.book) (held c.channels) (next_before c.book) op may x s.0 s.1 in
          ⊎_elim (λ l. U z l) (λ o. or_left (is_kept d z) (is_unwritten d z) (K z ∙ ⊎_elim (λ p. f.pins z p)
          (λ g. let t = and_parts (has x (held c.channels) || nat_eq x 1) (has_edge (graph c.book) x z) g in
          f.graph_edges x z (held_or_root c x f t.0 (has_edge_lists (graph c.book) x z t.1)) t.1)
          (or_cases (has z (held c.channels)) (is_old_edge (graph c.book) (held c.channels) x z) o)))
          (or_cases (lists op.records z) (has z (held c.channels) || is_old_edge (graph c.book) (held c.channels) x z)
          (list_all_at (is_good_edge (graph c.book) (held c.channels) op x) (edges s.0) z q.edges_
          (ap (λ (o : Option Entity). has z (edges_of o)) (sym s.1) ∙ e)));
      graph_edges = λ x z kx e. K z ∙ f.graph_edges x z (sym (K x) ∙ kx) e;
      open_ids = λ i l. U i l;
      open_old = λ i l g. let s = some_entity (entity_of op.records i) l in
          let q = listed_well (graph c.book) (held c.channels) (next_before c.book) op may i s.0 s.1 in
          K i ∙ ⊎_elim (λ n. let t = not-true (lists (graph c.book) i) n in cc) (λ o. held_or_root c i f o g)
          (or_cases (not (lists (graph c.book) i)) (has i (held c.channels) || nat_eq i 1) q.old);
    }

-- where each channel has its part, nothing is unwritten
pub none_unwritten : (c : Core) → 0 < length c.channels → ((x : ℕ) → lists (open_records c.book) x ≡ true
    → has (home (length c.channels) x) (written c) ≡ true) → (i : ℕ) → kept_or_unwritten c i ≡ true → is_kept c i ≡ true
none_unwritten c some_ all i e = ⊎_elim (λ s. s) (λ s. let t = and_parts (lists (open_records c.book) i)
    (not (has (home (length c.channels) i) (written c))) s in let u = all i t.0 in let v = not-true (has (home (length c.channels) i) (written c)) t.1 in
    cc) (or_cases (is_kept c i) (is_unwritten c i) e)

ends_store_kept : (c : Core) (m : CoreMonitor) (h : Hand) (op : StoreOp) → KeptFits c → 0 < length c.channels → m.closed ≡ c.monitor.closed
    → m.cycle ≡ c.monitor.cycle → c.book.opened ≡ Some op → ((x : ℕ) → lists (open_records c.book) x ≡ true
    → has (home (length c.channels) x) (written c) ≡ true)
    → KeptFits (core_led c 0 m h (end_in c.book (Some op)))
ends_store_kept c m h op f some_ clo cyc is all = let K = λ (i : ℕ). ap (λ (t : Bool). kept_on t m.cycle (channel_of c i) i) clo
    ∙ ap (λ (n : ℕ). kept_on c.monitor.closed n (channel_of c i) i) cyc in let N = none_unwritten c some_ all in record {
      pins = λ i p. K i ∙ f.pins i p;
      root = λ l. K 1 ∙ ⊎_elim (λ s. N 1 (f.open_ids 1 (ap (λ (o : Option StoreOp). lists (records_of o) 1) is ∙ s))) (λ s. f.root s)
          (or_cases (lists op.records 1) (lists (graph c.book) 1) (sym (ended_lists c.book op 1) ∙ l));
      open_edges = λ x z e. cc;
      graph_edges = λ x z kx e. K z ∙ ⊎_elim (λ s. N z (f.open_edges x z (ap (λ (o : Option StoreOp). has_edge (records_of o) x z) is ∙ s)))
          (λ s. f.graph_edges x z (sym (K x) ∙ kx) s)
          (either (entity_of op.records x) (entity_of (graph c.book) x) z (ap (λ (o : Option Entity). has z (edges_of o)) (sym (ended_graph c.book op x)) ∙ e));
      open_ids = λ i l. cc;
      open_old = λ i l g. cc;
    }
  where
    either : (a b : Option Entity) (z : ℕ) → has z (edges_of (or_else a b)) ≡ true → (has z (edges_of a) ≡ true) ⊎ (has z (edges_of b) ≡ true)
    either None b z e = inr e
    either (Some d) b z e = inl e

-- CLOSECYCLE

pub grey_within : (l : List CoreChannel) (j : ℕ) → length (channel_at l j).grey ≤ greys l
grey_within [] j = omega arith
grey_within (x ∷ l) zero = omega arith
grey_within (x ∷ l) (suc j) = let e = grey_within l j in omega arith

pub no_grey : (c : Core) → CreditFits c → c.monitor.pending ≡ 0 → (j : ℕ) → (channel_at c.channels j).grey ≡ []
no_grey c f none j = let p = f.pending in let w = grey_within c.channels j in nil_from_length (channel_at c.channels j).grey (omega arith)

pub no_transit : (c : Core) → CreditFits c → c.monitor.pending ≡ 0 → (a : ℕ) → (hand_at c.hands a).transit ≡ []
no_transit c f none a = let p = f.pending in let w = weight_within c.hands a in nil_from_length (hand_at c.hands a).transit (omega arith)

all_set_at' : (fs : List Bool) (j : ℕ) → all_set fs ≡ true → j < length fs → get_or fs j false ≡ true
all_set_at' [] j e l = absurd (omega arith)
all_set_at' (f ∷ fs) zero e l = (and_parts f (all_set fs) e).0
all_set_at' (f ∷ fs) (suc j) e l = all_set_at' fs j (and_parts f (all_set fs) e).1 (omega arith)

-- with all begun each channel is Marking
pub all_marking : (c : Core) → PhasesFit c → c.monitor.closed ≡ false → all_set c.monitor.begun ≡ true → (j : ℕ) → j < length c.channels
    → is_marking (channel_at c.channels j).phase ≡ true
all_marking c fits open_ s j l = by (channel_at c.channels j).phase
    (fits.begun_flag j (all_set_at' c.monitor.begun j s (subst (λ (n : ℕ). j < n) (sym fits.begun_length) l)))
    (subst (λ (t : Bool). PhaseFits t c.monitor.cycle (channel_at c.channels j).phase) open_ (fits.phase j l))
  where
    by : (ph : Phase) → cycle_of ph ≡ c.monitor.cycle → PhaseFits false c.monitor.cycle ph → is_marking ph ≡ true
    by (Idle d) e f = absurd (omega arith)
    by (Marking d) e f = refl
    by (Sweeping d left) e f = let t : false ≡ true = f.1 in cc

marking_not_idle_of : (ph : Phase) (b : ℕ) → is_marking ph ≡ true → is_idle_of b ph ≡ false
marking_not_idle_of (Idle d) b e = cc
marking_not_idle_of (Marking d) b e = refl
marking_not_idle_of (Sweeping d left) b e = cc

closes_kept : (c : Core) (a : ℕ) (h : Hand) → IsGood c → c.monitor.closed ≡ false → c.monitor.pending ≡ 0 → c.book.opened ≡ None
    → all_set c.monitor.begun ≡ true → KeptFits (core_led c a (record c.monitor { closed = true }) h c.book)
closes_kept c a h good open_ none no_store s = let f = good.sound.kept in let tri = good.tricolour open_ in let cf = good.sound.content in
    let listed = λ (i : ℕ) (e : is_kept c i ≡ true). kept_listed c i e in
    let marking = λ (i : ℕ) (l : lists (channel_of c i).table i ≡ true). all_marking c good.sound.phases open_ s (home (length c.channels) i)
    (table_channel c i l) in
    let black = λ (i : ℕ) (l : lists (channel_of c i).table i ≡ true) (m : has i (channel_of c i).marked ≡ true). and_from (lists (channel_of c i).table i)
    (has i (channel_of c i).marked || is_idle_of c.monitor.cycle (channel_of c i).phase) l
    (or_left (has i (channel_of c i).marked) (is_idle_of c.monitor.cycle (channel_of c i).phase) m) in
    let recs : open_records c.book ≡ [] = ap records_of no_store in record {
      pins = λ i p. let t = held_on c.channels i p in let at = cf.pins_home t.0 i t.1 t.2 in let l = listed i (f.pins i p) in
          black i l (tri.roots i (marking i l) l (or_right (nat_eq i 1) (has i (channel_of c i).pins)
          (subst (λ (j : ℕ). has i (channel_at c.channels j).pins ≡ true) (sym at) t.2)));
      root = λ g. let l = listed 1 (f.root g) in black 1 l (tri.roots 1 (marking 1 l) l (or_left (nat_eq 1 1) (has 1 (channel_of c 1).pins) refl));
      open_edges = λ x z e. let t : has_edge [] x z ≡ true = subst (λ (g : Graph). has_edge g x z ≡ true) recs e in cc;
      graph_edges = λ x z kx e. let t = and_parts (lists (channel_of c x).table x)
          (has x (channel_of c x).marked || is_idle_of c.monitor.cycle (channel_of c x).phase) kx in
          let m : has x (channel_of c x).marked ≡ true = ⊎_elim (λ m. m)
          (λ i. let n = marking_not_idle_of (channel_of c x).phase c.monitor.cycle (marking x t.0) in cc)
          (or_cases (has x (channel_of c x).marked) (is_idle_of c.monitor.cycle (channel_of c x).phase) t.1) in
          let ent = cf.entity x t.0 ∙ shown_closed c good.sound.book no_store x in
          ⊎_elim (λ mz. black z ((good.sound.marks (home (length c.channels) z)).marked z mz) mz)
          (⊎_elim (λ (q : InTransit c z). let u : has z [] ≡ true = subst (λ (us : List ℕ). has z us ≡ true)
          (no_transit c good.sound.credit none q.0) q.1 in cc)
          (λ w. let u = (and_parts (lists (open_records c.book) z) (not (has (home (length c.channels) z) (written c)))
          (and_parts (is_unwritten c z) (not (lists (channel_of c z).table z) && is_marking (channel_of c z).phase) w).0).0 in
          let v : lists [] z ≡ true = subst (λ (g : Graph). lists g z ≡ true) recs u in cc))
          (tri.edges x z m (ap (has x) (no_grey c good.sound.credit none (home (length c.channels) x)))
          (ap (λ (o : Option Entity). has z (edges_of o)) ent ∙ e));
      open_ids = λ i l. let t : lists [] i ≡ true = subst (λ (g : Graph). lists g i ≡ true) recs l in cc;
      open_old = λ i l g. let t : lists [] i ≡ true = subst (λ (g : Graph). lists g i ≡ true) recs l in cc;
    }

kept_monitor_move : (c : Core) (a k : ℕ) (e : Event) (m : CoreMonitor) (h : Hand) → IsGood c → MonitorEvent c a e m h
    → MonitorMove c.monitor (hand_at c.hands a) e m h → KeptFits (changed c a k (Monitor m) h e)
kept_monitor_move c a k e m h good ev (reserves i l) = kept_led c a m h good.sound.kept (λ i. refl) refl
kept_monitor_move c a k e m h good ev (returns i l) = kept_led c a m h good.sound.kept (λ i. refl) refl
kept_monitor_move c a k e m h good ev (begins_cycle t s) = kept_led c a m h good.sound.kept (λ i. begins_kept c i good.sound.phases t s) refl
kept_monitor_move c a k e m h good ev (reports_begun j r) = kept_led c a m h good.sound.kept (λ i. refl) refl
kept_monitor_move c a k e m h good ev (closes o p s b) = closes_kept c a h good o p (none_open c good.sound.book s) b
kept_monitor_move c a k e m h good ev (reports_swept j r) = kept_led c a m h good.sound.kept (λ i. refl) refl
kept_monitor_move c a k e m h good ev (begins_store op s) = let may = and_parts (nat_eq a 0)
    (is_valid_store (graph c.book) (held c.channels) (next_before c.book) op) ev.may in let z = eqb-true a 0 may.0 in
    subst (λ (b : ℕ). KeptFits record { channels = c.channels; monitor = m; hands = set c.hands b h; book = record c.book { opened = Some op } }) (sym z)
    (begins_store_kept c m h op (subst (λ (b : ℕ). b < length c.hands) z ev.mine) good.sound.kept refl refl may.1 refl)
kept_monitor_move c a k e m h good ev (ends_store o i s) = let z = opened_by c a o good.sound.book i in
    let i0 : (hand_at c.hands 0).opened ≡ Some o = subst (λ (b : ℕ). (hand_at c.hands b).opened ≡ Some o) z i in
    let op = ending_store c o good.sound.book i0 in
    let w : written c ≡ o.written = ap written_of i0 in
    subst (λ (b : ℕ). KeptFits record { channels = c.channels; monitor = m; hands = set c.hands b h; book = end_in c.book c.book.opened }) (sym z)
    (subst (λ (q : Option StoreOp). KeptFits record { channels = c.channels; monitor = m; hands = set c.hands 0 h; book = end_in c.book q }) (sym op.1)
    (ends_store_kept c m h op.0 good.sound.kept good.sound.some_channel refl refl op.1 (ending_written c o good.sound.some_channel good.sound.book i0 s)))

pub kept_monitor : (c : Core) (a k : ℕ) (e : Event) (m : CoreMonitor) (h : Hand) → IsGood c → MonitorEvent c a e m h
    → KeptFits (changed c a k (Monitor m) h e)
kept_monitor c a k e m h good ev = kept_monitor_move c a k e m h good ev (monitor_move c.monitor (hand_at c.hands a) e (m, h) ev.made)
