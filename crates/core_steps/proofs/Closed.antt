-- Colour and Closed are kept.
use Rattle.std.proofs.Common.{◌≡◌, ◌⊎◌, ℕ, ◌+◌, ◌-◌, ◌<◌, Bool, true, false, cond, not, ◌||◌, ◌&&◌, List, [], ◌∷◌, length, set, length-set, Option, Some, None, refl, sym, ap, ◌∙◌, subst, ⊎_elim, inl, inr}
use Rattle.std.specs.Prelude.{nat_eq, is_some}
use Rattle.std.proofs.lemmas.Bool.{eqb-true, eq-eqb, ne_eqb, cases_Bool, cases_eq, cases_lt, and_parts, and_from, or_cases, or_left, or_right, or_parts, not-true, not-false}
use Rattle.std.proofs.lemmas.List.{get_or-set_same, get_or-set_other, get_or_past}
use Rattle.graph_model.specs.Graph.{Graph, edges_of, entity_of, has_edge, ids, lists, or_else}
use Rattle.graph_model.specs.Ids.{add, add_all, has, insert, remove_all}
use Rattle.graph_model.specs.declared.entity.Entity.{Entity}
use Rattle.graph_model.specs.declared.entity.StoreOp.{StoreOp}
use Rattle.graph_model.proofs.Graphs.{entity_of_put_all, has_ids, lists_put_all}
use Rattle.graph_model.proofs.IdSets.{had_before, has_add, has_add_all, has_insert, has_other}
use Rattle.core_steps.specs.Core.{Book, Core, CoreChannel, CoreMonitor, Hand, Idle, Marking, OpenStore, Phase, Sweeping, channel_at, hand_at, home, is_idle, is_marking, new_hand, no_channel, open_records, records_of, written_of}
use Rattle.core_steps.specs.Events.{Event}
use Rattle.core_steps.specs.Good.{AllMarksFit, InTransit, IsClosed, IsGood, IsMarkedOrDue, IsTricolour, PhaseFits, PhasesFit, SawRight, SweptMarked, channel_of, is_kept, is_unwritten, written}
use Rattle.core_steps.specs.Rows.{Channel, Monitor, Place, all_set, marks_pin, part_marked, part_taken, roots, swept_to, visit, part_given, marked_all, greyed_all}
use Rattle.core_steps.specs.Steps.{changed, end_in, place_of}
use Rattle.core_steps.proofs.Books.{ending_written, none_open, opened_by}
use Rattle.core_steps.proofs.Colour.{Colourful, delivers_colour, fine_more, inserted, marks_colour, repainted}
use Rattle.core_steps.proofs.Contents.{Took, after_taking, part_table, part_took}
use Rattle.core_steps.proofs.Credits.{visit_grey}
use Rattle.core_steps.proofs.Glue.{ChannelEvent, MonitorEvent}
use Rattle.core_steps.proofs.Kept.{SweptSoFar, begins_open, core_with, deliver_none, home_channel, kept_open, mark_none, of_changed, sweep_start, table_edges_kept, visits_swept}
use Rattle.core_steps.proofs.KeptSteps.{all_marking, core_led, no_grey, no_transit, part_has, pin_kept, taken_unwritten, white_open}
use Rattle.core_steps.proofs.Lists.{both_set, each_set, filter_keeps}
use Rattle.core_steps.proofs.Marks.{has_filter}
use Rattle.core_steps.proofs.Moves.{ChannelMove, MonitorMove, begins, begins_cycle, begins_store, channel_move, closes, confirms, delivers, ends_store, marks, monitor_move, pins, pins_white, reports_begun, reports_swept, reserves, returns, sweeps, takes, tidies, unpins}
use Rattle.core_steps.proofs.Phases.{all_idle, sweep_cycle}

-- COLOUR, AN EVENT OF A CHANNEL

-- a good core in an open cycle has what its colours rest on
pub colourful : (c : Core) → IsGood c → c.monitor.closed ≡ false → Colourful c
colourful c good open_ = record {
  tri = good.tricolour open_;
  edges = λ x z l e. let k : is_kept c x ≡ true = kept_open c.monitor.closed c.monitor.cycle (channel_of c x) x open_ ∙ l in
      ap (λ (t : Bool). t || is_unwritten c z) (sym (kept_open c.monitor.closed c.monitor.cycle (channel_of c z) z open_))
      ∙ table_edges_kept c x z good.sound.content good.sound.kept k e;
  within = λ j. let m = good.sound.marks j in record { marked = m.marked; grey = m.grey };
  homes = good.sound.content.table_home;
}

-- an event that changes no mark, no table and no transit
repainted_same : (c : Core) (a k : ℕ) (y : CoreChannel) (h : Hand) → k < length c.channels → Colourful c → y.table ≡ (channel_at c.channels k).table
    → h.opened ≡ (hand_at c.hands a).opened → y.phase ≡ (channel_at c.channels k).phase → y.marked ≡ (channel_at c.channels k).marked
    → y.grey ≡ (channel_at c.channels k).grey → h.transit ≡ (hand_at c.hands a).transit
    → ((j : ℕ) → is_marking y.phase ≡ true → has j y.pins ≡ true → (has j (channel_at c.channels k).pins ≡ true) ⊎ (has j y.marked ≡ true))
    → IsTricolour (core_with c a k y h)
repainted_same c a k y h b col tab opened phase marked grey transit pinned = repainted c a k y h b col record {
  table = tab;
  opened = opened;
  roots = λ j at m l p. let m' = ap is_marking (sym phase) ∙ m in
      let old = λ (q : has j (1 ∷ (channel_at c.channels k).pins) ≡ true). ap (has j) marked
      ∙ (ap (λ (z : CoreChannel). has j z.marked) (sym at) ∙ col.tri.roots j (ap (λ (z : CoreChannel). is_marking z.phase) at
      ∙ m') (ap (λ (z : CoreChannel). lists z.table j) at ∙ l) (ap (λ (z : CoreChannel). has j (1 ∷ z.pins)) at ∙ q)) in
      ⊎_elim (λ one. old (or_left (nat_eq j 1) (has j (channel_at c.channels k).pins) one))
      (λ p'. ⊎_elim (λ q. old (or_right (nat_eq j 1) (has j (channel_at c.channels k).pins) q)) (λ q. q) (pinned j m p'))
      (or_cases (nat_eq j 1) (has j y.pins) p);
  fine = λ z kn f. fine_more c a k y h z b tab opened (λ m. ap is_marking phase ∙ m) (λ m. ap (has z) marked ∙ m) (λ t. ap (has z) transit ∙ t) f;
  black = λ j z m g e. inl (ap (has j) (sym marked) ∙ m, ap (has j) (sym grey) ∙ g);
  within = let w = col.within k in record {
    marked = λ j m. ap (λ (g : Graph). lists g j) tab ∙ w.marked j (ap (has j) (sym marked) ∙ m);
    grey = λ j g. ap (has j) marked ∙ w.grey j (ap (has j) (sym grey) ∙ g);
  };
}

begins_colour : (c : Core) (a k b : ℕ) (h : Hand) → k < length c.channels → Colourful c → (channel_at c.channels k).phase ≡ Idle b
    → (channel_at c.channels k).marked ≡ [] → h.opened ≡ (hand_at c.hands a).opened → h.transit ≡ (hand_at c.hands a).transit
    → IsTricolour (core_with c a k
    (record (channel_at c.channels k) { phase = Marking (b + 1); marked = roots (channel_at c.channels k); grey = roots (channel_at c.channels k) }) h)
begins_colour c a k b h here col was clean opened transit = let x = channel_at c.channels k in
    let y : CoreChannel = record x { phase = Marking (b + 1); marked = roots x; grey = roots x } in repainted c a k y h here col record {
      table = refl;
      opened = opened;
      roots = λ j at m l p. filter_keeps (lists x.table) (add 1 x.pins) j l (has_add j 1 x.pins ∙ p);
      fine = λ z kn f. fine_more c a k y h z here refl opened (λ m. refl) (λ m. let t : has z x.marked ≡ false = ap (has z) clean in cc)
          (λ t. ap (has z) transit ∙ t) f;
      black = λ j z m g e. cc;
      within = record { marked = λ j m. (has_filter (lists x.table) (add 1 x.pins) j m).0; grey = λ j g. g };
    }

pin_colour : (c : Core) (a k i : ℕ) → k < length c.channels → Colourful c → lists (channel_at c.channels k).table i ≡ true
    → IsTricolour (core_with c a k
    (record (channel_at c.channels k) {
      pins = add i (channel_at c.channels k).pins;
      marked = insert i (channel_at c.channels k).marked;
      grey = insert i
          (channel_at c.channels k).grey;
    }) (record (hand_at c.hands a) { credit = (hand_at c.hands a).credit - 1 }))
pin_colour c a k i b col l = let x = channel_at c.channels k in
    let y : CoreChannel = record x { pins = add i x.pins; marked = insert i x.marked; grey = insert i x.grey } in
    let h : Hand = record (hand_at c.hands a) { credit = (hand_at c.hands a).credit - 1 } in repainted c a k y h b col record {
      table = refl;
      opened = refl;
      roots = λ j at m l p. let old = λ (q : has j (1 ∷ x.pins) ≡ true). inserted j i x.marked
          (ap (λ (z : CoreChannel). has j z.marked) (sym at) ∙ col.tri.roots j (ap (λ (z : CoreChannel). is_marking z.phase) at
          ∙ m) (ap (λ (z : CoreChannel). lists z.table j) at ∙ l) (ap (λ (z : CoreChannel). has j (1 ∷ z.pins)) at ∙ q)) in
          ⊎_elim (λ one. old (or_left (nat_eq j 1) (has j x.pins) one))
          (λ p'. ⊎_elim (λ s. has_insert j i x.marked ∙ or_left (nat_eq j i) (has j x.marked) s) (λ s. old (or_right (nat_eq j 1) (has j x.pins) s))
          (or_cases (nat_eq j i) (has j x.pins) (sym (has_add j i x.pins) ∙ p'))) (or_cases (nat_eq j 1) (has j (add i x.pins)) p);
      fine = λ z kn f. fine_more c a k y h z b refl refl (λ m. m) (inserted z i x.marked) (λ t. t) f;
      black = λ j z m g e. let t = or_parts (nat_eq j i) (has j x.grey) (sym (has_insert j i x.grey) ∙ g) in
          inl (⊎_elim (λ q. let u = t.0 in cc) (λ q. q) (or_cases (nat_eq j i) (has j x.marked) (sym (has_insert j i x.marked) ∙ m)), t.1);
      within = let w = col.within k in record {
        marked = λ j m. ⊎_elim (λ s. subst (λ (n : ℕ). lists x.table n ≡ true) (sym (eqb-true j i s)) l) (λ s. w.marked j s)
            (or_cases (nat_eq j i) (has j x.marked) (sym (has_insert j i x.marked) ∙ m));
        grey = λ j g. has_insert j i x.marked ∙ ⊎_elim (λ s. or_left (nat_eq j i) (has j x.marked) s) (λ s. or_right (nat_eq j i) (has j x.marked) (w.grey j s))
            (or_cases (nat_eq j i) (has j x.grey) (sym (has_insert j i x.grey) ∙ g));
      };
    }

-- STOREPART IN AN OPEN CYCLE

-- what a part does to marks and greys: on a Marking channel both gain its ids
record Greyed (c : Core) (k : ℕ) (y : CoreChannel) : Type 0 where
  phase : is_marking y.phase ≡ true → is_marking (channel_at c.channels k).phase ≡ true
  old : (j : ℕ) → has j (channel_at c.channels k).marked ≡ true → has j y.marked ≡ true
  new : (j : ℕ) → is_marking (channel_at c.channels k).phase ≡ true → lists (place_of c k).records j ≡ true → has j y.marked ≡ true
  black : (j : ℕ) → has j y.marked ≡ true → has j y.grey ≡ false
      → (has j (channel_at c.channels k).marked ≡ true) × (has j (channel_at c.channels k).grey ≡ false) × (lists (place_of c k).records j ≡ false)

taken_colour : (c : Core) (k : ℕ) (o : OpenStore) (y : CoreChannel) (h : Hand) → IsGood c → c.monitor.closed ≡ false → Took c k o y h → Greyed c k y
    → h.transit ≡ (hand_at c.hands 0).transit → IsTricolour (after_taking c k y h)
taken_colour c k o y h good open_ t g transit = let col = colourful c good open_ in let tri = good.tricolour open_ in let d = after_taking c k y h in
    let x = channel_at c.channels k in record {
      roots = λ j m l p. ⊎_elim
          (λ s. ap (λ (z : CoreChannel). has j z.marked) s.1 ∙ (let m' = g.phase (ap (λ (z : CoreChannel). is_marking z.phase) (sym s.1) ∙ m) in
          ⊎_elim (λ r. g.new j m' r)
          (λ r. g.old j (ap (λ (z : CoreChannel). has j z.marked) (sym s.2) ∙ tri.roots j (ap (λ (z : CoreChannel). is_marking z.phase) s.2 ∙ m')
          (ap (λ (z : CoreChannel). lists z.table j) s.2 ∙ (old_table c k o y h j t r ∙ (ap (λ (z : CoreChannel). lists z.table j) (sym s.1) ∙ l)))
          (ap (λ (z : CoreChannel). has j (1 ∷ z.pins)) s.2 ∙ old_pins c k o y h j t r (ap (λ (z : CoreChannel). has j (1 ∷ z.pins)) (sym s.1) ∙ p))))
          (cases_Bool (lists (place_of c k).records j))))
          (λ s. ap (λ (z : CoreChannel). has j z.marked) s ∙ tri.roots j (ap (λ (z : CoreChannel). is_marking z.phase) (sym s)
          ∙ m) (ap (λ (z : CoreChannel). lists z.table j) (sym s) ∙ l) (ap (λ (z : CoreChannel). has j (1 ∷ z.pins)) (sym s) ∙ p))
          (of_changed c 0 k y h j t.here);
      edges = λ j z m n e. ⊎_elim
          (λ s. let b = g.black j (ap (λ (q : CoreChannel). has j q.marked) (sym s.1) ∙ m) (ap (λ (q : CoreChannel). has j q.grey) (sym s.1) ∙ n) in
          fine c k o y h t g transit z (tri.edges j z (ap (λ (q : CoreChannel). has j q.marked) s.2 ∙ b.0) (ap (λ (q : CoreChannel). has j q.grey) s.2 ∙ b.1)
          (ap (λ (q : CoreChannel). has_edge q.table j z) s.2 ∙ (ap (λ (q : Option Entity). has z (edges_of q)) (old_entity c k o y h j t b.2)
          ∙ (ap (λ (q : CoreChannel). has_edge q.table j z) (sym s.1) ∙ e)))))
          (λ s. fine c k o y h t g transit z (tri.edges j z (ap (λ (q : CoreChannel). has j q.marked) (sym s) ∙ m)
          (ap (λ (q : CoreChannel). has j q.grey) (sym s) ∙ n) (ap (λ (q : CoreChannel). has_edge q.table j z) (sym s) ∙ e)))
          (of_changed c 0 k y h j t.here);
    }
  where
    none_entity : (q : Option Entity) → is_some q ≡ false → (old : Option Entity) → old ≡ or_else q old
    none_entity None e old = refl
    none_entity (Some d) e old = cc

    old_entity : (c : Core) (k : ℕ) (o : OpenStore) (y : CoreChannel) (h : Hand) (j : ℕ) → Took c k o y h → lists (place_of c k).records j ≡ false
        → entity_of (channel_at c.channels k).table j ≡ entity_of y.table j
    old_entity c k o y h j t n = none_entity (entity_of (place_of c k).records j) n (entity_of (channel_at c.channels k).table j)
        ∙ (sym (entity_of_put_all (place_of c k).records (channel_at c.channels k).table j) ∙ ap (λ (q : Graph). entity_of q j) (sym t.table))

    old_table : (c : Core) (k : ℕ) (o : OpenStore) (y : CoreChannel) (h : Hand) (j : ℕ) → Took c k o y h → lists (place_of c k).records j ≡ false
        → lists (channel_at c.channels k).table j ≡ lists y.table j
    old_table c k o y h j t n = ap (λ (q : Option Entity). is_some q) (old_entity c k o y h j t n)

    old_pins : (c : Core) (k : ℕ) (o : OpenStore) (y : CoreChannel) (h : Hand) (j : ℕ) → Took c k o y h → lists (place_of c k).records j ≡ false
        → has j (1 ∷ y.pins) ≡ true → has j (1 ∷ (channel_at c.channels k).pins) ≡ true
    old_pins c k o y h j t n p = ap (λ (b : Bool). nat_eq j 1 || b)
        (sym (ap (has j) t.pins ∙ (has_add_all j (ids (place_of c k).records) (channel_at c.channels k).pins
        ∙ ap (λ (b : Bool). b || has j (channel_at c.channels k).pins) (has_ids (place_of c k).records j ∙ n)))) ∙ p

    fine : (c : Core) (k : ℕ) (o : OpenStore) (y : CoreChannel) (h : Hand) → Took c k o y h → Greyed c k y → h.transit ≡ (hand_at c.hands 0).transit
        → (z : ℕ) → IsMarkedOrDue c z → IsMarkedOrDue (after_taking c k y h) z
    fine c k o y h t g transit z f = let d = after_taking c k y h in ⊎_elim
        (λ m. inl (⊎_elim (λ s. ap (λ (q : CoreChannel). has z q.marked) s.1 ∙ g.old z (ap (λ (q : CoreChannel). has z q.marked) (sym s.2) ∙ m))
        (λ s. ap (λ (q : CoreChannel). has z q.marked) s ∙ m) (of_changed c 0 k y h z t.here)))
        (λ r. ⊎_elim
        (λ (q : InTransit c z). inr
        (inl (
          q.0,
          both_set (λ (b : ℕ) (u v : Hand). has z u.transit ≡ true → has z v.transit ≡ true) c.hands 0 h new_hand (λ e. ap (has z) transit ∙ e)
              (λ b e. e) q.0 q.1,
        )))
        (λ w. let u = and_parts (is_unwritten c z) (not (lists (channel_of c z).table z) && is_marking (channel_of c z).phase) w in
        let v = and_parts (not (lists (channel_of c z).table z)) (is_marking (channel_of c z).phase) u.1 in
        ⊎_elim (λ at. let old : channel_of c z ≡ channel_at c.channels k = ap (channel_at c.channels) at in
        inl (ap (λ (q : CoreChannel). has z q.marked) (ap (λ (n : ℕ). channel_at (set c.channels k y) (home n z)) (length-set c.channels k y)
        ∙ (ap (channel_at (set c.channels k y)) at ∙ get_or-set_same c.channels k y no_channel t.here))
        ∙ g.new z (ap (λ (q : CoreChannel). is_marking q.phase) (sym old) ∙ v.1)
        (part_has c k z at (and_parts (lists (open_records c.book) z) (not (has (home (length c.channels) z) (written c))) u.0).0)))
        (λ n. let same : channel_of d z ≡ channel_of c z = ap (λ (n : ℕ). channel_at (set c.channels k y) (home n z)) (length-set c.channels k y)
        ∙ get_or-set_other c.channels k (home (length c.channels) z) y no_channel n in
        inr (inr (and_from (is_unwritten d z) (not (lists (channel_of d z).table z) && is_marking (channel_of d z).phase)
        (taken_unwritten c k o y h z t ∙ (ap (λ (b : Bool). lists (open_records c.book) z && not (b || has (home (length c.channels) z) (written c)))
        (ne_eqb (home (length c.channels) z) k n) ∙ u.0))
        (ap (λ (q : CoreChannel). not (lists q.table z) && is_marking q.phase) same ∙ u.1))))
        (cases_eq (home (length c.channels) z) k)) r) f

part_greyed : (c : Core) (k : ℕ) (p : Place) (num : ℕ) (h : Hand) → p ≡ place_of c k → c.monitor.closed ≡ false → SawRight c.monitor h → AllMarksFit c
    → (ph : Phase) → (channel_at c.channels k).phase ≡ ph → PhaseFits c.monitor.closed c.monitor.cycle ph
    → Greyed c k (part_marked (ids (place_of c k).records) ph (part_taken (place_of c k) num (channel_at c.channels k), h)).0
part_greyed c k p num h isp open_ saw mf (Idle b) is fits = let clean = ((mf k).idle (ap is_idle is)).0 in record {
  phase = λ m. m;
  old = λ j m. m;
  new = λ j m l. let t : is_marking (channel_at c.channels k).phase ≡ false = ap is_marking is in cc;
  black = λ j m g. let t : has j (channel_at c.channels k).marked ≡ false = ap (has j) clean in cc;
}
part_greyed c k p num h isp open_ saw mf (Sweeping b left) is fits = let t = fits.1 in cc
part_greyed c k p num h isp open_ saw mf (Marking b) is fits = by (h.closed_seen && nat_eq h.cycle_seen b) refl
  where
    by : (t : Bool) → (h.closed_seen && nat_eq h.cycle_seen b) ≡ t → let xs = ids (place_of c k).records in
        let r : CoreChannel × Hand = (part_taken (place_of c k) num (channel_at c.channels k), h) in
        Greyed c k (cond {A = CoreChannel × Hand} t (marked_all xs r)
        (greyed_all xs r)).0
    by true e = let s = and_parts h.closed_seen (nat_eq h.cycle_seen b) e in let u = saw.closed (eqb-true h.cycle_seen b s.1 ∙ fits) s.0 in cc
    by false e = let xs = ids (place_of c k).records in let x = channel_at c.channels k in record {
      phase = λ m. m;
      old = λ j m. has_add_all j xs x.marked ∙ or_right (has j xs) (has j x.marked) m;
      new = λ j m l. has_add_all j xs x.marked ∙ or_left (has j xs) (has j x.marked) (has_ids (place_of c k).records j ∙ l);
      black = λ j m g. let s = or_parts (has j xs) (has j x.grey) (sym (has_add_all j xs x.grey) ∙ g) in (
        ⊎_elim (λ q. let t = s.0 in cc) (λ q. q) (or_cases (has j xs) (has j x.marked) (sym (has_add_all j xs x.marked) ∙ m)),
        s.1,
        sym
            (has_ids (place_of c k).records j) ∙ s.0,
      );
    }

marking_is : (x : CoreChannel) (b : ℕ) → x.phase ≡ Marking b → is_marking x.phase ≡ true
marking_is x b e = ap is_marking e

colour_move : (c : Core) (a k : ℕ) (e : Event) (y : CoreChannel) (h : Hand) → IsGood c → c.monitor.closed ≡ false → ChannelEvent c a k e y h
    → ChannelMove (place_of c k) (channel_at c.channels k) (hand_at c.hands a) e y h → IsTricolour (changed c a k (Channel y) h e)
colour_move c a k e y h good open_ ev (begins b i s l) = begins_colour c a k b h ev.here (colourful c good open_) i
    ((good.sound.marks k).idle (ap is_idle i)).0 refl refl
colour_move c a k e y h good open_ ev (marks b xs z g i m) = marks_colour c a k xs (z, g) ev.here ev.mine (ap is_marking i) (colourful c good open_) m
colour_move c a k e y h good open_ ev (delivers b xs z g i m) = delivers_colour c a k xs (z, g) ev.here ev.mine (ap is_marking i) (colourful c good open_) m
colour_move c a k e y h good open_ ev (sweeps b left xs f s t) = let x = channel_at c.channels k in
    let cyc = sweep_cycle x b c.monitor.cycle c.monitor.closed left f (good.sound.phases.phase k ev.here) in
    let closed = (good.sound.saw a).closed (t ∙ cyc) s in cc
colour_move c a k e y h good open_ ev (takes o i n l d r) = let t = part_took c a k o good.sound.book ev.here ev.mine i in
    let x = channel_at c.channels k in let h0 : Hand = part_given (place_of c k) o (hand_at c.hands a) in
    let saw = good.sound.saw a in let tr = (part_table (ids (place_of c k).records) x.phase (part_taken (place_of c k) o.number x, h0)).3 in
    subst (λ (b : ℕ). IsTricolour record { channels = set c.channels k y; monitor = c.monitor; hands = set c.hands b h; book = c.book }) (sym t.0)
    (taken_colour c k o y h good open_ t.1
    (part_greyed c k (place_of c k) o.number h0 refl open_ record {
      cycle = saw.cycle;
      closed = saw.closed;
      ended =
          saw.ended;
    } good.sound.marks x.phase refl (good.sound.phases.phase k ev.here))
    (tr ∙ ap (λ (b : ℕ). (hand_at c.hands b).transit) t.0))
colour_move c a k e y h good open_ ev (confirms l) = repainted_same c a k y h ev.here (colourful c good open_) refl refl refl refl refl refl (λ j m p. inl p)
colour_move c a k e y h good open_ ev (pins i l p m) = let x = channel_at c.channels k in
    repainted_same c a k y h ev.here (colourful c good open_) refl refl refl refl refl refl
    (λ j mk q. ⊎_elim (λ s. inr (subst (λ (n : ℕ). has n x.marked ≡ true) (sym (eqb-true j i s)) (already x i x.phase mk m))) (λ s. inl s)
    (or_cases (nat_eq j i) (has j x.pins) (sym (has_add j i x.pins) ∙ q)))
  where
    already : (x : CoreChannel) (i : ℕ) (ph : Phase) → is_marking ph ≡ true → marks_pin i ph x ≡ false → has i x.marked ≡ true
    already x i (Idle b) mk m = cc
    already x i (Marking b) mk m = not-false (has i x.marked) m
    already x i (Sweeping b left) mk m = cc
colour_move c a k e y h good open_ ev (pins_white i l p m) = pin_colour c a k i ev.here (colourful c good open_) l
colour_move c a k e y h good open_ ev (unpins i) = repainted_same c a k y h ev.here (colourful c good open_) refl refl refl refl refl refl
    (λ j m p. inl (had_before j i (channel_at c.channels k).pins p))
colour_move c a k e y h good open_ ev (tidies l) = repainted_same c a k y h ev.here (colourful c good open_) refl refl refl refl refl refl (λ j m p. inl p)

pub colour_channel : (c : Core) (a k : ℕ) (e : Event) (y : CoreChannel) (h : Hand) → IsGood c → c.monitor.closed ≡ false → ChannelEvent c a k e y h
    → IsTricolour (changed c a k (Channel y) h e)
colour_channel c a k e y h good open_ ev = colour_move c a k e y h good open_ ev
    (channel_move (place_of c k) (channel_at c.channels k) (hand_at c.hands a) e (y, h) ev.made)

-- COLOUR, AN EVENT OF THE MONITOR

tri_led : (c : Core) (a : ℕ) (m : CoreMonitor) (h : Hand) (b : Book) → IsTricolour c → h.transit ≡ (hand_at c.hands a).transit
    → ((z : ℕ) → is_unwritten c z ≡ true → is_unwritten (core_led c a m h b) z ≡ true) → IsTricolour (core_led c a m h b)
tri_led c a m h b tri transit more = let d = core_led c a m h b in record {
  roots = tri.roots;
  edges = λ x z mk g e. ⊎_elim (λ s. inl s) (λ s. inr (⊎_elim
      (λ (q : InTransit c z). inl (
        q.0,
        both_set (λ (i : ℕ) (u v : Hand). has z u.transit ≡ true → has z v.transit ≡ true) c.hands a h new_hand
            (λ t. ap (has z) transit ∙ t) (λ i t. t) q.0 q.1,
      ))
      (λ w. let u = and_parts (is_unwritten c z) (not (lists (channel_of c z).table z) && is_marking (channel_of c z).phase) w in
      inr (and_from (is_unwritten d z) (not (lists (channel_of c z).table z) && is_marking (channel_of c z).phase) (more z u.0) u.1)) s))
      (tri.edges x z mk g e);
}

unwritten_led : (c : Core) (a : ℕ) (m : CoreMonitor) (h : Hand) (z : ℕ) → h.opened ≡ (hand_at c.hands a).opened → is_unwritten c z ≡ true
    → is_unwritten (core_led c a m h c.book) z ≡ true
unwritten_led c a m h z opened u = ap (λ (us : List ℕ). lists (open_records c.book) z && not (has (home (length c.channels) z) us))
    (ap written_of (both_set (λ (i : ℕ) (x y : Hand). y.opened ≡ x.opened) c.hands a h new_hand opened (λ i. refl) 0)) ∙ u

-- in a cycle that begins nothing is marked
begins_cycle_colour : (c : Core) (a : ℕ) (m : CoreMonitor) (h : Hand) (b : Book) → AllMarksFit c → PhasesFit c → all_set c.monitor.swept ≡ true
    → IsTricolour (core_led c a m h b)
begins_cycle_colour c a m h b mf fits s = record {
  roots = λ j mk l p. let t : is_idle (channel_of c j).phase ≡ true = idle (home (length c.channels) j) in absurd (both_ (channel_of c j).phase t mk);
  edges = λ x z mk g e. let t = ((mf (home (length c.channels) x)).idle (idle (home (length c.channels) x))).0 in
      let u : has x (channel_of c x).marked ≡ false = ap (has x) t in cc;
}
  where
    idle : (j : ℕ) → is_idle (channel_at c.channels j).phase ≡ true
    idle j = ⊎_elim (λ l. ap is_idle (all_idle c fits s j l)) (λ l. ap (λ (z : CoreChannel). is_idle z.phase) (get_or_past c.channels j no_channel l))
        (cases_lt j (length c.channels))

    both_ : (ph : Phase) → is_idle ph ≡ true → is_marking ph ≡ true → ⊥
    both_ (Idle d) e f = cc
    both_ (Marking d) e f = cc
    both_ (Sweeping d left) e f = cc

colour_led : (c : Core) (a k : ℕ) (e : Event) (m : CoreMonitor) (h : Hand) → IsGood c → m.closed ≡ false → MonitorMove c.monitor (hand_at c.hands a) e m h
    → IsTricolour (changed c a k (Monitor m) h e)
colour_led c a k e m h good open_ (reserves i l) = tri_led c a m h c.book (good.tricolour open_) refl (λ z u. unwritten_led c a m h z refl u)
colour_led c a k e m h good open_ (returns i l) = tri_led c a m h c.book (good.tricolour open_) refl (λ z u. unwritten_led c a m h z refl u)
colour_led c a k e m h good open_ (begins_cycle t s) = begins_cycle_colour c a m h c.book good.sound.marks good.sound.phases s
colour_led c a k e m h good open_ (reports_begun j r) = tri_led c a m h c.book (good.tricolour open_) refl (λ z u. unwritten_led c a m h z refl u)
colour_led c a k e m h good open_ (closes o p s b) = cc
colour_led c a k e m h good open_ (reports_swept j r) = tri_led c a m h c.book (good.tricolour open_) refl (λ z u. unwritten_led c a m h z refl u)
colour_led c a k e m h good open_ (begins_store op s) = tri_led c a m h (record c.book { opened = Some op }) (good.tricolour open_) refl
    (λ z u. let t = (and_parts (lists (open_records c.book) z) (not (has (home (length c.channels) z) (written c))) u).0 in
    let v : lists [] z ≡ true = subst (λ (o : Option StoreOp). lists (records_of o) z ≡ true) (none_open c good.sound.book s) t in cc)
colour_led c a k e m h good open_ (ends_store o i s) = let z0 = opened_by c a o good.sound.book i in
    let i0 : (hand_at c.hands 0).opened ≡ Some o = subst (λ (b : ℕ). (hand_at c.hands b).opened ≡ Some o) z0 i in
    let w : written c ≡ o.written = ap written_of i0 in
    tri_led c a m h (end_in c.book c.book.opened) (good.tricolour open_) refl
    (λ z u. let q = and_parts (lists (open_records c.book) z) (not (has (home (length c.channels) z) (written c))) u in
    let t = not-true (has (home (length c.channels) z) (written c)) q.1 in
    let v = ending_written c o good.sound.some_channel good.sound.book i0 s z q.0 in cc)

pub colour_monitor : (c : Core) (a k : ℕ) (e : Event) (m : CoreMonitor) (h : Hand) → IsGood c → m.closed ≡ false → MonitorEvent c a e m h
    → IsTricolour (changed c a k (Monitor m) h e)
colour_monitor c a k e m h good open_ ev = colour_led c a k e m h good open_ (monitor_move c.monitor (hand_at c.hands a) e (m, h) ev.made)

-- CLOSED

-- a channel of a closed cycle: nothing grey, and what is swept is marked
abbrev pub ClosedChannel : CoreChannel → Type 0
ClosedChannel z = (z.grey ≡ []) × SweptMarked z z.phase

closed_stays : (c : Core) (a k : ℕ) (y : CoreChannel) (h : Hand) (b : Book) → IsClosed c → ClosedChannel y → h.transit ≡ (hand_at c.hands a).transit
    → IsClosed record {
      channels = set c.channels k y;
      monitor = c.monitor;
      hands = set c.hands a h;
      book = b;
    }
closed_stays c a k y h b cl here transit = record {
  no_grey = each_set (λ (j : ℕ) (z : CoreChannel). z.grey ≡ []) c.channels k y no_channel here.0 cl.no_grey;
  no_transit = each_set (λ (j : ℕ) (z : Hand). z.transit ≡ []) c.hands a h new_hand (transit ∙ cl.no_transit a) cl.no_transit;
  swept = each_set (λ (j : ℕ) (z : CoreChannel). SweptMarked z z.phase) c.channels k y no_channel here.1 cl.swept;
}

-- the same table, marks and phase
same_swept : (x y : CoreChannel) (ph : Phase) → y.table ≡ x.table → y.marked ≡ x.marked → SweptMarked x ph → SweptMarked y ph
same_swept x y (Idle b) t m s = s
same_swept x y (Marking b) t m s = s
same_swept x y (Sweeping b left) t m s = λ i l n. ap (has i) m ∙ s i (ap (λ (g : Graph). lists g i) (sym t) ∙ l) n

swept_closed : (p : Place) (b : ℕ) (z : CoreChannel) (h : Hand) (rest : List ℕ) → z.grey ≡ [] → SweptSoFar z rest
    → ClosedChannel (swept_to p b z h rest).0 × ((swept_to p b z h rest).1.transit ≡ h.transit)
swept_closed p b z h [] g s = ((refl, tt), refl)
swept_closed p b z h (i ∷ rest) g s = ((g, s), refl)

has_other_all : (j : ℕ) (xs ys : List ℕ) → has j xs ≡ false → has j (remove_all xs ys) ≡ has j ys
has_other_all j [] ys n = refl
has_other_all j (x ∷ xs) ys n = let t = or_parts (nat_eq j x) (has j xs) n in has_other j x (remove_all xs ys) t.0 ∙ has_other_all j xs ys t.1

part_closed : (xs : List ℕ) (ph : Phase) (x : CoreChannel) (r : CoreChannel × Hand) → x.phase ≡ ph → r.0.phase ≡ ph → r.0.grey ≡ [] → r.0.marked ≡ x.marked
    → ((b : ℕ) → ph ≡ Marking b → (r.1.closed_seen && nat_eq r.1.cycle_seen b) ≡ true) → ((i : ℕ) → has i xs ≡ false → lists r.0.table i ≡ lists x.table i)
    → SweptMarked x ph
    → ClosedChannel (part_marked xs ph r).0 × ((part_marked xs ph r).1.transit ≡ r.1.transit)
part_closed xs (Idle b) x r is isr g m seen old s = ((g, subst (SweptMarked r.0) (sym isr) tt), refl)
part_closed xs (Marking b) x r is isr g m seen old s = let e = seen b refl in
    subst (λ (t : Bool). let q : CoreChannel × Hand = cond {A = CoreChannel × Hand} t (marked_all xs r) (greyed_all xs r) in
    ClosedChannel q.0 × (q.1.transit ≡ r.1.transit)) (sym e)
    ((g, subst (SweptMarked (record r.0 { marked = add_all xs r.0.marked })) (sym isr) tt), refl)
part_closed xs (Sweeping b left) x r is isr g m seen old s = (
  (
    g,
    λ i l n. has_add_all i xs r.0.marked ∙ ⊎_elim (λ h. or_left (has i xs) (has i r.0.marked) h)
        (λ h. or_right (has i xs) (has i r.0.marked) (ap (has i) m ∙ s i (sym (old i h) ∙ l) (sym (has_other_all i xs left h) ∙ n))) (cases_Bool (has i xs)),
  ),
  refl,
)

closed_move : (c : Core) (a k : ℕ) (e : Event) (y : CoreChannel) (h : Hand) → IsGood c → c.monitor.closed ≡ true → ChannelEvent c a k e y h
    → ChannelMove (place_of c k) (channel_at c.channels k) (hand_at c.hands a) e y h → IsClosed (changed c a k (Channel y) h e)
closed_move c a k e y h good closed ev (begins b i s l) = let t = (begins_open c a k b ev.here good.sound.saw good.sound.phases i s).0 in cc
closed_move c a k e y h good closed ev (marks b xs z g i m) = let x = channel_at c.channels k in let cl = good.closed closed in
    let same = mark_none (place_of c k) xs (x, hand_at c.hands a) (z, g) (cl.no_grey k) m in
    closed_stays c a k z g c.book cl (subst (λ (r : CoreChannel × Hand). ClosedChannel r.0) same (cl.no_grey k, cl.swept k))
    (ap (λ (r : CoreChannel × Hand). r.1.transit) (sym same))
closed_move c a k e y h good closed ev (delivers b xs z g i m) = let x = channel_at c.channels k in let cl = good.closed closed in
    let same = deliver_none (place_of c k) xs (x, hand_at c.hands a) (z, g) (cl.no_transit a) m in
    closed_stays c a k z g c.book cl (subst (λ (r : CoreChannel × Hand). ClosedChannel r.0) same (cl.no_grey k, cl.swept k))
    (ap (λ (r : CoreChannel × Hand). r.1.transit) (sym same))
closed_move c a k e y h good closed ev (sweeps b left xs f s t) = let x = channel_at c.channels k in let cl = good.closed closed in
    let v = visits_swept xs x left (sweep_start x b left f (cl.swept k)) in
    let w = swept_closed (place_of c k) b (visit xs (x, left)).0 (hand_at c.hands a) (visit xs (x, left)).1 (visit_grey xs x left ∙ cl.no_grey k) v.0 in
    closed_stays c a k y h c.book cl w.0 w.1
closed_move c a k e y h good closed ev (takes o i n l d r) = let x = channel_at c.channels k in let cl = good.closed closed in let p = place_of c k in
    let h0 : Hand = part_given (place_of c k) o (hand_at c.hands a) in
    let some_ : is_some (hand_at c.hands a).opened ≡ true = ap (λ (q : Option OpenStore). is_some q) i in let saw = good.sound.open_saw a in
    let w = part_closed (ids p.records) x.phase x (part_taken p o.number x, h0) refl refl (cl.no_grey k) refl
    (λ b is. and_from (hand_at c.hands a).closed_seen (nat_eq (hand_at c.hands a).cycle_seen b) (saw.closed some_ closed)
    (eq-eqb (hand_at c.hands a).cycle_seen b (saw.cycle some_ closed
    ∙ sym (subst (PhaseFits c.monitor.closed c.monitor.cycle) is (good.sound.phases.phase k ev.here)))))
    (λ j nn. lists_put_all p.records x.table j ∙ ap (λ (t : Bool). t || lists x.table j) (sym (has_ids p.records j) ∙ nn)) (cl.swept k) in
    closed_stays c a k y h c.book cl w.0 w.1
closed_move c a k e y h good closed ev (confirms l) = let x = channel_at c.channels k in let cl = good.closed closed in
    closed_stays c a k y h c.book cl (cl.no_grey k, same_swept x y x.phase refl refl (cl.swept k)) refl
closed_move c a k e y h good closed ev (pins i l p m) = let x = channel_at c.channels k in let cl = good.closed closed in
    closed_stays c a k y h c.book cl (cl.no_grey k, same_swept x y x.phase refl refl (cl.swept k)) refl
closed_move c a k e y h good closed ev (pins_white i l p m) = let t = white_open c k i (pin_kept c k i good.sound.content good.sound.kept ev.here ev.may l)
    (home_channel c k i good.sound.content ev.here l) m in cc
closed_move c a k e y h good closed ev (unpins i) = let x = channel_at c.channels k in let cl = good.closed closed in
    closed_stays c a k y h c.book cl (cl.no_grey k, same_swept x y x.phase refl refl (cl.swept k)) refl
closed_move c a k e y h good closed ev (tidies l) = let x = channel_at c.channels k in let cl = good.closed closed in
    closed_stays c a k y h c.book cl (cl.no_grey k, same_swept x y x.phase refl refl (cl.swept k)) refl

pub closed_channel : (c : Core) (a k : ℕ) (e : Event) (y : CoreChannel) (h : Hand) → IsGood c → c.monitor.closed ≡ true → ChannelEvent c a k e y h
    → IsClosed (changed c a k (Channel y) h e)
closed_channel c a k e y h good closed ev = closed_move c a k e y h good closed ev
    (channel_move (place_of c k) (channel_at c.channels k) (hand_at c.hands a) e (y, h) ev.made)

closed_led : (c : Core) (a : ℕ) (m : CoreMonitor) (h : Hand) (b : Book) → IsClosed c → h.transit ≡ (hand_at c.hands a).transit → IsClosed (core_led c a m h b)
closed_led c a m h b cl transit = record {
  no_grey = cl.no_grey;
  no_transit = each_set (λ (j : ℕ) (z : Hand). z.transit ≡ []) c.hands a h new_hand (transit ∙ cl.no_transit a) cl.no_transit;
  swept = cl.swept;
}

closes_closed : (c : Core) (a : ℕ) (m : CoreMonitor) (h : Hand) (b : Book) → IsGood c → c.monitor.closed ≡ false → c.monitor.pending ≡ 0
    → all_set c.monitor.begun ≡ true → h.transit ≡ (hand_at c.hands a).transit → IsClosed (core_led c a m h b)
closes_closed c a m h b good open_ none s transit = record {
  no_grey = no_grey c good.sound.credit none;
  no_transit = each_set (λ (j : ℕ) (z : Hand). z.transit ≡ []) c.hands a h new_hand (transit ∙ no_transit c good.sound.credit none a)
      (no_transit c good.sound.credit none);
  swept = λ j. ⊎_elim (λ l. marking_swept (channel_at c.channels j) (channel_at c.channels j).phase (all_marking c good.sound.phases open_ s j l))
      (λ l. subst (λ (z : CoreChannel). SweptMarked z z.phase) (sym (get_or_past c.channels j no_channel l)) tt) (cases_lt j (length c.channels));
}
  where
    marking_swept : (x : CoreChannel) (ph : Phase) → is_marking ph ≡ true → SweptMarked x ph
    marking_swept x (Idle d) e = tt
    marking_swept x (Marking d) e = tt
    marking_swept x (Sweeping d left) e = cc

closed_monitor_move : (c : Core) (a k : ℕ) (e : Event) (m : CoreMonitor) (h : Hand) → IsGood c → m.closed ≡ true
    → MonitorMove c.monitor (hand_at c.hands a) e m h → IsClosed (changed c a k (Monitor m) h e)
closed_monitor_move c a k e m h good closed (reserves i l) = closed_led c a m h c.book (good.closed closed) refl
closed_monitor_move c a k e m h good closed (returns i l) = closed_led c a m h c.book (good.closed closed) refl
closed_monitor_move c a k e m h good closed (begins_cycle t s) = cc
closed_monitor_move c a k e m h good closed (reports_begun j r) = closed_led c a m h c.book (good.closed closed) refl
closed_monitor_move c a k e m h good closed (closes o p s b) = closes_closed c a m h c.book good o p b refl
closed_monitor_move c a k e m h good closed (reports_swept j r) = closed_led c a m h c.book (good.closed closed) refl
closed_monitor_move c a k e m h good closed (begins_store op s) = closed_led c a m h (record c.book { opened = Some op }) (good.closed closed) refl
closed_monitor_move c a k e m h good closed (ends_store o i s) = closed_led c a m h (end_in c.book c.book.opened) (good.closed closed) refl

pub closed_monitor : (c : Core) (a k : ℕ) (e : Event) (m : CoreMonitor) (h : Hand) → IsGood c → m.closed ≡ true → MonitorEvent c a e m h
    → IsClosed (changed c a k (Monitor m) h e)
closed_monitor c a k e m h good closed ev = closed_monitor_move c a k e m h good closed (monitor_move c.monitor (hand_at c.hands a) e (m, h) ev.made)
