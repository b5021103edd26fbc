-- Marks stay within the table, and grey ids within the marks.
use Rattle.std.proofs.Common.{◌≡◌, ℕ, Bool, true, false, cond, not, ◌||◌, ◌&&◌, List, [], ◌∷◌, length, Option, Some, None, refl, sym, ap, ◌∙◌, subst, ⊎_elim}
use Rattle.std.specs.Prelude.{nat_eq, is_some}
use Rattle.std.specs.List.{filter}
use Rattle.std.proofs.lemmas.Bool.{eqb-true, and_parts, or_cases, or_left, or_right}
use Rattle.graph_model.specs.Graph.{Graph, edges_of, entity_of, ids, lists, without}
use Rattle.graph_model.specs.Ids.{add, add_all, has, remove}
use Rattle.graph_model.specs.declared.entity.Entity.{Entity}
use Rattle.graph_model.proofs.Graphs.{entity_of_filter, has_ids, lists_put_all}
use Rattle.graph_model.proofs.IdSets.{had_before, has_add_all, has_insert}
use Rattle.core_steps.specs.Core.{Core, CoreChannel, Hand, Idle, Marking, Phase, Sweeping, channel_at, hand_at, is_home, is_idle, no_channel}
use Rattle.core_steps.specs.Events.{Event}
use Rattle.core_steps.specs.Good.{AllMarksFit, MarksFit}
use Rattle.core_steps.specs.Rows.{Channel, Place, deliver_one, greyed, is_white, mark_edge, mark_edges, mark_one, marks_pin, may_mark, part_marked, part_taken, swept_to, visit, part_given, grey_on, sent, ungreyed, arrived, visited, marked_all, credited, greyed_all}
use Rattle.core_steps.specs.Steps.{changed, place_of}
use Rattle.core_steps.proofs.Glue.{ChannelEvent}
use Rattle.core_steps.proofs.Lists.{each_of_keeps, each_set, given_is}
use Rattle.core_steps.proofs.Marked.{deliver_only, mark_only}
use Rattle.core_steps.proofs.Moves.{ChannelMove, begins, channel_move, confirms, delivers, marks, pins, pins_white, sweeps, takes, tidies, unpins}

-- marks within the table, grey ids within the marks
pub record MarksWithin (x : CoreChannel) : Type 0 where
  pub marked : (i : ℕ) → has i x.marked ≡ true → lists x.table i ≡ true
  pub grey : (i : ℕ) → has i x.grey ≡ true → has i x.marked ≡ true

pub has_filter : (test : ℕ → Bool) (xs : List ℕ) (i : ℕ) → has i (filter test xs) ≡ true → (test i ≡ true) × (has i xs ≡ true)
has_filter test [] i e = cc
has_filter test (x ∷ xs) i e =
    (elim (test x) as (λ b. test x ≡ b → has i (cond b (x ∷ filter test xs) (filter test xs)) ≡ true → (test i ≡ true) × ((nat_eq i x || has i xs) ≡ true)) [
      | true ↦ λ t e. ⊎_elim (λ s. let same : i ≡ x = eqb-true i x s in (subst (λ (j : ℕ). test j ≡ true) (sym same) t, or_left (nat_eq i x) (has i xs) s))
          (λ r. let h = has_filter test xs i r in (h.0, or_right (nat_eq i x) (has i xs) h.1)) (or_cases (nat_eq i x) (has i (filter test xs)) e)
      | false ↦ λ t e. let h = has_filter test xs i e in (h.0, or_right (nat_eq i x) (has i xs) h.1)
    ]) refl e

grey_one : (x : CoreChannel) (i : ℕ) → lists x.table i ≡ true → MarksWithin x → MarksWithin (grey_on i x)
grey_one x i here w = record {
  marked = λ j e. ⊎_elim (λ s. subst (λ (n : ℕ). lists x.table n ≡ true) (sym (eqb-true j i s)) here) (λ r. w.marked j r)
      (or_cases (nat_eq j i) (has j x.marked) (sym (has_insert j i x.marked) ∙ e));
  grey = λ j e. has_insert j i x.marked ∙ ⊎_elim (λ s. or_left (nat_eq j i) (has j x.marked) s) (λ r. or_right (nat_eq j i) (has j x.marked) (w.grey j r))
      (or_cases (nat_eq j i) (has j x.grey) (sym (has_insert j i x.grey) ∙ e));
}

pub white_there : (i : ℕ) (x : CoreChannel) → is_white i x ≡ true → lists x.table i ≡ true
white_there i x e = (and_parts (lists x.table i) (not (has i x.marked)) e).0

edge_within : (p : Place) (y : ℕ) (r : CoreChannel × Hand) → MarksWithin r.0 → MarksWithin (mark_edge p y r).0
edge_within p y r w = elim (is_home p.channels p.number y) as
    (λ b. MarksWithin (cond {A = CoreChannel × Hand} b (cond (is_white y r.0) (greyed y r) r) (sent y r)).0) [
      | true ↦ (elim (is_white y r.0) as (λ b. is_white y r.0 ≡ b → MarksWithin (cond {A = CoreChannel × Hand} b (greyed y r) r).0) [
        | true ↦ λ t. grey_one r.0 y
            (white_there y r.0 t) w
        | false ↦ λ t. w
      ]) refl
      | false ↦ w
    ]

pub edges_within : (p : Place) (ys : List ℕ) (r : CoreChannel × Hand) → MarksWithin r.0 → MarksWithin (mark_edges p ys r).0
edges_within p [] r w = w
edges_within p (y ∷ ys) r w = edges_within p ys (mark_edge p y r) (edge_within p y r w)

abbrev Within : CoreChannel × Hand → Type 0
Within r = MarksWithin r.0

pub mark_one_within : (p : Place) (x : ℕ) (s t : CoreChannel × Hand) → Within s → mark_one p x s ≡ Some t → Within t
mark_one_within p x s t w e = let es = edges_of (entity_of s.0.table x) in let z : CoreChannel × Hand = (ungreyed x s) in
    let g = given_is (may_mark x (length es) s.0 s.1) (mark_edges p es z) t e in subst Within g.1 (edges_within p es z record {
      marked = w.marked;
      grey = λ i f. w.grey i (had_before i x s.0.grey f);
    })

pub deliver_one_within : (p : Place) (x : ℕ) (s t : CoreChannel × Hand) → Within s → deliver_one p x s ≡ Some t → Within t
deliver_one_within p y s t w e = let h : Hand = arrived y s.1 in
    let g = given_is (has y s.1.transit && is_home p.channels p.number y) (cond (is_white y s.0) (grey_on y s.0, h) (s.0, credited h)) t e in
    subst Within g.1 ((elim (is_white y s.0) as (λ b. is_white y s.0 ≡ b → Within (cond {A = CoreChannel × Hand} b (grey_on y s.0, h) (s.0, credited h))) [
      | true ↦ λ f. grey_one s.0 y (white_there y s.0 f) w
      | false ↦ λ f. record { marked = w.marked; grey = w.grey }
    ]) refl)

-- an id that leaves a table leaves it alone
pub lists_without : (i : ℕ) (g : Graph) (j : ℕ) → lists (without i g) j ≡ (not (nat_eq j i) && lists g j)
lists_without i g j = ap (λ (o : Option Entity). is_some o) (entity_of_filter (λ (n : ℕ). not (nat_eq n i)) g j)
    ∙ (elim (nat_eq j i) as (λ b. is_some (cond (not b) (entity_of g j) None) ≡ (not b && lists g j)) [ true ↦ refl | false ↦ refl ])

visit_within : (i : ℕ) (x : CoreChannel) → MarksWithin x → MarksWithin (visited i x)
visit_within i x w = (elim (has i x.marked) as (λ b. has i x.marked ≡ b → MarksWithin (cond b x (record x { table = without i x.table }))) [
  | true ↦ λ e. w
  | false ↦ λ e. record {
    marked = λ j m. lists_without i x.table j ∙ ((elim (nat_eq j i) as (λ b. nat_eq j i ≡ b → (not b && lists x.table j) ≡ true) [
      | true ↦ λ s. let same : j ≡ i = eqb-true j i s in let t : has i x.marked ≡ true = subst (λ (n : ℕ). has n x.marked ≡ true) same m in cc
      | false ↦ λ s. w.marked j m
    ]) refl);
    grey = w.grey;
  }
]) refl

visits_within : (xs : List ℕ) (x : CoreChannel) (left : List ℕ) → MarksWithin x → MarksWithin (visit xs (x, left)).0
visits_within [] x left w = w
visits_within (i ∷ xs) x left w = visits_within xs (visited i x) (remove i left) (visit_within i x w)

swept_marks : (p : Place) (b : ℕ) (x : CoreChannel) (h : Hand) (left : List ℕ) → MarksWithin x → MarksFit (swept_to p b x h left).0
swept_marks p b x h [] w = record { idle = λ i. (refl, refl); marked = λ i e. cc; grey = λ i e. cc }
swept_marks p b x h (j ∷ left) w = record { idle = λ i. cc; marked = w.marked; grey = w.grey }

-- the records of a part become marked and stay so
more_marks : (xs : List ℕ) (g : Graph) (marked : List ℕ) → ((i : ℕ) → has i xs ≡ true → lists g i ≡ true)
    → ((i : ℕ) → has i marked ≡ true → lists g i ≡ true) → (i : ℕ) → has i (add_all xs marked) ≡ true → lists g i ≡ true
more_marks xs g marked new old i e = ⊎_elim (new i) (old i) (or_cases (has i xs) (has i marked) (sym (has_add_all i xs marked) ∙ e))

part_marks : (xs : List ℕ) (ph : Phase) (r : CoreChannel × Hand) → r.0.phase ≡ ph → ((i : ℕ) → has i xs ≡ true → lists r.0.table i ≡ true) → MarksFit r.0
    → MarksFit (part_marked xs ph r).0
part_marks xs (Idle b) r is new w = w
part_marks xs (Marking b) r is new w = elim (r.1.closed_seen && nat_eq r.1.cycle_seen b) as
    (λ t. MarksFit (cond {A = CoreChannel × Hand} t (marked_all xs r) (greyed_all xs r)).0) [
      | true ↦ record {
        idle = λ i. let t : is_idle r.0.phase ≡ false = ap is_idle is in cc;
        marked = more_marks xs r.0.table r.0.marked new w.marked;
        grey = λ i e. has_add_all i xs r.0.marked ∙ or_right (has i xs) (has i r.0.marked) (w.grey i e);
      }
      | false ↦ record {
        idle = λ i. let t : is_idle r.0.phase ≡ false = ap is_idle is in cc;
        marked = more_marks xs r.0.table r.0.marked new w.marked;
        grey = λ i e. has_add_all i xs r.0.marked ∙ ⊎_elim (λ s. or_left (has i xs) (has i r.0.marked) s) (λ s. or_right (has i xs) (has i r.0.marked)
            (w.grey i s)) (or_cases (has i xs) (has i r.0.grey) (sym (has_add_all i xs r.0.grey) ∙ e));
      }
    ]
part_marks xs (Sweeping b left) r is new w = record {
  idle = λ i. cc;
  marked = more_marks xs r.0.table r.0.marked new w.marked;
  grey = λ i e. has_add_all i xs r.0.marked ∙ or_right (has i xs) (has i r.0.marked) (w.grey i e);
}

marking_not_idle : (x : CoreChannel) (b : ℕ) → x.phase ≡ Marking b → MarksWithin x → MarksFit x
marking_not_idle x b is w = record { idle = λ i. let t : is_idle x.phase ≡ false = ap is_idle is in cc; marked = w.marked; grey = w.grey }

taken_marks : (p : Place) (k : ℕ) (x : CoreChannel) → MarksFit x → MarksFit (part_taken p k x)
taken_marks p k x w = record {
  idle = w.idle;
  marked = λ i e. lists_put_all p.records x.table i ∙ or_right (lists p.records i) (lists x.table i) (w.marked i e);
  grey = w.grey;
}

marks_move : (p : Place) (x : CoreChannel) (h : Hand) (e : Event) (y : CoreChannel) (h' : Hand) → MarksFit x → ChannelMove p x h e y h' → MarksFit y
marks_move p x h e y h' w (begins b i s l) = record { idle = λ t. cc; marked = λ i e. (has_filter (lists x.table) (add 1 x.pins) i e).0; grey = λ i e. e }
marks_move p x h e y h' w (marks b xs z g i q) = let o = mark_only p xs (x, h) (z, g) q in
    marking_not_idle z b (o.phase ∙ i) (each_of_keeps Within (mark_one p) (mark_one_within p) xs (x, h) (z, g) record { marked = w.marked; grey = w.grey } q)
marks_move p x h e y h' w (delivers b xs z g i q) = let o = deliver_only p xs (x, h) (z, g) q in
    marking_not_idle z b (o.phase ∙ i) (each_of_keeps Within (deliver_one p) (deliver_one_within p) xs (x, h)
    (z, g) record { marked = w.marked; grey = w.grey } q)
marks_move p x h e y h' w (sweeps b left xs r s t) = swept_marks p b (visit xs (x, left)).0 h (visit xs (x, left)).1
    (visits_within xs x left record { marked = w.marked; grey = w.grey })
marks_move p x h e y h' w (takes o i n l d r) = part_marks (ids p.records) x.phase (part_taken p o.number x, part_given p o h) refl
    (λ i e. lists_put_all p.records x.table i ∙ or_left (lists p.records i) (lists x.table i) (sym (has_ids p.records i) ∙ e)) (taken_marks p o.number x w)
marks_move p x h e y h' w (confirms l) = record { idle = w.idle; marked = w.marked; grey = w.grey }
marks_move p x h e y h' w (pins i l q t) = record { idle = w.idle; marked = w.marked; grey = w.grey }
marks_move p x h e y h' w (pins_white i l q t) = let v = grey_one x i l record { marked = w.marked; grey = w.grey } in record {
  idle = λ s. absurd (not_idle x.phase t s);
  marked = v.marked;
  grey = v.grey;
}
  where
    not_idle : (ph : Phase) → marks_pin i ph x ≡ true → is_idle ph ≡ true → ⊥
    not_idle (Idle b) t s = cc
    not_idle (Marking b) t s = cc
    not_idle (Sweeping b left) t s = cc
marks_move p x h e y h' w (unpins i) = record { idle = w.idle; marked = w.marked; grey = w.grey }
marks_move p x h e y h' w (tidies l) = w

pub marks_channel : (c : Core) (a k : ℕ) (e : Event) (y : CoreChannel) (h : Hand) → AllMarksFit c → ChannelEvent c a k e y h
    → AllMarksFit (changed c a k (Channel y) h e)
marks_channel c a k e y h w ev = each_set (λ (j : ℕ) (z : CoreChannel). MarksFit z) c.channels k y no_channel
    (marks_move (place_of c k) (channel_at c.channels k) (hand_at c.hands a) e y h (w k)
    (channel_move (place_of c k) (channel_at c.channels k) (hand_at c.hands a) e (y, h) ev.made)) w
