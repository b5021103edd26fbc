-- While the cycle is open, no marked id that is not grey leads past the marks.
use Rattle.std.proofs.Common.{◌≡◌, ◌⊎◌, ℕ, ◌+◌, ◌<◌, ◌^◌, Bool, true, false, cond, not, ◌||◌, ◌&&◌, List, [], ◌∷◌, length, set, length-set, Option, Some, refl, sym, ap, ◌∙◌, subst, ⊎_elim, inl, inr}
use Rattle.std.specs.Prelude.{nat_eq, nat_le, nat_lt}
use Rattle.std.proofs.lemmas.Bool.{eqb-true, eq-eqb, ne_eqb, cases_Bool, cases_eq, and_parts, and_from, or_cases, or_left, or_right, or_parts, false_from_ne_true, not-false}
use Rattle.std.proofs.lemmas.List.{get_or-set_same, set-set, set-get_or}
use Rattle.graph_model.specs.Graph.{Graph, edges_of, entity_of, has_edge, lists}
use Rattle.graph_model.specs.Ids.{has, insert, remove}
use Rattle.graph_model.proofs.IdSets.{has_insert, has_other}
use Rattle.core_steps.specs.Core.{Core, CoreChannel, Hand, channel_at, hand_at, home, is_home, is_marking, new_hand, no_channel}
use Rattle.core_steps.specs.Good.{InTransit, IsMarkedOrDue, IsTricolour, channel_of, is_awaited, is_unwritten}
use Rattle.core_steps.specs.Rows.{Place, deliver_one, each_of, given, greyed, is_white, mark_edge, mark_edges, mark_one, may_mark, sent, credited, grey_on, ungreyed, arrived}
use Rattle.core_steps.specs.Steps.{place_of}
use Rattle.core_steps.proofs.Kept.{core_with, of_changed, same_unwritten}
use Rattle.core_steps.proofs.Lists.{both_set, each_of_keeps, each_set, given_is, not_both}
use Rattle.core_steps.proofs.Marked.{OnlyMarked, deliver_one_only, mark_one_only}
use Rattle.core_steps.proofs.Marks.{MarksWithin, deliver_one_within, mark_one_within}

-- in the table of its channel, or unwritten
abbrev pub known : Core → ℕ → Bool
known c z = lists (channel_of c z).table z || is_unwritten c z

-- what the colours of a core rest on
pub record Colourful (c : Core) : Type 0 where
  pub tri : IsTricolour c
  pub edges : (x z : ℕ) → lists (channel_of c x).table x ≡ true → has_edge (channel_of c x).table x z ≡ true → known c z ≡ true
  pub within : (j : ℕ) → MarksWithin (channel_at c.channels j)
  pub homes : (j x : ℕ) → j < length c.channels → lists (channel_at c.channels j).table x ≡ true → home (length c.channels) x ≡ j

-- what a change of marks and transit on channel k has to meet
pub record Repaints (c : Core) (a k : ℕ) (y : CoreChannel) (h : Hand) : Type 0 where
  pub table : y.table ≡ (channel_at c.channels k).table
  pub opened : h.opened ≡ (hand_at c.hands a).opened
  pub roots : (j : ℕ) → channel_of c j ≡ channel_at c.channels k → is_marking y.phase ≡ true → lists (channel_at c.channels k).table j ≡ true
      → has j (1 ∷ y.pins) ≡ true → has j y.marked ≡ true
  pub fine : (z : ℕ) → known c z ≡ true → IsMarkedOrDue c z → IsMarkedOrDue (core_with c a k y h) z
  pub black : (j z : ℕ) → has j y.marked ≡ true → has j y.grey ≡ false → has_edge (channel_at c.channels k).table j z ≡ true
      → ((has j (channel_at c.channels k).marked ≡ true) × (has j (channel_at c.channels k).grey ≡ false)) ⊎ IsMarkedOrDue (core_with c a k y h) z
  pub within : MarksWithin y

pub repainted : (c : Core) (a k : ℕ) (y : CoreChannel) (h : Hand) → k < length c.channels → Colourful c → Repaints c a k y h
    → IsTricolour (core_with c a k y h)
repainted c a k y h b col r = let d = core_with c a k y h in record {
  roots = λ j m l p. ⊎_elim
      (λ s. let l' : lists (channel_at c.channels k).table j ≡ true = ap (λ (g : Graph). lists g j) (sym r.table)
      ∙ (ap (λ (z : CoreChannel). lists z.table j) (sym s.1) ∙ l) in
      ap (λ (z : CoreChannel). has j z.marked) s.1 ∙ r.roots j s.2 (ap (λ (z : CoreChannel). is_marking z.phase) (sym s.1)
      ∙ m) l' (ap (λ (z : CoreChannel). has j (1 ∷ z.pins)) (sym s.1) ∙ p))
      (λ s. ap (λ (z : CoreChannel). has j z.marked) s ∙ col.tri.roots j (ap (λ (z : CoreChannel). is_marking z.phase) (sym s)
      ∙ m) (ap (λ (z : CoreChannel). lists z.table j) (sym s) ∙ l) (ap (λ (z : CoreChannel). has j (1 ∷ z.pins)) (sym s) ∙ p))
      (of_changed c a k y h j b);
  edges = λ x z m g e. ⊎_elim
      (λ s. let e' : has_edge (channel_at c.channels k).table x z ≡ true = ap (λ (t : Graph). has_edge t x z) (sym r.table)
      ∙ (ap (λ (q : CoreChannel). has_edge q.table x z) (sym s.1) ∙ e) in
      ⊎_elim (λ o. let m' : has x (channel_of c x).marked ≡ true = ap (λ (q : CoreChannel). has x q.marked) s.2 ∙ o.0 in
      let e'' : has_edge (channel_of c x).table x z ≡ true = ap (λ (q : CoreChannel). has_edge q.table x z) s.2 ∙ e' in
      r.fine z (col.edges x z (ap (λ (q : CoreChannel). lists q.table x) s.2 ∙ (col.within k).marked x o.0) e'')
      (col.tri.edges x z m' (ap (λ (q : CoreChannel). has x q.grey) s.2 ∙ o.1) e''))
      (λ f. f) (r.black x z (ap (λ (q : CoreChannel). has x q.marked) (sym s.1) ∙ m) (ap (λ (q : CoreChannel). has x q.grey) (sym s.1) ∙ g) e'))
      (λ s. let m' : has x (channel_of c x).marked ≡ true = ap (λ (q : CoreChannel). has x q.marked) (sym s) ∙ m in
      let e' : has_edge (channel_of c x).table x z ≡ true = ap (λ (q : CoreChannel). has_edge q.table x z) (sym s) ∙ e in
      r.fine z (col.edges x z ((col.within (home (length c.channels) x)).marked x m') e')
      (col.tri.edges x z m' (ap (λ (q : CoreChannel). has x q.grey) (sym s) ∙ g) e'))
      (of_changed c a k y h x b);
}

-- tables and what is unwritten stay as they were
table_same : (c : Core) (a k : ℕ) (y : CoreChannel) (h : Hand) (i : ℕ) → k < length c.channels → y.table ≡ (channel_at c.channels k).table
    → (channel_of (core_with c a k y h) i).table ≡ (channel_of c i).table
table_same c a k y h i b t = ⊎_elim (λ s. ap (λ (q : CoreChannel). q.table) s.1 ∙ (t ∙ ap (λ (q : CoreChannel). q.table) (sym s.2)))
    (λ s. ap (λ (q : CoreChannel). q.table) s) (of_changed c a k y h i b)

colour_step : (c : Core) (a k : ℕ) (y : CoreChannel) (h : Hand) → k < length c.channels → Colourful c → Repaints c a k y h → Colourful (core_with c a k y h)
colour_step c a k y h b col r = let d = core_with c a k y h in let T = λ (i : ℕ). table_same c a k y h i b r.table in record {
  tri = repainted c a k y h b col r;
  edges = λ x z l e. ap (λ (g : Graph). lists g z || is_unwritten d z) (T z)
      ∙ (ap (λ (t : Bool). lists (channel_of c z).table z || t) (same_unwritten c a k y h z r.opened)
      ∙ col.edges x z (ap (λ (g : Graph). lists g x) (sym (T x)) ∙ l) (ap (λ (g : Graph). has_edge g x z) (sym (T x)) ∙ e));
  within = each_set (λ (j : ℕ) (z : CoreChannel). MarksWithin z) c.channels k y no_channel r.within col.within;
  homes = λ j x l t. subst (λ (n : ℕ). home n x ≡ j) (sym (length-set c.channels k y))
      (each_set (λ (i : ℕ) (z : CoreChannel). i < length c.channels → lists z.table x ≡ true → home (length c.channels) x ≡ i) c.channels k y no_channel
      (λ i s. col.homes k x i (ap (λ (g : Graph). lists g x) (sym r.table) ∙ s)) (λ i j' s. col.homes i x j' s) j
      (subst (λ (n : ℕ). j < n) (length-set c.channels k y) l) t);
}

-- what is fine stays so where marks and transit only grow
transit_more : (c : Core) (a k : ℕ) (y : CoreChannel) (h : Hand) (z : ℕ) → (has z (hand_at c.hands a).transit ≡ true → has z h.transit ≡ true)
    → InTransit c z → InTransit (core_with c a k y h) z
transit_more c a k y h z more t = (
  t.0,
  both_set (λ (b : ℕ) (u v : Hand). has z u.transit ≡ true → has z v.transit ≡ true) c.hands a h new_hand more
      (λ b e. e) t.0 t.1,
)

awaited_same : (c : Core) (a k : ℕ) (y : CoreChannel) (h : Hand) (z : ℕ) → k < length c.channels → y.table ≡ (channel_at c.channels k).table
    → h.opened ≡ (hand_at c.hands a).opened → (is_marking (channel_at c.channels k).phase ≡ true → is_marking y.phase ≡ true) → is_awaited c z ≡ true
    → is_awaited (core_with c a k y h) z ≡ true
awaited_same c a k y h z b tab opened marking w = let d = core_with c a k y h in
    let s = and_parts (is_unwritten c z) (not (lists (channel_of c z).table z) && is_marking (channel_of c z).phase) w in
    let t = and_parts (not (lists (channel_of c z).table z)) (is_marking (channel_of c z).phase) s.1 in
    and_from (is_unwritten d z) (not (lists (channel_of d z).table z) && is_marking (channel_of d z).phase) (same_unwritten c a k y h z opened ∙ s.0)
    (and_from (not (lists (channel_of d z).table z)) (is_marking (channel_of d z).phase)
    (ap (λ (g : Graph). not (lists g z)) (table_same c a k y h z b tab) ∙ t.0)
    (⊎_elim (λ u. ap (λ (q : CoreChannel). is_marking q.phase) u.1 ∙ marking (ap (λ (q : CoreChannel). is_marking q.phase) (sym u.2) ∙ t.1))
    (λ u. ap (λ (q : CoreChannel). is_marking q.phase) u ∙ t.1) (of_changed c a k y h z b)))

marked_more : (c : Core) (a k : ℕ) (y : CoreChannel) (h : Hand) (z : ℕ) → k < length c.channels
    → (has z (channel_at c.channels k).marked ≡ true → has z y.marked ≡ true) → has z (channel_of c z).marked ≡ true
    → has z (channel_of (core_with c a k y h) z).marked ≡ true
marked_more c a k y h z b more m = ⊎_elim (λ s. ap (λ (q : CoreChannel). has z q.marked) s.1
    ∙ more (ap (λ (q : CoreChannel). has z q.marked) (sym s.2) ∙ m)) (λ s. ap (λ (q : CoreChannel). has z q.marked) s ∙ m) (of_changed c a k y h z b)

pub fine_more : (c : Core) (a k : ℕ) (y : CoreChannel) (h : Hand) (z : ℕ) → k < length c.channels → y.table ≡ (channel_at c.channels k).table
    → h.opened ≡ (hand_at c.hands a).opened → (is_marking (channel_at c.channels k).phase ≡ true → is_marking y.phase ≡ true)
    → (has z (channel_at c.channels k).marked ≡ true → has z y.marked ≡ true) → (has z (hand_at c.hands a).transit ≡ true → has z h.transit ≡ true)
    → IsMarkedOrDue c z → IsMarkedOrDue (core_with c a k y h) z
fine_more c a k y h z b tab opened marking marked transit f = ⊎_elim (λ m. inl (marked_more c a k y h z b marked m))
    (λ q. inr (⊎_elim (λ t. inl (transit_more c a k y h z transit t)) (λ w. inr (awaited_same c a k y h z b tab opened marking w)) q)) f

-- the marks of channel k at an id that is there
marked_here : (c : Core) (a k : ℕ) (y : CoreChannel) (h : Hand) (z : ℕ) → k < length c.channels → home (length c.channels) z ≡ k → has z y.marked ≡ true
    → IsMarkedOrDue (core_with c a k y h) z
marked_here c a k y h z b at m = inl (ap (λ (q : CoreChannel). has z q.marked)
    (ap (λ (n : ℕ). channel_at (set c.channels k y) (home n z)) (length-set c.channels k y)
    ∙ (ap (channel_at (set c.channels k y)) at ∙ get_or-set_same c.channels k y no_channel b)) ∙ m)

-- an id that channel k lacks, and that the open store lists for it
awaited_here : (c : Core) (a k : ℕ) (y : CoreChannel) (h : Hand) (z : ℕ) → k < length c.channels → home (length c.channels) z ≡ k
    → y.table ≡ (channel_at c.channels k).table → h.opened ≡ (hand_at c.hands a).opened → is_marking y.phase ≡ true
    → known c z ≡ true → lists (channel_at c.channels k).table z ≡ false → is_awaited (core_with c a k y h) z ≡ true
awaited_here c a k y h z b at tab opened marking kn n = let d = core_with c a k y h in
    let old : channel_of c z ≡ channel_at c.channels k = ap (channel_at c.channels) at in
    let new : channel_of d z ≡ y = ap (λ (n : ℕ). channel_at (set c.channels k y) (home n z)) (length-set c.channels k y)
    ∙ (ap (channel_at (set c.channels k y)) at ∙ get_or-set_same c.channels k y no_channel b) in
    let u : is_unwritten c z ≡ true = sym (ap (λ (t : Bool). t || is_unwritten c z) (ap (λ (q : CoreChannel). lists q.table z) old ∙ n)) ∙ kn in
    and_from (is_unwritten d z) (not (lists (channel_of d z).table z) && is_marking (channel_of d z).phase) (same_unwritten c a k y h z opened ∙ u)
    (and_from (not (lists (channel_of d z).table z)) (is_marking (channel_of d z).phase)
    (ap (λ (q : CoreChannel). not (lists q.table z)) new ∙ (ap (λ (g : Graph). not (lists g z)) tab ∙ ap not n))
    (ap (λ (q : CoreChannel). is_marking q.phase) new ∙ marking))

-- MARKSOME

-- marks and transit only grow, and a new mark is grey
record EdgesMore (r s : CoreChannel × Hand) : Type 0 where
  marked : (j : ℕ) → has j r.0.marked ≡ true → has j s.0.marked ≡ true
  grey : (j : ℕ) → has j r.0.grey ≡ true → has j s.0.grey ≡ true
  transit : (j : ℕ) → has j r.1.transit ≡ true → has j s.1.transit ≡ true
  new : (j : ℕ) → has j s.0.marked ≡ true → (has j r.0.marked ≡ true) ⊎ (has j s.0.grey ≡ true)
  table : s.0.table ≡ r.0.table

pub inserted : (j y : ℕ) (ys : List ℕ) → has j ys ≡ true → has j (insert y ys) ≡ true
inserted j y ys e = has_insert j y ys ∙ or_right (nat_eq j y) (has j ys) e

pub inserted_here : (y : ℕ) (ys : List ℕ) → has y (insert y ys) ≡ true
inserted_here y ys = has_insert y y ys ∙ or_left (nat_eq y y) (has y ys) (eq-eqb y y refl)

greyed_more : (y : ℕ) (r : CoreChannel × Hand) → EdgesMore r (greyed y r)
greyed_more y r = record {
  marked = λ j e. inserted j y r.0.marked e;
  grey = λ j e. inserted j y r.0.grey e;
  transit = λ j e. e;
  new = λ j e. ⊎_elim (λ s. inr (has_insert j y r.0.grey ∙ or_left (nat_eq j y) (has j r.0.grey) s)) (λ s. inl s)
      (or_cases (nat_eq j y) (has j r.0.marked) (sym (has_insert j y r.0.marked) ∙ e));
  table = refl;
}

edge_more : (p : Place) (y : ℕ) (r : CoreChannel × Hand) → EdgesMore r (mark_edge p y r)
edge_more p y r = elim (is_home p.channels p.number y) as (λ b. EdgesMore r (cond b (cond (is_white y r.0) (greyed y r) r) (sent y r))) [
  | true ↦ elim (is_white y r.0) as
      (λ b. EdgesMore r (cond b (greyed y r) r)) [
        | true ↦ greyed_more y r
        | false ↦ record {
          marked = λ j e. e;
          grey = λ j e. e;
          transit = λ j e. e;
          new =
              λ j e. inl e;
          table = refl;
        }
      ]
  | false ↦ record { marked = λ j e. e; grey = λ j e. e; transit = λ j e. inserted j y r.1.transit e; new = λ j e. inl e; table = refl }
]

edges_more : (p : Place) (ys : List ℕ) (r : CoreChannel × Hand) → EdgesMore r (mark_edges p ys r)
edges_more p [] r = record { marked = λ j e. e; grey = λ j e. e; transit = λ j e. e; new = λ j e. inl e; table = refl }
edges_more p (y ∷ ys) r = let a = edge_more p y r in let b = edges_more p ys (mark_edge p y r) in record {
  marked = λ j e. b.marked j (a.marked j e);
  grey = λ j e. b.grey j (a.grey j e);
  transit = λ j e. b.transit j (a.transit j e);
  new = λ j e. ⊎_elim (λ s. ⊎_elim (λ t. inl t) (λ t. inr (b.grey j t)) (a.new j s)) (λ s. inr s) (b.new j e);
  table = b.table ∙ a.table;
}

edge_done : (p : Place) (y : ℕ) (r : CoreChannel × Hand) → (is_home p.channels p.number y ≡ true → lists r.0.table y ≡ true
    → has y (mark_edge p y r).0.marked ≡ true) × (is_home p.channels p.number y ≡ false → has y (mark_edge p y r).1.transit ≡ true)
edge_done p y r = elim (is_home p.channels p.number y) as (λ b. let s : CoreChannel × Hand = cond b (cond (is_white y r.0) (greyed y r) r) (sent y r) in
    (b ≡ true → lists r.0.table y ≡ true → has y s.0.marked ≡ true) × (b ≡ false → has y s.1.transit ≡ true)) [
      | true ↦ (
        λ _ l. (elim (has y r.0.marked) as (λ b. has y r.0.marked ≡ b
            → has y (cond {A = CoreChannel × Hand} (lists r.0.table y && not b) (greyed y r) r).0.marked ≡ true) [
              | true ↦ λ m. (elim (lists r.0.table y) as
                  (λ b. has y (cond {A = CoreChannel × Hand} (b && false) (greyed y r) r).0.marked ≡ true) [ true ↦ m | false ↦ m ])
              | false ↦ λ m. ap (λ (t : Bool). has y (cond {A = CoreChannel × Hand} (t && true) (greyed y r) r).0.marked) l ∙ inserted_here y r.0.marked
            ]) refl,
        λ e. cc,
      )
      | false ↦ (λ e l. cc, λ _. inserted_here y r.1.transit)
    ]

edges_done : (p : Place) (ys : List ℕ) (r : CoreChannel × Hand) (z : ℕ) → has z ys ≡ true
    → (is_home p.channels p.number z ≡ true → lists r.0.table z ≡ true → has z (mark_edges p ys r).0.marked ≡ true)
    × (is_home p.channels p.number z ≡ false → has z (mark_edges p ys r).1.transit ≡ true)
edges_done p [] r z e = cc
edges_done p (y ∷ ys) r z e = let b = edges_more p ys (mark_edge p y r) in let a = edge_more p y r in ⊎_elim
    (λ s. subst (λ (w : ℕ). (is_home p.channels p.number w ≡ true → lists r.0.table w ≡ true → has w (mark_edges p ys (mark_edge p y r)).0.marked ≡ true)
    × (is_home p.channels p.number w ≡ false → has w (mark_edges p ys (mark_edge p y r)).1.transit ≡ true)) (sym (eqb-true z y s))
    (let t = edge_done p y r in (λ o l. b.marked y (t.0 o l), λ o. b.transit y (t.1 o))))
    (λ s. let t = edges_done p ys (mark_edge p y r) z s in (λ o l. t.0 o (ap (λ (g : Graph). lists g z) a.table ∙ l), t.1))
    (or_cases (nat_eq z y) (has z ys) e)

mark_colour : (c : Core) (a k i : ℕ) (s : CoreChannel × Hand) → k < length c.channels → a < length c.hands
    → is_marking (channel_at c.channels k).phase ≡ true → Colourful c → mark_one (place_of c k) i (channel_at c.channels k, hand_at c.hands a) ≡ Some s
    → Colourful (core_with c a k s.0 s.1)
mark_colour c a k i s b mine marking col e = let x = channel_at c.channels k in let h = hand_at c.hands a in let p = place_of c k in
    let es = edges_of (entity_of x.table i) in
    let z0 : CoreChannel × Hand = (record x { grey = remove i x.grey }, credited h) in
    let g = given_is (may_mark i (length es) x h) (mark_edges p es z0) s e in
    let grey_i = (and_parts (has i x.grey) (nat_lt h.credit (2 ^ 32) &&
    (nat_le (length es) h.credit && nat_le (length h.transit + length es) 131072)) g.0).0 in
    let listed = (col.within k).marked i ((col.within k).grey i grey_i) in
    subst (λ (t : CoreChannel × Hand). Colourful (core_with c a k t.0 t.1)) g.1
    (colour_step c a k (mark_edges p es z0).0 (mark_edges p es z0).1 b col
    (by (mark_edges p es z0) (edges_more p es z0) (edges_done p es z0) (mark_only_ p es x h (mark_edges p es z0) g.0 refl)
    listed (mark_one_within p i (x, h) (mark_edges p es z0) (col.within k) (ap (λ (t : Bool). given t (mark_edges p es z0)) g.0))))
  where
    mark_only_ : (p : Place) (es : List ℕ) (x : CoreChannel) (h : Hand) (t : CoreChannel × Hand)
        → may_mark i (length (edges_of (entity_of x.table i))) x h ≡ true
        → mark_edges p (edges_of (entity_of x.table i)) (record x { grey = remove i x.grey }, credited h) ≡ t → OnlyMarked (x, h) t
    mark_only_ p es x h t may is = mark_one_only p (x, h) i (x, h) t record {
      table = refl;
      pins = refl;
      phase = refl;
      last_part = refl;
      confirmed = refl;
      cycle_seen = refl;
      closed_seen = refl;
      ended_seen = refl;
      begun_reports = refl;
      swept_reports = refl;
      opened = refl;
    }
        (ap (λ (b : Bool). given b (mark_edges p (edges_of (entity_of x.table i)) (record x { grey = remove i x.grey }, credited h))) may
        ∙ ap (λ (q : CoreChannel × Hand). Some q) is)

    by : (t : CoreChannel × Hand) → EdgesMore (
      record (channel_at c.channels k) { grey = remove i (channel_at c.channels k).grey },
      record
          (hand_at c.hands a) { credit = (hand_at c.hands a).credit + 1 },
    ) t
        → ((z : ℕ) → has z (edges_of (entity_of (channel_at c.channels k).table i)) ≡ true
        → (is_home (length c.channels) k z ≡ true → lists (channel_at c.channels k).table z ≡ true → has z t.0.marked ≡ true)
        × (is_home (length c.channels) k z ≡ false → has z t.1.transit ≡ true))
        → OnlyMarked (channel_at c.channels k, hand_at c.hands a) t → lists (channel_at c.channels k).table i ≡ true → MarksWithin t.0
        → Repaints c a k t.0 t.1
    by t more done only listed within = let x = channel_at c.channels k in let h = hand_at c.hands a in
        let mk : is_marking t.0.phase ≡ true = ap is_marking only.phase ∙ marking in record {
          table = only.table;
          opened = only.opened;
          roots = λ j at m l q. more.marked j (ap (λ (z : CoreChannel). has j z.marked) (sym at)
              ∙ col.tri.roots j (ap (λ (z : CoreChannel). is_marking z.phase) at ∙ marking) (ap (λ (z : CoreChannel). lists z.table j) at ∙ l)
              (ap (λ (z : CoreChannel). has j (1 ∷ z.pins)) at ∙ (ap (λ (ps : List ℕ). has j (1 ∷ ps)) (sym only.pins) ∙ q)));
          fine = λ z kn f. fine_more c a k t.0 t.1 z b only.table only.opened (λ _. mk) (more.marked z) (more.transit z) f;
          black = λ j z m g e. ⊎_elim
              (λ old. ⊎_elim (λ same. inr (at_edge t more done only mk listed z (subst (λ (w : ℕ). has_edge x.table w z ≡ true) same e)))
              (λ n. inl (
                old,
                sym (has_other j i x.grey (ne_eqb j i n)) ∙ false_from_ne_true (has j (remove i x.grey)) (λ r. let w = more.grey j r in
                    not_both g w),
              )) (cases_eq j i))
              (λ w. absurd (not_both g w)) (more.new j m);
          within = within;
        }
      where
        at_edge : (t : CoreChannel × Hand) → EdgesMore (
          record (channel_at c.channels k) { grey = remove i (channel_at c.channels k).grey },
          record
              (hand_at c.hands a) { credit = (hand_at c.hands a).credit + 1 },
        ) t
            → ((z : ℕ) → has z (edges_of (entity_of (channel_at c.channels k).table i)) ≡ true
            → (is_home (length c.channels) k z ≡ true → lists (channel_at c.channels k).table z ≡ true → has z t.0.marked ≡ true)
            × (is_home (length c.channels) k z ≡ false → has z t.1.transit ≡ true))
            → OnlyMarked (channel_at c.channels k, hand_at c.hands a) t → is_marking t.0.phase ≡ true → lists (channel_at c.channels k).table i ≡ true
            → (z : ℕ) → has_edge (channel_at c.channels k).table i z ≡ true → IsMarkedOrDue (core_with c a k t.0 t.1) z
        at_edge t more done only mk listed z e = let at_i : channel_of c i ≡ channel_at c.channels k = ap (channel_at c.channels) (col.homes k i b listed) in
            let kn = col.edges i z (ap (λ (q : CoreChannel). lists q.table i) at_i ∙ listed) (ap (λ (q : CoreChannel). has_edge q.table i z) at_i ∙ e) in
            ⊎_elim
            (λ own. ⊎_elim (λ l. marked_here c a k t.0 t.1 z b (eqb-true (home (length c.channels) z) k own) ((done z e).0 own l))
            (λ n. inr (inr (awaited_here c a k t.0 t.1 z b (eqb-true (home (length c.channels) z) k own) only.table only.opened mk kn n)))
            (cases_Bool (lists (channel_at c.channels k).table z)))
            (λ other. inr (inl (a, ap (λ (q : Hand). has z q.transit) (get_or-set_same c.hands a t.1 new_hand mine) ∙ (done z e).1 other)))
            (cases_Bool (is_home (length c.channels) k z))

-- DELIVER

deliver_colour : (c : Core) (a k y : ℕ) (s : CoreChannel × Hand) → k < length c.channels → a < length c.hands
    → is_marking (channel_at c.channels k).phase ≡ true → Colourful c → deliver_one (place_of c k) y (channel_at c.channels k, hand_at c.hands a) ≡ Some s
    → Colourful (core_with c a k s.0 s.1)
deliver_colour c a k y s b mine marking col e = let x = channel_at c.channels k in
    let h : Hand = record (hand_at c.hands a) { transit = remove y (hand_at c.hands a).transit } in let p = place_of c k in
    let g = given_is (has y (hand_at c.hands a).transit && is_home p.channels p.number y) (cond (is_white y x) (grey_on y x, h) (x, credited h)) s e in
    let at = eqb-true (home (length c.channels) y) k (and_parts (has y (hand_at c.hands a).transit) (is_home p.channels p.number y) g.0).1 in
    let w = deliver_one_within p y (x, hand_at c.hands a) s (col.within k) e in
    colour_step c a k s.0 s.1 b col (subst (λ (t : CoreChannel × Hand). MarksWithin t.0 → Repaints c a k t.0 t.1) g.1
    ((elim (is_white y x) as
    (λ q. is_white y x ≡ q → (let t : CoreChannel × Hand = cond q (grey_on y x, h) (x, credited h) in MarksWithin t.0 → Repaints c a k t.0 t.1)) [
      | true ↦ λ white w. let t0 : CoreChannel = grey_on y x in record {
        table = refl;
        opened = refl;
        roots = λ j at m l q. inserted j y x.marked (ap (λ (z : CoreChannel). has j z.marked) (sym at)
            ∙ col.tri.roots j (ap (λ (z : CoreChannel). is_marking z.phase) at ∙ m) (ap (λ (z : CoreChannel). lists z.table j) at ∙ l)
            (ap (λ (z : CoreChannel). has j (1 ∷ z.pins)) at ∙ q));
        fine = λ z kn f. ⊎_elim (λ same. subst (λ (v : ℕ). IsMarkedOrDue (core_with c a k t0 h) v) (sym same)
            (marked_here c a k t0 h y b at (inserted_here y x.marked)))
            (λ n. fine_more c a k t0 h z b refl refl (λ m. m) (inserted z y x.marked) (λ q. has_other z y (hand_at c.hands a).transit (ne_eqb z y n) ∙ q) f)
            (cases_eq z y);
        black = λ j z m g e. let t = or_parts (nat_eq j y) (has j x.grey) (sym (has_insert j y x.grey) ∙ g) in
            inl (⊎_elim (λ q. let u = t.0 in cc) (λ q. q) (or_cases (nat_eq j y) (has j x.marked) (sym (has_insert j y x.marked) ∙ m)), t.1);
        within = w;
      }
      | false ↦ λ dark w. let h1 : Hand = credited h in record {
        table = refl;
        opened = refl;
        roots = λ j at m l q. ap (λ (z : CoreChannel). has j z.marked) (sym at)
            ∙ col.tri.roots j (ap (λ (z : CoreChannel). is_marking z.phase) at ∙ m) (ap (λ (z : CoreChannel). lists z.table j) at ∙ l)
            (ap (λ (z : CoreChannel). has j (1 ∷ z.pins)) at ∙ q);
        fine = λ z kn f. ⊎_elim (λ same. subst (λ (v : ℕ). IsMarkedOrDue (core_with c a k x h1) v) (sym same) (⊎_elim
            (λ l. marked_here c a k x h1 y b at (not_white y x dark l))
            (λ n. inr (inr (awaited_here c a k x h1 y b at refl refl marking (subst (λ (v : ℕ). known c v ≡ true) same kn) n)))
            (cases_Bool (lists x.table y))))
            (λ n. fine_more c a k x h1 z b refl refl (λ m. m) (λ m. m) (λ q. has_other z y (hand_at c.hands a).transit (ne_eqb z y n) ∙ q) f) (cases_eq z y);
        black = λ j z m g e. inl (m, g);
        within = w;
      }
    ]) refl) w)
  where
    not_white : (y : ℕ) (x : CoreChannel) → is_white y x ≡ false → lists x.table y ≡ true → has y x.marked ≡ true
    not_white y x d l = not-false (has y x.marked) (sym (ap (λ (t : Bool). t && not (has y x.marked)) l) ∙ d)

-- RUNS OF SINGLE IDS

-- channel k and hand a as they are within a core
same_core : (c : Core) (a k : ℕ) → core_with c a k (channel_at c.channels k) (hand_at c.hands a) ≡ c
same_core c a k = let l = set-get_or c.channels k no_channel in let m = set-get_or c.hands a new_hand in λ i. record {
  channels = l i;
  monitor = c.monitor;
  hands = m i;
  book = c.book;
}

twice : (c : Core) (a k : ℕ) (r s : CoreChannel × Hand) → core_with (core_with c a k r.0 r.1) a k s.0 s.1 ≡ core_with c a k s.0 s.1
twice c a k r s = let l = set-set c.channels k r.0 s.0 in let m = set-set c.hands a r.1 s.1 in λ i. record {
  channels = l i;
  monitor = c.monitor;
  hands = m i;
  book = c.book;
}

-- what a single id keeps, a list of them keeps
single_ids : (c : Core) (a k : ℕ) (f : Place → ℕ → CoreChannel × Hand → Option (CoreChannel × Hand))
    → ((p q : Place) (i : ℕ) (r : CoreChannel × Hand) → p.number ≡ q.number → p.channels ≡ q.channels → f p i r ≡ f q i r)
    → ((p : Place) (r : CoreChannel × Hand) (i : ℕ) (s t : CoreChannel × Hand) → OnlyMarked r s → f p i s ≡ Some t → OnlyMarked r t)
    → ((d : Core) (i : ℕ) (s : CoreChannel × Hand) → k < length d.channels → a < length d.hands → is_marking (channel_at d.channels k).phase ≡ true
    → Colourful d → f (place_of d k) i (channel_at d.channels k, hand_at d.hands a) ≡ Some s → Colourful (core_with d a k s.0 s.1))
    → k < length c.channels → a < length c.hands → is_marking (channel_at c.channels k).phase ≡ true → Colourful c → (xs : List ℕ) (s : CoreChannel × Hand)
    → each_of (f (place_of c k)) xs (Some (channel_at c.channels k, hand_at c.hands a)) ≡ Some s → Colourful (core_with c a k s.0 s.1)
single_ids c a k f place only keeps b mine marking col xs s e = let r0 : CoreChannel × Hand = (channel_at c.channels k, hand_at c.hands a) in
    let p = place_of c k in
    (each_of_keeps (λ (r : CoreChannel × Hand). OnlyMarked r0 r × Colourful (core_with c a k r.0 r.1)) (f p)
    (λ i r t q m. let d = core_with c a k r.0 r.1 in let x : channel_at d.channels k ≡ r.0 = get_or-set_same c.channels k r.0 no_channel b in
    let h : hand_at d.hands a ≡ r.1 = get_or-set_same c.hands a r.1 new_hand mine in (
      only p r0 i r t q.0 m,
      subst Colourful (twice c a k r t) (keeps d i t (subst (λ (n : ℕ). k < n) (sym (length-set c.channels k r.0)) b)
          (subst (λ (n : ℕ). a < n) (sym (length-set c.hands a r.1)) mine)
          (ap (λ (z : CoreChannel). is_marking z.phase) x ∙ (ap is_marking q.0.phase ∙ marking)) q.1
          (place (place_of d k) p i (channel_at d.channels k, hand_at d.hands a) refl (length-set c.channels k r.0)
          ∙ (ap (λ (z : CoreChannel). f p i (z, hand_at d.hands a)) x ∙ (ap (λ (z : Hand). f p i (r.0, z)) h ∙ m)))),
    ))
    xs r0 s (
      record {
        table = refl;
        pins = refl;
        phase = refl;
        last_part = refl;
        confirmed = refl;
        cycle_seen = refl;
        closed_seen = refl;
        ended_seen = refl;
        begun_reports = refl;
        swept_reports = refl;
        opened = refl;
      },
      subst Colourful (sym (same_core c a k)) col,
    ) e).1

edges_place : (p q : Place) (ys : List ℕ) (r : CoreChannel × Hand) → p.number ≡ q.number → p.channels ≡ q.channels → mark_edges p ys r ≡ mark_edges q ys r
edges_place p q [] r n m = refl
edges_place p q (y ∷ ys) r n m = edges_place p q ys (mark_edge p y r) n m
    ∙ ap (λ (b : Bool). mark_edges q ys (cond b (cond (is_white y r.0) (greyed y r) r) (sent y r)))
    (ap (λ (i : ℕ). is_home p.channels i y) n ∙ ap (λ (i : ℕ). is_home i q.number y) m)

mark_place : (p q : Place) (i : ℕ) (r : CoreChannel × Hand) → p.number ≡ q.number → p.channels ≡ q.channels → mark_one p i r ≡ mark_one q i r
mark_place p q i r n m = let es = edges_of (entity_of r.0.table i) in ap (given (may_mark i (length es) r.0 r.1)) (edges_place p q es (ungreyed i r) n m)

deliver_place : (p q : Place) (i : ℕ) (r : CoreChannel × Hand) → p.number ≡ q.number → p.channels ≡ q.channels → deliver_one p i r ≡ deliver_one q i r
deliver_place p q y r n m = let h : Hand = arrived y r.1 in
    ap (λ (b : Bool). given (has y r.1.transit && b) (cond (is_white y r.0) (grey_on y r.0, h) (r.0, credited h)))
    (ap (λ (i : ℕ). is_home p.channels i y) n ∙ ap (λ (i : ℕ). is_home i q.number y) m)

pub marks_colour : (c : Core) (a k : ℕ) (xs : List ℕ) (s : CoreChannel × Hand) → k < length c.channels → a < length c.hands
    → is_marking (channel_at c.channels k).phase ≡ true → Colourful c
    → each_of (mark_one (place_of c k)) xs (Some (channel_at c.channels k, hand_at c.hands a)) ≡ Some s → IsTricolour (core_with c a k s.0 s.1)
marks_colour c a k xs s b mine marking col e = (single_ids c a k mark_one mark_place mark_one_only
    (λ d i t. mark_colour d a k i t) b mine marking col xs s e).tri

pub delivers_colour : (c : Core) (a k : ℕ) (xs : List ℕ) (s : CoreChannel × Hand) → k < length c.channels → a < length c.hands
    → is_marking (channel_at c.channels k).phase ≡ true → Colourful c
    → each_of (deliver_one (place_of c k)) xs (Some (channel_at c.channels k, hand_at c.hands a)) ≡ Some s → IsTricolour (core_with c a k s.0 s.1)
delivers_colour c a k xs s b mine marking col e = (single_ids c a k deliver_one deliver_place deliver_one_only
    (λ d i t. deliver_colour d a k i t) b mine marking col xs s e).tri
