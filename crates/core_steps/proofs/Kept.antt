-- What has to stay is kept.
use Rattle.std.proofs.Common.{◌≡◌, ◌⊎◌, ℕ, ◌+◌, ◌≤◌, ◌<◌, ◌^◌, Bool, true, false, cond, not, ◌||◌, ◌&&◌, List, [], ◌∷◌, length, set, length-set, Option, Some, None, refl, sym, ap, ◌∙◌, subst, arith, ⊎_elim, inl, inr}
use Rattle.std.specs.Prelude.{nat_eq, nat_le, nat_lt, is_some}
use Rattle.std.proofs.lemmas.Bool.{eqb-true, eq-eqb, ne_eqb, cases_Bool, cases_eq, and_parts, or_cases, or_left, or_right, not-true}
use Rattle.std.proofs.lemmas.List.{get_or-set_same, get_or-set_other}
use Rattle.graph_model.specs.Graph.{Graph, edges_of, entity_of, has_edge, ids, lists, without}
use Rattle.graph_model.specs.Ids.{has, remove}
use Rattle.graph_model.specs.declared.entity.Entity.{Entity}
use Rattle.graph_model.proofs.Graphs.{has_ids}
use Rattle.graph_model.proofs.IdSets.{has_other}
use Rattle.core_steps.specs.Core.{Core, CoreChannel, Hand, Idle, channel_at, graph, hand_at, held, home, is_home, is_idle_of, new_hand, no_channel, open_records, written_of}
use Rattle.core_steps.specs.Good.{AllSawRight, ContentFits, KeptFits, PhaseFits, PhasesFit, SweptMarked, channel_of, is_kept, is_unwritten, kept_on, kept_or_unwritten, written}
use Rattle.core_steps.specs.Rows.{Place, deliver_one, each_of, is_white, mark_edges, mark_one, may_mark, swept_to, visit, ungreyed, arrived, visited, grey_on, credited}
use Rattle.core_steps.proofs.Lists.{both_set, each_of_keeps, given_is, held_set, pin_is_held}
use Rattle.core_steps.proofs.Marks.{lists_without}
use Rattle.core_steps.proofs.Moves.{SweepFrom, first, next}
use Rattle.graph_model.specs.Stores.{any_edge, may_hold}

-- WITHIN ONE CORE

-- an id of a table is at that channel
pub home_channel : (c : Core) (k i : ℕ) → ContentFits c → k < length c.channels → lists (channel_at c.channels k).table i ≡ true
    → channel_of c i ≡ channel_at c.channels k
home_channel c k i f b l = ap (channel_at c.channels) (f.table_home k i b l)

-- an edge of the open store's or the graph's entity, whichever is shown
edge_shown : (b : Bool) (open_ g : Option Entity) (y : ℕ) → has y (edges_of (cond b open_ g)) ≡ true
    → (has y (edges_of open_) ≡ true) ⊎ (has y (edges_of g) ≡ true)
edge_shown true open_ g y e = inl e
edge_shown false open_ g y e = inr e

pub kept_listed : (c : Core) (x : ℕ) → is_kept c x ≡ true → lists (channel_of c x).table x ≡ true
kept_listed c x e = (and_parts (lists (channel_of c x).table x)
    (not c.monitor.closed || (has x (channel_of c x).marked || is_idle_of c.monitor.cycle (channel_of c x).phase)) e).0

-- each edge of a kept table entity is kept or unwritten
pub table_edges_kept : (c : Core) (x y : ℕ) → ContentFits c → KeptFits c → is_kept c x ≡ true → has_edge (channel_of c x).table x y ≡ true
    → kept_or_unwritten c y ≡ true
table_edges_kept c x y f k kx e = let s = f.entity x (kept_listed c x kx) in
    ⊎_elim (λ o. k.open_edges x y o) (λ g. or_left (is_kept c y) (is_unwritten c y) (k.graph_edges x y kx g))
    (edge_shown (lists (open_records c.book) x && has (home (length c.channels) x) (written c)) (entity_of (open_records c.book) x)
    (entity_of (graph c.book) x) y (ap (λ (o : Option Entity). has y (edges_of o)) (sym s) ∙ e))

pub has_edge_lists : (g : Graph) (x y : ℕ) → has_edge g x y ≡ true → lists g x ≡ true
has_edge_lists g x y e = by (entity_of g x) e
  where
    by : (o : Option Entity) → has y (edges_of o) ≡ true → is_some o ≡ true
    by None e = cc
    by (Some d) e = refl

any_edge_from : (g : Graph) (xs : List ℕ) (y : ℕ) → any_edge g xs y ≡ true → (x : ℕ) × (has x xs ≡ true) × (has_edge g x y ≡ true)
any_edge_from g [] y e = cc
any_edge_from g (x ∷ xs) y e = ⊎_elim (λ s. (x, or_left (nat_eq x x) (has x xs) (eq-eqb x x refl), s))
    (λ s. let t = any_edge_from g xs y s in (t.0, or_right (nat_eq t.0 x) (has t.0 xs) t.1, t.2)) (or_cases (has_edge g x y) (any_edge g xs y) e)

-- the root that a table has is kept
pub root_in_table : (c : Core) → ContentFits c → KeptFits c → lists (channel_of c 1).table 1 ≡ true → is_kept c 1 ≡ true
root_in_table c f k l = ⊎_elim (λ g. k.root g) (λ n. by (lists (open_records c.book) 1) refl (has (home (length c.channels) 1) (written c)) refl n)
    (cases_Bool (lists (graph c.book) 1))
  where
    by : (o : Bool) → lists (open_records c.book) 1 ≡ o → (w : Bool) → has (home (length c.channels) 1) (written c) ≡ w → lists (graph c.book) 1 ≡ false
        → is_kept c 1 ≡ true
    by true o true w n = ⊎_elim (λ s. s) (λ s. let t = and_parts (lists (open_records c.book) 1) (not (has (home (length c.channels) 1) (written c))) s in
        let u : not (has (home (length c.channels) 1) (written c)) ≡ false = ap not w in cc)
        (or_cases (is_kept c 1) (is_unwritten c 1) (k.open_ids 1 o))
    by true o false w n = let s = f.entity 1 l ∙ ap (λ (b : Bool). cond (lists (open_records c.book) 1 && b) (entity_of (open_records c.book) 1)
        (entity_of (graph c.book) 1)) w ∙ ap (λ (b : Bool). cond (b && false) (entity_of (open_records c.book) 1) (entity_of (graph c.book) 1)) o in
        let t : lists (channel_of c 1).table 1 ≡ lists (graph c.book) 1 = ap (λ (e : Option Entity). is_some e) s in cc
    by false o w wis n = let s = f.entity 1 l ∙ ap (λ (b : Bool). cond (b && has (home (length c.channels) 1) (written c))
        (entity_of (open_records c.book) 1) (entity_of (graph c.book) 1)) o in
        let t : lists (channel_of c 1).table 1 ≡ lists (graph c.book) 1 = ap (λ (e : Option Entity). is_some e) s in cc

-- what may be pinned is kept
pub pinned_kept : (c : Core) (i : ℕ) → ContentFits c → KeptFits c → may_hold (graph c.book) (held c.channels) i ≡ true
    → lists (channel_of c i).table i ≡ true → is_kept c i ≡ true
pinned_kept c i f k may l = ⊎_elim (λ h. k.pins i h) (λ s. ⊎_elim
    (λ e. let t = any_edge_from (graph c.book) (1 ∷ held c.channels) i e in k.graph_edges t.0 i
    (⊎_elim (λ one. let same = eqb-true t.0 1 one in
    subst (λ (x : ℕ). is_kept c x ≡ true) (sym same)
    (k.root (subst (λ (x : ℕ). lists (graph c.book) x ≡ true) same (has_edge_lists (graph c.book) t.0 i t.2)))) (λ h. k.pins t.0 h)
    (or_cases (nat_eq t.0 1) (has t.0 (held c.channels)) t.1)) t.2)
    (λ one. let same = eqb-true i 1 one in
    subst (λ (x : ℕ). is_kept c x ≡ true) (sym same) (root_in_table c f k (subst (λ (x : ℕ). lists (channel_of c x).table x ≡ true) same l)))
    (or_cases (any_edge (graph c.book) (1 ∷ held c.channels) i) (nat_eq i 1) s))
    (or_cases (has i (held c.channels)) (any_edge (graph c.book) (1 ∷ held c.channels) i || nat_eq i 1) may)

-- while the cycle is open, what is in its table is kept
pub kept_open : (closed : Bool) (b : ℕ) (x : CoreChannel) (i : ℕ) → closed ≡ false → kept_on closed b x i ≡ lists x.table i
kept_open closed b x i e = ap (λ (t : Bool). lists x.table i && (not t || (has i x.marked || is_idle_of b x.phase))) e
    ∙ (elim (lists x.table i) as (λ t. (t && true) ≡ t) [ true ↦ refl | false ↦ refl ])

-- AFTER AN EVENT OF A CHANNEL

abbrev pub core_with : Core → ℕ → ℕ → CoreChannel → Hand → Core
core_with c a k y h = record { channels = set c.channels k y; monitor = c.monitor; hands = set c.hands a h; book = c.book }

-- an id's channel is the changed one or is as it was
pub of_changed : (c : Core) (a k : ℕ) (y : CoreChannel) (h : Hand) (i : ℕ) → k < length c.channels
    → ((home (length c.channels) i ≡ k) × (channel_of (core_with c a k y h) i ≡ y) × (channel_of c i ≡ channel_at c.channels k)) ⊎
    (channel_of (core_with c a k y h) i ≡ channel_of c i)
of_changed c a k y h i b = let many = ap (λ (n : ℕ). channel_at (set c.channels k y) (home n i)) (length-set c.channels k y) in ⊎_elim
    (λ e. inl (e, many ∙ (ap (channel_at (set c.channels k y)) e ∙ get_or-set_same c.channels k y no_channel b), ap (channel_at c.channels) e))
    (λ n. inr (many ∙ get_or-set_other c.channels k (home (length c.channels) i) y no_channel n)) (cases_eq (home (length c.channels) i) k)

pub same_written : (c : Core) (a k : ℕ) (y : CoreChannel) (h : Hand) → h.opened ≡ (hand_at c.hands a).opened → written (core_with c a k y h) ≡ written c
same_written c a k y h opened = ap written_of (both_set (λ (b : ℕ) (x z : Hand). z.opened ≡ x.opened) c.hands a h new_hand opened (λ b. refl) 0)

pub same_unwritten : (c : Core) (a k : ℕ) (y : CoreChannel) (h : Hand) (i : ℕ) → h.opened ≡ (hand_at c.hands a).opened
    → is_unwritten (core_with c a k y h) i ≡ is_unwritten c i
same_unwritten c a k y h i opened = ap (λ (us : List ℕ). lists (open_records c.book) i && not (has (home (length (set c.channels k y)) i) us))
    (same_written c a k y h opened)
    ∙ ap (λ (n : ℕ). lists (open_records c.book) i && not (has (home n i) (written c))) (length-set c.channels k y)

-- an event that lets each id be kept as it was
pub kept_stays : (c : Core) (a k : ℕ) (y : CoreChannel) (h : Hand) → k < length c.channels → KeptFits c
    → ((i : ℕ) → home (length c.channels) i ≡ k
    → kept_on c.monitor.closed c.monitor.cycle y i ≡ kept_on c.monitor.closed c.monitor.cycle (channel_at c.channels k) i)
    → h.opened ≡ (hand_at c.hands a).opened → ((i : ℕ) → has i y.pins ≡ true → (has i (channel_at c.channels k).pins ≡ true) ⊎ (is_kept c i ≡ true))
    → KeptFits (core_with c a k y h)
kept_stays c a k y h b f same opened pinned = let d = core_with c a k y h in let K = λ (i : ℕ). by i (of_changed c a k y h i b) in
    let U = λ (i : ℕ). ap (λ (t : Bool). t || is_unwritten d i) (K i) ∙ ap (λ (t : Bool). is_kept c i || t) (same_unwritten c a k y h i opened) in record {
      pins = λ i p. K i ∙ ⊎_elim (λ s. ⊎_elim (λ o. f.pins i (pin_is_held c.channels k i o)) (λ n. n) (pinned i s)) (λ s. f.pins i s)
          (held_set c.channels k y i p);
      root = λ l. K 1 ∙ f.root l;
      open_edges = λ x z e. U z ∙ f.open_edges x z e;
      graph_edges = λ x z kx e. K z ∙ f.graph_edges x z (sym (K x) ∙ kx) e;
      open_ids = λ i l. U i ∙ f.open_ids i l;
      open_old = λ i l g. K i ∙ f.open_old i l g;
    }
  where
    by : (i : ℕ) → ((home (length c.channels) i ≡ k) × (channel_of (core_with c a k y h) i ≡ y) × (channel_of c i ≡ channel_at c.channels k)) ⊎
        (channel_of (core_with c a k y h) i ≡ channel_of c i) → is_kept (core_with c a k y h) i ≡ is_kept c i
    by i (inl t) = ap (λ (z : CoreChannel). kept_on c.monitor.closed c.monitor.cycle z i) t.1
        ∙ (same i t.0 ∙ ap (λ (z : CoreChannel). kept_on c.monitor.closed c.monitor.cycle z i) (sym t.2))
    by i (inr t) = ap (λ (z : CoreChannel). kept_on c.monitor.closed c.monitor.cycle z i) t

-- with no grey id nothing is marked, and with none in transit nothing is delivered
pub mark_none : (p : Place) (xs : List ℕ) (r s : CoreChannel × Hand) → r.0.grey ≡ [] → each_of (mark_one p) xs (Some r) ≡ Some s → r ≡ s
mark_none p xs r s none e = each_of_keeps (λ (t : CoreChannel × Hand). r ≡ t) (mark_one p) (λ x t u q m. let es = edges_of (entity_of t.0.table x) in
    let g = given_is (may_mark x (length es) t.0 t.1) (mark_edges p es (ungreyed x t)) u m in
    let v = (and_parts (has x t.0.grey) (nat_lt t.1.credit (2 ^ 32) &&
    (nat_le (length es) t.1.credit && nat_le (length t.1.transit + length es) 131072)) g.0).0 in
    let w : has x t.0.grey ≡ false = ap (λ (z : CoreChannel × Hand). has x z.0.grey) (sym q) ∙ ap (has x) none in cc) xs r s refl e

pub deliver_none : (p : Place) (xs : List ℕ) (r s : CoreChannel × Hand) → r.1.transit ≡ [] → each_of (deliver_one p) xs (Some r) ≡ Some s → r ≡ s
deliver_none p xs r s none e = each_of_keeps (λ (t : CoreChannel × Hand). r ≡ t) (deliver_one p) (λ y t u q m. let h : Hand = arrived y t.1 in
    let g = given_is (has y t.1.transit && is_home p.channels p.number y) (cond (is_white y t.0) (grey_on y t.0, h) (t.0, credited h)) u m in
    let v = (and_parts (has y t.1.transit) (is_home p.channels p.number y) g.0).0 in
    let w : has y t.1.transit ≡ false = ap (λ (z : CoreChannel × Hand). has y z.1.transit) (sym q) ∙ ap (has y) none in cc) xs r s refl e

-- marking begins in an open cycle
pub begins_open : (c : Core) (a k b : ℕ) → k < length c.channels → AllSawRight c → PhasesFit c → (channel_at c.channels k).phase ≡ Idle b
    → (hand_at c.hands a).cycle_seen ≡ b + 1 → (c.monitor.closed ≡ false) × (b + 1 ≡ c.monitor.cycle)
begins_open c a k b here saw fits was seen = let s = (saw a).cycle in
    by c.monitor.closed (subst (PhaseFits c.monitor.closed c.monitor.cycle) was (fits.phase k here)) s
  where
    by : (t : Bool) → cond t b (b + 1) ≡ c.monitor.cycle → (hand_at c.hands a).cycle_seen ≤ c.monitor.cycle → (t ≡ false) × (b + 1 ≡ c.monitor.cycle)
    by true e s = absurd (omega arith)
    by false e s = (refl, e)

-- SWEEPING

-- an id of the table that is not left is marked
abbrev pub SweptSoFar : CoreChannel → List ℕ → Type 0
SweptSoFar x left = (i : ℕ) → lists x.table i ≡ true → has i left ≡ false → has i x.marked ≡ true

visited_swept : (i : ℕ) (x : CoreChannel) (left : List ℕ) → SweptSoFar x left
    → SweptSoFar (visited i x) (remove i left) × ((visited i x).marked ≡ x.marked)
    × ((j : ℕ) → has j x.marked ≡ true → lists (visited i x).table j ≡ lists x.table j)
visited_swept i x left s =
    (elim (has i x.marked) as
    (λ b. has i x.marked ≡ b → (let y : CoreChannel = cond b x (record x { table = without i x.table }) in
    SweptSoFar y (remove i left) × (y.marked ≡ x.marked) × ((j : ℕ) → has j x.marked ≡ true → lists y.table j ≡ lists x.table j))) [
      | true ↦ λ m. (
        λ j l n. ⊎_elim (λ e. subst (λ (q : ℕ). has q x.marked ≡ true) (sym e) m) (λ n'. s j l (sym (has_other j i left (ne_eqb j i n')) ∙ n))
            (cases_eq j i),
        refl,
        λ j q. refl,
      )
      | false ↦ λ m. (
        λ j l n. let t = and_parts (not (nat_eq j i)) (lists x.table j) (sym (lists_without i x.table j) ∙ l) in
            s j t.1 (sym (has_other j i left (not-true (nat_eq j i) t.0)) ∙ n),
        refl,
        λ j q. lists_without i x.table j ∙
            ((elim (nat_eq j i) as (λ b. nat_eq j i ≡ b → (not b && lists x.table j) ≡ lists x.table j) [
              | true ↦ λ e. let u : has i x.marked ≡ true = subst
                  (λ (w : ℕ). has w x.marked ≡ true) (eqb-true j i e) q in cc
              | false ↦ λ e. refl
            ]) refl),
      )
    ]) refl

pub visits_swept : (xs : List ℕ) (x : CoreChannel) (left : List ℕ) → SweptSoFar x left
    → SweptSoFar (visit xs (x, left)).0 (visit xs (x, left)).1 × ((visit xs (x, left)).0.marked ≡ x.marked)
    × ((j : ℕ) → has j x.marked ≡ true → lists (visit xs (x, left)).0.table j ≡ lists x.table j)
visits_swept [] x left s = (s, refl, λ j q. refl)
visits_swept (i ∷ xs) x left s = let t = visited_swept i x left s in let u = visits_swept xs (visited i x) (remove i left) t.0 in
    (u.0, u.1 ∙ t.1, λ j q. u.2 j (ap (has j) t.1 ∙ q) ∙ t.2 j q)

pub sweep_start : (x : CoreChannel) (b : ℕ) (left : List ℕ) → SweepFrom x b left → SweptMarked x x.phase → SweptSoFar x left
sweep_start x b left (first e f) s = λ i l n. let t : has i (ids x.table) ≡ true = has_ids x.table i ∙ l in
    let u : has i (ids x.table) ≡ false = ap (has i) f ∙ n in cc
sweep_start x b left (next e) s = subst (SweptMarked x) e s

sweeping_kept : (x : CoreChannel) (b cycle : ℕ) (left : List ℕ) (i : ℕ) → SweepFrom x b left → kept_on true cycle x i ≡ (lists x.table i && has i x.marked)
sweeping_kept x b cycle left i f = ap (λ (t : Bool). lists x.table i && (has i x.marked || t)) (not_idle x b left f)
    ∙ (elim (has i x.marked) as (λ t. (lists x.table i && (t || false)) ≡ (lists x.table i && t)) [ true ↦ refl | false ↦ refl ])
  where
    not_idle : (x : CoreChannel) (b : ℕ) (left : List ℕ) → SweepFrom x b left → is_idle_of cycle x.phase ≡ false
    not_idle x b left (first e f) = ap (is_idle_of cycle) e
    not_idle x b left (next e) = ap (is_idle_of cycle) e

pub swept_kept : (p : Place) (b cycle : ℕ) (x z : CoreChannel) (h : Hand) (left rest : List ℕ) (i : ℕ) → b ≡ cycle → SweepFrom x b left → SweptSoFar z rest
    → z.marked ≡ x.marked → ((j : ℕ) → has j x.marked ≡ true → lists z.table j ≡ lists x.table j)
    → ((j : ℕ) → lists z.table j ≡ true → lists x.table j ≡ true) → kept_on true cycle (swept_to p b z h rest).0 i ≡ kept_on true cycle x i
swept_kept p b cycle x z h left [] i same f s m l less = ap (λ (t : Bool). lists z.table i && t) (eq-eqb b cycle same)
    ∙ (at_end (lists z.table i) refl (has i x.marked) refl ∙ sym (sweeping_kept x b cycle left i f))
  where
    at_end : (t : Bool) → lists z.table i ≡ t → (u : Bool) → has i x.marked ≡ u → (t && true) ≡ (lists x.table i && u)
    at_end true e true d = ap (λ (t : Bool). t && true) (sym e ∙ l i d)
    at_end true e false d = let q : has i x.marked ≡ true = ap (has i) (sym m) ∙ s i e refl in cc
    at_end false e true d = ap (λ (t : Bool). t && true) (sym e ∙ l i d)
    at_end false e false d = elim (lists x.table i) as (λ t. false ≡ (t && false)) [ true ↦ refl | false ↦ refl ]
swept_kept p b cycle x z h left (j ∷ rest) i same f s m l less = going (has i x.marked) refl ∙ sym (sweeping_kept x b cycle left i f)
  where
    going : (u : Bool) → has i x.marked ≡ u → (lists z.table i && (has i z.marked || false)) ≡ (lists x.table i && u)
    going true d = ap (λ (t : Bool). t && (has i z.marked || false)) (l i d) ∙ ap (λ (t : Bool). lists x.table i && (t || false)) (ap (has i) m ∙ d)
    going false d = ap (λ (t : Bool). lists z.table i && (t || false)) (ap (has i) m ∙ d)
        ∙ (elim (lists z.table i) as (λ t. (t && false) ≡ (lists x.table i && false)) [
          | true ↦ nothing_ (lists x.table i)
          | false ↦ nothing_
              (lists x.table i)
        ])
      where
        nothing_ : (t : Bool) → false ≡ (t && false)
        nothing_ true = refl
        nothing_ false = refl
