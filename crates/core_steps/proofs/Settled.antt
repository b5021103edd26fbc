-- A quiet step keeps a good core settled.
use Rattle.std.proofs.Common.{◌≡◌, ℕ, ◌+◌, ◌<◌, ◌^◌, Bool, true, false, cond, ◌&&◌, List, [], ◌∷◌, length, set, Option, Some, None, refl, sym, ap, ◌∙◌, subst, arith, ⊎_elim}
use Rattle.std.specs.Prelude.{nat_eq, nat_le, nat_lt, is_some}
use Rattle.std.proofs.lemmas.Bool.{eqb-true, eq-eqb, cases_lt, and_parts, or_cases, or_left, or_right}
use Rattle.std.proofs.lemmas.List.{get_or_past}
use Rattle.graph_model.specs.Graph.{Graph, IsReached, edges_of, entity_of, has_edge, lists}
use Rattle.graph_model.specs.Ids.{add, has, insert, remove}
use Rattle.graph_model.specs.declared.entity.Entity.{Entity}
use Rattle.graph_model.proofs.IdSets.{had_before, has_add, has_insert}
use Rattle.core_steps.specs.Core.{Core, CoreChannel, CoreMonitor, Hand, Idle, Marking, Phase, Sweeping, channel_at, graph, hand_at, held, home, is_home, new_hand, no_channel}
use Rattle.core_steps.specs.Events.{Event, Step, is_quiet}
use Rattle.core_steps.specs.Good.{IsGood, IsLiveId, PhaseFits, InTransit}
use Rattle.core_steps.specs.Rows.{Channel, Monitor, Place, deliver_one, greyed, is_white, mark_edge, mark_edges, mark_one, may_mark, swept_to, visit, sent, ungreyed, arrived, grey_on, credited}
use Rattle.core_steps.specs.Settled.{HoldsReached, IsSettledFrom, IsSweptAbove, SettledChannel}
use Rattle.core_steps.specs.Steps.{changed, place_of, step, with_actor}
use Rattle.core_steps.proofs.Contents.{shown_closed, swept_table, visits_less}
use Rattle.core_steps.proofs.GoodSteps.{good_step}
use Rattle.graph_model.proofs.Graphs.{reached_on, reached_start}
use Rattle.core_steps.proofs.Glue.{ChannelEvent, MonitorEvent, step_gives}
use Rattle.core_steps.proofs.Kept.{SweptSoFar, core_with, home_channel, sweep_start, visits_swept, has_edge_lists}
use Rattle.core_steps.proofs.KeptSteps.{core_led}
use Rattle.core_steps.proofs.Lists.{each_of_keeps, each_set, given_is, hand_at_end, pin_is_held, held_same, home_below}
use Rattle.core_steps.proofs.Marked.{OnlyMarked, deliver_only, mark_one_only, mark_only}
use Rattle.core_steps.proofs.Marks.{MarksWithin, has_filter, mark_one_within}
use Rattle.core_steps.proofs.Moves.{ChannelMove, MonitorMove, SweepFrom, begins, begins_cycle, begins_store, channel_move, closes, confirms, delivers, ends_store, first, marks, monitor_move, next, pins, pins_white, reports_begun, reports_swept, reserves, returns, sweeps, takes, tidies, unpins}
use Rattle.core_steps.proofs.Phases.{sweep_cycle}

-- WITHIN REACH

-- on a channel of a cycle above b: what is marked, what a sweep has left there, and once Idle all that is there, is reached
abbrev pub WithinReach : Graph → List ℕ → ℕ → CoreChannel → Phase → Type 0
WithinReach g starts b ch (Idle d) = b < d → (x : ℕ) → lists ch.table x ≡ true → IsReached g starts x × (lists g x ≡ true)
WithinReach g starts b ch (Marking d) = b < d → (x : ℕ) → has x ch.marked ≡ true → IsReached g starts x
WithinReach g starts b ch (Sweeping d left) = b < d → (x : ℕ) → (has x ch.marked ≡ true → IsReached g starts x)
    × (lists ch.table x ≡ true → has x left ≡ false → IsReached g starts x)

-- what settled says beyond what is live
pub record IsWithinFrom (b : ℕ) (c : Core) : Type 0 where
  pub none_open : c.book.opened ≡ None
  pub transit : b < c.monitor.cycle → (x : ℕ) → InTransit c x → IsLiveId c x
  pub channels : (j : ℕ) → WithinReach (graph c.book) (1 ∷ held c.channels) b (channel_at c.channels j) (channel_at c.channels j).phase

-- MARKING

abbrev Only : (ℕ → Type 0) → CoreChannel × Hand → Type 0
Only L r = ((i : ℕ) → has i r.0.marked ≡ true → L i) × ((i : ℕ) → has i r.1.transit ≡ true → L i)

inserted_only : (L : ℕ → Type 0) (y : ℕ) (ys : List ℕ) → L y → ((i : ℕ) → has i ys ≡ true → L i) → (i : ℕ) → has i (insert y ys) ≡ true → L i
inserted_only L y ys l all i e = ⊎_elim (λ s. subst L (sym (eqb-true i y s)) l) (λ s. all i s)
    (or_cases (nat_eq i y) (has i ys) (sym (has_insert i y ys) ∙ e))

edge_only : (L : ℕ → Type 0) (p : Place) (y : ℕ) (r : CoreChannel × Hand) → L y → Only L r → Only L (mark_edge p y r)
edge_only L p y r l o = elim (is_home p.channels p.number y) as (λ b. Only L (cond b (cond (is_white y r.0) (greyed y r) r) (sent y r))) [
  | true ↦ elim (is_white y r.0) as (λ b. Only L (cond b (greyed y r) r)) [ true ↦ (inserted_only L y r.0.marked l o.0, o.1) | false ↦ o ]
  | false ↦ (o.0, inserted_only L y r.1.transit l o.1)
]

edges_only : (L : ℕ → Type 0) (p : Place) (ys : List ℕ) (r : CoreChannel × Hand) → ((y : ℕ) → has y ys ≡ true → L y) → Only L r → Only L (mark_edges p ys r)
edges_only L p [] r l o = o
edges_only L p (y ∷ ys) r l o = edges_only L p ys (mark_edge p y r) (λ z e. l z (or_right (nat_eq z y) (has z ys) e))
    (edge_only L p y r (l y (or_left (nat_eq y y) (has y ys) (eq-eqb y y refl))) o)

-- what one marked id leads to is of L, where the edges of the table of ids of L are
mark_one_live : (L : ℕ → Type 0) (p : Place) (r0 : CoreChannel × Hand) → ((i z : ℕ) → L i → has_edge r0.0.table i z ≡ true → L z)
    → (i : ℕ) (r s : CoreChannel × Hand) → OnlyMarked r0 r × (MarksWithin r.0 × Only L r) → mark_one p i r ≡ Some s
    → OnlyMarked r0 s × (MarksWithin s.0 × Only L s)
mark_one_live L p r0 along i r s q e = let es = edges_of (entity_of r.0.table i) in let z : CoreChannel × Hand = (ungreyed i r) in
    let g = given_is (may_mark i (length es) r.0 r.1) (mark_edges p es z) s e in let o = q.1.1 in
    let grey_i = (and_parts (has i r.0.grey) (nat_lt r.1.credit (2 ^ 32) &&
    (nat_le (length es) r.1.credit && nat_le (length r.1.transit + length es) 131072)) g.0).0 in (
      mark_one_only p r0 i r s q.0 e,
      (
        mark_one_within p i r s q.1.0 e,
        subst (Only L) g.1 (edges_only L p es z (λ y h. along i y (o.0 i (q.1.0.grey i grey_i)) (ap (λ (t : Graph). has_edge t i y) (sym q.0.table) ∙ h))
            (o.0, o.1)),
      ),
    )

deliver_one_live : (L : ℕ → Type 0) (p : Place) (i : ℕ) (r s : CoreChannel × Hand) → Only L r → deliver_one p i r ≡ Some s → Only L s
deliver_one_live L p y r s o e = let h : Hand = arrived y r.1 in
    let g = given_is (has y r.1.transit && is_home p.channels p.number y) (cond (is_white y r.0) (grey_on y r.0, h) (r.0, credited h)) s e in
    let had = (and_parts (has y r.1.transit) (is_home p.channels p.number y) g.0).0 in
    let rest = λ (i : ℕ) (t : has i (remove y r.1.transit) ≡ true). o.1 i (had_before i y r.1.transit t) in
    subst (Only L) g.1 (elim (is_white y r.0) as (λ b. Only L (cond b (grey_on y r.0, h) (r.0, credited h))) [
      | true ↦ (inserted_only L y r.0.marked (o.1 y had) o.0, rest)
      | false ↦ (o.0, rest)
    ])

-- AN EVENT OF A CHANNEL

-- with no store open a table shows the graph
table_is_graph : (c : Core) (k i : ℕ) → IsGood c → c.book.opened ≡ None → k < length c.channels → lists (channel_at c.channels k).table i ≡ true
    → entity_of (channel_at c.channels k).table i ≡ entity_of (graph c.book) i
table_is_graph c k i good none b l = let at = home_channel c k i good.sound.content b l in
    ap (λ (z : CoreChannel). entity_of z.table i) (sym at) ∙ (good.sound.content.entity i (ap (λ (z : CoreChannel). lists z.table i) at ∙ l)
    ∙ shown_closed c good.sound.book none i)

settled_with : (b : ℕ) (c : Core) (a k : ℕ) (y : CoreChannel) (h : Hand) → IsWithinFrom b c → y.pins ≡ (channel_at c.channels k).pins
    → WithinReach (graph c.book) (1 ∷ held c.channels) b y y.phase → (b < c.monitor.cycle → (x : ℕ) → has x h.transit ≡ true → IsLiveId c x)
    → IsWithinFrom b (core_with c a k y h)
settled_with b c a k y h s pinned here sent = let hs = held_same c.channels k y pinned in record {
  none_open = s.none_open;
  transit = λ l x t. subst (λ (ps : List ℕ). IsReached (graph c.book) (1 ∷ ps) x) (sym hs)
      (each_set (λ (i : ℕ) (z : Hand). has x z.transit ≡ true → IsLiveId c x) c.hands a h new_hand (sent l x) (λ i e. s.transit l x (i, e)) t.0 t.1);
  channels = λ j. subst (λ (ps : List ℕ). WithinReach (graph c.book) (1 ∷ ps) b (channel_at (set c.channels k y) j)
      (channel_at (set c.channels k y) j).phase) (sym hs)
      (each_set (λ (i : ℕ) (z : CoreChannel). WithinReach (graph c.book) (1 ∷ held c.channels) b z z.phase) c.channels k y no_channel here s.channels j);
}

same_settled : (g : Graph) (st : List ℕ) (b : ℕ) (x y : CoreChannel) (ph : Phase) → y.table ≡ x.table → y.marked ≡ x.marked → WithinReach g st b x ph
    → WithinReach g st b y ph
same_settled g st b x y (Idle d) t m s = λ l i e. s l i (ap (λ (q : Graph). lists q i) (sym t) ∙ e)
same_settled g st b x y (Marking d) t m s = λ l i e. s l i (ap (has i) (sym m) ∙ e)
same_settled g st b x y (Sweeping d left) t m s = λ l i. (
  λ e. (s l i).0 (ap (has i) (sym m) ∙ e),
  λ e n. (s l i).1
      (ap (λ (q : Graph). lists q i) (sym t) ∙ e) n,
)

swept_settled : (p : Place) (g : Graph) (st : List ℕ) (b d : ℕ) (z : CoreChannel) (h : Hand) (rest : List ℕ)
    → (b < d → (i : ℕ) → has i z.marked ≡ true → IsReached g st i) → SweptSoFar z rest → ((i : ℕ) → lists z.table i ≡ true → lists g i ≡ true)
    → WithinReach g st b (swept_to p d z h rest).0 (swept_to p d z h rest).0.phase
swept_settled p g st b d z h [] m s l = λ bd i e. (m bd i (s i e refl), l i e)
swept_settled p g st b d z h (j ∷ rest) m s l = λ bd i. (λ e. m bd i e, λ e n. m bd i (s i e n))

sweep_marked : (g : Graph) (st : List ℕ) (b d : ℕ) (x : CoreChannel) (left : List ℕ) → SweepFrom x d left → WithinReach g st b x x.phase → b < d → (i : ℕ)
    → has i x.marked ≡ true → IsReached g st i
sweep_marked g st b d x left (first e f) s = subst (WithinReach g st b x) e s
sweep_marked g st b d x left (next e) s = let t = subst (WithinReach g st b x) e s in λ bd i m. (t bd i).0 m

swept_transit : (p : Place) (d : ℕ) (z : CoreChannel) (h : Hand) (rest : List ℕ) → (swept_to p d z h rest).1.transit ≡ h.transit
swept_transit p d z h [] = refl
swept_transit p d z h (j ∷ rest) = refl

settled_move : (b : ℕ) (c : Core) (a k : ℕ) (e : Event) (y : CoreChannel) (h : Hand) → is_quiet e ≡ true → IsGood c → IsWithinFrom b c
    → ChannelEvent c a k e y h → ChannelMove (place_of c k) (channel_at c.channels k) (hand_at c.hands a) e y h
    → IsWithinFrom b (changed c a k (Channel y) h e)
settled_move b c a k e y h quiet good s ev (begins d i t l) = settled_with b c a k y h s refl
    (λ bd x m. let q = (has_filter (lists (channel_at c.channels k).table) (add 1 (channel_at c.channels k).pins) x m).1 in
    reached_start (graph c.book) (1 ∷ held c.channels) x
    (⊎_elim (λ o. or_left (nat_eq x 1) (has x (held c.channels)) o) (λ o. or_right (nat_eq x 1) (has x (held c.channels)) (pin_is_held c.channels k x o))
    (or_cases (nat_eq x 1) (has x (channel_at c.channels k).pins) (sym (has_add x 1 (channel_at c.channels k).pins) ∙ q))))
    (λ l x m. s.transit l x (a, m))
settled_move b c a k e y h quiet good s ev (marks d xs z g i m) = let x0 = channel_at c.channels k in
    let r0 : CoreChannel × Hand = (x0, hand_at c.hands a) in let o = mark_only (place_of c k) xs r0 (z, g) m in
    let now : d ≡ c.monitor.cycle = subst (PhaseFits c.monitor.closed c.monitor.cycle) i (good.sound.phases.phase k ev.here) in
    let live = λ (bd : b < d). (each_of_keeps (λ (r : CoreChannel × Hand). OnlyMarked r0 r × (MarksWithin r.0 × Only (IsLiveId c) r))
    (mark_one (place_of c k))
    (mark_one_live (IsLiveId c) (place_of c k) r0 (λ u v lu he. reached_on (graph c.book) (1 ∷ held c.channels) u v lu
    (ap (λ (q : Option Entity). has v (edges_of q)) (sym (table_is_graph c k u good s.none_open ev.here (has_edge_lists x0.table u v he))) ∙ he)))
    xs r0 (z, g) (
      record {
        table = refl;
        pins = refl;
        phase = refl;
        last_part = refl;
        confirmed = refl;
        cycle_seen = refl;
        closed_seen = refl;
        ended_seen = refl;
        begun_reports = refl;
        swept_reports = refl;
        opened = refl;
      },
      (
        let w = good.sound.marks k in
            record { marked = w.marked; grey = w.grey },
        (
          λ u mu. subst (WithinReach (graph c.book) (1 ∷ held c.channels) b x0) i
              (s.channels k) bd u mu,
          λ u tu. s.transit (subst (λ (n : ℕ). b < n) now bd) u (a, tu),
        ),
      ),
    ) m).1.1 in
    settled_with b c a k z g s o.pins (subst (WithinReach (graph c.book) (1 ∷ held c.channels) b z) (sym (o.phase ∙ i)) (λ bd u mu. (live bd).0 u mu))
    (λ l u tu. (live (subst (λ (n : ℕ). b < n) (sym now) l)).1 u tu)
settled_move b c a k e y h quiet good s ev (delivers d xs z g i m) = let x0 = channel_at c.channels k in
    let r0 : CoreChannel × Hand = (x0, hand_at c.hands a) in let o = deliver_only (place_of c k) xs r0 (z, g) m in
    let now : d ≡ c.monitor.cycle = subst (PhaseFits c.monitor.closed c.monitor.cycle) i (good.sound.phases.phase k ev.here) in
    let live = λ (bd : b < d). each_of_keeps (Only (IsLiveId c)) (deliver_one (place_of c k)) (deliver_one_live (IsLiveId c) (place_of c k)) xs r0 (z, g) (
      λ u mu. subst (WithinReach (graph c.book) (1 ∷ held c.channels) b x0) i (s.channels k) bd u mu,
      λ u tu. s.transit
          (subst (λ (n : ℕ). b < n) now bd) u (a, tu),
    ) m in
    settled_with b c a k z g s o.pins (subst (WithinReach (graph c.book) (1 ∷ held c.channels) b z) (sym (o.phase ∙ i)) (λ bd u mu. (live bd).0 u mu))
    (λ l u tu. (live (subst (λ (n : ℕ). b < n) (sym now) l)).1 u tu)
settled_move b c a k e y h quiet good s ev (sweeps d left xs f q t) = let x = channel_at c.channels k in let p = place_of c k in
    let cyc = sweep_cycle x d c.monitor.cycle c.monitor.closed left f (good.sound.phases.phase k ev.here) in
    let closed = (good.sound.saw a).closed (t ∙ cyc) q in
    let v = visits_swept xs x left (sweep_start x d left f ((good.closed closed).swept k)) in let less = visits_less xs x left in
    let w = swept_table p d (visit xs (x, left)).0 (hand_at c.hands a) (visit xs (x, left)).1 in
    settled_with b c a k y h s (w.1 ∙ less.1)
    (swept_settled p (graph c.book) (1 ∷ held c.channels) b d (visit xs (x, left)).0 (hand_at c.hands a) (visit xs (x, left)).1
    (λ bd i m. sweep_marked (graph c.book) (1 ∷ held c.channels) b d x left f (s.channels k) bd i (ap (has i) (sym v.1) ∙ m)) v.0
    (λ i l. let u = (less.0 i l).0 in ap (λ (o : Option Entity). is_some o) (sym (table_is_graph c k i good s.none_open ev.here u)) ∙ u))
    (λ l i m. s.transit l i (a, ap (has i) (sym (swept_transit p d (visit xs (x, left)).0 (hand_at c.hands a) (visit xs (x, left)).1)) ∙ m))
settled_move b c a k e y h quiet good s ev (takes o i n l d r) = cc
settled_move b c a k e y h quiet good s ev (confirms l) = settled_with b c a k y h s refl
    (same_settled (graph c.book) (1 ∷ held c.channels) b (channel_at c.channels k) y y.phase refl refl (s.channels k)) (λ l x m. s.transit l x (a, m))
settled_move b c a k e y h quiet good s ev (pins i l p m) = cc
settled_move b c a k e y h quiet good s ev (pins_white i l p m) = cc
settled_move b c a k e y h quiet good s ev (unpins i) = cc
settled_move b c a k e y h quiet good s ev (tidies l) = settled_with b c a k y h s refl (s.channels k) (λ l x m. s.transit l x (a, m))

-- AN EVENT OF THE MONITOR

settled_led : (b : ℕ) (c : Core) (a : ℕ) (m : CoreMonitor) (h : Hand) → IsWithinFrom b c → h.transit ≡ (hand_at c.hands a).transit
    → m.cycle ≡ c.monitor.cycle → IsWithinFrom b (core_led c a m h c.book)
settled_led b c a m h s transit cyc = record {
  none_open = s.none_open;
  transit = λ l x t. each_set (λ (i : ℕ) (z : Hand). has x z.transit ≡ true → IsLiveId c x) c.hands a h new_hand
      (λ e. s.transit (subst (λ (n : ℕ). b < n) cyc l) x (a, ap (has x) (sym transit) ∙ e))
      (λ i e. s.transit (subst (λ (n : ℕ). b < n) cyc l) x (i, e)) t.0 t.1;
  channels = s.channels;
}

settled_monitor_move : (b : ℕ) (c : Core) (a k : ℕ) (e : Event) (m : CoreMonitor) (h : Hand) → is_quiet e ≡ true → IsGood c → IsWithinFrom b c
    → MonitorMove c.monitor (hand_at c.hands a) e m h → IsWithinFrom b (changed c a k (Monitor m) h e)
settled_monitor_move b c a k e m h quiet good s (reserves i l) = settled_led b c a m h s refl refl
settled_monitor_move b c a k e m h quiet good s (returns i l) = settled_led b c a m h s refl refl
settled_monitor_move b c a k e m h quiet good s (begins_cycle t w) = record {
  none_open = s.none_open;
  transit = λ l x q. let none = each_set (λ (i : ℕ) (z : Hand). z.transit ≡ []) c.hands a h new_hand ((good.closed t).no_transit a)
      (good.closed t).no_transit q.0 in let u : has x [] ≡ true = subst (λ (xs : List ℕ). has x xs ≡ true) none q.1 in cc;
  channels = s.channels;
}
settled_monitor_move b c a k e m h quiet good s (reports_begun j r) = settled_led b c a m h s refl refl
settled_monitor_move b c a k e m h quiet good s (closes o p w q) = settled_led b c a m h s refl refl
settled_monitor_move b c a k e m h quiet good s (reports_swept j r) = settled_led b c a m h s refl refl
settled_monitor_move b c a k e m h quiet good s (begins_store op w) = cc
settled_monitor_move b c a k e m h quiet good s (ends_store o i w) = cc

-- THE LAWS

pub settled_channel : (b : ℕ) (c : Core) (a k : ℕ) (e : Event) (y : CoreChannel) (h : Hand) → is_quiet e ≡ true → IsGood c → IsWithinFrom b c
    → ChannelEvent c a k e y h → IsWithinFrom b (changed c a k (Channel y) h e)
settled_channel b c a k e y h quiet good s ev = settled_move b c a k e y h quiet good s ev
    (channel_move (place_of c k) (channel_at c.channels k) (hand_at c.hands a) e (y, h) ev.made)

pub settled_monitor : (b : ℕ) (c : Core) (a k : ℕ) (e : Event) (m : CoreMonitor) (h : Hand) → is_quiet e ≡ true → IsGood c → IsWithinFrom b c
    → MonitorEvent c a e m h → IsWithinFrom b (changed c a k (Monitor m) h e)
settled_monitor b c a k e m h quiet good s ev = settled_monitor_move b c a k e m h quiet good s (monitor_move c.monitor (hand_at c.hands a) e (m, h) ev.made)

pub within_step : (b : ℕ) (c : Core) (s : Step) (d : Core) → is_quiet s.event ≡ true → IsGood c → IsWithinFrom b c → step c s ≡ Some d → IsWithinFrom b d
within_step b c s d quiet good settled e = step_gives (IsWithinFrom b) c s
    (λ y h ev. settled_channel b c s.actor s.shard s.event y h quiet good settled ev)
    (λ m h ev. settled_monitor b c s.actor s.shard s.event m h quiet good settled ev) d e

pub within_own : (c : Core) → IsGood c → c.book.opened ≡ None → IsWithinFrom c.monitor.cycle c
within_own c good none = record {
  none_open = none;
  transit = λ l x t. absurd (omega arith);
  channels = λ j. ⊎_elim (λ l. by (channel_at c.channels j) (channel_at c.channels j).phase (good.sound.phases.phase j l))
      (λ l. subst (λ (z : CoreChannel). WithinReach (graph c.book) (1 ∷ held c.channels) c.monitor.cycle z z.phase)
      (sym (get_or_past c.channels j no_channel l)) (λ b x e. cc)) (cases_lt j (length c.channels));
}
  where
    at_most : (t : Bool) (d n : ℕ) → cond t d (d + 1) ≡ n → n < d → ⊥
    at_most true d n e l = omega arith
    at_most false d n e l = omega arith

    by : (x : CoreChannel) (ph : Phase) → PhaseFits c.monitor.closed c.monitor.cycle ph
        → WithinReach (graph c.book) (1 ∷ held c.channels) c.monitor.cycle x ph
    by x (Idle d) f = λ l i e. absurd (at_most c.monitor.closed d c.monitor.cycle f l)
    by x (Marking d) f = λ l i e. absurd (omega arith)
    by x (Sweeping d left) f = λ l i. let g = f.0 in absurd (omega arith)

-- SETTLED

pub settled_within : (b : ℕ) (c : Core) → IsSettledFrom b c → IsWithinFrom b c
settled_within b c s = record { none_open = s.none_open; transit = s.transit; channels = λ j. by j (channel_at c.channels j).phase (s.channels j) }
  where
    by : (j : ℕ) (ph : Phase) → SettledChannel b c j ph → WithinReach (graph c.book) (1 ∷ held c.channels) b (channel_at c.channels j) ph
    by j (Idle d) t = λ bd x l. let r = (t bd x).0 l in (r.1, r.2)
    by j (Marking d) t = t
    by j (Sweeping d left) t = t

pub within_settled : (b : ℕ) (c : Core) → IsGood c → IsWithinFrom b c → IsSettledFrom b c
within_settled b c good w = record {
  none_open = w.none_open;
  transit = w.transit;
  channels = λ j. ⊎_elim (λ l. by j l (channel_at c.channels j).phase (w.channels j))
      (λ l. subst (λ (z : CoreChannel). SettledChannel b c j z.phase) (sym (get_or_past c.channels j no_channel l)) (λ bd x. absurd (omega arith)))
      (cases_lt j (length c.channels));
}
  where
    by : (j : ℕ) → j < length c.channels → (ph : Phase) → WithinReach (graph c.book) (1 ∷ held c.channels) b (channel_at c.channels j) ph
        → SettledChannel b c j ph
    by j l (Idle d) t = λ bd x. (
      λ h. let r = t bd x h in (good.sound.content.table_home j x l h, r.0, r.1),
      λ r. ap (λ (k : ℕ). lists (channel_at c.channels k).table x) (sym r.0) ∙ good.live.is_there x r.1 r.2,
    )
    by j l (Marking d) t = t
    by j l (Sweeping d left) t = t

-- an allowed quiet step keeps a good core settled
pub settled_step : (b : ℕ) (c : Core) (s : Step) (d : Core) → is_quiet s.event ≡ true → IsGood c → IsSettledFrom b c → step c s ≡ Some d → IsSettledFrom b d
settled_step b c s d quiet good settled e = within_settled b d (good_step c s d good e) (within_step b c s d quiet good (settled_within b c settled) e)

-- a good core without an open store is settled from its own cycle
pub settled_own : (c : Core) → IsGood c → c.book.opened ≡ None → IsSettledFrom c.monitor.cycle c
settled_own c good none = within_settled c.monitor.cycle c good (within_own c good none)

pub settled_actor : (b : ℕ) (c : Core) → IsSettledFrom b c → IsSettledFrom b (with_actor c)
settled_actor b c s = record {
  none_open = s.none_open;
  transit = λ l x t. s.transit l x (t.0, subst (λ (h : Hand). has x h.transit ≡ true) (hand_at_end c.hands t.0) t.1);
  channels = s.channels;
}

-- where all channels are done with a cycle above that from which the core is settled, the tables have exactly what is reached
pub tables_exact : (b : ℕ) (c : Core) → IsGood c → IsSettledFrom b c → IsSweptAbove b c → HoldsReached c
tables_exact b c good s swept x = let j = home (length c.channels) x in let t = swept j (home_below (length c.channels) x good.sound.some_channel) in
    let r = subst (SettledChannel b c j) t.2 (s.channels j) t.1 x in (λ l. let q = r.0 l in (q.1, q.2), λ q. r.1 (refl, q.0, q.1))
