-- Marking and delivering change marks, transit and credit alone.
use Rattle.std.proofs.Common.{◌≡◌, ℕ, ◌+◌, ◌-◌, true, false, cond, ◌&&◌, List, [], ◌∷◌, length, Some, refl, subst}
use Rattle.graph_model.specs.Graph.{edges_of, entity_of}
use Rattle.graph_model.specs.Ids.{has, insert, remove}
use Rattle.core_steps.specs.Core.{CoreChannel, Hand, is_home}
use Rattle.core_steps.specs.Rows.{Place, deliver_one, each_of, greyed, is_white, mark_edge, mark_edges, mark_one, may_mark, sent, ungreyed, arrived, grey_on, credited}
use Rattle.core_steps.proofs.Lists.{each_of_keeps, given_is}

pub record OnlyMarked (r s : CoreChannel × Hand) : Type 0 where
  pub table : s.0.table ≡ r.0.table
  pub pins : s.0.pins ≡ r.0.pins
  pub phase : s.0.phase ≡ r.0.phase
  pub last_part : s.0.last_part ≡ r.0.last_part
  pub confirmed : s.0.confirmed ≡ r.0.confirmed
  pub cycle_seen : s.1.cycle_seen ≡ r.1.cycle_seen
  pub closed_seen : s.1.closed_seen ≡ r.1.closed_seen
  pub ended_seen : s.1.ended_seen ≡ r.1.ended_seen
  pub begun_reports : s.1.begun_reports ≡ r.1.begun_reports
  pub swept_reports : s.1.swept_reports ≡ r.1.swept_reports
  pub opened : s.1.opened ≡ r.1.opened

pub nothing_marked : (r : CoreChannel × Hand) → OnlyMarked r r
nothing_marked r = record {
  table = refl;
  pins = refl;
  phase = refl;
  last_part = refl;
  confirmed = refl;
  cycle_seen = refl;
  closed_seen = refl;
  ended_seen = refl;
  begun_reports = refl;
  swept_reports = refl;
  opened = refl;
}

-- with other marks and other credit it is still so
pub marked_more : (r s : CoreChannel × Hand) (marked grey transit : List ℕ) (credit : ℕ) → OnlyMarked r s
    → OnlyMarked r (record s.0 { marked = marked; grey = grey }, record s.1 { transit = transit; credit = credit })
marked_more r s marked grey transit credit o = record {
  table = o.table;
  pins = o.pins;
  phase = o.phase;
  last_part = o.last_part;
  confirmed = o.confirmed;
  cycle_seen = o.cycle_seen;
  closed_seen = o.closed_seen;
  ended_seen = o.ended_seen;
  begun_reports = o.begun_reports;
  swept_reports = o.swept_reports;
  opened = o.opened;
}

edge_only : (p : Place) (y : ℕ) (r s : CoreChannel × Hand) → OnlyMarked r s → OnlyMarked r (mark_edge p y s)
edge_only p y r s o = elim (is_home p.channels p.number y) as (λ b. OnlyMarked r (cond b (cond (is_white y s.0) (greyed y s) s) (sent y s))) [
  | true ↦ elim (is_white y s.0) as (λ b. OnlyMarked r (cond b (greyed y s) s)) [
    | true ↦ marked_more r s (insert y s.0.marked)
        (insert y s.0.grey) s.1.transit (s.1.credit - 1) o
    | false ↦ o
  ]
  | false ↦ marked_more r s s.0.marked s.0.grey (insert y s.1.transit) (s.1.credit - 1) o
]

edges_only : (p : Place) (ys : List ℕ) (r s : CoreChannel × Hand) → OnlyMarked r s → OnlyMarked r (mark_edges p ys s)
edges_only p [] r s o = o
edges_only p (y ∷ ys) r s o = edges_only p ys r (mark_edge p y s) (edge_only p y r s o)

pub mark_one_only : (p : Place) (r : CoreChannel × Hand) (x : ℕ) (s t : CoreChannel × Hand) → OnlyMarked r s → mark_one p x s ≡ Some t → OnlyMarked r t
mark_one_only p r x s t o e = let es = edges_of (entity_of s.0.table x) in
    let g = given_is (may_mark x (length es) s.0 s.1) (mark_edges p es (ungreyed x s)) t e in
    subst (OnlyMarked r) g.1 (edges_only p es r (ungreyed x s) (marked_more r s s.0.marked (remove x s.0.grey) s.1.transit (s.1.credit + 1) o))

pub deliver_one_only : (p : Place) (r : CoreChannel × Hand) (x : ℕ) (s t : CoreChannel × Hand) → OnlyMarked r s → deliver_one p x s ≡ Some t → OnlyMarked r t
deliver_one_only p r y s t o e = let h : Hand = arrived y s.1 in
    let g = given_is (has y s.1.transit && is_home p.channels p.number y) (cond (is_white y s.0) (grey_on y s.0, h) (s.0, credited h)) t e in
    subst (OnlyMarked r) g.1 (elim (is_white y s.0) as (λ b. OnlyMarked r (cond b (grey_on y s.0, h) (s.0, credited h))) [
      | true ↦ marked_more r s (insert y s.0.marked) (insert y s.0.grey) (remove y s.1.transit) s.1.credit o
      | false ↦ marked_more r s s.0.marked s.0.grey (remove y s.1.transit) (s.1.credit + 1) o
    ])

pub mark_only : (p : Place) (xs : List ℕ) (r s : CoreChannel × Hand) → each_of (mark_one p) xs (Some r) ≡ Some s → OnlyMarked r s
mark_only p xs r s e = each_of_keeps (OnlyMarked r) (mark_one p) (mark_one_only p r) xs r s (nothing_marked r) e

pub deliver_only : (p : Place) (xs : List ℕ) (r s : CoreChannel × Hand) → each_of (deliver_one p) xs (Some r) ≡ Some s → OnlyMarked r s
deliver_only p xs r s e = each_of_keeps (OnlyMarked r) (deliver_one p) (deliver_one_only p r) xs r s (nothing_marked r) e
