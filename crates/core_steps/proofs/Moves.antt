-- The rows of the events, as rules: where each is allowed and what it leaves.
use Rattle.std.proofs.Common.{◌≡◌, ℕ, ◌+◌, ◌-◌, ◌≤◌, ◌<◌, ◌||◌, ◌^◌, Bool, true, false, cond, not, ◌&&◌, List, [], length, set, Option, Some, None, refl, subst}
use Rattle.std.specs.Prelude.{nat_eq, nat_le, nat_lt}
use Rattle.std.proofs.lemmas.Bool.{eqb-true, ltb-true, leb-true, and_parts, not-true}
use Rattle.graph_model.specs.Graph.{ids, lists}
use Rattle.graph_model.specs.Ids.{add, has, insert, remove}
use Rattle.graph_model.specs.declared.entity.StoreOp.{StoreOp}
use Rattle.core_steps.specs.Core.{CoreChannel, CoreMonitor, Hand, Idle, Marking, OpenStore, Phase, Sweeping}
use Rattle.core_steps.specs.Events.{BeginCycle, BeginMark, CloseCycle, Confirm, Deliver, Event, MarkSome, Pin, ReportBegun, ReportSwept, Reserve, Return, StoreBegin, StoreEnd, StorePart, SweepSome, Tidy, Unpin}
use Rattle.core_steps.specs.Rows.{Place, all_clear, all_set, begin_mark, channel_step, deliver_one, each_of, end_store, greyed, if_marking, mark_one, marks_pin, may_take, monitor_step, part_marked, part_taken, roots, seeing, store_channels, store_part, sweep_from, sweep_some, swept_to, visit, is_complete, part_given}
use Rattle.core_steps.proofs.Lists.{given_is}

-- the ids that a sweep has left
pub data SweepFrom (x : CoreChannel) (b : ℕ) (left : List ℕ) : Type 0 where
  first : x.phase ≡ Marking b → ids x.table ≡ left → SweepFrom x b left
  next : x.phase ≡ Sweeping b left → SweepFrom x b left

pub data ChannelMove (p : Place) (x : CoreChannel) (h : Hand) : Event → CoreChannel → Hand → Type 0 where
  begins : (b : ℕ) → x.phase ≡ Idle b → h.cycle_seen ≡ b + 1 → length (roots x) ≤ h.credit
      → ChannelMove p x h BeginMark (record x { phase = Marking (b + 1); marked = roots x; grey = roots x })
      (record h { credit = h.credit - length (roots x); begun_reports = add p.number h.begun_reports })
  marks : (b : ℕ) (xs : List ℕ) (y : CoreChannel) (h' : Hand) → x.phase ≡ Marking b → each_of (mark_one p) xs (Some (x, h)) ≡ Some (y, h')
      → ChannelMove p x h (MarkSome xs) y h'
  delivers : (b : ℕ) (xs : List ℕ) (y : CoreChannel) (h' : Hand) → x.phase ≡ Marking b → each_of (deliver_one p) xs (Some (x, h)) ≡ Some (y, h')
      → ChannelMove p x h (Deliver xs) y h'
  sweeps : (b : ℕ) (left xs : List ℕ) → SweepFrom x b left → h.closed_seen ≡ true → h.cycle_seen ≡ b
      → ChannelMove p x h (SweepSome xs) (swept_to p b (visit xs (x, left)).0 h (visit xs (x, left)).1).0
      (swept_to p b (visit xs (x, left)).0 h (visit xs (x, left)).1).1
  takes : (o : OpenStore) → h.opened ≡ Some o → has p.number o.written ≡ false → x.last_part < o.number → x.confirmed ≡ x.last_part
      → length p.records ≤ h.credit
      → ChannelMove p x h StorePart (part_marked (ids p.records) x.phase (part_taken p o.number x, part_given p o h)).0
      (part_marked (ids p.records) x.phase (part_taken p o.number x, part_given p o h)).1
  confirms : x.last_part ≤ h.ended_seen → ChannelMove p x h Confirm (record x { confirmed = x.last_part }) h
  pins : (i : ℕ) → lists x.table i ≡ true → 1 ≤ h.credit → marks_pin i x.phase x ≡ false → ChannelMove p x h (Pin i) (record x { pins = add i x.pins }) h
  pins_white : (i : ℕ) → lists x.table i ≡ true → 1 ≤ h.credit → marks_pin i x.phase x ≡ true
      → ChannelMove p x h (Pin i) (record x { pins = add i x.pins; marked = insert i x.marked; grey = insert i x.grey }) (record h { credit = h.credit - 1 })
  unpins : (i : ℕ) → ChannelMove p x h (Unpin i) (record x { pins = remove i x.pins }) h
  tidies : x.confirmed ≡ x.last_part → ChannelMove p x h Tidy x h

pub data MonitorMove (m : CoreMonitor) (h : Hand) : Event → CoreMonitor → Hand → Type 0 where
  reserves : (n : ℕ) → h.credit + n ≤ 2 ^ 32 → MonitorMove m h (Reserve n) (record m { pending = m.pending + n }) (seeing
      (record m { pending = m.pending + n }) (record h { credit = h.credit + n })).1
  returns : (n : ℕ) → n ≤ h.credit → MonitorMove m h (Return n) (record m { pending = m.pending - n })
      (seeing (record m { pending = m.pending - n }) (record h { credit = h.credit - n })).1
  begins_cycle : m.closed ≡ true → all_set m.swept ≡ true
      → MonitorMove m h BeginCycle (record m { cycle = m.cycle + 1; closed = false; begun = all_clear m.begun; swept = all_clear m.swept })
      (seeing (record m { cycle = m.cycle + 1; closed = false; begun = all_clear m.begun; swept = all_clear m.swept }) h).1
  reports_begun : (j : ℕ) → has j h.begun_reports ≡ true
      → MonitorMove m h (ReportBegun j) (record m { begun = set m.begun j true })
      (seeing (record m { begun = set m.begun j true }) (record h { begun_reports = remove j h.begun_reports })).1
  closes : m.closed ≡ false → m.pending ≡ 0 → m.stores_begun ≡ m.stores_ended → all_set m.begun ≡ true
      → MonitorMove m h CloseCycle (record m { closed = true }) (seeing (record m { closed = true }) h).1
  reports_swept : (j : ℕ) → has j h.swept_reports ≡ true
      → MonitorMove m h (ReportSwept j) (record m { swept = set m.swept j true })
      (seeing (record m { swept = set m.swept j true }) (record h { swept_reports = remove j h.swept_reports })).1
  begins_store : (op : StoreOp) → m.stores_begun ≡ m.stores_ended
      → MonitorMove m h (StoreBegin op) (record m { stores_begun = m.stores_begun + 1 })
      (seeing (record m { stores_begun = m.stores_begun + 1 })
      (record h {
        opened = Some
            (record { number = m.stores_begun + 1; channels = store_channels m.format (length m.begun) op.records; written = [] });
      })).1
  ends_store : (o : OpenStore) → h.opened ≡ Some o → is_complete o ≡ true
      → MonitorMove m h StoreEnd (record m { stores_ended = m.stores_ended + 1 })
      (seeing (record m { stores_ended = m.stores_ended + 1 }) (record h { opened = None })).1

-- a result that a test gave, where each result of a move is one
abbrev pub Moved : Place → CoreChannel → Hand → Event → CoreChannel × Hand → Type 0
Moved p x h e r = ChannelMove p x h e r.0 r.1

begin_move : (p : Place) (x : CoreChannel) (h : Hand) (ph : Phase) → x.phase ≡ ph → (r : CoreChannel × Hand) → begin_mark p ph x h ≡ Some r
    → Moved p x h BeginMark r
begin_move p x h (Idle b) is r e = let g = given_is (nat_eq h.cycle_seen (b + 1) && nat_le (length (roots x)) h.credit) (
  record x { phase = Marking (b + 1); marked = roots x; grey = roots x },
  record h { credit = h.credit - length (roots x); begun_reports = add p.number h.begun_reports },
) r e in
    let t = and_parts (nat_eq h.cycle_seen (b + 1)) (nat_le (length (roots x)) h.credit) g.0 in
    subst (Moved p x h BeginMark) g.1 (begins b is (eqb-true h.cycle_seen (b + 1) t.0) (leb-true (length (roots x)) h.credit t.1))
begin_move p x h (Marking b) is r e = cc
begin_move p x h (Sweeping b left) is r e = cc

mark_move : (p : Place) (x : CoreChannel) (h : Hand) (ph : Phase) (xs : List ℕ) → x.phase ≡ ph → (r : CoreChannel × Hand)
    → if_marking ph (each_of (mark_one p) xs (Some (x, h))) ≡ Some r → Moved p x h (MarkSome xs) r
mark_move p x h (Idle b) xs is r e = cc
mark_move p x h (Marking b) xs is r e = marks b xs r.0 r.1 is e
mark_move p x h (Sweeping b left) xs is r e = cc

deliver_move : (p : Place) (x : CoreChannel) (h : Hand) (ph : Phase) (xs : List ℕ) → x.phase ≡ ph → (r : CoreChannel × Hand)
    → if_marking ph (each_of (deliver_one p) xs (Some (x, h))) ≡ Some r → Moved p x h (Deliver xs) r
deliver_move p x h (Idle b) xs is r e = cc
deliver_move p x h (Marking b) xs is r e = delivers b xs r.0 r.1 is e
deliver_move p x h (Sweeping b left) xs is r e = cc

sweep_move_from : (p : Place) (x : CoreChannel) (h : Hand) (b : ℕ) (left xs : List ℕ) → SweepFrom x b left → (r : CoreChannel × Hand)
    → sweep_from p b left xs x h ≡ Some r → Moved p x h (SweepSome xs) r
sweep_move_from p x h b left xs from r e = let g = given_is (h.closed_seen && nat_eq h.cycle_seen b)
    (swept_to p b (visit xs (x, left)).0 h (visit xs (x, left)).1) r e in
    let t = and_parts h.closed_seen (nat_eq h.cycle_seen b) g.0 in
    subst (Moved p x h (SweepSome xs)) g.1 (sweeps b left xs from t.0 (eqb-true h.cycle_seen b t.1))

sweep_move : (p : Place) (x : CoreChannel) (h : Hand) (ph : Phase) (xs : List ℕ) → x.phase ≡ ph → (r : CoreChannel × Hand) → sweep_some p ph xs x h ≡ Some r
    → Moved p x h (SweepSome xs) r
sweep_move p x h (Idle b) xs is r e = cc
sweep_move p x h (Marking b) xs is r e = sweep_move_from p x h b (ids x.table) xs (first is refl) r e
sweep_move p x h (Sweeping b left) xs is r e = sweep_move_from p x h b left xs (next is) r e

take_move : (p : Place) (x : CoreChannel) (h : Hand) (o : Option OpenStore) → h.opened ≡ o → (r : CoreChannel × Hand) → store_part p o x h ≡ Some r
    → Moved p x h StorePart r
take_move p x h None is r e = cc
take_move p x h (Some o) is r e = let g = given_is (may_take p o x h) (part_marked (ids p.records) x.phase (part_taken p o.number x, part_given p o h)) r e in
    let s = and_parts (has p.number o.channels && not (has p.number o.written))
    (nat_lt x.last_part o.number && (nat_eq x.confirmed x.last_part && nat_le (length p.records) h.credit)) g.0 in
    let w = and_parts (has p.number o.channels) (not (has p.number o.written)) s.0 in
    let t = and_parts (nat_lt x.last_part o.number) (nat_eq x.confirmed x.last_part && nat_le (length p.records) h.credit) s.1 in
    let u = and_parts (nat_eq x.confirmed x.last_part) (nat_le (length p.records) h.credit) t.1 in
    subst (Moved p x h StorePart) g.1 (takes o is (not-true (has p.number o.written) w.1) (ltb-true x.last_part o.number t.0)
    (eqb-true x.confirmed x.last_part u.0) (leb-true (length p.records) h.credit u.1))

pin_move : (p : Place) (x : CoreChannel) (h : Hand) (i : ℕ) → lists x.table i ≡ true → 1 ≤ h.credit → (b : Bool) → marks_pin i x.phase x ≡ b
    → Moved p x h (Pin i) (cond b (greyed i (record x { pins = add i x.pins }, h)) (record x { pins = add i x.pins }, h))
pin_move p x h i here paid true is = pins_white i here paid is
pin_move p x h i here paid false is = pins i here paid is

pub channel_move : (p : Place) (x : CoreChannel) (h : Hand) (e : Event) (r : CoreChannel × Hand) → channel_step p x h e ≡ Some r → Moved p x h e r
channel_move p x h BeginMark r e = begin_move p x h x.phase refl r e
channel_move p x h (MarkSome xs) r e = mark_move p x h x.phase xs refl r e
channel_move p x h (Deliver xs) r e = deliver_move p x h x.phase xs refl r e
channel_move p x h (SweepSome xs) r e = sweep_move p x h x.phase xs refl r e
channel_move p x h StorePart r e = take_move p x h h.opened refl r e
channel_move p x h Confirm r e = let g = given_is (nat_le x.last_part h.ended_seen) (record x { confirmed = x.last_part }, h) r e in
    subst (Moved p x h Confirm) g.1 (confirms (leb-true x.last_part h.ended_seen g.0))
channel_move p x h (Pin i) r e = let g = given_is (lists x.table i && nat_le 1 h.credit)
    (cond (marks_pin i x.phase x) (greyed i (record x { pins = add i x.pins }, h)) (record x { pins = add i x.pins }, h)) r e in
    let t = and_parts (lists x.table i) (nat_le 1 h.credit) g.0 in
    subst (Moved p x h (Pin i)) g.1 (pin_move p x h i t.0 (leb-true 1 h.credit t.1) (marks_pin i x.phase x) refl)
channel_move p x h (Unpin i) r e = let g : ◌≡◌ {A = CoreChannel × Hand} (record x { pins = remove i x.pins }, h) r = cc in
    subst (Moved p x h (Unpin i)) g (unpins i)
channel_move p x h Tidy r e = let g = given_is (nat_eq x.confirmed x.last_part) (x, h) r e in
    subst (Moved p x h Tidy) g.1 (tidies (eqb-true x.confirmed x.last_part g.0))
channel_move p x h (Reserve n) r e = cc
channel_move p x h (Return n) r e = cc
channel_move p x h BeginCycle r e = cc
channel_move p x h (ReportBegun j) r e = cc
channel_move p x h CloseCycle r e = cc
channel_move p x h (ReportSwept j) r e = cc
channel_move p x h (StoreBegin op) r e = cc
channel_move p x h StoreEnd r e = cc

abbrev pub Led : CoreMonitor → Hand → Event → CoreMonitor × Hand → Type 0
Led m h e r = MonitorMove m h e r.0 r.1

end_move : (m : CoreMonitor) (h : Hand) (o : Option OpenStore) → h.opened ≡ o → (r : CoreMonitor × Hand) → end_store m h o ≡ Some r → Led m h StoreEnd r
end_move m h None is r e = cc
end_move m h (Some o) is r e = let g = given_is (is_complete o)
    (seeing (record m { stores_ended = m.stores_ended + 1 }) (record h { opened = None })) r e in subst (Led m h StoreEnd) g.1 (ends_store o is g.0)

pub monitor_move : (m : CoreMonitor) (h : Hand) (e : Event) (r : CoreMonitor × Hand) → monitor_step m h e ≡ Some r → Led m h e r
monitor_move m h (Reserve n) r e = let g = given_is (nat_le (h.credit + n) (2 ^ 32))
    (seeing (record m { pending = m.pending + n }) (record h { credit = h.credit + n })) r e in
    subst (Led m h (Reserve n)) g.1 (reserves n (leb-true (h.credit + n) (2 ^ 32) g.0))
monitor_move m h (Return n) r e = let g = given_is (nat_le n h.credit)
    (seeing (record m { pending = m.pending - n }) (record h { credit = h.credit - n })) r e in
    subst (Led m h (Return n)) g.1 (returns n (leb-true n h.credit g.0))
monitor_move m h BeginCycle r e = let n : CoreMonitor = record m {
  cycle = m.cycle + 1;
  closed = false;
  begun = all_clear m.begun;
  swept =
      all_clear m.swept;
} in
    let g = given_is (m.closed && (all_set m.swept && nat_lt (m.cycle + 1) (2 ^ 64))) (seeing n h) r e in
    let s = and_parts m.closed (all_set m.swept && nat_lt (m.cycle + 1) (2 ^ 64)) g.0 in
    let t = and_parts (all_set m.swept) (nat_lt (m.cycle + 1) (2 ^ 64)) s.1 in
    subst (Led m h BeginCycle) g.1 (begins_cycle s.0 t.0)
monitor_move m h (ReportBegun j) r e = let g = given_is (has j h.begun_reports)
    (seeing (record m { begun = set m.begun j true }) (record h { begun_reports = remove j h.begun_reports })) r e in
    subst (Led m h (ReportBegun j)) g.1 (reports_begun j g.0)
monitor_move m h CloseCycle r e = let g = given_is (not m.closed && (nat_eq m.pending 0 && (nat_eq m.stores_begun m.stores_ended && all_set m.begun)))
    (seeing (record m { closed = true }) h) r e in
    let s = and_parts (not m.closed) (nat_eq m.pending 0 && (nat_eq m.stores_begun m.stores_ended && all_set m.begun)) g.0 in
    let t = and_parts (nat_eq m.pending 0) (nat_eq m.stores_begun m.stores_ended && all_set m.begun) s.1 in
    let u = and_parts (nat_eq m.stores_begun m.stores_ended) (all_set m.begun) t.1 in
    subst (Led m h CloseCycle) g.1 (closes (not-true m.closed s.0) (eqb-true m.pending 0 t.0) (eqb-true m.stores_begun m.stores_ended u.0) u.1)
monitor_move m h (ReportSwept j) r e = let g = given_is (has j h.swept_reports)
    (seeing (record m { swept = set m.swept j true }) (record h { swept_reports = remove j h.swept_reports })) r e in
    subst (Led m h (ReportSwept j)) g.1 (reports_swept j g.0)
monitor_move m h (StoreBegin op) r e = let g = given_is (nat_eq m.stores_begun m.stores_ended &&
    (nat_le m.stores_begun (2 ^ 63) && (nat_eq m.format 1 || nat_lt 0 (length op.records))))
    (seeing (record m { stores_begun = m.stores_begun + 1 })
    (record h {
      opened = Some
          (record { number = m.stores_begun + 1; channels = store_channels m.format (length m.begun) op.records; written = [] });
    })) r e in
    let t = and_parts (nat_eq m.stores_begun m.stores_ended) (nat_le m.stores_begun (2 ^ 63) && (nat_eq m.format 1 || nat_lt 0 (length op.records))) g.0 in
    subst (Led m h (StoreBegin op)) g.1 (begins_store op (eqb-true m.stores_begun m.stores_ended t.0))
monitor_move m h StoreEnd r e = end_move m h h.opened refl r e
monitor_move m h BeginMark r e = cc
monitor_move m h (MarkSome xs) r e = cc
monitor_move m h (Deliver xs) r e = cc
monitor_move m h (SweepSome xs) r e = cc
monitor_move m h StorePart r e = cc
monitor_move m h Confirm r e = cc
monitor_move m h (Pin i) r e = cc
monitor_move m h (Unpin i) r e = cc
monitor_move m h Tidy r e = cc
