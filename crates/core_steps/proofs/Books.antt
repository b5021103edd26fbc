-- The open store, its parts and the confirmed numbers stay counted.
use Rattle.std.proofs.Common.{◌≡◌, ℕ, zero, suc, ◌+◌, ◌<◌, ◌≤◌, Bool, true, false, cond, ◌||◌, List, [], ◌∷◌, length, set, length-set, Option, Some, None, refl, sym, ap, ◌∙◌, subst, arith, ⊎_elim}
use Rattle.std.specs.Prelude.{◌&&◌, nat_eq, is_some}
use Rattle.std.proofs.lemmas.Bool.{cases_Bool, or_left, or_right, cases_eq, eqb-true, ne_eqb, eq-eqb, and_parts}
use Rattle.std.proofs.lemmas.List.{get_or-set_same, get_or-set_other}
use Rattle.std.specs.List.{range_with_len}
use Rattle.graph_model.specs.Graph.{entity_of, ids, lists, without}
use Rattle.graph_model.specs.Ids.{add, has, remove}
use Rattle.graph_model.specs.Stores.{is_valid_store}
use Rattle.graph_model.specs.declared.entity.Record.{Record}
use Rattle.graph_model.specs.declared.entity.StoreOp.{StoreOp}
use Rattle.graph_model.proofs.IdSets.{has_add}
use Rattle.core_steps.specs.Core.{Core, CoreChannel, CoreMonitor, Hand, Idle, Marking, OpenStore, Phase, Sweeping, channel_at, graph, hand_at, held, home, is_home, new_hand, next_before, no_channel, open_records, written_of}
use Rattle.core_steps.specs.Events.{Event}
use Rattle.core_steps.specs.Good.{BookFits, one_if, written}
use Rattle.core_steps.specs.Rows.{Channel, Monitor, Place, part_marked, part_taken, store_channels, swept_to, visit, has_part, is_complete, part_given, visited, marked_all, greyed_all}
use Rattle.core_steps.specs.Steps.{changed, end_in, place_of}
use Rattle.core_steps.proofs.Glue.{ChannelEvent, MonitorEvent}
use Rattle.core_steps.proofs.Lists.{both_set, filter_keeps, home_below}
use Rattle.core_steps.proofs.Marked.{deliver_only, mark_only}
use Rattle.core_steps.proofs.Moves.{ChannelMove, MonitorMove, begins, begins_cycle, begins_store, channel_move, closes, confirms, delivers, ends_store, marks, monitor_move, pins, pins_white, reports_begun, reports_swept, reserves, returns, sweeps, takes, tidies, unpins}
use Rattle.core_steps.proofs.ValidStores.{list_all_at}

-- the store that the book has open, if any, is the one that it had
pub record SameStore (c : Core) (l : List CoreChannel) (m : CoreMonitor) (hs : List Hand) : Type 0 where
  pub many : length l ≡ length c.channels
  pub parts : (j : ℕ) → (channel_at l j).last_part ≡ (channel_at c.channels j).last_part
  pub begun : m.stores_begun ≡ c.monitor.stores_begun
  pub ended : m.stores_ended ≡ c.monitor.stores_ended
  pub format : m.format ≡ c.monitor.format
  pub opened : (a : ℕ) → (hand_at hs a).opened ≡ (hand_at c.hands a).opened

pub book_stays : (c : Core) (l : List CoreChannel) (m : CoreMonitor) (hs : List Hand) → SameStore c l m hs → BookFits c
    → BookFits record { channels = l; monitor = m; hands = hs; book = c.book }
book_stays c l m hs s fits = let same : written_of (hand_at hs 0).opened ≡ written c = ap written_of (s.opened 0) in record {
  begun = s.begun ∙ (fits.begun ∙ ap (λ (n : ℕ). n + one_if (is_some c.book.opened)) (sym s.ended));
  in_hand = ap (λ (o : Option OpenStore). is_some o) (s.opened 0) ∙ fits.in_hand;
  number = λ o is. fits.number o (sym (s.opened 0) ∙ is) ∙ sym s.begun;
  no_other = λ a n. s.opened a ∙ fits.no_other a n;
  part_taken = λ j b w. s.parts j ∙ (fits.part_taken j (subst (λ (n : ℕ). j < n) s.many b) (subst (λ (ws : List ℕ). has j ws ≡ true) same w) ∙ sym s.begun);
  part_due = λ j b w. let p = s.parts j in let e = s.ended in
      let d = fits.part_due j (subst (λ (n : ℕ). j < n) s.many b) (subst (λ (ws : List ℕ). has j ws ≡ false) same w) in omega arith;
  part_last = λ f j b w. s.parts j ∙ (fits.part_last (sym s.format ∙ f) j (subst (λ (n : ℕ). j < n) s.many b)
      (subst (λ (ws : List ℕ). has j ws ≡ false) same w) ∙ sym s.ended);
  channels = λ o is. fits.channels o (sym (s.opened 0) ∙ is) ∙ λ i. store_channels (sym s.format i) (sym s.many i) (open_records c.book);
}

pub swept_parts : (p : Place) (b : ℕ) (x : CoreChannel) (h : Hand) (left : List ℕ)
    → ((swept_to p b x h left).0.last_part ≡ x.last_part) × ((swept_to p b x h left).0.confirmed ≡ x.confirmed)
    × ((swept_to p b x h left).1.opened ≡ h.opened)
swept_parts p b x h [] = (refl, refl, refl)
swept_parts p b x h (i ∷ left) = (refl, refl, refl)

abbrev pub SameCounts : CoreChannel → CoreChannel → Type 0
SameCounts x y = (y.last_part ≡ x.last_part) × (y.confirmed ≡ x.confirmed)

visit_step : (i : ℕ) (x : CoreChannel) → SameCounts x (visited i x)
visit_step i x = elim (has i x.marked) as (λ b. SameCounts x (cond b x (record x { table = without i x.table }))) [
  | true ↦ (refl, refl)
  | false ↦
      (refl, refl)
]

pub visit_parts : (xs : List ℕ) (x : CoreChannel) (left : List ℕ) → SameCounts x (visit xs (x, left)).0
visit_parts [] x left = (refl, refl)
visit_parts (i ∷ xs) x left = let y : CoreChannel = visited i x in let s = visit_step i x in let t = visit_parts xs y (remove i left) in
    (t.0 ∙ s.0, t.1 ∙ s.1)

pub part_parts : (xs : List ℕ) (ph : Phase) (r : CoreChannel × Hand)
    → ((part_marked xs ph r).0.last_part ≡ r.0.last_part) × ((part_marked xs ph r).0.confirmed ≡ r.0.confirmed)
    × ((part_marked xs ph r).1.opened ≡ r.1.opened)
part_parts xs (Idle b) r = (refl, refl, refl)
part_parts xs (Marking b) r = elim (r.1.closed_seen && nat_eq r.1.cycle_seen b) as
    (λ t. let q : CoreChannel × Hand = cond {A = CoreChannel × Hand} t (marked_all xs r) (greyed_all xs r) in
    (q.0.last_part ≡ r.0.last_part) × (q.0.confirmed ≡ r.0.confirmed) × (q.1.opened ≡ r.1.opened)) [
      | true ↦ (refl, refl, refl)
      | false ↦ (refl, refl, refl)
    ]
part_parts xs (Sweeping b left) r = (refl, refl, refl)

some_is : {A : Type 0} (o : Option A) → is_some o ≡ true → (x : A) × (o ≡ Some x)
some_is None e = cc
some_is (Some x) e = (x, refl)

none_is : {A : Type 0} (o : Option A) → is_some o ≡ false → o ≡ None
none_is None e = refl
none_is (Some x) e = cc

-- only actor 0 has an open store
pub opened_by : (c : Core) (a : ℕ) (o : OpenStore) → BookFits c → (hand_at c.hands a).opened ≡ Some o → a ≡ 0
opened_by c a o fits is = ⊎_elim (λ e. e) (λ n. let t = fits.no_other a n in cc) (cases_eq a 0)

-- a part is taken by actor 0, whose hand then has the channel
takes_book : (c : Core) (k : ℕ) (y : CoreChannel) (h : Hand) (o : OpenStore) → k < length c.channels → 0 < length c.hands → BookFits c
    → (hand_at c.hands 0).opened ≡ Some o → (channel_at c.channels k).last_part < o.number
    → y.last_part ≡ o.number → h.opened ≡ Some (record o { written = add k o.written }) → BookFits record {
      channels = set c.channels k y;
      monitor = c.monitor;
      hands = set c.hands 0 h;
      book = c.book;
    }
takes_book c k y h o here mine fits is next last mineo = let new : hand_at (set c.hands 0 h) 0 ≡ h = get_or-set_same c.hands 0 h new_hand mine in
    let op : (hand_at (set c.hands 0 h) 0).opened ≡ Some (record o { written = add k o.written }) = ap (λ (g : Hand). g.opened) new ∙ mineo in
    let num = fits.number o is in let was : written c ≡ o.written = ap written_of is in
    let now : written_of (hand_at (set c.hands 0 h) 0).opened ≡ add k o.written = ap written_of op in record {
      begun = fits.begun;
      in_hand = ap (λ (q : Option OpenStore). is_some q) op ∙ (sym (ap (λ (q : Option OpenStore). is_some q) is) ∙ fits.in_hand);
      number = λ q e. let s : record o { written = add k o.written } ≡ q = cc in ap (λ (z : OpenStore). z.number) (sym s) ∙ num;
      no_other = λ a n. ap (λ (g : Hand). g.opened) (get_or-set_other c.hands 0 a h new_hand n) ∙ fits.no_other a n;
      part_taken = λ j b w. let in' : has j (add k o.written) ≡ true = subst (λ (ws : List ℕ). has j ws ≡ true) now w in ⊎_elim
          (λ e. subst (λ (i : ℕ). (channel_at (set c.channels k y) i).last_part ≡ c.monitor.stores_begun) (sym e)
          (ap (λ (z : CoreChannel). z.last_part) (get_or-set_same c.channels k y no_channel here) ∙ (last ∙ num)))
          (λ n. let older : has j o.written ≡ true = sym (has_add j k o.written ∙ ap (λ (t : Bool). t || has j o.written) (ne_eqb j k n)) ∙ in' in
          ap (λ (z : CoreChannel). z.last_part) (get_or-set_other c.channels k j y no_channel n)
          ∙ fits.part_taken j (subst (λ (i : ℕ). j < i) (length-set c.channels k y) b) (subst (λ (ws : List ℕ). has j ws ≡ true) (sym was) older))
          (cases_eq j k);
      part_due = λ j b w. let in' : has j (add k o.written) ≡ false = subst (λ (ws : List ℕ). has j ws ≡ false) now w in ⊎_elim
          (λ e. let t : has j (add k o.written) ≡ true = has_add j k o.written ∙ ap (λ (z : Bool). z || has j o.written) (eq-eqb j k e) in cc)
          (λ n. let older : has j o.written ≡ false = sym (has_add j k o.written ∙ ap (λ (t : Bool). t || has j o.written) (ne_eqb j k n)) ∙ in' in
          subst (λ (z : CoreChannel). z.last_part ≤ c.monitor.stores_ended) (sym (get_or-set_other c.channels k j y no_channel n))
          (fits.part_due j (subst (λ (i : ℕ). j < i) (length-set c.channels k y) b) (subst (λ (ws : List ℕ). has j ws ≡ false) (sym was) older)))
          (cases_eq j k);
      part_last = λ f j b w. let in' : has j (add k o.written) ≡ false = subst (λ (ws : List ℕ). has j ws ≡ false) now w in ⊎_elim
          (λ e. let t : has j (add k o.written) ≡ true = has_add j k o.written ∙ ap (λ (z : Bool). z || has j o.written) (eq-eqb j k e) in cc)
          (λ n. let older : has j o.written ≡ false = sym (has_add j k o.written ∙ ap (λ (t : Bool). t || has j o.written) (ne_eqb j k n)) ∙ in' in
          ap (λ (z : CoreChannel). z.last_part) (get_or-set_other c.channels k j y no_channel n)
          ∙ fits.part_last f j (subst (λ (i : ℕ). j < i) (length-set c.channels k y) b) (subst (λ (ws : List ℕ). has j ws ≡ false) (sym was) older))
          (cases_eq j k);
      channels = λ q e. let s : record o { written = add k o.written } ≡ q = cc in
          ap (λ (z : OpenStore). z.channels) (sym s) ∙ (fits.channels o is
          ∙ ap (λ (n : ℕ). store_channels c.monitor.format n (open_records c.book)) (sym (length-set c.channels k y)));
    }

-- an event other than StorePart
other_book : (c : Core) (a k : ℕ) (y : CoreChannel) (h : Hand) → BookFits c → y.last_part ≡ (channel_at c.channels k).last_part
    → h.opened ≡ (hand_at c.hands a).opened → BookFits record {
      channels = set c.channels k y;
      monitor = c.monitor;
      hands = set c.hands a h;
      book = c.book;
    }
other_book c a k y h fits last opened = book_stays c (set c.channels k y) c.monitor (set c.hands a h) record {
  many = length-set c.channels k y;
  parts = both_set (λ (j : ℕ) (x z : CoreChannel). z.last_part ≡ x.last_part) c.channels k y no_channel last (λ j. refl);
  begun = refl;
  ended = refl;
  format = refl;
  opened = both_set (λ (b : ℕ) (x z : Hand). z.opened ≡ x.opened) c.hands a h new_hand opened (λ b. refl);
} fits

book_move : (c : Core) (a k : ℕ) (e : Event) (y : CoreChannel) (h : Hand) → BookFits c → k < length c.channels → a < length c.hands
    → ChannelMove (place_of c k) (channel_at c.channels k) (hand_at c.hands a) e y h → BookFits (changed c a k (Channel y) h e)
book_move c a k e y h fits here mine (begins b i s l) = other_book c a k y h fits refl refl
book_move c a k e y h fits here mine (marks b xs z g i m) = let o = mark_only (place_of c k) xs (channel_at c.channels k, hand_at c.hands a) (z, g) m in
    other_book c a k z g fits o.last_part o.opened
book_move c a k e y h fits here mine (delivers b xs z g i m) = let o = deliver_only (place_of c k) xs (channel_at c.channels k, hand_at c.hands a)
    (z, g) m in other_book c a k z g fits o.last_part o.opened
book_move c a k e y h fits here mine (sweeps b left xs f s t) = let x = channel_at c.channels k in let v = visit_parts xs x left in
    let w = swept_parts (place_of c k) b (visit xs (x, left)).0 (hand_at c.hands a) (visit xs (x, left)).1 in other_book c a k y h fits (w.0 ∙ v.0) w.2
book_move c a k e y h fits here mine (takes o i n l d r) = let z = opened_by c a o fits i in
    let q = part_parts (ids (place_of c k).records) (channel_at c.channels k).phase
    (part_taken (place_of c k) o.number (channel_at c.channels k), part_given (place_of c k) o (hand_at c.hands a)) in
    subst (λ (b : ℕ). BookFits record { channels = set c.channels k y; monitor = c.monitor; hands = set c.hands b h; book = c.book }) (sym z)
    (takes_book c k y h o here (subst (λ (b : ℕ). b < length c.hands) z mine) fits (subst (λ (b : ℕ). (hand_at c.hands b).opened ≡ Some o) z i) l q.0 q.2)
book_move c a k e y h fits here mine (confirms l) = other_book c a k y h fits refl refl
book_move c a k e y h fits here mine (pins i l p m) = other_book c a k y h fits refl refl
book_move c a k e y h fits here mine (pins_white i l p m) = other_book c a k y h fits refl refl
book_move c a k e y h fits here mine (unpins i) = other_book c a k y h fits refl refl
book_move c a k e y h fits here mine (tidies l) = other_book c a k y h fits refl refl

pub book_channel : (c : Core) (a k : ℕ) (e : Event) (y : CoreChannel) (h : Hand) → BookFits c → ChannelEvent c a k e y h
    → BookFits (changed c a k (Channel y) h e)
book_channel c a k e y h fits ev = book_move c a k e y h fits ev.here ev.mine
    (channel_move (place_of c k) (channel_at c.channels k) (hand_at c.hands a) e (y, h) ev.made)

-- an event of the monitor that begins and ends no store
other_monitor : (c : Core) (a : ℕ) (m : CoreMonitor) (h : Hand) → BookFits c → m.stores_begun ≡ c.monitor.stores_begun
    → m.stores_ended ≡ c.monitor.stores_ended → m.format ≡ c.monitor.format → h.opened ≡ (hand_at c.hands a).opened → BookFits record {
      channels = c.channels;
      monitor = m;
      hands = set c.hands a h;
      book = c.book;
    }
other_monitor c a m h fits begun ended format opened = book_stays c c.channels m (set c.hands a h) record {
  many = refl;
  parts = λ j. refl;
  begun = begun;
  ended = ended;
  format = format;
  opened = both_set (λ (b : ℕ) (x z : Hand). z.opened ≡ x.opened) c.hands a h new_hand opened (λ b. refl);
} fits

-- no store is open where as many began as ended
pub none_open : (c : Core) → BookFits c → c.monitor.stores_begun ≡ c.monitor.stores_ended → c.book.opened ≡ None
none_open c fits same = by c.book.opened fits.begun
  where
    by : (o : Option StoreOp) → c.monitor.stores_begun ≡ c.monitor.stores_ended + one_if (is_some o) → o ≡ None
    by None e = refl
    by (Some op) e = absurd (omega arith)

pub no_hand_open : (c : Core) → BookFits c → c.book.opened ≡ None → (hand_at c.hands 0).opened ≡ None
no_hand_open c fits none = none_is (hand_at c.hands 0).opened (fits.in_hand ∙ ap (λ (o : Option StoreOp). is_some o) none)

-- the channels of a store: those that a listed id belongs to, and in format 1 all
range_has : (a n j : ℕ) → a ≤ j → j < a + n → has j (range_with_len a n) ≡ true
range_has a zero j l h = absurd (omega arith)
range_has a (suc n) j l h = ⊎_elim (λ s. or_left (nat_eq j a) (has j (range_with_len (a + 1) n)) (eq-eqb j a s))
    (λ s. or_right (nat_eq j a) (has j (range_with_len (a + 1) n)) (range_has (a + 1) n j (above a j l s) (omega arith))) (cases_eq j a)
  where
    above : (a j : ℕ) → a ≤ j → (j ≡ a → ⊥) → a + 1 ≤ j
    above a j l d = omega arith

any_home : (n : ℕ) (rs : List Record) (x : ℕ) → lists rs x ≡ true → has_part n rs (home n x) ≡ true
any_home n [] x l = cc
any_home n (r ∷ rs) x l =
    (elim (nat_eq x r.id) as (λ b. nat_eq x r.id ≡ b → is_some (cond b (Some r.entity) (entity_of rs x)) ≡ true
    → (is_home n (home n x) r.id || has_part n rs (home n x)) ≡ true) [
      | true ↦ λ e l. or_left (is_home n (home n x) r.id) (has_part n rs (home n x)) (eq-eqb (home n r.id) (home n x) (ap (home n) (sym (eqb-true x r.id e))))
      | false ↦ λ e l. or_right (is_home n (home n x) r.id) (has_part n rs (home n x)) (any_home n rs x l)
    ]) refl l

store_has : (format n : ℕ) (rs : List Record) (x : ℕ) → 0 < n → lists rs x ≡ true → has (home n x) (store_channels format n rs) ≡ true
store_has format n rs x s l = filter_keeps (λ (j : ℕ). nat_eq format 1 || has_part n rs j) (range_with_len 0 n) (home n x)
    (or_right (nat_eq format 1) (has_part n rs (home n x)) (any_home n rs x l))
    (range_has 0 n (home n x) (omega arith) (let b = home_below n x s in omega arith))

store_has_all : (format n : ℕ) (rs : List Record) (j : ℕ) → format ≡ 1 → j < n → has j (store_channels format n rs) ≡ true
store_has_all format n rs j f l = filter_keeps (λ (j : ℕ). nat_eq format 1 || has_part n rs j) (range_with_len 0 n) j
    (or_left (nat_eq format 1) (has_part n rs j) (eq-eqb format 1 f)) (range_has 0 n j (omega arith) (omega arith))

begins_book : (c : Core) (m : CoreMonitor) (h : Hand) (op : StoreOp) → 0 < length c.hands → 0 < length c.channels → length m.begun ≡ length c.channels
    → BookFits c → c.monitor.stores_begun ≡ c.monitor.stores_ended → m.stores_begun ≡ c.monitor.stores_begun + 1 → m.stores_ended ≡ c.monitor.stores_ended
    → m.format ≡ c.monitor.format
    → h.opened ≡ Some (record { number = m.stores_begun; channels = store_channels m.format (length m.begun) op.records; written = [] }) → BookFits record {
      channels = c.channels;
      monitor = m;
      hands = set c.hands 0 h;
      book = record c.book { opened = Some op };
    }
begins_book c m h op mine some_ many fits same begun ended format mineo = let new : hand_at
    (set c.hands 0 h) 0 ≡ h = get_or-set_same c.hands 0 h new_hand mine in
    let o : OpenStore = record { number = m.stores_begun; channels = store_channels m.format (length m.begun) op.records; written = [] } in
    let is : (hand_at (set c.hands 0 h) 0).opened ≡ Some o = ap (λ (g : Hand). g.opened) new ∙ mineo in
    let none = no_hand_open c fits (none_open c fits same) in let was : written c ≡ [] = ap written_of none in record {
      begun = omega arith;
      in_hand = ap (λ (q : Option OpenStore). is_some q) is;
      number = λ q e. let s : o ≡ q = cc in ap (λ (z : OpenStore). z.number) (sym s);
      no_other = λ a n. ap (λ (g : Hand). g.opened) (get_or-set_other c.hands 0 a h new_hand n) ∙ fits.no_other a n;
      part_taken = λ j b w. let t : has j [] ≡ true = subst (λ (q : Option OpenStore). has j (written_of q) ≡ true) is w in cc;
      part_due = λ j b w. let d = fits.part_due j b (subst (λ (ws : List ℕ). has j ws ≡ false) (sym was) refl) in omega arith;
      part_last = λ f j b w. fits.part_last (sym format ∙ f) j b (subst (λ (ws : List ℕ). has j ws ≡ false) (sym was) refl) ∙ sym ended;
      channels = λ q e. let s : o ≡ q = cc in ap (λ (z : OpenStore). z.channels) (sym s) ∙ ap (λ (n : ℕ). store_channels m.format n op.records) many;
    }

-- where the store may end, each channel of a listed id has its part
pub ending_written : (c : Core) (o : OpenStore) → 0 < length c.channels → BookFits c → (hand_at c.hands 0).opened ≡ Some o → is_complete o ≡ true → (x : ℕ)
    → lists (open_records c.book) x ≡ true → has (home (length c.channels) x) (written c) ≡ true
ending_written c o some_ fits is all x l = subst (λ (q : Option OpenStore). has (home (length c.channels) x) (written_of q) ≡ true) (sym is)
    (list_all_at (λ (j : ℕ). has j o.written) o.channels (home (length c.channels) x) all
    (ap (has (home (length c.channels) x)) (fits.channels o is) ∙ store_has c.monitor.format (length c.channels) (open_records c.book) x some_ l))

ends_book : (c : Core) (m : CoreMonitor) (h : Hand) (o : OpenStore) → 0 < length c.hands → m.format ≡ c.monitor.format → BookFits c
    → (hand_at c.hands 0).opened ≡ Some o → is_complete o ≡ true
    → m.stores_begun ≡ c.monitor.stores_begun → m.stores_ended ≡ c.monitor.stores_ended + 1 → h.opened ≡ None → (q : Option StoreOp) → c.book.opened ≡ q
    → BookFits record {
      channels = c.channels;
      monitor = m;
      hands = set c.hands 0 h;
      book = end_in c.book q;
    }
ends_book c m h o mine format fits is all begun ended mineo None isq = let t = fits.in_hand in
    let u : is_some (hand_at c.hands 0).opened ≡ true = ap (λ (q : Option OpenStore). is_some q) is in
    let v : is_some c.book.opened ≡ false = ap (λ (q : Option StoreOp). is_some q) isq in cc
ends_book c m h o mine format fits is all begun ended mineo (Some op) isq = let new : (hand_at (set c.hands 0 h) 0).opened ≡ None = ap
    (λ (g : Hand). g.opened) (get_or-set_same c.hands 0 h new_hand mine) ∙ mineo in
    let one : c.monitor.stores_begun ≡ c.monitor.stores_ended + 1 = fits.begun
    ∙ ap (λ (q : Option StoreOp). c.monitor.stores_ended + one_if (is_some q)) isq in record {
      begun = omega arith;
      in_hand = ap (λ (q : Option OpenStore). is_some q) new;
      number = λ q e. let t : None ≡ Some q = sym new ∙ e in cc;
      no_other = λ a n. ap (λ (g : Hand). g.opened) (get_or-set_other c.hands 0 a h new_hand n) ∙ fits.no_other a n;
      part_taken = λ j b w. let t : has j [] ≡ true = subst (λ (q : Option OpenStore). has j (written_of q) ≡ true) new w in cc;
      part_due = λ j b w. ⊎_elim (λ t. let p = fits.part_taken j b t in omega arith) (λ t. let p = fits.part_due j b t in omega arith)
          (cases_Bool (has j (written c)));
      part_last = λ f j b w. fits.part_taken j b (subst (λ (q : Option OpenStore). has j (written_of q) ≡ true) (sym is)
          (list_all_at (λ (i : ℕ). has i o.written) o.channels j all
          (ap (has j) (fits.channels o is) ∙ store_has_all c.monitor.format (length c.channels) (open_records c.book) j (sym format ∙ f) b)))
          ∙ (one ∙ sym ended);
      channels = λ q e. let t : None ≡ Some q = sym new ∙ e in cc;
    }

store_monitor : (c : Core) (a : ℕ) (e : Event) (m : CoreMonitor) (h : Hand) → BookFits c → 0 < length c.channels
    → length c.monitor.begun ≡ length c.channels → MonitorEvent c a e m h → MonitorMove c.monitor (hand_at c.hands a) e m h → (k : ℕ)
    → BookFits (changed c a k (Monitor m) h e)
store_monitor c a e m h fits some_ many ev (reserves i l) k = other_monitor c a m h fits refl refl refl refl
store_monitor c a e m h fits some_ many ev (returns i l) k = other_monitor c a m h fits refl refl refl refl
store_monitor c a e m h fits some_ many ev (begins_cycle t s) k = other_monitor c a m h fits refl refl refl refl
store_monitor c a e m h fits some_ many ev (reports_begun j r) k = other_monitor c a m h fits refl refl refl refl
store_monitor c a e m h fits some_ many ev (closes o p s b) k = other_monitor c a m h fits refl refl refl refl
store_monitor c a e m h fits some_ many ev (reports_swept j r) k = other_monitor c a m h fits refl refl refl refl
store_monitor c a e m h fits some_ many ev (begins_store op s) k = let z = eqb-true a 0
    (and_parts (nat_eq a 0) (is_valid_store (graph c.book) (held c.channels) (next_before c.book) op) ev.may).0 in
    subst (λ (b : ℕ). BookFits record { channels = c.channels; monitor = m; hands = set c.hands b h; book = record c.book { opened = Some op } }) (sym z)
    (begins_book c m h op (subst (λ (b : ℕ). b < length c.hands) z ev.mine) some_ many fits s refl refl refl refl)
store_monitor c a e m h fits some_ many ev (ends_store o i s) k = let z = opened_by c a o fits i in
    subst (λ (b : ℕ). BookFits record { channels = c.channels; monitor = m; hands = set c.hands b h; book = end_in c.book c.book.opened }) (sym z)
    (ends_book c m h o (subst (λ (b : ℕ). b < length c.hands) z ev.mine) refl fits
    (subst (λ (b : ℕ). (hand_at c.hands b).opened ≡ Some o) z i) s refl refl refl c.book.opened refl)

pub book_monitor : (c : Core) (a k : ℕ) (e : Event) (m : CoreMonitor) (h : Hand) → BookFits c → 0 < length c.channels
    → length c.monitor.begun ≡ length c.channels → MonitorEvent c a e m h → BookFits (changed c a k (Monitor m) h e)
book_monitor c a k e m h fits some_ many ev = store_monitor c a e m h fits some_ many ev (monitor_move c.monitor (hand_at c.hands a) e (m, h) ev.made) k
