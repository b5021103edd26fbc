-- Tables go on to show the graph and the open store, each id at its channel.
use Rattle.std.proofs.Common.{◌≡◌, ℕ, ◌<◌, Bool, true, false, cond, not, ◌||◌, ◌&&◌, List, [], ◌∷◌, length, set, length-set, Option, Some, None, refl, sym, ap, ◌∙◌, subst, ⊎_elim}
use Rattle.std.specs.Prelude.{nat_eq, is_some}
use Rattle.std.proofs.lemmas.Bool.{eqb-true, eq-eqb, ne_eqb, cases_eq, cases_lt, and_parts, or_cases, or_left}
use Rattle.std.proofs.lemmas.List.{get_or-set_same, get_or-set_other, get_or_past}
use Rattle.graph_model.specs.Graph.{Graph, entity_of, ids, lists, or_else, put_all, without}
use Rattle.graph_model.specs.Ids.{add, add_all, has, remove}
use Rattle.graph_model.specs.Stores.{is_valid_store}
use Rattle.graph_model.specs.declared.entity.Entity.{Entity}
use Rattle.graph_model.specs.declared.entity.StoreOp.{StoreOp}
use Rattle.graph_model.proofs.Graphs.{after_append, entity_of_filter, entity_of_put_all, has_ids, lists_put_all}
use Rattle.graph_model.proofs.IdSets.{had_before, has_add, has_add_all}
use Rattle.core_steps.specs.Core.{Book, Core, CoreChannel, CoreMonitor, Hand, Idle, Marking, OpenStore, Phase, Sweeping, channel_at, graph, hand_at, held, home, is_home, new_hand, next_before, no_channel, open_records, records_of, written_of}
use Rattle.core_steps.specs.Events.{Event}
use Rattle.core_steps.specs.Good.{BookFits, ContentFits, channel_of, shown, written}
use Rattle.core_steps.specs.Rows.{Channel, Monitor, Place, part_marked, part_taken, swept_to, visit, part_given, marked_all, visited, greyed_all}
use Rattle.core_steps.specs.Steps.{changed, end_in, place_of}
use Rattle.core_steps.proofs.Books.{ending_written, none_open, opened_by, swept_parts}
use Rattle.core_steps.proofs.Glue.{ChannelEvent, MonitorEvent}
use Rattle.core_steps.proofs.Lists.{both_set, each_set}
use Rattle.core_steps.proofs.Marked.{deliver_only, mark_only}
use Rattle.core_steps.proofs.Moves.{ChannelMove, MonitorMove, begins, begins_cycle, begins_store, channel_move, closes, confirms, delivers, ends_store, marks, monitor_move, pins, pins_white, reports_begun, reports_swept, reserves, returns, sweeps, takes, tidies, unpins}
use Rattle.core_steps.proofs.ValidStores.{some_entity, listed_well}

-- what is shown by a book, n channels and those that have their part
abbrev pub shown_by : Book → ℕ → List ℕ → ℕ → Option Entity
shown_by b n ws x = cond (lists (open_records b) x && has (home n x) ws) (entity_of (open_records b) x) (entity_of (graph b) x)

-- a table that shows no more than it did, each id as it was
abbrev pub ShowsLess : CoreChannel → CoreChannel → Type 0
ShowsLess x y = (i : ℕ) → lists y.table i ≡ true → (lists x.table i ≡ true) × (entity_of y.table i ≡ entity_of x.table i)

pub same_table : (x y : CoreChannel) → y.table ≡ x.table → ShowsLess x y
same_table x y e i l = (subst (λ (g : Graph). lists g i ≡ true) e l, ap (λ (g : Graph). entity_of g i) e)

pub content_stays : (c : Core) (a k : ℕ) (y : CoreChannel) (h : Hand) → ContentFits c → ShowsLess (channel_at c.channels k) y
    → ((i : ℕ) → k < length c.channels → has i y.pins ≡ true → home (length c.channels) i ≡ k) → h.opened ≡ (hand_at c.hands a).opened
    → ContentFits record { channels = set c.channels k y; monitor = c.monitor; hands = set c.hands a h; book = c.book }
content_stays c a k y h f less pinned opened = let many = length-set c.channels k y in
    let op = both_set (λ (b : ℕ) (x z : Hand). z.opened ≡ x.opened) c.hands a h new_hand opened (λ b. refl) in
    let ws : written_of (hand_at (set c.hands a h) 0).opened ≡ written c = ap written_of (op 0) in
    let sl = both_set (λ (j : ℕ) (x z : CoreChannel). ShowsLess x z) c.channels k y no_channel less (λ j i l. (l, refl)) in record {
      entity = λ i l. let t = sl (home (length c.channels) i) i (subst
          (λ (n : ℕ). lists (channel_at (set c.channels k y) (home n i)).table i ≡ true) many l) in
          ap (λ (n : ℕ). entity_of (channel_at (set c.channels k y) (home n i)).table i) many
          ∙ (t.1 ∙ (f.entity i t.0 ∙ (ap (λ (us : List ℕ). shown_by c.book (length c.channels) us i) (sym ws)
          ∙ ap (λ (n : ℕ). shown_by c.book n (written_of (hand_at (set c.hands a h) 0).opened) i) (sym many))));
      table_home = λ j i b l. subst (λ (n : ℕ). home n i ≡ j) (sym many) (f.table_home j i (subst (λ (n : ℕ). j < n) many b) (sl j i l).0);
      pins_home = λ j i b p. subst (λ (n : ℕ). home n i ≡ j) (sym many)
          (each_set (λ (j' : ℕ) (z : CoreChannel). j' < length c.channels → has i z.pins ≡ true → home (length c.channels) i ≡ j') c.channels k y no_channel
          (pinned i) (λ j' b' p'. f.pins_home j' i b' p') j (subst (λ (n : ℕ). j < n) many b) p);
      graph_ids = f.graph_ids;
      open_ids = f.open_ids;
    }

-- the part of a place has the open store's entities of its ids
pub part_entity : (c : Core) (k i : ℕ) → entity_of (place_of c k).records i ≡ cond (is_home (length c.channels) k i) (entity_of (open_records c.book) i) None
part_entity c k i = entity_of_filter (is_home (length c.channels) k) (open_records c.book) i

pub part_lists : (c : Core) (k i : ℕ) → lists (place_of c k).records i ≡ (is_home (length c.channels) k i && lists (open_records c.book) i)
part_lists c k i = ap (λ (o : Option Entity). is_some o) (part_entity c k i)
    ∙ (elim (is_home (length c.channels) k i) as (λ b. is_some (cond b (entity_of (open_records c.book) i) None) ≡
    (b && lists (open_records c.book) i)) [ true ↦ refl | false ↦ refl ])

pub part_home : (c : Core) (k i : ℕ) → lists (place_of c k).records i ≡ true → (home (length c.channels) i ≡ k) × (lists (open_records c.book) i ≡ true)
part_home c k i l = let t = and_parts (is_home (length c.channels) k i) (lists (open_records c.book) i) (sym (part_lists c k i) ∙ l) in
    (eqb-true (home (length c.channels) i) k t.0, t.1)

taken_shown : (open_ old g : Option Entity) (b was : Bool) → b ≡ true → is_some (or_else open_ old) ≡ true
    → (is_some old ≡ true → old ≡ cond (is_some open_ && was) open_ g) → or_else open_ old ≡ cond (is_some open_ && b) open_ g
taken_shown None old g b was t l f = f l
taken_shown (Some e) old g b was t l f = ap (λ (t : Bool). cond t (Some e) g) (sym t)

-- a channel that took its part
pub record Took (c : Core) (k : ℕ) (o : OpenStore) (y : CoreChannel) (h : Hand) : Type 0 where
  pub here : k < length c.channels
  pub mine : 0 < length c.hands
  pub was : (hand_at c.hands 0).opened ≡ Some o
  pub table : y.table ≡ put_all (place_of c k).records (channel_at c.channels k).table
  pub pins : y.pins ≡ add_all (ids (place_of c k).records) (channel_at c.channels k).pins
  pub opened : h.opened ≡ Some (record o { written = add k o.written })

abbrev pub after_taking : Core → ℕ → CoreChannel → Hand → Core
after_taking c k y h = record { channels = set c.channels k y; monitor = c.monitor; hands = set c.hands 0 h; book = c.book }

pub taken_written : (c : Core) (k : ℕ) (o : OpenStore) (y : CoreChannel) (h : Hand) → Took c k o y h → written (after_taking c k y h) ≡ add k (written c)
taken_written c k o y h t = ap (λ (g : Hand). written_of g.opened) (get_or-set_same c.hands 0 h new_hand t.mine)
    ∙ (ap written_of t.opened ∙ ap (λ (q : Option OpenStore). add k (written_of q)) (sym t.was))

pub taken_table : (c : Core) (k : ℕ) (o : OpenStore) (y : CoreChannel) (h : Hand) → Took c k o y h → (i : ℕ) → home (length c.channels) i ≡ k
    → entity_of y.table i ≡ or_else (entity_of (open_records c.book) i) (entity_of (channel_at c.channels k).table i)
taken_table c k o y h t i at = ap (λ (g : Graph). entity_of g i) t.table
    ∙ (entity_of_put_all (place_of c k).records (channel_at c.channels k).table i
    ∙ ap (λ (e : Option Entity). or_else e (entity_of (channel_at c.channels k).table i))
    (part_entity c k i ∙ ap (λ (b : Bool). cond b (entity_of (open_records c.book) i) None) (eq-eqb (home (length c.channels) i) k at)))

taken_entity : (c : Core) (k : ℕ) (o : OpenStore) (y : CoreChannel) (h : Hand) → ContentFits c → Took c k o y h → (i : ℕ)
    → lists (channel_at (set c.channels k y) (home (length c.channels) i)).table i ≡ true
    → entity_of (channel_at (set c.channels k y) (home (length c.channels) i)).table i ≡ shown_by c.book (length c.channels) (add k (written c)) i
taken_entity c k o y h f t i l = let n = length c.channels in let j = home n i in let x = channel_at c.channels k in ⊎_elim
    (λ at. let new : channel_at (set c.channels k y) j ≡ y = ap (λ (m : ℕ). channel_at (set c.channels k y) m) at
    ∙ get_or-set_same c.channels k y no_channel t.here in
    let tab = taken_table c k o y h t i at in
    let mem : has j (add k (written c)) ≡ true = has_add j k (written c) ∙ or_left (nat_eq j k) (has j (written c)) (eq-eqb j k at) in
    ap (λ (z : CoreChannel). entity_of z.table i) new ∙ (tab ∙ taken_shown (entity_of (open_records c.book) i) (entity_of x.table i)
    (entity_of (graph c.book) i) (has j (add k (written c))) (has j (written c)) mem
    (ap (λ (e : Option Entity). is_some e) (sym tab) ∙ (ap (λ (z : CoreChannel). lists z.table i) (sym new) ∙ l))
    (subst (λ (m : ℕ). lists (channel_at c.channels m).table i ≡ true → entity_of (channel_at c.channels m).table i ≡ shown c i) at (f.entity i))))
    (λ n'. let old : channel_at (set c.channels k y) j ≡ channel_at c.channels j = get_or-set_other c.channels k j y no_channel n' in
    ap (λ (z : CoreChannel). entity_of z.table i) old ∙ (f.entity i (ap (λ (z : CoreChannel). lists z.table i) (sym old) ∙ l)
    ∙ ap (λ (b : Bool). cond (lists (open_records c.book) i && b) (entity_of (open_records c.book) i) (entity_of (graph c.book) i))
    (sym (has_add j k (written c) ∙ ap (λ (b : Bool). b || has j (written c)) (ne_eqb j k n')))))
    (cases_eq j k)

pub content_taken : (c : Core) (k : ℕ) (o : OpenStore) (y : CoreChannel) (h : Hand) → ContentFits c → Took c k o y h → ContentFits (after_taking c k y h)
content_taken c k o y h f t = let many = length-set c.channels k y in let n = length c.channels in let x = channel_at c.channels k in
    let ws = taken_written c k o y h t in record {
      entity = λ i l. ap (λ (m : ℕ). entity_of (channel_at (set c.channels k y) (home m i)).table i) many
          ∙ (taken_entity c k o y h f t i (subst (λ (m : ℕ). lists (channel_at (set c.channels k y) (home m i)).table i ≡ true) many l)
          ∙ (ap (λ (us : List ℕ). shown_by c.book n us i) (sym ws) ∙ ap (λ (m : ℕ). shown_by c.book m (written (after_taking c k y h)) i) (sym many)));
      table_home = λ j i b l. subst (λ (m : ℕ). home m i ≡ j) (sym many)
          (each_set (λ (j' : ℕ) (z : CoreChannel). j' < n → lists z.table i ≡ true → home n i ≡ j') c.channels k y no_channel
          (λ b' l'. ⊎_elim (λ p. (part_home c k i p).0) (λ p. f.table_home k i t.here p)
          (or_cases (lists (place_of c k).records i) (lists x.table i)
          (sym (lists_put_all (place_of c k).records x.table i) ∙ (ap (λ (g : Graph). lists g i) (sym t.table) ∙ l'))))
          (λ j' b' l'. f.table_home j' i b' l') j (subst (λ (m : ℕ). j < m) many b) l);
      pins_home = λ j i b p. subst (λ (m : ℕ). home m i ≡ j) (sym many)
          (each_set (λ (j' : ℕ) (z : CoreChannel). j' < n → has i z.pins ≡ true → home n i ≡ j') c.channels k y no_channel
          (λ b' p'. ⊎_elim (λ q. (part_home c k i (sym (has_ids (place_of c k).records i) ∙ q)).0) (λ q. f.pins_home k i t.here q)
          (or_cases (has i (ids (place_of c k).records)) (has i x.pins)
          (sym (has_add_all i (ids (place_of c k).records) x.pins) ∙ (ap (has i) (sym t.pins) ∙ p'))))
          (λ j' b' p'. f.pins_home j' i b' p') j (subst (λ (m : ℕ). j < m) many b) p);
      graph_ids = f.graph_ids;
      open_ids = f.open_ids;
    }

pub part_table : (xs : List ℕ) (ph : Phase) (r : CoreChannel × Hand)
    → ((part_marked xs ph r).0.table ≡ r.0.table) × ((part_marked xs ph r).0.pins ≡ r.0.pins) × ((part_marked xs ph r).1.opened ≡ r.1.opened)
    × ((part_marked xs ph r).1.transit ≡ r.1.transit)
part_table xs (Idle b) r = (refl, refl, refl, refl)
part_table xs (Marking b) r = elim (r.1.closed_seen && nat_eq r.1.cycle_seen b) as
    (λ t. let q : CoreChannel × Hand = cond {A = CoreChannel × Hand} t (marked_all xs r) (greyed_all xs r) in
    (q.0.table ≡ r.0.table) × (q.0.pins ≡ r.0.pins) × (q.1.opened ≡ r.1.opened) × (q.1.transit ≡ r.1.transit)) [
      | true ↦ (refl, refl, refl, refl)
      | false ↦ (refl, refl, refl, refl)
    ]
part_table xs (Sweeping b left) r = (refl, refl, refl, refl)

-- what StorePart leaves, of whatever actor: it is actor 0
pub part_took : (c : Core) (a k : ℕ) (o : OpenStore) → BookFits c → k < length c.channels → a < length c.hands → (hand_at c.hands a).opened ≡ Some o
    → (a ≡ 0) × Took c k o (part_marked (ids (place_of c k).records) (channel_at c.channels k).phase
    (part_taken (place_of c k) o.number (channel_at c.channels k), part_given (place_of c k) o (hand_at c.hands a))).0
    (part_marked (ids (place_of c k).records) (channel_at c.channels k).phase
    (part_taken (place_of c k) o.number (channel_at c.channels k), part_given (place_of c k) o (hand_at c.hands a))).1
part_took c a k o fits here mine i = let z = opened_by c a o fits i in
    let q = part_table (ids (place_of c k).records) (channel_at c.channels k).phase
    (part_taken (place_of c k) o.number (channel_at c.channels k), part_given (place_of c k) o (hand_at c.hands a)) in (
      z,
      record {
        here = here;
        mine = subst (λ (b : ℕ). b < length c.hands) z mine;
        was = subst (λ (b : ℕ). (hand_at c.hands b).opened ≡ Some o) z i;
        table = q.0;
        pins = q.1;
        opened = q.2;
      },
    )

pub swept_table : (p : Place) (b : ℕ) (x : CoreChannel) (h : Hand) (left : List ℕ)
    → ((swept_to p b x h left).0.table ≡ x.table) × ((swept_to p b x h left).0.pins ≡ x.pins)
swept_table p b x h [] = (refl, refl)
swept_table p b x h (i ∷ left) = (refl, refl)

visited_less : (i : ℕ) (x : CoreChannel) → ShowsLess x (visited i x) × ((visited i x).pins ≡ x.pins)
visited_less i x = elim (has i x.marked) as (λ b. ShowsLess x (cond b x (record x { table = without i x.table }))
    × ((cond b x (record x { table = without i x.table })).pins ≡ x.pins)) [
      | true ↦ (λ j l. (l, refl), refl)
      | false ↦ (
        λ j l. let e = entity_of_filter (λ (n : ℕ). not (nat_eq n i)) x.table j in
            kept_one (not (nat_eq j i)) (entity_of x.table j) (entity_of (without i x.table) j) e l,
        refl,
      )
    ]
  where
    kept_one : (b : Bool) (old new : Option Entity) → new ≡ cond b old None → is_some new ≡ true → (is_some old ≡ true) × (new ≡ old)
    kept_one true old new e l = (ap (λ (o : Option Entity). is_some o) (sym e) ∙ l, e)
    kept_one false old new e l = let t : is_some new ≡ false = ap (λ (o : Option Entity). is_some o) e in cc

pub visits_less : (xs : List ℕ) (x : CoreChannel) (left : List ℕ) → ShowsLess x (visit xs (x, left)).0 × ((visit xs (x, left)).0.pins ≡ x.pins)
visits_less [] x left = (λ j l. (l, refl), refl)
visits_less (i ∷ xs) x left = let s = visited_less i x in let t = visits_less xs (visited i x) (remove i left) in
    (λ j l. let u = t.0 j l in let v = s.0 j u.0 in (v.0, u.1 ∙ v.1), t.1 ∙ s.1)

-- a new pin is of this channel too
pin_home : (c : Core) (k i j : ℕ) → ContentFits c → k < length c.channels → lists (channel_at c.channels k).table i ≡ true
    → has j (add i (channel_at c.channels k).pins) ≡ true → home (length c.channels) j ≡ k
pin_home c k i j f b l q = ⊎_elim (λ s. subst (λ (m : ℕ). home (length c.channels) m ≡ k) (sym (eqb-true j i s)) (f.table_home k i b l))
    (λ s. f.pins_home k j b s) (or_cases (nat_eq j i) (has j (channel_at c.channels k).pins) (sym (has_add j i (channel_at c.channels k).pins) ∙ q))

content_move : (c : Core) (a k : ℕ) (e : Event) (y : CoreChannel) (h : Hand) → BookFits c → ContentFits c → k < length c.channels → a < length c.hands
    → ChannelMove (place_of c k) (channel_at c.channels k) (hand_at c.hands a) e y h → ContentFits (changed c a k (Channel y) h e)
content_move c a k e y h fits f here mine (begins b i s l) = content_stays c a k y h f (λ j l. (l, refl)) (λ j b p. f.pins_home k j b p) refl
content_move c a k e y h fits f here mine (marks b xs z g i m) = let o = mark_only (place_of c k) xs (channel_at c.channels k, hand_at c.hands a)
    (z, g) m in content_stays c a k z g f (same_table (channel_at c.channels k) z o.table) (λ j b p. f.pins_home k j b (ap (has j) (sym o.pins) ∙ p)) o.opened
content_move c a k e y h fits f here mine (delivers b xs z g i m) = let o = deliver_only (place_of c k) xs (channel_at c.channels k, hand_at c.hands a)
    (z, g) m in content_stays c a k z g f (same_table (channel_at c.channels k) z o.table) (λ j b p. f.pins_home k j b (ap (has j) (sym o.pins) ∙ p)) o.opened
content_move c a k e y h fits f here mine (sweeps b left xs r s t) = let x = channel_at c.channels k in let v = visits_less xs x left in
    let w = swept_table (place_of c k) b (visit xs (x, left)).0 (hand_at c.hands a) (visit xs (x, left)).1 in
    content_stays c a k y h f (λ j l. let u = v.0 j (subst (λ (g : Graph). lists g j ≡ true) w.0 l) in (u.0, ap (λ (g : Graph). entity_of g j) w.0 ∙ u.1))
    (λ j b p. f.pins_home k j b (ap (has j) (sym v.1) ∙ (ap (has j) (sym w.1) ∙ p)))
    (swept_parts (place_of c k) b (visit xs (x, left)).0 (hand_at c.hands a) (visit xs (x, left)).1).2
content_move c a k e y h fits f here mine (takes o i n l d r) = let t = part_took c a k o fits here mine i in
    subst (λ (b : ℕ). ContentFits record { channels = set c.channels k y; monitor = c.monitor; hands = set c.hands b h; book = c.book }) (sym t.0)
    (content_taken c k o y h f t.1)
content_move c a k e y h fits f here mine (confirms l) = content_stays c a k y h f (λ j l. (l, refl)) (λ j b p. f.pins_home k j b p) refl
content_move c a k e y h fits f here mine (pins i l p m) = content_stays c a k y h f (λ j l. (l, refl)) (λ j b q. pin_home c k i j f b l q) refl
content_move c a k e y h fits f here mine (pins_white i l p m) = content_stays c a k y h f (λ j l. (l, refl)) (λ j b q. pin_home c k i j f b l q) refl
content_move c a k e y h fits f here mine (unpins i) = content_stays c a k y h f (λ j l. (l, refl))
    (λ j b p. f.pins_home k j b (had_before j i (channel_at c.channels k).pins p)) refl
content_move c a k e y h fits f here mine (tidies l) = content_stays c a k y h f (λ j l. (l, refl)) (λ j b p. f.pins_home k j b p) refl

pub content_channel : (c : Core) (a k : ℕ) (e : Event) (y : CoreChannel) (h : Hand) → BookFits c → ContentFits c → ChannelEvent c a k e y h
    → ContentFits (changed c a k (Channel y) h e)
content_channel c a k e y h fits f ev = content_move c a k e y h fits f ev.here ev.mine
    (channel_move (place_of c k) (channel_at c.channels k) (hand_at c.hands a) e (y, h) ev.made)

-- THE MONITOR

content_led : (c : Core) (a : ℕ) (m : CoreMonitor) (h : Hand) → ContentFits c → h.opened ≡ (hand_at c.hands a).opened → ContentFits record {
  channels = c.channels;
  monitor = m;
  hands = set c.hands a h;
  book = c.book;
}
content_led c a m h f opened = let op = both_set (λ (b : ℕ) (x z : Hand). z.opened ≡ x.opened) c.hands a h new_hand opened (λ b. refl) in record {
  entity = λ i l. f.entity i l ∙ ap (λ (us : List ℕ). shown_by c.book (length c.channels) us i) (sym (ap written_of (op 0)));
  table_home = f.table_home;
  pins_home = f.pins_home;
  graph_ids = f.graph_ids;
  open_ids = f.open_ids;
}

-- before a store begins tables show the graph
pub shown_closed : (c : Core) → BookFits c → c.book.opened ≡ None → (i : ℕ) → shown c i ≡ entity_of (graph c.book) i
shown_closed c fits none i = ap (λ (o : Option StoreOp). cond (lists (records_of o) i && has (home (length c.channels) i) (written c))
    (entity_of (records_of o) i) (entity_of (graph c.book) i)) none

content_begins : (c : Core) (m : CoreMonitor) (h : Hand) (op : StoreOp) → 0 < length c.hands → BookFits c → ContentFits c → c.book.opened ≡ None
    → is_valid_store (graph c.book) (held c.channels) (next_before c.book) op ≡ true → written_of h.opened ≡ []
    → ContentFits record { channels = c.channels; monitor = m; hands = set c.hands 0 h; book = record c.book { opened = Some op } }
content_begins c m h op mine fits f none may opened = let ws : written_of (hand_at (set c.hands 0 h) 0).opened ≡ [] = ap (λ (g : Hand). written_of g.opened)
    (get_or-set_same c.hands 0 h new_hand mine) ∙ opened in record {
      entity = λ i l. f.entity i l ∙ (shown_closed c fits none i ∙ sym
          (ap (λ (us : List ℕ). cond (lists op.records i && has (home (length c.channels) i) us) (entity_of op.records i) (entity_of (graph c.book) i)) ws
          ∙ (elim (lists op.records i) as (λ b. cond (b && false) (entity_of op.records i) (entity_of (graph c.book) i) ≡ entity_of
          (graph c.book) i) [ true ↦ refl | false ↦ refl ])));
      table_home = f.table_home;
      pins_home = f.pins_home;
      graph_ids = f.graph_ids;
      open_ids = λ i l. let s = some_entity (entity_of op.records i) l in (listed_well (graph c.book) (held c.channels) (next_before c.book) op may i s.0 s.1).id;
    }

-- the graph after an ended store
pub ended_graph : (b : Book) (op : StoreOp) (i : ℕ) → entity_of (graph (end_in b (Some op))) i ≡ or_else (entity_of op.records i) (entity_of (graph b) i)
ended_graph b op i = ap (λ (g : Graph). entity_of g i) (after_append b.start b.ended op) ∙ entity_of_put_all op.records (graph b) i

pub ended_lists : (b : Book) (op : StoreOp) (i : ℕ) → lists (graph (end_in b (Some op))) i ≡ (lists op.records i || lists (graph b) i)
ended_lists b op i = ap (λ (g : Graph). lists g i) (after_append b.start b.ended op) ∙ lists_put_all op.records (graph b) i

-- with each part taken, the tables show the graph after the store
pub all_taken : (open_ g : Option Entity) (b : Bool) → (is_some open_ ≡ true → b ≡ true) → cond (is_some open_ && b) open_ g ≡ or_else open_ g
all_taken None g b t = refl
all_taken (Some e) g b t = ap (λ (s : Bool). cond s (Some e) g) (t refl)

content_ends : (c : Core) (m : CoreMonitor) (h : Hand) (op : StoreOp) → 0 < length c.hands → ContentFits c → c.book.opened ≡ Some op
    → ((i : ℕ) → lists (open_records c.book) i ≡ true → has (home (length c.channels) i) (written c) ≡ true) → written_of h.opened ≡ []
    → ContentFits record { channels = c.channels; monitor = m; hands = set c.hands 0 h; book = end_in c.book (Some op) }
content_ends c m h op mine f is all opened = record {
  entity = λ i l. f.entity i l ∙
      (ap (λ (o : Option StoreOp). cond (lists (records_of o) i && has (home (length c.channels) i) (written c)) (entity_of (records_of o) i)
      (entity_of (graph c.book) i)) is
      ∙ (all_taken (entity_of op.records i) (entity_of (graph c.book) i) (has (home (length c.channels) i) (written c))
      (λ o. all i (ap (λ (q : Option StoreOp). lists (records_of q) i) is ∙ o)) ∙ sym (ended_graph c.book op i)));
  table_home = f.table_home;
  pins_home = f.pins_home;
  graph_ids = λ i l. ⊎_elim (λ s. f.open_ids i (ap (λ (o : Option StoreOp). lists (records_of o) i) is ∙ s)) (λ s. f.graph_ids i s)
      (or_cases (lists op.records i) (lists (graph c.book) i) (sym (ended_lists c.book op i) ∙ l));
  open_ids = λ i l. cc;
}

some_op : (o : Option StoreOp) → is_some o ≡ true → (op : StoreOp) × (o ≡ Some op)
some_op None t = cc
some_op (Some op) t = (op, refl)

-- the store that ends, and that each channel has its part
pub ending_store : (c : Core) (o : OpenStore) → BookFits c → (hand_at c.hands 0).opened ≡ Some o → (op : StoreOp) × (c.book.opened ≡ Some op)
ending_store c o fits i = some_op c.book.opened (sym fits.in_hand ∙ ap (λ (q : Option OpenStore). is_some q) i)

-- an id of a table is at a channel
pub table_channel : (c : Core) (i : ℕ) → lists (channel_of c i).table i ≡ true → home (length c.channels) i < length c.channels
table_channel c i l = ⊎_elim (λ b. b) (λ b. let e : channel_of c i ≡ no_channel = get_or_past c.channels (home (length c.channels) i) no_channel b in
    let t : lists (channel_of c i).table i ≡ false = ap (λ (z : CoreChannel). lists z.table i) e in cc)
    (cases_lt (home (length c.channels) i) (length c.channels))

content_monitor_move : (c : Core) (a k : ℕ) (e : Event) (m : CoreMonitor) (h : Hand) → 0 < length c.channels → BookFits c → ContentFits c
    → MonitorEvent c a e m h → MonitorMove c.monitor (hand_at c.hands a) e m h → ContentFits (changed c a k (Monitor m) h e)
content_monitor_move c a k e m h some_ fits f ev (reserves i l) = content_led c a m h f refl
content_monitor_move c a k e m h some_ fits f ev (returns i l) = content_led c a m h f refl
content_monitor_move c a k e m h some_ fits f ev (begins_cycle t s) = content_led c a m h f refl
content_monitor_move c a k e m h some_ fits f ev (reports_begun j r) = content_led c a m h f refl
content_monitor_move c a k e m h some_ fits f ev (closes o p s b) = content_led c a m h f refl
content_monitor_move c a k e m h some_ fits f ev (reports_swept j r) = content_led c a m h f refl
content_monitor_move c a k e m h some_ fits f ev (begins_store op s) = let may = and_parts (nat_eq a 0)
    (is_valid_store (graph c.book) (held c.channels) (next_before c.book) op) ev.may in let z = eqb-true a 0 may.0 in
    subst (λ (b : ℕ). ContentFits record { channels = c.channels; monitor = m; hands = set c.hands b h; book = record c.book { opened = Some op } }) (sym z)
    (content_begins c m h op (subst (λ (b : ℕ). b < length c.hands) z ev.mine) fits f (none_open c fits s) may.1 refl)
content_monitor_move c a k e m h some_ fits f ev (ends_store o i s) = let z = opened_by c a o fits i in
    let i0 : (hand_at c.hands 0).opened ≡ Some o = subst (λ (b : ℕ). (hand_at c.hands b).opened ≡ Some o) z i in let op = ending_store c o fits i0 in
    let w : written c ≡ o.written = ap written_of i0 in
    subst (λ (b : ℕ). ContentFits record { channels = c.channels; monitor = m; hands = set c.hands b h; book = end_in c.book c.book.opened }) (sym z)
    (subst (λ (q : Option StoreOp). ContentFits record { channels = c.channels; monitor = m; hands = set c.hands 0 h; book = end_in c.book q }) (sym op.1)
    (content_ends c m h op.0 (subst (λ (b : ℕ). b < length c.hands) z ev.mine) f op.1 (ending_written c o some_ fits i0 s) refl))

pub content_monitor : (c : Core) (a k : ℕ) (e : Event) (m : CoreMonitor) (h : Hand) → 0 < length c.channels → BookFits c → ContentFits c
    → MonitorEvent c a e m h → ContentFits (changed c a k (Monitor m) h e)
content_monitor c a k e m h some_ fits f ev = content_monitor_move c a k e m h some_ fits f ev (monitor_move c.monitor (hand_at c.hands a) e (m, h) ev.made)
