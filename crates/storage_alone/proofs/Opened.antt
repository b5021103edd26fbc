-- What the events of a store make of the monitor and the hand.
use Rattle.std.proofs.Common.{◌≡◌, ℕ, zero, suc, ◌+◌, ◌<◌, ◌≤◌, arith, ◌≢◌, Bool, true, false, cond, ⊎_elim, ◌||◌, List, [], ◌∷◌, length, Option, Some, None, refl, sym, ap, subst, ◌∙◌}
use Rattle.std.specs.Prelude.{nat_eq, nat_le, nat_lt}
use Rattle.std.specs.List.{filter, list_all, range_with_len}
use Rattle.std.proofs.lemmas.Bool.{and_from, cases_Bool, ltb-true, or_left, or_right, eq-eqb, cases_eq, eqb-true, lt-ltb, or_cases}
use Rattle.graph_model.specs.Ids.{add, add_all, has}
use Rattle.graph_model.specs.Graph.{ids}
use Rattle.graph_model.specs.declared.entity.Record.{Record}
use Rattle.graph_model.specs.declared.entity.StoreOp.{StoreOp}
use Rattle.graph_model.proofs.IdSets.{has_add}
use Rattle.core_steps.specs.Core.{Hand, is_idle}
use Rattle.core_steps.specs.Rows.{begun_store, channel_step, end_store, has_part, is_complete, may_begin, may_take, monitor_step, part_given, part_marked, part_taken, seeing, store_channels, store_part}
use Rattle.core_steps.specs.declared.state.CoreChannel.{CoreChannel}
use Rattle.core_steps.specs.declared.state.CoreMonitor.{CoreMonitor}
use Rattle.core_steps.specs.declared.state.OpenStore.{OpenStore}
use Rattle.core_steps.specs.declared.state.Phase.{Phase}
use Rattle.core_steps.specs.declared.state.Phase.TheVariants.{Idle, Marking, Sweeping}
use Rattle.core_steps.specs.declared.state.Place.{Place}
use Rattle.core_steps.specs.declared.event.Event.TheVariants.{Confirm, StoreBegin, StoreEnd, StorePart}
use Rattle.storage_alone.specs.Storing.{IsOpened}
use Rattle.core_steps.proofs.Lists.{filter_keeps}
use Rattle.storage_alone.proofs.Pinned.{given_is}

-- ---- a store begins

pub record Begins (m : CoreMonitor) (h : Hand) (op : StoreOp) (m' : CoreMonitor) (h' : Hand) : Type 0 where
  pub monitor : m' ≡ record m { stores_begun = m.stores_begun + 1 }
  pub opened : h'.opened ≡ Some (begun_store m op)
  pub credit : h'.credit ≡ h.credit

pub begun_is : (m : CoreMonitor) (h : Hand) (op : StoreOp) (m' : CoreMonitor) (h' : Hand) → monitor_step m h (StoreBegin op) ≡ Some (m', h') → Begins m h op m' h'
begun_is m h op m' h' e = let t : (m', h') ≡ seeing (record m { stores_begun = m.stores_begun + 1 }) (record h { opened = Some (begun_store m op) }) = sym (given_is (may_begin m op) _ (m', h') e).1 in record {
  monitor = ap (λ (r : CoreMonitor × Hand). r.0) t;
  opened = ap (λ (r : CoreMonitor × Hand). r.1.opened) t;
  credit = ap (λ (r : CoreMonitor × Hand). r.1.credit) t;
}

none_below : (j : ℕ) → nat_lt j 0 ≡ false
none_below j = ⊎_elim (λ h. let lt = ltb-true j 0 h in absurd (omega arith)) (λ f. f) (cases_Bool (nat_lt j 0))

-- none of its channels has its part
pub opened_first : (m : CoreMonitor) (op : StoreOp) (n : ℕ) → m.format ≡ 1 → length m.begun ≡ n → IsOpened n m.stores_begun 0 op.records (begun_store m op)
opened_first m op n format flags = record {
  number = refl;
  channels = ap (λ (f : ℕ). store_channels f (length m.begun) op.records) format ∙ ap (λ (k : ℕ). store_channels 1 k op.records) flags;
  written = λ j. sym (none_below j);
}

-- ---- its channels

ranged : (a n j : ℕ) → a ≤ j → j < a + n → has j (range_with_len a n) ≡ true
ranged a zero j low high = absurd (omega arith)
ranged a (suc n) j low high = ⊎_elim
    (λ e. or_left (nat_eq j a) (has j (range_with_len (a + 1) n)) (eq-eqb j a e))
    (λ ne. or_right (nat_eq j a) (has j (range_with_len (a + 1) n)) (ranged (a + 1) n j (above a j low ne) (omega arith)))
    (cases_eq j a)
  where
    above : (a j : ℕ) → a ≤ j → j ≢ a → a + 1 ≤ j
    above a j le ne = omega (arith, le, ne)

range_below : (a n j : ℕ) → has j (range_with_len a n) ≡ true → j < a + n
range_below a zero j h = absurd cc
range_below a (suc n) j h = ⊎_elim
    (λ e. let same = eqb-true j a e in omega arith)
    (λ t. let lt = range_below (a + 1) n j t in omega arith)
    (or_cases (nat_eq j a) (has j (range_with_len (a + 1) n)) h)

filtered : (test : ℕ → Bool) (xs : List ℕ) (x : ℕ) → has x (filter test xs) ≡ true → has x xs ≡ true
filtered test [] x h = h
filtered test (y ∷ xs) x h =
    let rest = filtered test xs x in
    (elim (test y) as (λ b. has x (cond b (y ∷ filter test xs) (filter test xs)) ≡ true → (nat_eq x y || has x xs) ≡ true) [
      | true ↦ λ t. ⊎_elim (λ e. or_left (nat_eq x y) (has x xs) e) (λ u. or_right (nat_eq x y) (has x xs) (rest u)) (or_cases (nat_eq x y) (has x (filter test xs)) t)
      | false ↦ λ t. or_right (nat_eq x y) (has x xs) (rest t)
    ]) h

pub in_store : (n j : ℕ) (rs : List Record) → j < n → has j (store_channels 1 n rs) ≡ true
in_store n j rs lt = filter_keeps (λ (i : ℕ). nat_eq 1 1 || has_part n rs i) (range_with_len 0 n) j refl (ranged 0 n j (omega arith) (omega arith))

same_bool : (a b : Bool) → (a ≡ true → b ≡ true) → (b ≡ true → a ≡ true) → a ≡ b
same_bool true b to from = sym (to refl)
same_bool false true to from = from refl
same_bool false false to from = refl

pub lt_more : (j k : ℕ) → nat_lt j (k + 1) ≡ (nat_eq j k || nat_lt j k)
lt_more j k = same_bool (nat_lt j (k + 1)) (nat_eq j k || nat_lt j k)
    (λ h. let lt = ltb-true j (k + 1) h in ⊎_elim (λ e. or_left (nat_eq j k) (nat_lt j k) (eq-eqb j k e))
    (λ ne. or_right (nat_eq j k) (nat_lt j k) (lt-ltb j k (less j k lt ne))) (cases_eq j k))
    (λ h. ⊎_elim (λ e. let same = eqb-true j k e in lt-ltb j (k + 1) (omega arith)) (λ l. let lt = ltb-true j k l in lt-ltb j (k + 1) (omega arith)) (or_cases (nat_eq j k) (nat_lt j k) h))
  where
    less : (j k : ℕ) → j < k + 1 → j ≢ k → j < k
    less j k lt ne = omega (arith, lt, ne)

pub part_written : (n m k : ℕ) (rs : List Record) (o : OpenStore) → IsOpened n m k rs o → IsOpened n m (k + 1) rs (record o { written = add k o.written })
part_written n m k rs o is = record {
  number = is.number;
  channels = is.channels;
  written = λ j. has_add j k o.written ∙ ap (λ (b : Bool). nat_eq j k || b) (is.written j) ∙ sym (lt_more j k);
}

all_have : (xs ys : List ℕ) → ((x : ℕ) → has x xs ≡ true → has x ys ≡ true) → list_all (λ (j : ℕ). has j ys) xs ≡ true
all_have [] ys h = refl
all_have (x ∷ xs) ys h = and_from (has x ys) (list_all (λ (j : ℕ). has j ys) xs) (h x (or_left (nat_eq x x) (has x xs) (eq-eqb x x refl)))
    (all_have xs ys (λ y t. h y (or_right (nat_eq y x) (has y xs) t)))

-- with all parts written the store is whole
pub opened_whole : (n m : ℕ) (rs : List Record) (o : OpenStore) → IsOpened n m n rs o → is_complete o ≡ true
opened_whole n m rs o is = all_have o.channels o.written (λ x h. is.written x ∙ below x (subst (λ (l : List ℕ). has x l ≡ true) is.channels h))
  where
    below : (x : ℕ) → has x (store_channels 1 n rs) ≡ true → nat_lt x n ≡ true
    below x h = let lt = range_below 0 n x (filtered (λ (i : ℕ). nat_eq 1 1 || has_part n rs i) (range_with_len 0 n) x h) in lt-ltb x n (omega arith)

-- ---- a part is stored

pub record Parts (p : Place) (o : OpenStore) (c : CoreChannel) (h : Hand) (c' : CoreChannel) (h' : Hand) : Type 0 where
  pub pins : c'.pins ≡ add_all (ids p.records) c.pins
  pub opened : h'.opened ≡ Some (record o { written = add p.number o.written })

pub part_is : (p : Place) (o : OpenStore) (c : CoreChannel) (h : Hand) (c' : CoreChannel) (h' : Hand) → h.opened ≡ Some o → is_idle c.phase ≡ true
    → channel_step p c h StorePart ≡ Some (c', h') → Parts p o c h c' h'
part_is p o c h c' h' opened idle e =
    let made : store_part p (Some o) c h ≡ Some (c', h') = sym (ap (λ (q : Option OpenStore). store_part p q c h) opened) ∙ e in
    let t : (c', h') ≡ (part_taken p o.number c, part_given p o h) = sym (given_is (may_take p o c h) _ (c', h') made).1 ∙ rests c.phase idle in record {
      pins = ap (λ (r : CoreChannel × Hand). r.0.pins) t;
      opened = ap (λ (r : CoreChannel × Hand). r.1.opened) t;
    }
  where
    rests : (ph : Phase) → is_idle ph ≡ true → part_marked (ids p.records) ph (part_taken p o.number c, part_given p o h) ≡ (part_taken p o.number c, part_given p o h)
    rests (Idle b) i = refl
    rests (Marking b) i = absurd cc
    rests (Sweeping b left) i = absurd cc

-- ---- the store ends

pub record Ends (m : CoreMonitor) (h : Hand) (m' : CoreMonitor) (h' : Hand) : Type 0 where
  pub monitor : m' ≡ record m { stores_ended = m.stores_ended + 1 }
  pub opened : h'.opened ≡ None
  pub credit : h'.credit ≡ h.credit
  pub seen : h'.ended_seen ≡ m.stores_ended + 1

pub ended_is : (m : CoreMonitor) (h : Hand) (o : OpenStore) (m' : CoreMonitor) (h' : Hand) → h.opened ≡ Some o → monitor_step m h StoreEnd ≡ Some (m', h') → Ends m h m' h'
ended_is m h o m' h' opened e =
    let made : end_store m h (Some o) ≡ Some (m', h') = sym (ap (λ (q : Option OpenStore). end_store m h q) opened) ∙ e in
    let t : (m', h') ≡ seeing (record m { stores_ended = m.stores_ended + 1 }) (record h { opened = None }) = sym (given_is (is_complete o) _ (m', h') made).1 in record {
      monitor = ap (λ (r : CoreMonitor × Hand). r.0) t;
      opened = ap (λ (r : CoreMonitor × Hand). r.1.opened) t;
      credit = ap (λ (r : CoreMonitor × Hand). r.1.credit) t;
      seen = ap (λ (r : CoreMonitor × Hand). r.1.ended_seen) t;
    }

-- ---- a part is confirmed

pub confirmed_is : (p : Place) (c c' : CoreChannel) (h h' : Hand) → channel_step p c h Confirm ≡ Some (c', h') → (c' ≡ record c { confirmed = c.last_part }) × (h' ≡ h)
confirmed_is p c c' h h' e = let t : (c', h') ≡ (record c { confirmed = c.last_part }, h) = sym (given_is (nat_le c.last_part h.ended_seen) _ (c', h') e).1 in
    (ap (λ (r : CoreChannel × Hand). r.0) t, ap (λ (r : CoreChannel × Hand). r.1) t)
