-- What is gathered is a store that may be made.
use Rattle.std.proofs.Common.{◌≡◌, ℕ, ◌+◌, ◌-◌, ◌≤◌, ◌<◌, ◌^◌, Bool, true, false, cond, not, ◌&&◌, ◌||◌, map, length, List, [], ◌∷◌, Option, Some, None, ◌⊎◌, inl, inr, refl, sym, ap, ◌∙◌, subst, arith}
use Rattle.std.specs.Prelude.{nat_eq, nat_le, nat_lt, is_some, slice_get, IsSomeAnd}
use Rattle.std.specs.List.{filter, flat_map, list_all, list_any}
use Rattle.std.proofs.lemmas.Bool.{and_from, and_parts, cases_Bool, eqb-true, eq-eqb, leb-true, le-leb, ltb-false, not-true, not_from_false, or_cases, or_left, or_right, or_parts}
use Rattle.std.proofs.lemmas.List.Sums.{sum_by-cons}
use Rattle.graph_model.specs.Ids.{has, rises}
use Rattle.graph_model.specs.Graph.{Graph, edges, entity_size, has_edge, ids, lists}
use Rattle.graph_model.specs.Stores.{is_good_edge, is_good_id, is_good_record, is_held_or_root, is_old_edge, is_valid_store, total_size}
use Rattle.graph_model.specs.declared.entity.Record.{Record}
use Rattle.graph_model.specs.declared.entity.StoreOp.{StoreOp}
use Rattle.type_desc.specs.Root.{root_desc}
use Rattle.entity_form.specs.Values as form
use Rattle.entity_form.specs.Values.{AreOf, kinds_of, refs_of}
use Rattle.entity_form.specs.declared.value.Object.{Object}
use Rattle.type_dictionary.specs.declared.dictionary.Dictionary.{Dictionary}
use Rattle.session_model.specs.Instances.{Instance, Instances, Held, has_instance, held_ids, instance_at}
use Rattle.session_model.specs.Answer.{are_too_big, gathered_records}
use Rattle.session_model.proofs.Reached.{reached-closed, reached-start}
use Rattle.session_model.proofs.SameIds.{above_first, rises-tail}
use Rattle.object_registry.specs.Registered.{instance_ids}
use Rattle.object_registry.proofs.EdgeLemmas.{edges_at, edges_of-instance}
use Rattle.object_registry.proofs.Numbers.{Compared, Below, Same, Above, compared}
use Rattle.object_registry.proofs.ReleasedLemmas.{some_rise}
use Rattle.storer.specs.declared.gathering.Gathering.{Gathering}
use Rattle.storer.specs.declared.gathering.Gathering.TheVariants.{Lazy, Eager}
use Rattle.storer.specs.Faults.{total_of}
use Rattle.storer.specs.Gathered.{AreKnown, IsKnown, gathered_ids, gathering_graph, is_taken, taken}
use Rattle.storer.specs.Valid.{MayGather}

-- ---- lists

passed : (test : ℕ → Bool) (xs : List ℕ) (y : ℕ) → has y xs ≡ true → test y ≡ true → has y (filter test xs) ≡ true
passed test [] y h t = h
passed test (x ∷ xs) y h t = by (nat_eq y x) refl h (passed test xs y)
  where
    kept : (b : Bool) → has y (filter test xs) ≡ true → has y (cond b (x ∷ filter test xs) (filter test xs)) ≡ true
    kept true k = or_right (nat_eq y x) (has y (filter test xs)) k
    kept false k = k

    by : (c : Bool) → nat_eq y x ≡ c → (c || has y xs) ≡ true → (has y xs ≡ true → test y ≡ true → has y (filter test xs) ≡ true) → has y (cond (test x) (x ∷ filter test xs) (filter test xs)) ≡ true
    by true e h ih = let same : test x ≡ true = ap test (sym (eqb-true y x e)) ∙ t in rw same (or_left (nat_eq y x) (has y (filter test xs)) e)
    by false e h ih = kept (test x) (ih h t)

sifted : (test : ℕ → Bool) (xs : List ℕ) (y : ℕ) → has y (filter test xs) ≡ true → (has y xs ≡ true) × (test y ≡ true)
sifted test [] y h = absurd cc
sifted test (x ∷ xs) y h = by (test x) refl h (sifted test xs y)
  where
    by : (b : Bool) → test x ≡ b → has y (cond b (x ∷ filter test xs) (filter test xs)) ≡ true → (has y (filter test xs) ≡ true → (has y xs ≡ true) × (test y ≡ true)) → ((nat_eq y x || has y xs) ≡ true) × (test y ≡ true)
    by true e h ih = elim (or_cases (nat_eq y x) (has y (filter test xs)) h) [
      | inl same ↦ (or_left (nat_eq y x) (has y xs) same, ap test (eqb-true y x same) ∙ e)
      | inr later ↦ let t = ih later in (or_right (nat_eq y x) (has y xs) t.0, t.1)
    ]
    by false e h ih = let t = ih h in (or_right (nat_eq y x) (has y xs) t.0, t.1)

each_passes : (test : ℕ → Bool) (xs : List ℕ) → ((y : ℕ) → has y xs ≡ true → test y ≡ true) → list_all test xs ≡ true
each_passes test [] each = refl
each_passes test (x ∷ xs) each = and_from (test x) (list_all test xs) (each x (or_left (nat_eq x x) (has x xs) (eq-eqb x x refl))) (each_passes test xs (λ y h. each y (or_right (nat_eq y x) (has y xs) h)))

-- ---- instances

saved_held : (is : Instances) (x : ℕ) (i : Instance) → instance_at is x ≡ Some i → i.saved ≡ true → has x (held_ids is) ≡ true
saved_held [] x i at s = absurd cc
saved_held (h ∷ is) x i at s = by (nat_eq h.id x) refl at (saved_held is x i)
  where
    rest : List ℕ
    rest = held_ids is

    kept : (b : Bool) → has x (held_ids is) ≡ true → has x (map (λ (k : Held). k.id) (cond b (h ∷ filter (λ (k : Held). k.instance.saved) is) (filter (λ (k : Held). k.instance.saved) is))) ≡ true
    kept true k = or_right (nat_eq x h.id) (has x (held_ids is)) k
    kept false k = k

    by : (c : Bool) → nat_eq h.id x ≡ c → cond c (Some h.instance) (instance_at is x) ≡ Some i → (instance_at is x ≡ Some i → i.saved ≡ true → has x (held_ids is) ≡ true) → has x (held_ids (h ∷ is)) ≡ true
    by true e at ih =
        let same : h.instance ≡ i = (cc) in
        let saved : h.instance.saved ≡ true = ap (λ (j : Instance). j.saved) same ∙ s in
        rw saved (or_left (nat_eq x h.id) (has x (held_ids is)) (eq-eqb x h.id (sym (eqb-true h.id x e))))
    by false e at ih = kept h.instance.saved (ih at s)

abbrev record_in : Held → Record
record_in h = record { id = h.id; entity = form.entity_of h.instance.object }

abbrev within : List ℕ → Instances → Instances
within xs is = filter (λ (h : Held). has h.id xs) is

-- a gathered instance has its record
gathered_listed : (is : Instances) (xs : List ℕ) (y : ℕ) (j : Instance) → instance_at is y ≡ Some j → has y xs ≡ true → lists (gathered_records is xs) y ≡ true
gathered_listed [] xs y j at h = absurd cc
gathered_listed (k ∷ is) xs y j at h = by (compared k.id y) at (gathered_listed is xs y j)
  where
    more : nat_eq y k.id ≡ false → (b : Bool) → lists (gathered_records is xs) y ≡ true → lists (map record_in (cond b (k ∷ within xs is) (within xs is))) y ≡ true
    more e true l = rw e l
    more e false l = l

    by : Compared k.id y → instance_at (k ∷ is) y ≡ Some j → (instance_at is y ≡ Some j → has y xs ≡ true → lists (gathered_records is xs) y ≡ true) → lists (gathered_records (k ∷ is) xs) y ≡ true
    by (Below l c a b d f) at ih = more f (has k.id xs) (ih (rw d at at) h)
    by (Same l c a b d f) at ih = let there : has k.id xs ≡ true = subst (λ (z : ℕ). has z xs ≡ true) (sym l) h in rw (there, f) refl
    by (Above l c a b d f) at ih = more f (has k.id xs) (ih (rw d at at) h)

-- each of these instances is found under its id
abbrev AllAt : Instances → Instances → Type 0
AllAt is [] = Unit {0}
AllAt is (h ∷ hs) = (instance_at is h.id ≡ Some h.instance) × AllAt is hs

behind_others : (h : Held) (is hs : Instances) → has h.id (instance_ids hs) ≡ false → AllAt is hs → AllAt (h ∷ is) hs
behind_others h is [] none all = tt
behind_others h is (k ∷ hs) none all = let t = or_parts (nat_eq h.id k.id) (has h.id (instance_ids hs)) none in (rw t.0 all.0, behind_others h is hs t.1 all.1)

all_at : (is : Instances) → rises (instance_ids is) ≡ true → AllAt is is
all_at [] r = tt
all_at (h ∷ is) r =
    let none : has h.id (instance_ids is) ≡ false = no (has h.id (instance_ids is)) (λ t. let l = above_first h.id h.id (instance_ids is) r t in absurd (omega arith)) in
    (rw (eq-eqb h.id h.id refl) refl, behind_others h is is none (all_at is (rises-tail h.id (instance_ids is) r)))
  where
    no : (b : Bool) → (b ≡ true → ⊥) → b ≡ false
    no true f = absurd (f refl)
    no false f = refl

-- ---- what a gathered instance names

there_is : (o : Option Instance) → is_some o ≡ true → (j : Instance) × (o ≡ Some j)
there_is None e = absurd cc
there_is (Some j) e = (j, refl)

unsaved_taken : (gathering : Gathering) (j : Instance) → j.saved ≡ false → is_taken gathering (Some j) ≡ true
unsaved_taken Lazy j s = not_from_false j.saved s
unsaved_taken Eager j s = refl

-- what it names and is taken is gathered too
taken_gathered : (gathering : Gathering) (is : Instances) (start x y : ℕ) (i : Instance) → has x (gathered_ids gathering is start) ≡ true → instance_at is x ≡ Some i
    → has y (flat_map refs_of i.object.values) ≡ true → nat_eq y 0 ≡ false → is_taken gathering (instance_at is y) ≡ true → has y (gathered_ids gathering is start) ≡ true
taken_gathered gathering is start x y i h at named other t =
    reached-closed (gathering_graph gathering is) (start ∷ []) x y h (ap (has y) (edges_of-instance named_ids is x ∙ ap (edges_at named_ids) at)
    ∙ passed (λ (z : ℕ). not (nat_eq z 0)) (named_ids i) y (passed (λ z. is_taken gathering (instance_at is z)) (flat_map refs_of i.object.values) y named t) (not_from_false (nat_eq y 0) other))
  where
    named_ids : Instance → List ℕ
    named_ids j = taken gathering is (flat_map refs_of j.object.values)

-- ---- the records

known_type : (types : Dictionary) (object : Object) → IsKnown types object → 1 ≤ object.type_id
known_type types object known = by (nat_eq object.type_id 1) refl (nat_le 16 object.type_id) refl known
  where
    by : (b : Bool) → nat_eq object.type_id 1 ≡ b → (c : Bool) → nat_le 16 object.type_id ≡ c
        → IsSomeAnd (cond b (Some root_desc) (cond c (slice_get types (object.type_id - 16)) None)) (λ desc. AreOf (kinds_of desc) object.values) → 1 ≤ object.type_id
    by true e c f k = let same = eqb-true object.type_id 1 e in omega arith
    by false e true f k = let low = leb-true 16 object.type_id f in omega arith
    by false e false f k = absurd k

five : (a b c d e : Bool) → a ≡ true → b ≡ true → c ≡ true → d ≡ true → e ≡ true → (a && (b && (c && (d && e)))) ≡ true
five a b c d e p q r s t = and_from a (b && (c && (d && e))) p (and_from b (c && (d && e)) q (and_from c (d && e) r (and_from d e s t)))

ids_of_records : (hs : Instances) → ids (map record_in hs) ≡ instance_ids hs
ids_of_records [] = refl
ids_of_records (h ∷ hs) = ap (λ (xs : List ℕ). h.id ∷ xs) (ids_of_records hs)

total_is_sum : (rs : List Record) → total_size rs ≡ total_of rs
total_is_sum [] = refl
total_is_sum (r ∷ rs) = ap (λ (n : ℕ). entity_size r.entity + n) (total_is_sum rs) ∙ sym (sum_by-cons (λ (r : Record). entity_size r.entity) r rs)

abbrev is_big : Record → Bool
is_big r = nat_lt 1048576 (entity_size r.entity)

module _ (gathering : Gathering) (is : Instances) (start : ℕ) (types : Dictionary) (g : Graph) (held : List ℕ) (next next_id : ℕ)
    (known : AreKnown types is) (may : MayGather g held next next_id is (gathered_ids gathering is start)) where
  abbrev xs : List ℕ
  xs = gathered_ids gathering is start

  abbrev op : StoreOp
  op = record { records = gathered_records is xs; next_id = next_id }

  held_or_root : (x : ℕ) (i : Instance) → instance_at is x ≡ Some i → (i.saved ≡ true) ⊎ (nat_eq x 1 ≡ true) → is_held_or_root held x ≡ true
  held_or_root x i at (inl s) = or_left (has x held) (nat_eq x 1) (may.saved_are_held x ∙ saved_held is x i at s)
  held_or_root x i at (inr r) = or_right (has x held) (nat_eq x 1) r

  good_edge_here : (x y : ℕ) (i : Instance) → instance_at is x ≡ Some i → has x xs ≡ true → has y (flat_map refs_of i.object.values) ≡ true → nat_eq y 0 ≡ false
      → (j : Instance) → instance_at is y ≡ Some j → (j.saved ≡ true) ⊎ (j.saved ≡ false) → is_good_edge g held op x y ≡ true
  good_edge_here x y i at h named other j there (inl s) =
      or_right (lists op.records y) (has y held || is_old_edge g held x y) (or_left (has y held) (is_old_edge g held x y) (may.saved_are_held y ∙ saved_held is y j there s))
  good_edge_here x y i at h named other j there (inr s) =
      let in_it = taken_gathered gathering is start x y i h at named other (ap (is_taken gathering) there ∙ unsaved_taken gathering j s) in
      or_left (lists op.records y) (has y held || is_old_edge g held x y) (gathered_listed is xs y j there in_it)

  good_edge : (x y : ℕ) (i : Instance) → instance_at is x ≡ Some i → has x xs ≡ true → has y (flat_map refs_of i.object.values) ≡ true → nat_eq y 0 ≡ false
      → is_good_edge g held op x y ≡ true
  good_edge x y i at h named other = elim (or_cases (has_instance is y) ((i.saved || nat_eq x 1) && has_edge g x y) ((may.each x i h at).names y named other)) [
    | inl there ↦ let t = there_is (instance_at is y) there in good_edge_here x y i at h named other t.0 t.1 (cases_Bool t.0.saved)
    | inr old ↦ let t = and_parts (i.saved || nat_eq x 1) (has_edge g x y) old in
        or_right (lists op.records y) (has y held || is_old_edge g held x y) (or_right (has y held) (is_old_edge g held x y)
        (and_from (is_held_or_root held x) (has_edge g x y) (held_or_root x i at (or_cases i.saved (nat_eq x 1) t.0)) t.1))
  ]

  new_or_held : (x : ℕ) (i : Instance) → instance_at is x ≡ Some i → (i.saved || (not (lists g x) || nat_eq x 1)) ≡ true → (not (lists g x) || is_held_or_root held x) ≡ true
  new_or_held x i at new = elim (or_cases i.saved (not (lists g x) || nat_eq x 1) new) [
    | inl s ↦ or_right (not (lists g x)) (is_held_or_root held x) (held_or_root x i at (inl s))
    | inr t ↦ elim (or_cases (not (lists g x)) (nat_eq x 1) t) [
      | inl absent ↦ or_left (not (lists g x)) (is_held_or_root held x) absent
      | inr root ↦ or_right (not (lists g x)) (is_held_or_root held x) (held_or_root x i at (inr root))
    ]
  ]

  good_record : (x : ℕ) (i : Instance) → instance_at is x ≡ Some i → has x xs ≡ true → entity_size (form.entity_of i.object) ≤ 1048576
      → is_good_record g held op (record { id = x; entity = form.entity_of i.object }) ≡ true
  good_record x i at h fits =
      let m = may.each x i h at in
      five (is_good_id next_id x) (not (lists g x) || is_held_or_root held x) (list_all (is_good_edge g held op x) (edges (form.entity_of i.object))) (nat_le 1 i.object.type_id) (nat_le (entity_size (form.entity_of i.object)) 1048576)
      m.good_id
      (new_or_held x i at m.new)
      (each_passes (is_good_edge g held op x) (edges (form.entity_of i.object)) (λ y e. let t = sifted (λ (z : ℕ). not (nat_eq z 0)) (flat_map refs_of i.object.values) y e in good_edge x y i at h t.0 (not-true (nat_eq y 0) t.1)))
      (le-leb 1 i.object.type_id (known_type types i.object (known x i at)))
      (le-leb (entity_size (form.entity_of i.object)) 1048576 fits)

  all_good : (hs : Instances) → AllAt is hs → list_any is_big (gathered_records hs xs) ≡ false → list_all (is_good_record g held op) (gathered_records hs xs) ≡ true
  all_good [] all small = refl
  all_good (k ∷ hs) all small = by (has k.id xs) refl small (all_good hs all.1)
    where
      by : (b : Bool) → has k.id xs ≡ b → list_any is_big (map record_in (cond b (k ∷ within xs hs) (within xs hs))) ≡ false
          → (list_any is_big (gathered_records hs xs) ≡ false → list_all (is_good_record g held op) (gathered_records hs xs) ≡ true)
          → list_all (is_good_record g held op) (map record_in (cond b (k ∷ within xs hs) (within xs hs))) ≡ true
      by true e s ih = let t = or_parts (is_big (record_in k)) (list_any is_big (gathered_records hs xs)) s in
          and_from (is_good_record g held op (record_in k)) (list_all (is_good_record g held op) (gathered_records hs xs)) (good_record k.id k.instance all.0 e (ltb-false 1048576 (entity_size (form.entity_of k.instance.object)) t.0)) (ih t.1)
      by false e s ih = ih s

  pub valid_store : (most : ℕ) → rises (instance_ids is) ≡ true → are_too_big most (gathered_records is xs) ≡ false → most ≤ 16777216 → is_valid_store g held next op ≡ true
  valid_store most r small bound =
      let t = or_parts (list_any is_big (gathered_records is xs)) (nat_lt most (total_of (gathered_records is xs))) small in
      let sum = ltb-false most (total_of (gathered_records is xs)) t.1 in
      let same = total_is_sum (gathered_records is xs) in
      five (nat_le next next_id) (nat_le next_id (2 ^ 48)) (rises (ids op.records)) (nat_le (total_size op.records) 16777216) (list_all (is_good_record g held op) op.records)
      (le-leb next next_id may.after)
      (le-leb next_id (2 ^ 48) may.within)
      (ap rises (ids_of_records (within xs is)) ∙ some_rise (λ (h : Held). has h.id xs) is r)
      (le-leb (total_size op.records) 16777216 (omega arith))
      (all_good is (all_at is r) t.0)

pub some_id : (x : ℕ) (xs : List ℕ) → has x xs ≡ true → 0 < length xs
some_id x [] h = absurd cc
some_id x (y ∷ xs) h = omega arith

pub starts-gathered : (gathering : Gathering) (is : Instances) (start : ℕ) → has start (gathered_ids gathering is start) ≡ true
starts-gathered gathering is start = reached-start (gathering_graph gathering is) (start ∷ []) start (or_left (nat_eq start start) false (eq-eqb start start refl))
