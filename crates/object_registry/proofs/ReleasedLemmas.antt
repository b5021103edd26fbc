-- What is released, and what is kept.
use Rattle.std.proofs.Common.{◌≡◌, ℕ, ◌<◌, Bool, true, false, cond, not, ◌&&◌, ◌||◌, List, [], ◌∷◌, ◌++◌, refl, sym, ap, subst, arith}
use Rattle.std.specs.Prelude.{nat_eq, nat_lt}
use Rattle.std.specs.List.{filter, list_any}
use Rattle.std.specs.Ordering.{nat_cmp}
use Rattle.std.specs.BTreeMap.{is_at}
use Rattle.std.proofs.lemmas.Bool.{and_from, and_parts, eqb-true, false_from_ne_true, or_right, lt-ltb, ltb-true}
use Rattle.graph_model.specs.Ids.{has, rises, rises_from}
use Rattle.session_model.specs.Instances.{Instance, Instances, Held, held_ids}
use Rattle.session_model.proofs.SameIds.{above_first, rises-tail}
use Rattle.object_registry.specs.Entries.{held, held_in}
use Rattle.object_registry.specs.Registered.{instance_ids, kept_among, released_ids}
use Rattle.object_registry.proofs.Numbers.{contains-has}

abbrev is_released : List ℕ → Held → Bool
is_released ids h = h.instance.saved && not (has h.id ids)

abbrev left : List ℕ → List (ℕ × Instance) → Instances
left ids es = filter (is_released ids) (held_in es)

-- ---- entry by entry

pub released_ids-push : (es : List (ℕ × Instance)) (e : ℕ × Instance) (ids : List ℕ) → released_ids (held_in es) ids ++ released_ids (held_in (e ∷ [])) ids ≡ released_ids (held_in (es ++ e ∷ [])) ids
released_ids-push [] e ids = refl
released_ids-push (f ∷ es) e ids = by (f.1.saved && not (has f.0 ids)) (released_ids-push es e ids)
  where
    by : (b : Bool) → released_ids (held_in es) ids ++ released_ids (held_in (e ∷ [])) ids ≡ released_ids (held_in (es ++ e ∷ [])) ids
        → instance_ids (cond b (held f.0 f.1 ∷ left ids es) (left ids es)) ++ released_ids (held_in (e ∷ [])) ids ≡ instance_ids (cond b (held f.0 f.1 ∷ left ids (es ++ e ∷ [])) (left ids (es ++ e ∷ [])))
    by true ih = ap (λ (xs : List ℕ). f.0 ∷ xs) ih
    by false ih = ih

pub released_by : (saved found : Bool) (x : ℕ) (keys : List ℕ) → saved ≡ true → found ≡ list_any (is_at (nat_cmp x)) keys → not found ≡ (saved && not (has x keys))
released_by saved found x keys s f = rw (s, f, contains-has x keys) refl

-- ---- some of the instances

lower_first : (x y : ℕ) (xs : List ℕ) → x < y → rises_from y xs ≡ true → rises_from x xs ≡ true
lower_first x y [] l r = refl
lower_first x y (z ∷ xs) l r = let t = and_parts (nat_lt y z) (rises_from z xs) r in let m = ltb-true y z t.0 in and_from (nat_lt x z) (rises_from z xs) (lt-ltb x z (omega arith)) t.1

some_rise_from : (test : Held → Bool) (x : ℕ) (is : Instances) → rises_from x (instance_ids is) ≡ true → rises_from x (instance_ids (filter test is)) ≡ true
some_rise_from test x [] r = refl
some_rise_from test x (h ∷ is) r = let t = and_parts (nat_lt x h.id) (rises_from h.id (instance_ids is)) r in
    elim (test h) as (λ b. rises_from x (instance_ids (cond b (h ∷ filter test is) (filter test is))) ≡ true) [
      | true ↦ and_from (nat_lt x h.id) (rises_from h.id (instance_ids (filter test is))) t.0 (some_rise_from test h.id is t.1)
      | false ↦ some_rise_from test x is (lower_first x h.id (instance_ids is) (ltb-true x h.id t.0) t.1)
    ]

pub some_rise : (test : Held → Bool) (is : Instances) → rises (instance_ids is) ≡ true → rises (instance_ids (filter test is)) ≡ true
some_rise test [] r = refl
some_rise test (h ∷ is) r = elim (test h) as (λ b. rises (instance_ids (cond b (h ∷ filter test is) (filter test is))) ≡ true) [
  | true ↦ some_rise_from test h.id is r
  | false ↦ some_rise test is (rises-tail h.id (instance_ids is) r)
]

pub some_had : (test : Held → Bool) (is : Instances) (x : ℕ) → has x (instance_ids (filter test is)) ≡ true → has x (instance_ids is) ≡ true
some_had test [] x h = h
some_had test (k ∷ is) x h = by (test k) h (some_had test is x)
  where
    by : (b : Bool) → has x (instance_ids (cond b (k ∷ filter test is) (filter test is))) ≡ true → (has x (instance_ids (filter test is)) ≡ true → has x (instance_ids is) ≡ true)
        → (nat_eq x k.id || has x (instance_ids is)) ≡ true
    by true h ih = (elim (nat_eq x k.id) as (λ c. (c || has x (instance_ids (filter test is))) ≡ true → (c || has x (instance_ids is)) ≡ true) [ true ↦ λ e. refl | false ↦ λ e. ih e ]) h
    by false h ih = or_right (nat_eq x k.id) (has x (instance_ids is)) (ih h)

some_absent : (test : Held → Bool) (is : Instances) (x : ℕ) → has x (instance_ids is) ≡ false → has x (instance_ids (filter test is)) ≡ false
some_absent test is x none = false_from_ne_true (has x (instance_ids (filter test is))) (λ h. let t = some_had test is x h in absurd cc)

-- ---- exactly the saved ones that are not kept are released

abbrev is_saved : Held → Bool
is_saved h = h.instance.saved

first_absent : (h : Held) (is : Instances) → rises (instance_ids (h ∷ is)) ≡ true → has h.id (instance_ids is) ≡ false
first_absent h is r = false_from_ne_true (has h.id (instance_ids is)) (λ t. let l = above_first h.id h.id (instance_ids is) r t in absurd (omega arith))

-- the ids of the released, of the saved and of the kept saved ones, with one more instance in front
abbrev released_with : Held → Bool → Bool → List ℕ → List ℕ
released_with h saved kept ids = cond (saved && not kept) (h.id ∷ ids) ids

abbrev saved_with : Held → Bool → List ℕ → List ℕ
saved_with h saved ids = cond saved (h.id ∷ ids) ids

abbrev kept_with : Held → Bool → Bool → List ℕ → List ℕ
kept_with h saved kept ids = cond (kept && saved) (h.id ∷ ids) ids

one_more : (h : Held) (saved kept : Bool) (x : ℕ) (released all among : List ℕ) → (c : Bool) → nat_eq x h.id ≡ c
    → (c ≡ true → (has x released ≡ false) × (has x all ≡ false) × (has x among ≡ false))
    → has x released ≡ (has x all && not (has x among))
    → has x (released_with h saved kept released) ≡ (has x (saved_with h saved all) && not (has x (kept_with h saved kept among)))
one_more h true true x released all among true e none ih = let t = none refl in rw (e, t.0) refl
one_more h true true x released all among false e none ih = rw e ih
one_more h true false x released all among true e none ih = let t = none refl in rw (e, t.2) refl
one_more h true false x released all among false e none ih = rw e ih
one_more h false true x released all among c e none ih = ih
one_more h false false x released all among c e none ih = ih

released-cons : (h : Held) (is : Instances) (kept : List ℕ) → released_ids (h ∷ is) kept ≡ released_with h h.instance.saved (has h.id kept) (released_ids is kept)
released-cons h is kept = elim (h.instance.saved && not (has h.id kept)) as (λ b. instance_ids (cond b (h ∷ filter (is_released kept) is) (filter (is_released kept) is)) ≡ cond b (h.id ∷ released_ids is kept) (released_ids is kept)) [ true ↦ refl | false ↦ refl ]

saved-cons : (h : Held) (is : Instances) → held_ids (h ∷ is) ≡ saved_with h h.instance.saved (held_ids is)
saved-cons h is = elim h.instance.saved as (λ b. instance_ids (cond b (h ∷ filter is_saved is) (filter is_saved is)) ≡ cond b (h.id ∷ held_ids is) (held_ids is)) [ true ↦ refl | false ↦ refl ]

kept-cons : (h : Held) (is : Instances) (kept : List ℕ) → held_ids (kept_among (h ∷ is) kept) ≡ kept_with h h.instance.saved (has h.id kept) (held_ids (kept_among is kept))
kept-cons h is kept = (elim (has h.id kept) as (λ k. held_ids (cond k (h ∷ kept_among is kept) (kept_among is kept)) ≡ kept_with h h.instance.saved k (held_ids (kept_among is kept))) [
  | true ↦ saved-cons h (kept_among is kept)
  | false ↦ refl
])

pub released-exact : (is : Instances) (kept : List ℕ) → rises (instance_ids is) ≡ true
    → (x : ℕ) → has x (released_ids is kept) ≡ (has x (held_ids is) && not (has x (held_ids (kept_among is kept))))
released-exact [] kept r x = refl
released-exact (h ∷ is) kept r x =
    let ih = released-exact is kept (rises-tail h.id (instance_ids is) r) x in
    let absent : nat_eq x h.id ≡ true → has x (instance_ids is) ≡ false = λ e. subst (λ (y : ℕ). has y (instance_ids is) ≡ false) (sym (eqb-true x h.id e)) (first_absent h is r) in
    rw (released-cons h is kept, saved-cons h is, kept-cons h is kept)
    (one_more h h.instance.saved (has h.id kept) x (released_ids is kept) (held_ids is) (held_ids (kept_among is kept)) (nat_eq x h.id) refl
    (λ e. (some_absent (is_released kept) is x (absent e), some_absent is_saved is x (absent e), some_absent is_saved (kept_among is kept) x (some_absent (λ (k : Held). has k.id kept) is x (absent e)))) ih)
