-- Numbers in the order of the two tables, and sets of them.
use Rattle.std.proofs.Common.{◌≡◌, ℕ, ◌<◌, Bool, true, false, not, List, [], ◌∷◌, inl, inr, refl, sym, ap, ◌∙◌, arith}
use Rattle.std.specs.Prelude.{nat_eq, nat_lt}
use Rattle.std.specs.declared.cmp.Ordering.TheVariants.{Less, Equal, Greater}
use Rattle.std.specs.Ordering.{nat_cmp}
use Rattle.std.specs.List.{AllByRecursion, list_any}
use Rattle.std.specs.List.Sorted.{IsStrictlySortedBy}
use Rattle.std.specs.BTreeMap.{is_at}
use Rattle.std.specs.BTreeSet.{insert_key}
use Rattle.std.proofs.lemmas.Bool.{and_from, cases_order, eq-eqb, ne_eqb, not-true, not-false, lt-ltb, le-ltb, or_parts}
use Rattle.std.proofs.lemmas.Cmp.{nat_cmp_total}
use Rattle.std.proofs.lemmas.Map.Keys.{sorted_head, sorted_tail}
use Rattle.graph_model.specs.Ids.{has, insert, rises, rises_from}

-- how two numbers stand to one another, by every test of them
pub data Compared (x y : ℕ) : Type 0 where
  Below : x < y → nat_cmp x y ≡ Less → nat_lt x y ≡ true → nat_lt y x ≡ false → nat_eq x y ≡ false → nat_eq y x ≡ false → Compared x y
  Same : x ≡ y → nat_cmp x y ≡ Equal → nat_lt x y ≡ false → nat_lt y x ≡ false → nat_eq x y ≡ true → nat_eq y x ≡ true → Compared x y
  Above : y < x → nat_cmp x y ≡ Greater → nat_lt x y ≡ false → nat_lt y x ≡ true → nat_eq x y ≡ false → nat_eq y x ≡ false → Compared x y

pub compared : (x y : ℕ) → Compared x y
compared x y = elim (cases_order x y) [
  | inl e ↦ let a = le-ltb x y (omega arith) in let b = le-ltb y x (omega arith) in let c = eq-eqb x y e in Same e (rw (a, c) refl) a b c (eq-eqb y x (sym e))
  | inr (inl l) ↦ let a = lt-ltb x y l in Below l (rw a refl) a (le-ltb y x (omega arith)) (ne_eqb x y (λ e. omega arith)) (ne_eqb y x (λ e. omega arith))
  | inr (inr l) ↦ let a = le-ltb x y (omega arith) in let c = ne_eqb x y (λ e. omega arith) in Above l (rw (a, c) refl) a (lt-ltb y x l) c (ne_eqb y x (λ e. omega arith))
]

pub is_at-nat_eq : (x y : ℕ) → is_at (nat_cmp x) y ≡ nat_eq x y
is_at-nat_eq x y = elim (compared x y) [
  | Below l c a b d e ↦ rw (c, d) refl
  | Same l c a b d e ↦ rw (c, d) refl
  | Above l c a b d e ↦ rw (c, d) refl
]

-- ---- a set's keys

pub contains-has : (x : ℕ) (keys : List ℕ) → list_any (is_at (nat_cmp x)) keys ≡ has x keys
contains-has x [] = refl
contains-has x (y ∷ keys) = rw (is_at-nat_eq x y, contains-has x keys) refl

pub insert_key-new : (x : ℕ) (keys : List ℕ) → has x keys ≡ false → insert_key nat_cmp keys x ≡ insert x keys
insert_key-new x [] new = refl
insert_key-new x (y ∷ keys) new = let t = or_parts (nat_eq x y) (has x keys) new in let ih = insert_key-new x keys t.1 in elim (compared x y) [
  | Below l c a b d e ↦ rw (c, b) refl
  | Same l c a b d e ↦ absurd cc
  | Above l c a b d e ↦ rw (c, b) (ap (λ (ks : List ℕ). y ∷ ks) ih)
]

rises_from-sorted : (x : ℕ) (keys : List ℕ) → IsStrictlySortedBy nat_cmp (x ∷ keys) → rises_from x keys ≡ true
rises_from-sorted x [] s = refl
rises_from-sorted x (y ∷ keys) s =
    let h : nat_cmp x y ≡ Less = (sorted_head nat_cmp x (y ∷ keys) s).0 in
    and_from (nat_lt x y) (rises_from y keys) (below h) (rises_from-sorted y keys (sorted_tail nat_cmp x (y ∷ keys) s))
  where
    below : nat_cmp x y ≡ Less → nat_lt x y ≡ true
    below h = elim (compared x y) [
      | Below l c a b d e ↦ a
      | Same l c a b d e ↦ absurd cc
      | Above l c a b d e ↦ absurd cc
    ]

pub rises-sorted : (keys : List ℕ) → IsStrictlySortedBy nat_cmp keys → rises keys ≡ true
rises-sorted [] s = refl
rises-sorted (x ∷ keys) s = rises_from-sorted x keys s

-- ---- what an insertion answers

pub was_new : (x : ℕ) (keys : List ℕ) (added : Bool) → added ≡ not (list_any (is_at (nat_cmp x)) keys) → added ≡ true → has x keys ≡ false
was_new x keys added e is = sym (contains-has x keys) ∙ not-true (list_any (is_at (nat_cmp x)) keys) (sym e ∙ is)

pub was_there : (x : ℕ) (keys : List ℕ) (added : Bool) → added ≡ not (list_any (is_at (nat_cmp x)) keys) → added ≡ false → has x keys ≡ true
was_there x keys added e is = sym (contains-has x keys) ∙ not-false (list_any (is_at (nat_cmp x)) keys) (sym e ∙ is)

-- ---- a number below the first of sorted keys

pub all_above : (x y : ℕ) (keys : List ℕ) → nat_cmp x y ≡ Less → AllByRecursion (λ z. nat_cmp y z ≡ Less) keys → AllByRecursion (λ z. nat_cmp x z ≡ Less) keys
all_above x y [] l all = all
all_above x y (z ∷ keys) l all = (nat_cmp_total.trans x y z l all.0, all_above x y keys l all.1)
