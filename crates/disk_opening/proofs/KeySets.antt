-- What an insertion into a set of ids answers and makes of its keys.
use Rattle.std.proofs.Common.{◌≡◌, ℕ, Bool, true, false, not, List, [], ◌∷◌, inl, inr, refl, sym, ap, ◌∙◌, arith}
use Rattle.std.specs.Prelude.{nat_eq, nat_lt}
use Rattle.std.specs.declared.cmp.Ordering.TheVariants.{Less, Equal, Greater}
use Rattle.std.specs.Ordering.{nat_cmp}
use Rattle.std.specs.List.{list_any}
use Rattle.std.specs.BTreeMap.{is_at}
use Rattle.std.specs.BTreeSet.{insert_key}
use Rattle.std.proofs.lemmas.Bool.{cases_order, eq-eqb, ne_eqb, not-true, not-false, lt-ltb, le-ltb, or_parts}
use Rattle.graph_model.specs.Ids.{has, insert}

-- how two numbers stand to one another, by each test
data Compared (x y : ℕ) : Type 0 where
  Below : nat_cmp x y ≡ Less → nat_lt y x ≡ false → nat_eq x y ≡ false → Compared x y
  Same : nat_cmp x y ≡ Equal → nat_eq x y ≡ true → Compared x y
  Above : nat_cmp x y ≡ Greater → nat_lt y x ≡ true → nat_eq x y ≡ false → Compared x y

compared : (x y : ℕ) → Compared x y
compared x y = elim (cases_order x y) [
  | inl e ↦ let a = le-ltb x y (omega arith) in let c = eq-eqb x y e in Same (rw (a, c) refl) c
  | inr (inl l) ↦ let a = lt-ltb x y l in Below (rw a refl) (le-ltb y x (omega arith)) (ne_eqb x y (λ e. omega arith))
  | inr (inr l) ↦ let a = le-ltb x y (omega arith) in let c = ne_eqb x y (λ e. omega arith) in Above (rw (a, c) refl) (lt-ltb y x l) c
]

is_at-nat_eq : (x y : ℕ) → is_at (nat_cmp x) y ≡ nat_eq x y
is_at-nat_eq x y = elim (compared x y) [ Below c b d ↦ rw (c, d) refl | Same c d ↦ rw (c, d) refl | Above c b d ↦ rw (c, d) refl ]

contains-has : (x : ℕ) (keys : List ℕ) → list_any (is_at (nat_cmp x)) keys ≡ has x keys
contains-has x [] = refl
contains-has x (y ∷ keys) = rw (is_at-nat_eq x y, contains-has x keys) refl

-- a new key comes to its place
pub inserted : (x : ℕ) (keys : List ℕ) → has x keys ≡ false → insert_key nat_cmp keys x ≡ insert x keys
inserted x [] new = refl
inserted x (y ∷ keys) new = let t = or_parts (nat_eq x y) (has x keys) new in let ih = inserted x keys t.1 in elim (compared x y) [
  | Below c b d ↦ rw (c, b) refl
  | Same c d ↦ absurd cc
  | Above c b d ↦ rw (c, b) (ap (λ (ks : List ℕ). y ∷ ks) ih)
]

pub was_new : (x : ℕ) (keys : List ℕ) (added : Bool) → added ≡ not (list_any (is_at (nat_cmp x)) keys) → added ≡ true → has x keys ≡ false
was_new x keys added e is = sym (contains-has x keys) ∙ not-true (list_any (is_at (nat_cmp x)) keys) (sym e ∙ is)

pub was_there : (x : ℕ) (keys : List ℕ) (added : Bool) → added ≡ not (list_any (is_at (nat_cmp x)) keys) → added ≡ false → has x keys ≡ true
was_there x keys added e is = sym (contains-has x keys) ∙ not-false (list_any (is_at (nat_cmp x)) keys) (sym e ∙ is)
