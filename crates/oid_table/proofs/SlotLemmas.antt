-- What stands where, after one slot is written.
use Rattle.std.proofs.Common.{◌≡◌, ◌≢◌, ℕ, zero, suc, ◌+◌, ◌<◌, List, [], ◌∷◌, length, set, Some, slice_get, get_or, cond, count_by, refl, inl, inr, sym, ap, subst, ◌∙◌, arith}
use Rattle.std.proofs.lemmas.List.Sums.{sum_by-set, sum_by-cons}
use Rattle.std.proofs.lemmas.Bool.{cases_eq}
use Rattle.std.proofs.lemmas.Option.{slice_get_within, get_or_from_slice_get}
use Rattle.oid_table.specs.declared.slot.Slot.{Slot}
use Rattle.oid_table.specs.declared.slot.Slot.TheVariants.{Empty, Full}
use Rattle.oid_table.specs.Slots.{Holds, Lacks, IsPassed, HasEmpty, is_full}

pub slice_get-set_same : {A : Type 0} → (xs : List A) (i : ℕ) (y : A) → i < length xs → slice_get (set xs i y) i ≡ Some y
slice_get-set_same [] i y inside = absurd (omega arith)
slice_get-set_same (x ∷ xs) zero y inside = refl
slice_get-set_same (x ∷ xs) (suc i) y inside = slice_get-set_same xs i y (omega arith)

pub slice_get-set_other : {A : Type 0} → (xs : List A) (i : ℕ) (y : A) (j : ℕ) → j ≢ i → slice_get (set xs i y) j ≡ slice_get xs j
slice_get-set_other [] i y j differs = refl
slice_get-set_other (x ∷ xs) zero y zero differs = absurd (differs refl)
slice_get-set_other (x ∷ xs) zero y (suc j) differs = refl
slice_get-set_other (x ∷ xs) (suc i) y zero differs = refl
slice_get-set_other (x ∷ xs) (suc i) y (suc j) differs = slice_get-set_other xs i y j (λ e. differs (ap suc e))

module _ {V : Type 0} where
  -- no key stands at an empty place
  pub not_empty : (slots : List (Slot V)) (place key : ℕ) → slice_get slots place ≡ Some Empty → Holds slots place key → ⊥
  not_empty slots place key empty held = let full = held.full in cc

  -- one key stands at a place
  pub one_key : (slots : List (Slot V)) (place key other : ℕ) → Holds slots place key → Holds slots place other → key ≡ other
  one_key slots place key other held held' = let full = held.full in let full' = held'.full in cc

  pub Holds-within : (slots : List (Slot V)) (place key : ℕ) → Holds slots place key → place < length slots
  Holds-within slots place key held = slice_get_within slots place _ held.full

  -- what stands at other places than the one that is written
  pub Holds-before_set : (slots : List (Slot V)) (at : ℕ) (s : Slot V) (place key : ℕ) → place ≢ at → Holds (set slots at s) place key → Holds slots place key
  Holds-before_set slots at s place key differs held =
      record { value = held.value; full = sym (slice_get-set_other slots at s place differs) ∙ held.full }

  pub Holds-after_set : (slots : List (Slot V)) (at : ℕ) (s : Slot V) (place key : ℕ) → place ≢ at → Holds slots place key → Holds (set slots at s) place key
  Holds-after_set slots at s place key differs held =
      record { value = held.value; full = slice_get-set_other slots at s place differs ∙ held.full }

  pub IsPassed-after_set : (slots : List (Slot V)) (at : ℕ) (s : Slot V) (place key : ℕ) → place ≢ at → IsPassed slots place key → IsPassed (set slots at s) place key
  IsPassed-after_set slots at s place key differs passed =
      record { other = passed.other; held = Holds-after_set slots at s place passed.other differs passed.held; differs = passed.differs }

  -- the key of a slot that was filled
  pub filled_key : (slots : List (Slot V)) (at key : ℕ) (value : V) (other : ℕ) → at < length slots → Holds (set slots at (Full key value)) at other → other ≡ key
  filled_key slots at key value other inside held =
      let full = held.full in
      let written = slice_get-set_same slots at (Full key value) inside in
      cc

  pub count-fill : (slots : List (Slot V)) (at key : ℕ) (value : V) → slice_get slots at ≡ Some Empty → count_by is_full (set slots at (Full key value)) ≡ count_by is_full slots + 1
  count-fill slots at key value empty =
      let counted = sum_by-set (λ (s : Slot V). cond (is_full s) 1 0) slots at (Full key value) Empty (slice_get_within slots at _ empty) in
      let before : cond {A = ℕ} (is_full (get_or slots at Empty)) 1 0 ≡ 0 = ap (λ (s : Slot V). cond {A = ℕ} (is_full s) 1 0) (get_or_from_slice_get slots at Empty Empty empty) in
      omega arith

  pub count-empty : (slots : List (Slot V)) (at key : ℕ) (value : V) → slice_get slots at ≡ Some (Full key value) → count_by is_full (set slots at Empty) + 1 ≡ count_by is_full slots
  count-empty slots at key value full =
      let counted = sum_by-set (λ (s : Slot V). cond (is_full s) 1 0) slots at Empty Empty (slice_get_within slots at _ full) in
      let before : cond {A = ℕ} (is_full (get_or slots at Empty)) 1 0 ≡ 1 = ap (λ (s : Slot V). cond {A = ℕ} (is_full s) 1 0) (get_or_from_slice_get slots at (Full key value) Empty full) in
      omega arith

  -- a key that was taken from the one place where it stood stands nowhere
  pub lacks_taken : (slots : List (Slot V)) (place key : ℕ) (value : V) → place < length slots → slice_get slots place ≡ Some (Full key value)
      → ((at : ℕ) → Holds slots at key → at ≡ place) → Lacks (set slots place Empty) key
  lacks_taken slots place key value inside full only at held =
      elim (cases_eq at place) [
        | inl here ↦ not_empty (set slots place Empty) place key (slice_get-set_same slots place Empty inside) (subst (λ p. Holds (set slots place Empty) p key) here held)
        | inr elsewhere ↦ elsewhere (only at (Holds-before_set slots place Empty at key elsewhere held))
      ]

  -- where fewer slots are full than there are, one is empty
  pub HasEmpty-from_count : (slots : List (Slot V)) → count_by is_full slots < length slots → HasEmpty slots
  HasEmpty-from_count [] fewer = absurd (omega arith)
  HasEmpty-from_count (Empty ∷ rest) fewer = record { place = 0; empty = refl }
  HasEmpty-from_count (Full k v ∷ rest) fewer =
      let sum = sum_by-cons (λ (s : Slot V). cond {A = ℕ} (is_full s) 1 0) (Full k v) rest in
      let later = HasEmpty-from_count rest (omega arith) in
      record { place = suc later.place; empty = later.empty }

-- writes at two places, in either order
pub set-set_other : {A : Type 0} → (xs : List A) (i j : ℕ) (a b : A) → i ≢ j → set (set xs i a) j b ≡ set (set xs j b) i a
set-set_other [] i j a b differs = refl
set-set_other (x ∷ xs) zero zero a b differs = absurd (differs refl)
set-set_other (x ∷ xs) zero (suc j) a b differs = refl
set-set_other (x ∷ xs) (suc i) zero a b differs = refl
set-set_other (x ∷ xs) (suc i) (suc j) a b differs = ap (λ ys. x ∷ ys) (set-set_other xs i j a b (λ e. differs (ap suc e)))
