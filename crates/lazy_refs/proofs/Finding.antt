-- Which element of a list a test finds.
use Rattle.std.proofs.Common.{◌≡◌, ℕ, zero, suc, ◌<◌, ◌≤◌, Bool, true, false, cond, List, [], ◌∷◌, length, get_or, Option, Some, None, inl, inr, refl, sym, ap, ◌∙◌, arith}
use Rattle.std.specs.Prelude.{slice_get, nat_lt}
use Rattle.std.specs.List.{list_any, position, position_or_len}
use Rattle.std.proofs.lemmas.Bool.{or_cases, or_left, or_right, ltb-true, ltb-false}
use Rattle.std.proofs.lemmas.Option.{slice_get-get_or, slice_get_within}
use Rattle.std.proofs.lemmas.List.Sums.{fails_before_first, passes_at_first}

-- the element of the list at this place passes
pub record PassesAt {X : Type 0} (p : X → Bool) (xs : List X) (k : ℕ) : Type 0 where
  pub item : X
  pub is : slice_get xs k ≡ Some item
  pub passes : p item ≡ true

pub any_at : {X : Type 0} (p : X → Bool) (xs : List X) → list_any p xs ≡ true → (k : ℕ) × PassesAt p xs k
any_at p [] h = absurd cc
any_at p (x ∷ xs) h = elim (or_cases (p x) (list_any p xs) h) [
  | inl here ↦ (zero, record { item = x; is = refl; passes = here })
  | inr there ↦ let t = any_at p xs there in (suc t.0, record { item = t.1.item; is = t.1.is; passes = t.1.passes })
]

pub any_from : {X : Type 0} (p : X → Bool) (xs : List X) (k : ℕ) (x : X) → slice_get xs k ≡ Some x → p x ≡ true → list_any p xs ≡ true
any_from p [] k x at h = absurd cc
any_from p (y ∷ xs) zero x at h = let same : y ≡ x = cc in or_left (p y) (list_any p xs) (ap p same ∙ h)
any_from p (y ∷ xs) (suc k) x at h = or_right (p y) (list_any p xs) (any_from p xs k x at h)

-- what a search gives: a place where an element passes, or none does
pub data Finds {X : Type 0} (p : X → Bool) (xs : List X) : Option ℕ → Type 0 where
  At : (i : ℕ) → PassesAt p xs i → Finds p xs (Some i)
  Absent : ((k : ℕ) (x : X) → slice_get xs k ≡ Some x → p x ≡ true → ⊥) → Finds p xs None

pub position_finds : {X : Type 0} (p : X → Bool) (xs : List X) → Finds p xs (position p xs)
position_finds p [] = Finds.Absent (λ k x at h. let e : None ≡ Some x = at in cc)
position_finds p (d ∷ xs) = by (nat_lt (position_or_len p (d ∷ xs)) (length (d ∷ xs))) refl
  where
    by : (b : Bool) → nat_lt (position_or_len p (d ∷ xs)) (length (d ∷ xs)) ≡ b → Finds p (d ∷ xs) (cond b (Some (position_or_len p (d ∷ xs))) None)
    by true e =
        let n = position_or_len p (d ∷ xs) in
        let within : position_or_len p (d ∷ xs) < length (d ∷ xs) = ltb-true _ _ e in
        Finds.At n (record { item = get_or (d ∷ xs) n d; is = slice_get-get_or (d ∷ xs) n d within; passes = passes_at_first p (d ∷ xs) d within })
    by false e = Finds.Absent (λ k x at h.
        let within : k < length (d ∷ xs) = slice_get_within (d ∷ xs) k x at in
        let past : length (d ∷ xs) ≤ position_or_len p (d ∷ xs) = ltb-false _ _ e in
        let fails : p (get_or (d ∷ xs) k d) ≡ false = fails_before_first p (d ∷ xs) k d (omega arith) in
        let same : Some (get_or (d ∷ xs) k d) ≡ Some x = sym (slice_get-get_or (d ∷ xs) k d within) ∙ at in
        let one : get_or (d ∷ xs) k d ≡ x = cc in
        let passes : p (get_or (d ∷ xs) k d) ≡ true = ap p one ∙ h in cc)

pub get_missing : {X : Type 0} (xs : List X) (i : ℕ) → i < length xs → slice_get xs i ≡ None → ⊥
get_missing [] i short none = omega arith
get_missing (x ∷ xs) zero short none = cc
get_missing (x ∷ xs) (suc i) short none = get_missing xs i (omega arith) none
