-- Slots that are full.
use mathlib.Core.Option.{some, some-injective, some-ne-none}
use lib.ListN.{get_elem?}
use Rattle.std.proofs.Common.{◌≡◌, ℕ, zero, suc, Bool, false, set, take, List, [], ◌∷◌, ◌++◌, map, get_or, replicate, sym, ap, refl, Option, Some}

module _ {A : Type 0} where
  abbrev pub Full : List (Option A) → Type 0
  Full xs = (us : List A) × (xs ≡ map (λ (u : A). Some u) us)

  -- the last slot is full, and so are those in front of it
  pub full_last : (xs : List (Option A)) (x : Option A) → Full (xs ++ x ∷ []) → ((u : A) × (x ≡ Some u)) × Full xs
  full_last [] x ([], e) = cc
  full_last [] x (u ∷ us, e) = ((u, let t : x ≡ Some u = cc in t), ([], refl))
  full_last (y ∷ xs) x ([], e) = cc
  full_last (y ∷ xs) x (u ∷ us, e) = let t : xs ++ x ∷ [] ≡ map (λ (u : A). Some u) us = cc in let h : y ≡ Some u = cc in let r = full_last xs x (us, t) in
      (r.0, (u ∷ r.1.0, (λ i. h i ∷ r.1.1 i)))

  pub full_same : (xs ys : List A) → map (λ (u : A). Some u) xs ≡ map (λ (u : A). Some u) ys → xs ≡ ys
  full_same [] [] e = refl
  full_same [] (y ∷ ys) e = cc
  full_same (x ∷ xs) [] e = cc
  full_same (x ∷ xs) (y ∷ ys) e = let h : Some x ≡ Some y = cc in let h' : x ≡ y = cc in let t : map (λ (u : A). Some u) xs ≡ map (λ (u : A). Some u) ys = cc in λ i. h' i ∷ full_same xs ys t i

  pub full_at : (us : List A) (k : ℕ) (x : Option A) → get_elem? (map (λ (u : A). Some u) us) k ≡ some x → (u : A) × (x ≡ Some u)
  full_at [] k x e = absurd (some-ne-none x (sym e))
  full_at (u ∷ us) zero x e = (u, sym (some-injective (Some u) x e))
  full_at (u ∷ us) (suc k) x e = full_at us k x e

  pub take_next : (l : List A) (i : ℕ) (x : A) → get_elem? l i ≡ some x → take i l ++ x ∷ [] ≡ take (suc i) l
  take_next [] i x e = absurd (some-ne-none x (sym e))
  take_next (y ∷ l) zero x e = ap (λ (z : A). z ∷ []) (sym (some-injective y x e))
  take_next (y ∷ l) (suc i) x e = ap (λ (z : List A). y ∷ z) (take_next l i x e)

pub emptied : (l : List Bool) (i : ℕ) → get_or (set l i false) i false ≡ false
emptied [] i = refl
emptied (x ∷ l) zero = refl
emptied (x ∷ l) (suc i) = emptied l i

pub blank : (n k : ℕ) → get_or {A = ℕ} (replicate n 0) k 0 ≡ 0
blank zero k = refl
blank (suc n) zero = refl
blank (suc n) (suc k) = blank n k
