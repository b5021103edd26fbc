-- Lists by rising number are sets: two with the same members are one list.
use Rattle.std.proofs.Common.{◌≡◌, ℕ, ◌<◌, Bool, true, false, ◌||◌, List, [], ◌∷◌, inl, inr, refl, sym, ap, ◌∙◌, subst, arith}
use Rattle.std.specs.Prelude.{nat_eq, nat_lt}
use Rattle.std.proofs.lemmas.Bool.{and_parts, eqb-true, eq-eqb, ltb-true, or_cases, or_left, false_from_ne_true}
use Rattle.graph_model.specs.Ids.{has, rises, rises_from}

-- what stands behind a number is above it
pub above_first : (x y : ℕ) (xs : List ℕ) → rises_from x xs ≡ true → has y xs ≡ true → x < y
above_first x y [] r h = absurd cc
above_first x y (z ∷ xs) r h = let t = and_parts (nat_lt x z) (rises_from z xs) r in let l = ltb-true x z t.0 in
    elim (or_cases (nat_eq y z) (has y xs) h) [
      | inl same ↦ let e = eqb-true y z same in omega arith
      | inr later ↦ let m = above_first z y xs t.1 later in omega arith
    ]

pub rises-tail : (x : ℕ) (xs : List ℕ) → rises_from x xs ≡ true → rises xs ≡ true
rises-tail x [] r = refl
rises-tail x (y ∷ xs) r = (and_parts (nat_lt x y) (rises_from y xs) r).1

first_has : (x : ℕ) (xs : List ℕ) → has x (x ∷ xs) ≡ true
first_has x xs = or_left (nat_eq x x) (has x xs) (eq-eqb x x refl)

-- the first number of each is in the other
same_first : (x y : ℕ) (xs ys : List ℕ) → rises_from x xs ≡ true → rises_from y ys ≡ true → has x (y ∷ ys) ≡ true → has y (x ∷ xs) ≡ true → x ≡ y
same_first x y xs ys r s h k = elim (or_cases (nat_eq x y) (has x ys) h) [
  | inl same ↦ eqb-true x y same
  | inr later ↦ elim (or_cases (nat_eq y x) (has y xs) k) [
    | inl same ↦ sym (eqb-true y x same)
    | inr after ↦ let l = above_first y x ys s later in let m = above_first x y xs r after in absurd (omega arith)
  ]
]

-- behind equal first numbers the same members are left
same_rest : (x : ℕ) (xs ys : List ℕ) → rises_from x xs ≡ true → rises_from x ys ≡ true → ((z : ℕ) → has z (x ∷ xs) ≡ has z (x ∷ ys)) → (z : ℕ) → has z xs ≡ has z ys
same_rest x xs ys r s same z = by (nat_eq z x) refl (same z)
  where
    not_behind : (zs : List ℕ) → rises_from x zs ≡ true → nat_eq z x ≡ true → has z zs ≡ false
    not_behind zs t e = false_from_ne_true (has z zs) (λ h. let l = above_first x z zs t h in let is = eqb-true z x e in absurd (omega arith))

    by : (b : Bool) → nat_eq z x ≡ b → (b || has z xs) ≡ (b || has z ys) → has z xs ≡ has z ys
    by true e h = not_behind xs r e ∙ sym (not_behind ys s e)
    by false e h = h

pub same_rising : (xs ys : List ℕ) → rises xs ≡ true → rises ys ≡ true → ((x : ℕ) → has x xs ≡ has x ys) → xs ≡ ys
same_rising [] [] r s same = refl
same_rising [] (y ∷ ys) r s same = let t : has y (y ∷ ys) ≡ true = first_has y ys in let e = same y in absurd cc
same_rising (x ∷ xs) [] r s same = let t : has x (x ∷ xs) ≡ true = first_has x xs in let e = same x in absurd cc
same_rising (x ∷ xs) (y ∷ ys) r s same =
    let e : x ≡ y = same_first x y xs ys r s (sym (same x) ∙ first_has x xs) (same y ∙ first_has y ys) in
    let s' : rises_from x ys ≡ true = subst (λ (z : ℕ). rises_from z ys ≡ true) (sym e) s in
    let same' : (z : ℕ) → has z (x ∷ xs) ≡ has z (x ∷ ys) = λ z. subst (λ (w : ℕ). has z (x ∷ xs) ≡ has z (w ∷ ys)) (sym e) (same z) in
    ap (λ (zs : List ℕ). x ∷ zs) (same_rising xs ys (rises-tail x xs r) (rises-tail x ys s') (same_rest x xs ys r s' same')) ∙ ap (λ (w : ℕ). w ∷ ys) e

pub same_answer : (b c : Bool) → (b ≡ true → c ≡ true) → (c ≡ true → b ≡ true) → b ≡ c
same_answer true c f g = sym (f refl)
same_answer false true f g = g refl
same_answer false false f g = refl
