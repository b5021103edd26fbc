-- A call of one of several disks.
use Rattle.std.proofs.Common.{◌≡◌, ℕ, zero, suc, ◌<◌, ◌≤◌, List, [], ◌∷◌, length, set, get_or, map, refl, sym, ap, ◌∙◌, subst, arith, length-set}
use Rattle.std.proofs.lemmas.List.{length-map}
use Rattle.call_counts.specs.Counts.{Rose}
use Rattle.disk_opening.specs.ManyDisks.{NoneFell, OneRose, count_at}

-- what is told of the disk at a place
pub told_at : {A B : Type 0} (f : A → B) (xs : List A) (j : ℕ) (x : A) (d : B) → j < length xs → get_or (map f xs) j d ≡ f (get_or xs j x)
told_at f [] j x d within = absurd (omega arith)
told_at f (y ∷ xs) zero x d within = refl
told_at f (y ∷ xs) (suc j) x d within = told_at f xs j x d (omega arith)

told_after : {A B : Type 0} (f : A → B) (xs : List A) (j : ℕ) (y : A) (d : B) → j < length xs → get_or (map f (set xs j y)) j d ≡ f y
told_after f [] j y d within = absurd (omega arith)
told_after f (x ∷ xs) zero y d within = refl
told_after f (x ∷ xs) (suc j) y d within = told_after f xs j y d (omega arith)

-- what the call leaves of its disk it leaves of all
pub all_told : {A B : Type 0} (f : A → B) (xs : List A) (j : ℕ) (x y : A) → f y ≡ f (get_or xs j x) → map f (set xs j y) ≡ map f xs
all_told f [] j x y same = refl
all_told f (z ∷ xs) zero x y same = ap (λ b. b ∷ map f xs) same
all_told f (z ∷ xs) (suc j) x y same = ap (λ bs. f z ∷ bs) (all_told f xs j x y same)

none_falls : {A : Type 0} (f : A → ℕ) (xs : List A) (j : ℕ) (x y : A) → f (get_or xs j x) ≤ f y → (k : ℕ) → count_at (map f xs) k ≤ count_at (map f (set xs j y)) k
none_falls f [] j x y le k = omega arith
none_falls f (z ∷ xs) zero x y le zero = le
none_falls f (z ∷ xs) zero x y le (suc k) = omega arith
none_falls f (z ∷ xs) (suc j) x y le zero = omega arith
none_falls f (z ∷ xs) (suc j) x y le (suc k) = none_falls f xs j x y le k

pub one_higher : {A : Type 0} (f : A → ℕ) (xs : List A) (j : ℕ) (x y : A) → f (get_or xs j x) ≤ f y → NoneFell (map f xs) (map f (set xs j y))
one_higher f xs j x y le = record {
  many = length-map (set xs j y) f ∙ length-set xs j y ∙ sym (length-map xs f);
  each = none_falls f xs j x y le;
}

pub one_rose : {A : Type 0} (f : A → ℕ) (xs : List A) (j : ℕ) (x y : A) → j < length xs → Rose (f (get_or xs j x)) (f y) → OneRose (map f xs) (map f (set xs j y))
one_rose f xs j x y within rose = record {
  disk = j;
  within = omega (arith, length-map xs f);
  rose = subst (λ (n : ℕ). Rose n (count_at (map f (set xs j y)) j)) (sym (told_at f xs j x 0 within)) (subst (Rose (f (get_or xs j x))) (sym (told_after f xs j y 0 within)) rose);
}

pub none_fell : (old new : List ℕ) → new ≡ old → NoneFell old new
none_fell old new same = subst (NoneFell old) (sym same) record { many = refl; each = λ j. omega arith }

-- behind calls that did not fail
pub still_higher : (first old new : List ℕ) → old ≡ first → NoneFell old new → NoneFell first new
still_higher first old new same higher = subst (λ (l : List ℕ). NoneFell l new) same higher

pub still_rose : (first old new : List ℕ) → old ≡ first → OneRose old new → OneRose first new
still_rose first old new same rose = subst (λ (l : List ℕ). OneRose l new) same rose
