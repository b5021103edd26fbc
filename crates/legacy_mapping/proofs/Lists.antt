-- Lists that are built one element after the other.
use Rattle.std.proofs.Common.{◌≡◌, ℕ, zero, suc, ◌+◌, List, [], ◌∷◌, ◌++◌, take, Some, refl, ap, add-one}
use Rattle.std.specs.List.{AllZip}
use Rattle.std.specs.Prelude.{slice_get}

take_suc : {X : Type 0} (xs : List X) (i : ℕ) (x : X) → slice_get xs i ≡ Some x → take (suc i) xs ≡ take i xs ++ x ∷ []
take_suc [] i x e = absurd cc
take_suc (y ∷ ys) zero x e = let same : y ≡ x = (cc) in ap (λ z. z ∷ []) same
take_suc (y ∷ ys) (suc i) x e = ap (λ zs. y ∷ zs) (take_suc ys i x e)

-- one element more of a list
pub take-more : {X : Type 0} (xs : List X) (i : ℕ) (x : X) → slice_get xs i ≡ Some x → take (i + 1) xs ≡ take i xs ++ x ∷ []
take-more xs i x e = rw (add-one) (take_suc xs i x e)

pub all_zip-push : {A B : Type 0} (R : A → B → Type 0) (xs : List A) (ys : List B) (x : A) (y : B) → AllZip R xs ys → R x y → AllZip R (xs ++ x ∷ []) (ys ++ y ∷ [])
all_zip-push R [] [] x y all r = (r, tt)
all_zip-push R [] (b ∷ bs) x y all r = absurd all
all_zip-push R (a ∷ as') [] x y all r = absurd all
all_zip-push R (a ∷ as') (b ∷ bs) x y all r = (all.0, all_zip-push R as' bs x y all.1 r)

-- a list that goes with one element more has one more itself
pub record Unpushed {A B : Type 0} (R : A → B → Type 0) (xs : List A) (x : A) (zs : List B) : Type 0 where
  pub front : List B
  pub last : B
  pub parts : zs ≡ front ++ last ∷ []
  pub all : AllZip R xs front
  pub here : R x last

pub all_zip-unpush : {A B : Type 0} (R : A → B → Type 0) (xs : List A) (x : A) (zs : List B) → AllZip R (xs ++ x ∷ []) zs → Unpushed R xs x zs
all_zip-unpush R [] x [] all = absurd all
all_zip-unpush R [] x (z ∷ []) all = record { front = []; last = z; parts = refl; all = tt; here = all.0 }
all_zip-unpush R [] x (z ∷ (w ∷ ws)) all = absurd all.1
all_zip-unpush R (a ∷ as') x [] all = absurd all
all_zip-unpush R (a ∷ as') x (z ∷ zs) all =
    let rest = all_zip-unpush R as' x zs all.1 in
    record { front = z ∷ rest.front; last = rest.last; parts = ap (λ ws. z ∷ ws) rest.parts; all = (all.0, rest.all); here = rest.here }
