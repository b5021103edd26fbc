-- Ids that may be held one after another.
use Rattle.std.proofs.Common.{◌≡◌, ℕ, zero, suc, ◌+◌, ◌<◌, arith, Bool, true, false, ◌&&◌, ◌||◌, not, List, [], ◌∷◌, length, take, get_or, refl, sym, ap, subst, ◌∙◌, ⊎_elim}
use Rattle.std.specs.Prelude.{nat_eq}
use Rattle.std.proofs.lemmas.Bool.{and_parts, or_cases, or_left, or_right, eqb-true}
use Rattle.std.proofs.lemmas.List.{take_more}
use Rattle.graph_model.specs.Ids.{has}
use Rattle.graph_model.specs.Graph.{Graph, has_edge, lists}
use Rattle.graph_model.specs.Served.{may_hold_all}
use Rattle.graph_model.specs.Stores.{any_edge, may_hold}
use Rattle.graph_model.proofs.IdSets.{has_append}
use Rattle.storage_alone.proofs.Pinned.{some_edge}

any_of : (g : Graph) (xs : List ℕ) (x y : ℕ) → has x xs ≡ true → has_edge g x y ≡ true → any_edge g xs y ≡ true
any_of g [] x y h e = absurd cc
any_of g (z ∷ xs) x y h e = ⊎_elim
    (λ s. or_left (has_edge g z y) (any_edge g xs y) (subst (λ (k : ℕ). has_edge g k y ≡ true) (eqb-true x z s) e))
    (λ t. or_right (has_edge g z y) (any_edge g xs y) (any_of g xs x y t e))
    (or_cases (nat_eq x z) (has x xs) h)

-- whether an id may be held is a matter of the set of held ids
same_may : (g : Graph) (hs hs' : List ℕ) (x : ℕ) → ((y : ℕ) → has y hs' ≡ has y hs) → may_hold g hs x ≡ true → may_hold g hs' x ≡ true
same_may g hs hs' x same may = ⊎_elim
    (λ h. or_left (has x hs') (any_edge g (1 ∷ hs') x || nat_eq x 1) (same x ∙ h))
    (λ t. or_right (has x hs') (any_edge g (1 ∷ hs') x || nat_eq x 1) (⊎_elim
    (λ e. let u = some_edge g (1 ∷ hs) x e in
    or_left (any_edge g (1 ∷ hs') x) (nat_eq x 1) (any_of g (1 ∷ hs') u.0 x (ap (λ (b : Bool). nat_eq u.0 1 || b) (same u.0) ∙ u.1) u.2))
    (λ r. or_right (any_edge g (1 ∷ hs') x) (nat_eq x 1) r)
    (or_cases (any_edge g (1 ∷ hs) x) (nat_eq x 1) t)))
    (or_cases (has x hs) (any_edge g (1 ∷ hs) x || nat_eq x 1) may)

turned : (a b c : Bool) → ((a || b) || c) ≡ (b || (a || c))
turned true true c = refl
turned true false c = refl
turned false b c = refl

-- the id of a number may be held once those in front of it are
pub may_hold_at : (g : Graph) (ids hs hs' : List ℕ) (i : ℕ) → i < length ids → may_hold_all g hs ids ≡ true
    → ((x : ℕ) → has x hs' ≡ (has x (take i ids) || has x hs)) → (lists g (get_or ids i 0) ≡ true) × (may_hold g hs' (get_or ids i 0) ≡ true)
may_hold_at g [] hs hs' i lt all held = absurd (omega arith)
may_hold_at g (y ∷ ids) hs hs' zero lt all held =
    let t = and_parts (lists g y) (may_hold g hs y && may_hold_all g (y ∷ hs) ids) all in
    let u = and_parts (may_hold g hs y) (may_hold_all g (y ∷ hs) ids) t.1 in
    (t.0, same_may g hs hs' y held u.0)
may_hold_at g (y ∷ ids) hs hs' (suc i) lt all held =
    let t = and_parts (lists g y) (may_hold g hs y && may_hold_all g (y ∷ hs) ids) all in
    let u = and_parts (may_hold g hs y) (may_hold_all g (y ∷ hs) ids) t.1 in
    may_hold_at g ids (y ∷ hs) hs' i (omega arith) u.1 (λ x. held x ∙ turned (nat_eq x y) (has x (take i ids)) (has x hs))

-- ---- one more id of those that are held, and of those that are held no longer

passed : (x i : ℕ) (xs : List ℕ) → i < length xs → has x (take (i + 1) xs) ≡ (has x (take i xs) || (nat_eq x (get_or xs i 0) || false))
passed x i xs lt = ap (λ (l : List ℕ). has x l) (take_more xs i 0 lt) ∙ has_append x (take i xs) (get_or xs i 0 ∷ [])

swapped : (a b c : Bool) → (a || (b || c)) ≡ ((b || a) || c)
swapped true true c = refl
swapped true false c = refl
swapped false true c = refl
swapped false false c = refl

no_longer : (a b c : Bool) → ((c && not b) && not a) ≡ (c && not (b || a))
no_longer a b false = refl
no_longer a true true = refl
no_longer a false true = refl

pub held_one_more : (xs first before now : List ℕ) (i : ℕ) → i < length xs → ((x : ℕ) → has x before ≡ (has x (take i xs) || has x first))
    → ((x : ℕ) → has x now ≡ (has x (get_or xs i 0 ∷ []) || has x before)) → (x : ℕ) → has x now ≡ (has x (take (i + 1) xs) || has x first)
held_one_more xs first before now i lt was is x =
    is x ∙ ap (λ (b : Bool). has x (get_or xs i 0 ∷ []) || b) (was x)
    ∙ swapped (has x (get_or xs i 0 ∷ [])) (has x (take i xs)) (has x first)
    ∙ ap (λ (b : Bool). b || has x first) (sym (passed x i xs lt))

pub released_one_more : (xs first before now : List ℕ) (i : ℕ) → i < length xs → ((x : ℕ) → has x before ≡ (has x first && not (has x (take i xs))))
    → ((x : ℕ) → has x now ≡ (has x before && not (has x (get_or xs i 0 ∷ [])))) → (x : ℕ) → has x now ≡ (has x first && not (has x (take (i + 1) xs)))
released_one_more xs first before now i lt was is x =
    is x ∙ ap (λ (b : Bool). b && not (has x (get_or xs i 0 ∷ []))) (was x)
    ∙ no_longer (has x (get_or xs i 0 ∷ [])) (has x (take i xs)) (has x first)
    ∙ ap (λ (b : Bool). has x first && not b) (sym (passed x i xs lt))

and_all : (b : Bool) → b ≡ (b && not false)
and_all true = refl
and_all false = refl

pub none_released : (first : List ℕ) (x : ℕ) → has x first ≡ (has x first && not (has x []))
none_released first x = and_all (has x first)
