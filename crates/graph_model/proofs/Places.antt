-- The places at which ids and records are put into lists and taken out of them.
use Rattle.std.proofs.Common.{◌≡◌, ℕ, suc, ◌+◌, ◌<◌, ◌≤◌, Bool, true, false, cond, not, List, [], ◌∷◌, length, Option, Some, None, refl, sym, ap, ◌∙◌, subst, arith}
use Rattle.std.specs.Prelude.{nat_eq, nat_lt, slice_get, set, IsSomeAnd}
use Rattle.std.specs.List.{prefix_len, position, list_any, insert as insert_place, remove as remove_place}
use Rattle.std.proofs.lemmas.Bool.{eqb-true, eq-eqb, ne_eqb, ltb-true, ltb-false}
use Rattle.std.proofs.lemmas.Grind.{common_steps}
use Rattle.graph_model.specs.Ids.{has, insert, remove}
use Rattle.graph_model.specs.declared.entity.Record.{Record}
use Rattle.graph_model.specs.Graph.{Graph, put}

pub one-add : (n : ℕ) → 1 + n ≡ suc n
one-add n = omega arith

pub nat_eq-swap : (x y : ℕ) → nat_eq x y ≡ nat_eq y x
nat_eq-swap x y = by (nat_eq x y) (nat_eq y x) refl refl
  where
    by : (b c : Bool) → nat_eq x y ≡ b → nat_eq y x ≡ c → b ≡ c
    by true true e f = refl
    by true false e f = let t : nat_eq y x ≡ true = eq-eqb y x (sym (eqb-true x y e)) in cc
    by false true e f = let t : nat_eq x y ≡ true = eq-eqb x y (sym (eqb-true y x f)) in cc
    by false false e f = refl

pub has-list_any : (x : ℕ) (xs : List ℕ) → list_any (λ (y : ℕ). nat_eq y x) xs ≡ has x xs
has-list_any x [] = refl
has-list_any x (y ∷ ys) = rw (nat_eq-swap y x, has-list_any x ys) refl

pub insert_at : (x : ℕ) (xs : List ℕ) → insert_place xs (prefix_len (λ (y : ℕ). nat_lt y x) xs) x ≡ insert x xs
insert_at x [] = refl
insert_at x (y ∷ ys) = let ih = insert_at x ys in let n : ℕ = prefix_len (λ (z : ℕ). nat_lt z x) ys in
    elim (nat_lt y x) as (λ b. insert_place (y ∷ ys) (cond b (1 + n) 0) x ≡ cond b (y ∷ insert x ys) (x ∷ y ∷ ys)) [
      | true ↦ rw (one-add n) (ap (λ (zs : List ℕ). y ∷ zs) ih)
      | false ↦ refl
    ]

-- also where x is not there, since then nothing stands at that place
pub remove_at : (x : ℕ) (xs : List ℕ) → remove_place xs (prefix_len (λ (y : ℕ). not (nat_eq y x)) xs) ≡ remove x xs
remove_at x [] = refl
remove_at x (y ∷ ys) = let ih = remove_at x ys in let n : ℕ = prefix_len (λ (z : ℕ). not (nat_eq z x)) ys in
    rw (nat_eq-swap x y) (elim (nat_eq y x) as (λ b. remove_place (y ∷ ys) (cond (not b) (1 + n) 0) ≡ cond b ys (y ∷ remove x ys)) [
      | true ↦ refl
      | false ↦ rw (one-add n) (ap (λ (zs : List ℕ). y ∷ zs) ih)
    ])

-- a place that `position` finds
pub remove_found : (x : ℕ) (xs : List ℕ) (i : ℕ) → position (λ (y : ℕ). nat_eq y x) xs ≡ Some i → remove_place xs i ≡ remove x xs
remove_found x xs i = let n : ℕ = prefix_len (λ (y : ℕ). not (nat_eq y x)) xs in
    elim (nat_lt n (length xs)) as (λ b. cond b (Some n) None ≡ Some i → remove_place xs i ≡ remove x xs) [
      | true ↦ λ e. let same : n ≡ i = cc in subst (λ (k : ℕ). remove_place xs k ≡ remove x xs) same (remove_at x xs)
      | false ↦ λ e. cc
    ]

pub remove_none : (x : ℕ) (xs : List ℕ) → position (λ (y : ℕ). nat_eq y x) xs ≡ None → remove x xs ≡ xs
remove_none x xs = (elim (nat_lt n (length xs)) as (λ b. nat_lt n (length xs) ≡ b → ◌≡◌ {A = Option ℕ} (cond b (Some n) None) None → remove x xs ≡ xs) [
  | true ↦ λ f e. cc
  | false ↦ λ f e. let past : length xs ≤ n = ltb-false n (length xs) f in sym (remove_at x xs) ∙ grind (arith, common_steps)
]) refl
  where
    n : ℕ
    n = prefix_len (λ (y : ℕ). not (nat_eq y x)) xs

not_below : (i j : ℕ) → nat_lt j i ≡ true → nat_eq i j ≡ false
not_below i j below = ne_eqb i j (λ same. let less : j < i = ltb-true j i below in absurd (omega arith))

-- a record at its place has the id, and is replaced there
pub put_found : (r : Record) (g : Graph) → IsSomeAnd (slice_get g (prefix_len (λ (s : Record). nat_lt s.id r.id) g)) (λ (s : Record). s.id ≡ r.id) → set g (prefix_len (λ (s : Record). nat_lt s.id r.id) g) r ≡ put r g
put_found r [] = λ h. absurd h
put_found r (s ∷ g) = let ih = put_found r g in let n : ℕ = prefix_len (λ (t : Record). nat_lt t.id r.id) g in
    (elim (nat_lt s.id r.id) as (λ b. nat_lt s.id r.id ≡ b → IsSomeAnd (slice_get (s ∷ g) (cond b (1 + n) 0)) (λ (t : Record). t.id ≡ r.id) → set (s ∷ g) (cond b (1 + n) 0) r ≡ cond (nat_eq r.id s.id) (r ∷ g) (cond b (s ∷ put r g) (r ∷ s ∷ g))) [
      | true ↦ λ below. let apart : nat_eq r.id s.id ≡ false = not_below r.id s.id below in rw (one-add n, apart) (λ h. ap (λ (rs : Graph). s ∷ rs) (ih h))
      | false ↦ λ _ h. let same : nat_eq r.id s.id ≡ true = eq-eqb r.id s.id (sym h) in rw same refl
    ]) refl

-- no record at its place has the id, and the record goes in front of the one there
pub put_new : (r : Record) (g : Graph) → (IsSomeAnd (slice_get g (prefix_len (λ (s : Record). nat_lt s.id r.id) g)) (λ (s : Record). s.id ≡ r.id) → ⊥) → insert_place g (prefix_len (λ (s : Record). nat_lt s.id r.id) g) r ≡ put r g
put_new r [] = λ h. refl
put_new r (s ∷ g) = let ih = put_new r g in let n : ℕ = prefix_len (λ (t : Record). nat_lt t.id r.id) g in
    (elim (nat_lt s.id r.id) as (λ b. nat_lt s.id r.id ≡ b → (IsSomeAnd (slice_get (s ∷ g) (cond b (1 + n) 0)) (λ (t : Record). t.id ≡ r.id) → ⊥) → insert_place (s ∷ g) (cond b (1 + n) 0) r ≡ cond (nat_eq r.id s.id) (r ∷ g) (cond b (s ∷ put r g) (r ∷ s ∷ g))) [
      | true ↦ λ below. let apart : nat_eq r.id s.id ≡ false = not_below r.id s.id below in rw (one-add n, apart) (λ h. ap (λ (rs : Graph). s ∷ rs) (ih h))
      | false ↦ λ _ h. let apart : nat_eq r.id s.id ≡ false = ne_eqb r.id s.id (λ e. h (sym e)) in rw apart refl
    ]) refl
