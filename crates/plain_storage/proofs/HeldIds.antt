-- Ids that are held and released, as a set's keys.
use Rattle.std.proofs.Common.{◌≡◌, ◌<◌, ◌+◌, ℕ, Bool, true, false, cond, not, ◌||◌, ◌&&◌, List, [], ◌∷◌, ◌++◌, length, take, get_or, refl, sym, ap, ◌∙◌}
use Rattle.std.specs.Prelude.{nat_eq}
use Rattle.std.specs.Ordering.{nat_cmp}
use Rattle.std.specs.BTreeMap.{is_at}
use Rattle.std.specs.BTreeSet.{BTreeSet, Updates}
use Rattle.std.specs.List.{list_any}
use Rattle.std.proofs.lemmas.List.{map_push, take_more}
use Rattle.graph_model.specs.Graph.{ids}
use Rattle.graph_model.specs.Ids.{has}
use Rattle.graph_model.specs.declared.entity.Record.{Record}
use Rattle.graph_model.proofs.IdSets.{has_append}
use Rattle.graph_model.proofs.Places.{nat_eq-swap}
use Rattle.object_registry.proofs.Numbers.{contains-has, is_at-nat_eq}

-- what an update says of the keys
has_updated : (s n : BTreeSet ℕ) (k : ℕ) (b : Bool) → Updates nat_cmp s n k b → (x : ℕ) → has x n.keys ≡ cond (nat_eq x k) b (has x s.keys)
has_updated s n k b updates x =
    sym (contains-has x n.keys) ∙ updates.0 x
    ∙ ap (λ (t : Bool). cond t b (list_any (is_at (nat_cmp x)) s.keys)) (is_at-nat_eq k x ∙ nat_eq-swap k x)
    ∙ ap (λ (t : Bool). cond (nat_eq x k) b t) (contains-has x s.keys)

holds_too : (same a f : Bool) → cond same true (a || f) ≡ ((a || (same || false)) || f)
holds_too true true f = refl
holds_too true false f = refl
holds_too false true f = refl
holds_too false false f = refl

holds_no_longer : (same a f : Bool) → cond same false (f && not a) ≡ (f && not (a || (same || false)))
holds_no_longer true true true = refl
holds_no_longer true true false = refl
holds_no_longer true false true = refl
holds_no_longer true false false = refl
holds_no_longer false true true = refl
holds_no_longer false true false = refl
holds_no_longer false false true = refl
holds_no_longer false false false = refl

-- one more id at the end of those that were passed
passed : (x i : ℕ) (xs : List ℕ) → i < length xs → has x (take (i + 1) xs) ≡ (has x (take i xs) || (nat_eq x (get_or xs i 0) || false))
passed x i xs lt = ap (λ (l : List ℕ). has x l) (take_more xs i 0 lt) ∙ has_append x (take i xs) (get_or xs i 0 ∷ [])

-- one more id is held
pub held_more : (xs : List ℕ) (i : ℕ) (first s n : BTreeSet ℕ) → i < length xs → ((x : ℕ) → has x s.keys ≡ (has x (take i xs) || has x first.keys))
    → Updates nat_cmp s n (get_or xs i 0) true → (x : ℕ) → has x n.keys ≡ (has x (take (i + 1) xs) || has x first.keys)
held_more xs i first s n lt before updates x =
    has_updated s n (get_or xs i 0) true updates x
    ∙ ap (λ (t : Bool). cond (nat_eq x (get_or xs i 0)) true t) (before x)
    ∙ holds_too (nat_eq x (get_or xs i 0)) (has x (take i xs)) (has x first.keys)
    ∙ ap (λ (t : Bool). t || has x first.keys) (sym (passed x i xs lt))

-- one more id is released
pub released_more : (xs : List ℕ) (i : ℕ) (first s n : BTreeSet ℕ) → i < length xs → ((x : ℕ) → has x s.keys ≡ (has x first.keys && not (has x (take i xs))))
    → Updates nat_cmp s n (get_or xs i 0) false → (x : ℕ) → has x n.keys ≡ (has x first.keys && not (has x (take (i + 1) xs)))
released_more xs i first s n lt before updates x =
    has_updated s n (get_or xs i 0) false updates x
    ∙ ap (λ (t : Bool). cond (nat_eq x (get_or xs i 0)) false t) (before x)
    ∙ holds_no_longer (nat_eq x (get_or xs i 0)) (has x (take i xs)) (has x first.keys)
    ∙ ap (λ (t : Bool). has x first.keys && not t) (sym (passed x i xs lt))

moved : (same a s : Bool) → ((a || (same || false)) || s) ≡ (a || cond same true s)
moved true true s = refl
moved true false s = refl
moved false true s = refl
moved false false s = refl

-- the last record's id is held too
pub taken_more : (rs : List Record) (r : Record) (s n : BTreeSet ℕ) → Updates nat_cmp s n r.id true → (x : ℕ)
    → (has x (ids (rs ++ r ∷ [])) || has x s.keys) ≡ (has x (ids rs) || has x n.keys)
taken_more rs r s n updates x =
    ap (λ (l : List ℕ). has x l || has x s.keys) (map_push (λ (q : Record). q.id) rs r)
    ∙ ap (λ (t : Bool). t || has x s.keys) (has_append x (ids rs) (r.id ∷ []))
    ∙ moved (nat_eq x r.id) (has x (ids rs)) (has x s.keys)
    ∙ ap (λ (t : Bool). has x (ids rs) || t) (sym (has_updated s n r.id true updates x))
