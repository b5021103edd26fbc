-- The names of a script: what is bound once one more is bound, or one is dropped.
use Rattle.std.proofs.Common.{◌≡◌, ℕ, Bool, true, false, cond, not, List, [], ◌∷◌, codes, Option, Some, None, is_none, is_some, refl, sym, ap, ◌∙◌, subst}
use Rattle.std.specs.List.{filter}
use Rattle.std.specs.Str.{bytes_eq}
use Rattle.std.proofs.lemmas.Bool.{and_from, and_parts}
use Rattle.std.proofs.lemmas.Slice.Eq.{bytes_eq-Decides}
use Rattle.session_model.specs.Answer.{Binding, id_in, is_root_name}
use Rattle.session_model.specs.Sound.{are_distinct}

pub same_name : (a b : List ℕ) → bytes_eq a b ≡ true → a ≡ b
same_name a b = (bytes_eq-Decides a b).0

pub is_itself : (a : List ℕ) → bytes_eq a a ≡ true
is_itself a = (bytes_eq-Decides a a).1 refl

pub name_swap : (a b : List ℕ) → bytes_eq a b ≡ bytes_eq b a
name_swap a b = by (bytes_eq a b) (bytes_eq b a) refl refl
  where
    by : (s t : Bool) → bytes_eq a b ≡ s → bytes_eq b a ≡ t → s ≡ t
    by true true e f = refl
    by true false e f = let same : bytes_eq b a ≡ true = (bytes_eq-Decides b a).1 (sym (same_name a b e)) in cc
    by false true e f = let same : bytes_eq a b ≡ true = (bytes_eq-Decides a b).1 (sym (same_name b a f)) in cc
    by false false e f = refl

-- the bindings without those of a name
abbrev pub dropped : List ℕ → List Binding → List Binding
dropped name names = filter (λ (b : Binding). not (bytes_eq b.name name)) names

pub id_in_dropped : (name : List ℕ) (bs : List Binding) (n : List ℕ) → id_in (dropped name bs) n ≡ cond (bytes_eq name n) None (id_in bs n)
id_in_dropped name [] n = by (bytes_eq name n)
  where
    by : (b : Bool) → ◌≡◌ {A = Option ℕ} None (cond b None None)
    by true = refl
    by false = refl
id_in_dropped name (b ∷ bs) n = by (bytes_eq b.name name) (bytes_eq b.name n) (bytes_eq name n) refl refl refl (id_in_dropped name bs n)
  where
    by : (s t u : Bool) → bytes_eq b.name name ≡ s → bytes_eq b.name n ≡ t → bytes_eq name n ≡ u
        → id_in (dropped name bs) n ≡ cond (bytes_eq name n) None (id_in bs n)
        → id_in (cond (not s) (b ∷ dropped name bs) (dropped name bs)) n ≡ cond u None (cond t (Some b.id) (id_in bs n))
    by true t true e f g ih = ih ∙ ap (λ (c : Bool). cond c None (id_in bs n)) g
    by true true false e f g ih = let same : bytes_eq name n ≡ true = subst (λ (m : List ℕ). bytes_eq m n ≡ true) (same_name b.name name e) f in absurd cc
    by true false false e f g ih = ih ∙ ap (λ (c : Bool). cond c None (id_in bs n)) g
    by false true true e f g ih = let same : bytes_eq b.name name ≡ true = (bytes_eq-Decides b.name name).1 (same_name b.name n f ∙ sym (same_name name n g)) in absurd cc
    by false true false e f g ih = ap (λ (c : Bool). cond c (Some b.id) (id_in (dropped name bs) n)) f
    by false false u e f g ih = ap (λ (c : Bool). cond c (Some b.id) (id_in (dropped name bs) n)) f ∙ (ih ∙ ap (λ (c : Bool). cond c None (id_in bs n)) g)

-- what is bound after a drop was bound
pub was_bound : (name : List ℕ) (bs : List Binding) (n : List ℕ) (x : ℕ) → id_in (dropped name bs) n ≡ Some x → id_in bs n ≡ Some x
was_bound name bs n x e = by (bytes_eq name n) (sym (id_in_dropped name bs n) ∙ e)
  where
    by : (b : Bool) → cond b None (id_in bs n) ≡ Some x → id_in bs n ≡ Some x
    by true e = absurd cc
    by false e = e

none_is : (o : Option ℕ) → is_none o ≡ true → o ≡ None
none_is None e = refl
none_is (Some x) e = absurd cc

pub not_some_is_none : (o : Option ℕ) → is_some o ≡ false → o ≡ None
not_some_is_none None e = refl
not_some_is_none (Some x) e = absurd cc

pub distinct_dropped : (name : List ℕ) (bs : List Binding) → are_distinct bs ≡ true → are_distinct (dropped name bs) ≡ true
distinct_dropped name [] d = refl
distinct_dropped name (b ∷ bs) d = by (bytes_eq b.name name) (distinct_dropped name bs parts.1)
  where
    parts : (is_none (id_in bs b.name) ≡ true) × (are_distinct bs ≡ true)
    parts = and_parts (is_none (id_in bs b.name)) (are_distinct bs) d

    still_none : (c : Bool) → id_in bs b.name ≡ None → is_none (cond c None (id_in bs b.name)) ≡ true
    still_none true e = refl
    still_none false e = ap (λ (o : Option ℕ). is_none o) e

    by : (s : Bool) → are_distinct (dropped name bs) ≡ true → are_distinct (cond (not s) (b ∷ dropped name bs) (dropped name bs)) ≡ true
    by true ih = ih
    by false ih = and_from (is_none (id_in (dropped name bs) b.name)) (are_distinct (dropped name bs))
        (ap (λ (o : Option ℕ). is_none o) (id_in_dropped name bs b.name) ∙ still_none (bytes_eq name b.name) (none_is (id_in bs b.name) parts.0)) ih

pub distinct_bound : (name : List ℕ) (id : ℕ) (bs : List Binding) → is_some (id_in bs name) ≡ false → are_distinct bs ≡ true → are_distinct (record { name = name; id = id } ∷ bs) ≡ true
distinct_bound name id bs free d = and_from (is_none (id_in bs name)) (are_distinct bs) (ap (λ (o : Option ℕ). is_none o) (not_some_is_none (id_in bs name) free)) d

-- another name than the root's leaves the root's binding
pub root_bound : (name : List ℕ) (id : ℕ) (bs : List Binding) → is_root_name name ≡ false → id_in bs (codes "root") ≡ Some 1
    → id_in (record { name = name; id = id } ∷ bs) (codes "root") ≡ Some 1
root_bound name id bs other root = ap (λ (b : Bool). cond b (Some id) (id_in bs (codes "root"))) other ∙ root

pub root_dropped : (name : List ℕ) (bs : List Binding) → is_root_name name ≡ false → id_in bs (codes "root") ≡ Some 1 → id_in (dropped name bs) (codes "root") ≡ Some 1
root_dropped name bs other root = id_in_dropped name bs (codes "root") ∙ (ap (λ (b : Bool). cond b None (id_in bs (codes "root"))) other ∙ root)

-- what is bound then is the new name, or was bound
pub bound_or_was : (P : ℕ → Type 0) (name : List ℕ) (id : ℕ) (bs : List Binding) → P id → ((n : List ℕ) (x : ℕ) → id_in bs n ≡ Some x → P x)
    → (n : List ℕ) (x : ℕ) → id_in (record { name = name; id = id } ∷ bs) n ≡ Some x → P x
bound_or_was P name id bs new old n x = by (bytes_eq name n)
  where
    by : (b : Bool) → cond b (Some id) (id_in bs n) ≡ Some x → P x
    by true e = let same : id ≡ x = cc in subst P same new
    by false e = old n x e
