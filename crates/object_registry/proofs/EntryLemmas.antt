-- The entries of the table of instances, as the model's list by rising id.
use Rattle.std.proofs.Common.{◌≡◌, ℕ, true, false, cond, ◌||◌, List, [], ◌∷◌, ◌++◌, Some, None, refl, sym, ap, ◌∙◌, subst}
use Rattle.std.specs.Prelude.{if◌then◌else◌}
use Rattle.std.specs.declared.cmp.Ordering.TheVariants.{Less}
use Rattle.std.specs.Ordering.{nat_cmp}
use Rattle.std.specs.List.{AllByRecursion, filter, list_any}
use Rattle.std.specs.List.Sorted.{IsStrictlySortedBy}
use Rattle.std.specs.Map.{keys_of, lookup, set_value}
use Rattle.std.specs.BTreeMap.{insert_entry, is_at}
use Rattle.std.proofs.lemmas.Map.Keys.{sorted_head, sorted_tail}
use Rattle.graph_model.specs.Ids.{has, rises}
use Rattle.graph_model.proofs.IdSets.{has_append}
use Rattle.entity_form.specs.declared.value.Object.{Object}
use Rattle.session_model.specs.Instances.{Instance, Instances, Held, instance_at, put_instance}
use Rattle.session_model.specs.Answer.{saved_instances}
use Rattle.object_registry.specs.Entries.{held, held_in}
use Rattle.object_registry.specs.Registered.{instance_ids, kept_among, loaded, put_loaded}
use Rattle.object_registry.proofs.Numbers.{Compared, Below, Same, Above, compared, contains-has, rises-sorted, all_above}

abbrev pub Entries : Type 0
Entries = List (ℕ × Instance)

pub instance_at-held : (es : Entries) (x : ℕ) → instance_at (held_in es) x ≡ lookup (is_at (nat_cmp x)) es
instance_at-held [] x = refl
instance_at-held (e ∷ es) x = elim (compared x e.0) [
  | Below l c a b d f ↦ rw (c, f) (instance_at-held es x)
  | Same l c a b d f ↦ rw (c, f) refl
  | Above l c a b d f ↦ rw (c, f) (instance_at-held es x)
]

pub put_instance-held : (es : Entries) (x : ℕ) (i : Instance) → put_instance x i (held_in es) ≡ held_in (insert_entry nat_cmp es x i)
put_instance-held [] x i = refl
put_instance-held (e ∷ es) x i = let ih = put_instance-held es x i in elim (compared x e.0) [
  | Below l c a b d f ↦ rw (c, b, f) refl
  | Same l c a b d f ↦ rw (c, b, f) (ap (λ (k : ℕ). held k i ∷ held_in es) l)
  | Above l c a b d f ↦ rw (c, b) (ap (λ (hs : Instances). held e.0 e.1 ∷ hs) ih)
]

pub instance_ids-held : (es : Entries) → instance_ids (held_in es) ≡ keys_of es
instance_ids-held [] = refl
instance_ids-held (e ∷ es) = ap (λ (ids : List ℕ). e.0 ∷ ids) (instance_ids-held es)

pub instance_ids-rise : (es : Entries) → IsStrictlySortedBy nat_cmp (keys_of es) → rises (instance_ids (held_in es)) ≡ true
instance_ids-rise es s = rw (instance_ids-held es) (rises-sorted (keys_of es) s)

-- ---- an id that is below all keys has no entry

above_none : (es : Entries) (x : ℕ) → AllByRecursion (λ y. nat_cmp x y ≡ Less) (keys_of es) → lookup (is_at (nat_cmp x)) es ≡ None
above_none [] x below = refl
above_none (e ∷ es) x below = let less = below.0 in rw less (above_none es x below.1)

below_first : (e : ℕ × Instance) (es : Entries) (x : ℕ) → IsStrictlySortedBy nat_cmp (keys_of (e ∷ es)) → nat_cmp x e.0 ≡ Less → AllByRecursion (λ y. nat_cmp x y ≡ Less) (keys_of (e ∷ es))
below_first e es x s l = (l, all_above x e.0 (keys_of es) l (sorted_head nat_cmp e.0 (keys_of es) s))

-- ---- a value that is written over another

pub put_instance-set : (es : Entries) (x : ℕ) (old new : Instance) → IsStrictlySortedBy nat_cmp (keys_of es) → lookup (is_at (nat_cmp x)) es ≡ Some old
    → held_in (set_value (is_at (nat_cmp x)) es new) ≡ put_instance x new (held_in es)
put_instance-set [] x old new s found = absurd cc
put_instance-set (e ∷ es) x old new s found = by (compared x e.0) (put_instance-set es x old new (sorted_tail nat_cmp e.0 (keys_of es) s)) found
  where
    by : Compared x e.0 → (lookup (is_at (nat_cmp x)) es ≡ Some old → held_in (set_value (is_at (nat_cmp x)) es new) ≡ put_instance x new (held_in es))
        → lookup (is_at (nat_cmp x)) (e ∷ es) ≡ Some old → held_in (set_value (is_at (nat_cmp x)) (e ∷ es) new) ≡ put_instance x new (held_in (e ∷ es))
    by (Below l c a b d f) ih there = let none = above_none (e ∷ es) x (below_first e es x s c) in absurd cc
    by (Same l c a b d f) ih there = rw (c, b, f) (ap (λ (k : ℕ). held k new ∷ held_in es) (sym l))
    by (Above l c a b d f) ih there = rw (c, b) (ap (λ (hs : Instances). held e.0 e.1 ∷ hs) (ih (rw c at there)))

-- ---- instances that were stored

-- an id without an instance changes nothing
pub save-none : (es : Entries) (x : ℕ) → lookup (is_at (nat_cmp x)) es ≡ None → saved_instances (held_in es) (x ∷ []) ≡ held_in es
save-none [] x none = refl
save-none (e ∷ es) x none = by (compared x e.0) (save-none es x) none
  where
    by : Compared x e.0 → (lookup (is_at (nat_cmp x)) es ≡ None → saved_instances (held_in es) (x ∷ []) ≡ held_in es)
        → lookup (is_at (nat_cmp x)) (e ∷ es) ≡ None → saved_instances (held_in (e ∷ es)) (x ∷ []) ≡ held_in (e ∷ es)
    by (Below l c a b d f) ih there = rw f (ap (λ (hs : Instances). held e.0 e.1 ∷ hs) (ih (rw c at there)))
    by (Same l c a b d f) ih there = absurd (let t = rw c at there in cc)
    by (Above l c a b d f) ih there = rw f (ap (λ (hs : Instances). held e.0 e.1 ∷ hs) (ih (rw c at there)))

pub save-one : (es : Entries) (x : ℕ) (old : Instance) → IsStrictlySortedBy nat_cmp (keys_of es) → lookup (is_at (nat_cmp x)) es ≡ Some old
    → held_in (set_value (is_at (nat_cmp x)) es (record old { saved = true; changed = false })) ≡ saved_instances (held_in es) (x ∷ [])
save-one [] x old s found = absurd cc
save-one (e ∷ es) x old s found = by (compared x e.0) (save-one es x old (sorted_tail nat_cmp e.0 (keys_of es) s)) found
  where
    stored : Instance
    stored = record old { saved = true; changed = false }

    by : Compared x e.0 → (lookup (is_at (nat_cmp x)) es ≡ Some old → held_in (set_value (is_at (nat_cmp x)) es (record old { saved = true; changed = false })) ≡ saved_instances (held_in es) (x ∷ []))
        → lookup (is_at (nat_cmp x)) (e ∷ es) ≡ Some old → held_in (set_value (is_at (nat_cmp x)) (e ∷ es) (record old { saved = true; changed = false })) ≡ saved_instances (held_in (e ∷ es)) (x ∷ [])
    by (Below l c a b d f) ih there = let none = above_none (e ∷ es) x (below_first e es x s c) in absurd cc
    by (Same l c a b d f) ih there =
        let is : e.1 ≡ old = (let t = rw c at there in cc) in
        let rest : saved_instances (held_in es) (x ∷ []) ≡ held_in es = save-none es x (above_none es x (subst (λ (y : ℕ). AllByRecursion (λ z. nat_cmp y z ≡ Less) (keys_of es)) (sym l) (sorted_head nat_cmp e.0 (keys_of es) s))) in
        rw (c, f, rest, is) refl
    by (Above l c a b d f) ih there = rw (c, f) (ap (λ (hs : Instances). held e.0 e.1 ∷ hs) (ih (rw c at there)))

abbrev stored_held : Held → Held
stored_held h = record h { instance = record h.instance { saved = true; changed = false } }

abbrev saved_held : List ℕ → Held → Held
saved_held ids h = if has h.id ids then stored_held h else h

saved_held-append : (h : Held) (xs ys : List ℕ) → saved_held ys (saved_held xs h) ≡ saved_held (xs ++ ys) h
saved_held-append h xs ys = rw (has_append h.id xs ys)
    (elim (has h.id xs) as (λ b. cond (has (cond b (stored_held h) h).id ys) (stored_held (cond b (stored_held h) h)) (cond b (stored_held h) h) ≡ cond (b || has h.id ys) (stored_held h) h) [
      | true ↦ elim (has h.id ys) as (λ c. cond c (stored_held (stored_held h)) (stored_held h) ≡ stored_held h) [ true ↦ refl | false ↦ refl ]
      | false ↦ refl
    ])

pub saved_instances-append : (is : Instances) (xs ys : List ℕ) → saved_instances (saved_instances is xs) ys ≡ saved_instances is (xs ++ ys)
saved_instances-append [] xs ys = refl
saved_instances-append (h ∷ is) xs ys = ap (λ (k : Held). k ∷ saved_instances (saved_instances is xs) ys) (saved_held-append h xs ys) ∙ ap (λ (hs : Instances). saved_held (xs ++ ys) h ∷ hs) (saved_instances-append is xs ys)

pub saved_instances-none : (is : Instances) → saved_instances is [] ≡ is
saved_instances-none [] = refl
saved_instances-none (h ∷ is) = ap (λ (hs : Instances). h ∷ hs) (saved_instances-none is)

-- ---- loaded objects

pub put_loaded-last : (ps : List (ℕ × Object)) (p : ℕ × Object) (is : Instances) → put_loaded (ps ++ p ∷ []) is ≡ put_loaded ps (put_instance p.0 (loaded p.1) is)
put_loaded-last [] p is = refl
put_loaded-last (q ∷ ps) p is = ap (put_instance q.0 (loaded q.1)) (put_loaded-last ps p is)

-- ---- some of the entries

pub held-filter : (es : Entries) (ids : List ℕ) → held_in (filter (λ e. list_any (is_at (nat_cmp e.0)) ids) es) ≡ kept_among (held_in es) ids
held-filter [] ids = refl
held-filter (e ∷ es) ids = rw (contains-has e.0 ids)
    (elim (has e.0 ids) as (λ b. held_in (cond b (e ∷ filter (λ e. list_any (is_at (nat_cmp e.0)) ids) es) (filter (λ e. list_any (is_at (nat_cmp e.0)) ids) es)) ≡ cond b (held e.0 e.1 ∷ kept_among (held_in es) ids) (kept_among (held_in es) ids)) [
      | true ↦ ap (λ (hs : Instances). held e.0 e.1 ∷ hs) (held-filter es ids)
      | false ↦ held-filter es ids
    ])
