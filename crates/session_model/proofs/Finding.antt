-- Look-ups in the objects in memory after each kind of change, and their ids by rising number.
use Rattle.std.proofs.Common.{◌≡◌, ℕ, ◌<◌, Bool, true, false, cond, ◌&&◌, List, [], ◌∷◌, map, Option, Some, None, option_map, refl, sym, ap, ◌∙◌, subst, arith}
use Rattle.std.specs.Prelude.{nat_eq, nat_lt}
use Rattle.std.specs.List.{filter}
use Rattle.std.proofs.lemmas.Bool.{and_from, and_parts, eqb-true, eqb-false, ltb-true, ltb-false, lt-ltb, or_left, or_right}
use Rattle.graph_model.specs.Ids.{has, rises, rises_from}
use Rattle.graph_model.specs.Graph.{Graph, entity_of, ids}
use Rattle.graph_model.specs.declared.entity.Entity.{Entity}
use Rattle.graph_model.proofs.Places.{nat_eq-swap}
use Rattle.graph_model.proofs.Rising.{rises_filter}
use Rattle.session_model.specs.Instances.{Instance, Instances, Held, instance_at, put_instance, held_ids}
use Rattle.session_model.specs.Answer.{saved_instances}

abbrev pub ids_of : Instances → List ℕ
ids_of instances = map (λ (h : Held). h.id) instances

-- ---- one instance put

-- a number is not equal to two that differ
one_of : {A : Type 0} (x y z : ℕ) (a b c : A) → nat_lt x y ≡ true → cond (nat_eq x z) a (cond (nat_eq y z) b c) ≡ cond (nat_eq y z) b (cond (nat_eq x z) a c)
one_of x y z a b c below = by (nat_eq x z) (nat_eq y z) refl refl
  where
    by : (s t : Bool) → nat_eq x z ≡ s → nat_eq y z ≡ t → cond s a (cond t b c) ≡ cond t b (cond s a c)
    by true true e f = let l : x < y = ltb-true x y below in let p : x ≡ z = eqb-true x z e in let q : y ≡ z = eqb-true y z f in absurd (omega arith)
    by true false e f = refl
    by false t e f = refl

same_of : {A : Type 0} (x y z : ℕ) (b a c : A) → nat_eq x y ≡ true → cond (nat_eq y z) b c ≡ cond (nat_eq y z) b (cond (nat_eq x z) a c)
same_of x y z b a c same = let e : x ≡ y = eqb-true x y same in subst (λ (w : ℕ). cond (nat_eq y z) b c ≡ cond (nat_eq y z) b (cond (nat_eq w z) a c)) (sym e) (by (nat_eq y z))
  where
    by : (t : Bool) → cond t b c ≡ cond t b (cond t a c)
    by true = refl
    by false = refl

pub at_put : (id : ℕ) (i : Instance) (hs : Instances) (y : ℕ) → instance_at (put_instance id i hs) y ≡ cond (nat_eq id y) (Some i) (instance_at hs y)
at_put id i [] y = refl
at_put id i (h ∷ hs) y = by (nat_lt h.id id) (nat_eq h.id id) refl refl (at_put id i hs y)
  where
    by : (s t : Bool) → nat_lt h.id id ≡ s → nat_eq h.id id ≡ t → instance_at (put_instance id i hs) y ≡ cond (nat_eq id y) (Some i) (instance_at hs y)
        → instance_at (cond s (h ∷ put_instance id i hs) (cond t (record { id = id; instance = i } ∷ hs) (record { id = id; instance = i } ∷ (h ∷ hs)))) y
        ≡ cond (nat_eq id y) (Some i) (cond (nat_eq h.id y) (Some h.instance) (instance_at hs y))
    by true t e f ih = ap (λ (o : Option Instance). cond (nat_eq h.id y) (Some h.instance) o) ih ∙ one_of h.id id y (Some h.instance) (Some i) (instance_at hs y) e
    by false true e f ih = same_of h.id id y (Some i) (Some h.instance) (instance_at hs y) f
    by false false e f ih = refl

put_from : (b id : ℕ) (i : Instance) (hs : Instances) → nat_lt b id ≡ true → rises_from b (ids_of hs) ≡ true → rises_from b (ids_of (put_instance id i hs)) ≡ true
put_from b id i [] l r = and_from (nat_lt b id) true l refl
put_from b id i (h ∷ hs) l r = let t = and_parts (nat_lt b h.id) (rises_from h.id (ids_of hs)) r in by (nat_lt h.id id) (nat_eq h.id id) refl refl t.0 t.1 (λ k. put_from h.id id i hs k t.1)
  where
    by : (s t : Bool) → nat_lt h.id id ≡ s → nat_eq h.id id ≡ t → nat_lt b h.id ≡ true → rises_from h.id (ids_of hs) ≡ true
        → (nat_lt h.id id ≡ true → rises_from h.id (ids_of (put_instance id i hs)) ≡ true)
        → rises_from b (ids_of (cond s (h ∷ put_instance id i hs) (cond t (record { id = id; instance = i } ∷ hs) (record { id = id; instance = i } ∷ (h ∷ hs))))) ≡ true
    by true t e f m r ih = and_from (nat_lt b h.id) (rises_from h.id (ids_of (put_instance id i hs))) m (ih e)
    by false true e f m r ih = and_from (nat_lt b id) (rises_from id (ids_of hs)) l (subst (λ (n : ℕ). rises_from n (ids_of hs) ≡ true) (eqb-true h.id id f) r)
    by false false e f m r ih = and_from (nat_lt b id) (nat_lt id h.id && rises_from h.id (ids_of hs)) l
        (and_from (nat_lt id h.id) (rises_from h.id (ids_of hs)) (above e f) r)
      where
        above : nat_lt h.id id ≡ false → nat_eq h.id id ≡ false → nat_lt id h.id ≡ true
        above e f = let p = ltb-false h.id id e in let q = eqb-false h.id id f in lt-ltb id h.id (omega arith)

pub rises_put : (id : ℕ) (i : Instance) (hs : Instances) → rises (ids_of hs) ≡ true → rises (ids_of (put_instance id i hs)) ≡ true
rises_put id i [] r = refl
rises_put id i (h ∷ hs) r = by (nat_lt h.id id) (nat_eq h.id id) refl refl
  where
    above : nat_lt h.id id ≡ false → nat_eq h.id id ≡ false → nat_lt id h.id ≡ true
    above e f = let p = ltb-false h.id id e in let q = eqb-false h.id id f in lt-ltb id h.id (omega arith)

    by : (s t : Bool) → nat_lt h.id id ≡ s → nat_eq h.id id ≡ t
        → rises (ids_of (cond s (h ∷ put_instance id i hs) (cond t (record { id = id; instance = i } ∷ hs) (record { id = id; instance = i } ∷ (h ∷ hs))))) ≡ true
    by true t e f = put_from h.id id i hs e r
    by false true e f = subst (λ (n : ℕ). rises_from n (ids_of hs) ≡ true) (eqb-true h.id id f) r
    by false false e f = and_from (nat_lt id h.id) (rises_from h.id (ids_of hs)) (above e f) r

-- ---- some instances kept

pub at_filter : (test : ℕ → Bool) (hs : Instances) (y : ℕ) → instance_at (filter (λ (h : Held). test h.id) hs) y ≡ cond (test y) (instance_at hs y) None
at_filter test [] y = by (test y)
  where
    by : (b : Bool) → ◌≡◌ {A = Option Instance} None (cond b None None)
    by true = refl
    by false = refl
at_filter test (h ∷ hs) y = by (nat_eq h.id y) (test h.id) (test y) refl refl refl (at_filter test hs y)
  where
    left : Instances
    left = filter (λ (h : Held). test h.id) hs

    by : (s t u : Bool) → nat_eq h.id y ≡ s → test h.id ≡ t → test y ≡ u → instance_at left y ≡ cond (test y) (instance_at hs y) None
        → instance_at (cond t (h ∷ left) left) y ≡ cond u (cond s (Some h.instance) (instance_at hs y)) None
    by true true true e f g ih = ap (λ (b : Bool). cond b (Some h.instance) (instance_at left y)) e
    by true true false e f g ih = let same : test h.id ≡ test y = ap test (eqb-true h.id y e) in absurd cc
    by true false true e f g ih = let same : test h.id ≡ test y = ap test (eqb-true h.id y e) in absurd cc
    by true false false e f g ih = ih ∙ ap (λ (b : Bool). cond b (instance_at hs y) None) g
    by false true u e f g ih = ap (λ (b : Bool). cond b (Some h.instance) (instance_at left y)) e ∙ (ih ∙ ap (λ (b : Bool). cond b (instance_at hs y) None) g)
    by false false u e f g ih = ih ∙ ap (λ (b : Bool). cond b (instance_at hs y) None) g

ids_filter : (test : ℕ → Bool) (hs : Instances) → ids_of (filter (λ (h : Held). test h.id) hs) ≡ filter test (ids_of hs)
ids_filter test [] = refl
ids_filter test (h ∷ hs) = by (test h.id) (ids_filter test hs)
  where
    left : Instances
    left = filter (λ (h : Held). test h.id) hs

    by : (b : Bool) → ids_of left ≡ filter test (ids_of hs) → ids_of (cond b (h ∷ left) left) ≡ cond b (h.id ∷ filter test (ids_of hs)) (filter test (ids_of hs))
    by true ih = ap (λ (xs : List ℕ). h.id ∷ xs) ih
    by false ih = ih

pub rises_kept : (test : ℕ → Bool) (hs : Instances) → rises (ids_of hs) ≡ true → rises (ids_of (filter (λ (h : Held). test h.id) hs)) ≡ true
rises_kept test hs r = ap rises (ids_filter test hs) ∙ rises_filter test (ids_of hs) r

-- ---- some instances stored

-- an instance as it is once it was stored, if it was
abbrev pub if_stored : Bool → Instance → Instance
if_stored b i = cond b (record i { saved = true; changed = false }) i

pub at_saved : (hs : Instances) (xs : List ℕ) (y : ℕ) → instance_at (saved_instances hs xs) y ≡ option_map (if_stored (has y xs)) (instance_at hs y)
at_saved [] xs y = refl
at_saved (h ∷ hs) xs y = by (nat_eq h.id y) (has h.id xs) refl refl (at_saved hs xs y)
  where
    by : (s t : Bool) → nat_eq h.id y ≡ s → has h.id xs ≡ t → instance_at (saved_instances hs xs) y ≡ option_map (if_stored (has y xs)) (instance_at hs y)
        → instance_at (cond t (record h { instance = record h.instance { saved = true; changed = false } }) h ∷ saved_instances hs xs) y
        ≡ option_map (if_stored (has y xs)) (cond s (Some h.instance) (instance_at hs y))
    by true true e f ih = let here : has y xs ≡ true = subst (λ (w : ℕ). has w xs ≡ true) (eqb-true h.id y e) f in rw (e, here) refl
    by true false e f ih = let here : has y xs ≡ false = subst (λ (w : ℕ). has w xs ≡ false) (eqb-true h.id y e) f in rw (e, here) refl
    by false true e f ih = rw e ih
    by false false e f ih = rw e ih

ids_saved : (hs : Instances) (xs : List ℕ) → ids_of (saved_instances hs xs) ≡ ids_of hs
ids_saved [] xs = refl
ids_saved (h ∷ hs) xs = by (has h.id xs) (ids_saved hs xs)
  where
    by : (b : Bool) → ids_of (saved_instances hs xs) ≡ ids_of hs
        → ids_of (cond b (record h { instance = record h.instance { saved = true; changed = false } }) h ∷ saved_instances hs xs) ≡ h.id ∷ ids_of hs
    by true ih = ap (λ (ys : List ℕ). h.id ∷ ys) ih
    by false ih = ap (λ (ys : List ℕ). h.id ∷ ys) ih

pub rises_saved : (hs : Instances) (xs : List ℕ) → rises (ids_of hs) ≡ true → rises (ids_of (saved_instances hs xs)) ≡ true
rises_saved hs xs r = ap rises (ids_saved hs xs) ∙ r

-- ---- as entities

-- what is made of each instance
abbrev pub made : (Instance → Entity) → Instances → Graph
made make hs = map (λ (h : Held). record { id = h.id; entity = make h.instance }) hs

pub entity_of_made : (make : Instance → Entity) (hs : Instances) (y : ℕ) → entity_of (made make hs) y ≡ option_map make (instance_at hs y)
entity_of_made make [] y = refl
entity_of_made make (h ∷ hs) y = ap (λ (b : Bool). cond b (Some (make h.instance)) (entity_of (made make hs) y)) (nat_eq-swap y h.id) ∙ by (nat_eq h.id y) (entity_of_made make hs y)
  where
    by : (b : Bool) → entity_of (made make hs) y ≡ option_map make (instance_at hs y)
        → cond b (Some (make h.instance)) (entity_of (made make hs) y) ≡ option_map make (cond b (Some h.instance) (instance_at hs y))
    by true ih = refl
    by false ih = ih

pub ids_made : (make : Instance → Entity) (hs : Instances) → ids (made make hs) ≡ ids_of hs
ids_made make [] = refl
ids_made make (h ∷ hs) = ap (λ (xs : List ℕ). h.id ∷ xs) (ids_made make hs)

-- ---- the ids of saved instances

pub is_held : (hs : Instances) (y : ℕ) (i : Instance) → instance_at hs y ≡ Some i → i.saved ≡ true → has y (held_ids hs) ≡ true
is_held [] y i e s = absurd cc
is_held (h ∷ hs) y i e s = by (nat_eq h.id y) (h.instance.saved) refl refl e (λ f. is_held hs y i f s)
  where
    by : (b t : Bool) → nat_eq h.id y ≡ b → h.instance.saved ≡ t → cond b (Some h.instance) (instance_at hs y) ≡ Some i → (instance_at hs y ≡ Some i → has y (held_ids hs) ≡ true)
        → has y (map (λ (h : Held). h.id) (cond t (h ∷ filter (λ (h : Held). h.instance.saved) hs) (filter (λ (h : Held). h.instance.saved) hs))) ≡ true
    by true true f g e later = or_left (nat_eq y h.id) (has y (held_ids hs)) (nat_eq-swap y h.id ∙ f)
    by true false f g e later = let same : h.instance ≡ i = cc in let t : h.instance.saved ≡ i.saved = ap (λ (j : Instance). j.saved) same in absurd cc
    by false true f g e later = or_right (nat_eq y h.id) (has y (held_ids hs)) (later e)
    by false false f g e later = later e
