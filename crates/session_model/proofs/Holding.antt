-- Which ids are held: those of the saved objects, before and after each change of the objects in memory.
use Rattle.std.proofs.Common.{◌≡◌, ◌↔◌, ℕ, Bool, true, false, cond, ◌&&◌, ◌||◌, List, [], ◌∷◌, map, Option, Some, None, option_map, is_some, Ok, ◌⊎◌, inl, inr, refl, sym, ap, ◌∙◌, subst, arith}
use Rattle.std.specs.Prelude.{nat_eq}
use Rattle.std.specs.List.{filter}
use Rattle.std.proofs.lemmas.Bool.{eqb-true, false_from_ne_true, or_cases, or_left, or_right}
use Rattle.graph_model.specs.Ids.{has, rises}
use Rattle.graph_model.specs.Graph.{Graph, ids}
use Rattle.graph_model.specs.declared.entity.Entity.{Entity}
use Rattle.graph_model.proofs.Graphs.{has_ids}
use Rattle.graph_model.proofs.Places.{nat_eq-swap}
use Rattle.type_desc.specs.declared.desc.TypeDesc.{TypeDesc}
use Rattle.entity_form.specs.Values as form
use Rattle.refactor_table.specs.declared.name.Pair.{Pair}
use Rattle.session_model.specs.Instances.{Held, Instance, Instances, graph_of, has_instance, held_ids, instance_at, kept_instances, kept_refs, put_instance, reached}
use Rattle.session_model.specs.Loading.{closure_of, load}
use Rattle.session_model.specs.Answer.{gathered_records, saved_instances}
use Rattle.session_model.proofs.Filling.{IsLoaded, IsOld, loaded_or_old, rises_loaded}
use Rattle.session_model.proofs.Finding.{at_filter, at_put, at_saved, ids_of, if_stored, rises_kept, rises_put, rises_saved}
use Rattle.session_model.proofs.Gathering.{gathered_is}
use Rattle.session_model.proofs.SameIds.{above_first, rises-tail}

-- the id stands for a saved instance
abbrev pub is_saved : Option Instance → Bool
is_saved None = false
is_saved (Some i) = i.saved

held_in_ids : (hs : Instances) (x : ℕ) → has x (held_ids hs) ≡ true → has x (ids_of hs) ≡ true
held_in_ids [] x h = h
held_in_ids (h ∷ hs) x in_it = by h.instance.saved in_it (held_in_ids hs x)
  where
    by : (b : Bool) → has x (map (λ (h : Held). h.id) (cond b (h ∷ filter (λ (h : Held). h.instance.saved) hs) (filter (λ (h : Held). h.instance.saved) hs))) ≡ true
        → (has x (held_ids hs) ≡ true → has x (ids_of hs) ≡ true) → (nat_eq x h.id || has x (ids_of hs)) ≡ true
    by true e later = elim (or_cases (nat_eq x h.id) (has x (held_ids hs)) e) [ inl same ↦ or_left (nat_eq x h.id) (has x (ids_of hs)) same | inr behind ↦ or_right (nat_eq x h.id) (has x (ids_of hs)) (later behind) ]
    by false e later = or_right (nat_eq x h.id) (has x (ids_of hs)) (later e)

-- a held id is the id of a saved instance
pub held_exact : (hs : Instances) (x : ℕ) → rises (ids_of hs) ≡ true → has x (held_ids hs) ≡ is_saved (instance_at hs x)
held_exact [] x r = refl
held_exact (h ∷ hs) x r = by (nat_eq h.id x) h.instance.saved refl refl (held_exact hs x (rises-tail h.id (ids_of hs) r))
  where
    not_behind : nat_eq h.id x ≡ true → has x (held_ids hs) ≡ false
    not_behind same = false_from_ne_true (has x (held_ids hs)) (λ in_it. let above = above_first h.id x (ids_of hs) r (held_in_ids hs x in_it) in let e = eqb-true h.id x same in absurd (omega arith))

    by : (b t : Bool) → nat_eq h.id x ≡ b → h.instance.saved ≡ t → has x (held_ids hs) ≡ is_saved (instance_at hs x)
        → has x (map (λ (h : Held). h.id) (cond t (h ∷ filter (λ (h : Held). h.instance.saved) hs) (filter (λ (h : Held). h.instance.saved) hs))) ≡ is_saved (cond b (Some h.instance) (instance_at hs x))
    by true true e f ih = or_left (nat_eq x h.id) (has x (held_ids hs)) (nat_eq-swap x h.id ∙ e) ∙ sym f
    by true false e f ih = not_behind e ∙ sym f
    by false true e f ih = ap (λ (b : Bool). b || has x (held_ids hs)) (nat_eq-swap x h.id ∙ e) ∙ ih
    by false false e f ih = ih

-- ---- after each change

-- an instance put in the place of one that is saved as it is, or of none where it is not saved
pub held_put : (hs : Instances) (x : ℕ) (i : Instance) → rises (ids_of hs) ≡ true → i.saved ≡ is_saved (instance_at hs x) → (y : ℕ) → has y (held_ids (put_instance x i hs)) ≡ has y (held_ids hs)
held_put hs x i r same y = held_exact (put_instance x i hs) y (rises_put x i hs r) ∙ (ap is_saved (at_put x i hs y) ∙ (by (nat_eq x y) refl ∙ sym (held_exact hs y r)))
  where
    by : (b : Bool) → nat_eq x y ≡ b → is_saved (cond b (Some i) (instance_at hs y)) ≡ is_saved (instance_at hs y)
    by true e = subst (λ (z : ℕ). i.saved ≡ is_saved (instance_at hs z)) (eqb-true x y e) same
    by false e = refl

-- what was stored is held too
pub held_stored : (hs : Instances) (xs : List ℕ) → rises (ids_of hs) ≡ true → (y : ℕ) → has y (held_ids (saved_instances hs xs)) ≡ (has y (ids (gathered_records hs xs)) || has y (held_ids hs))
held_stored hs xs r y = held_exact (saved_instances hs xs) y (rises_saved hs xs r) ∙ (ap is_saved (at_saved hs xs y) ∙ (by (instance_at hs y) (has y xs) ∙ sym whole))
  where
    listed : Option Instance → Bool → Bool
    listed o b = is_some (option_map (λ (i : Instance). form.entity_of i.object) (cond b o None))

    by : (o : Option Instance) (b : Bool) → is_saved (option_map (if_stored b) o) ≡ (is_some (option_map (λ (i : Instance). form.entity_of i.object) (cond b o None)) || is_saved o)
    by None true = refl
    by None false = refl
    by (Some i) true = refl
    by (Some i) false = refl

    whole : (has y (ids (gathered_records hs xs)) || has y (held_ids hs)) ≡ (is_some (option_map (λ (i : Instance). form.entity_of i.object) (cond (has y xs) (instance_at hs y) None)) || is_saved (instance_at hs y))
    whole = ap (λ (b : Bool). b || has y (held_ids hs)) (has_ids (gathered_records hs xs) y ∙ ap (λ (o : Option Entity). is_some o) (gathered_is hs xs y))
        ∙ ap (λ (b : Bool). is_some (option_map (λ (i : Instance). form.entity_of i.object) (cond (has y xs) (instance_at hs y) None)) || b) (held_exact hs y r)

-- what was loaded is held too
pub held_loaded : (types : List TypeDesc) (pairs : List Pair) (g : Graph) (hs : Instances) (id : ℕ) (ks : Instances) → rises (ids_of hs) ≡ true → load types pairs g hs id ≡ Ok ks
    → (y : ℕ) → has y (held_ids ks) ≡ (has y (ids (closure_of types pairs hs g id)) || has y (held_ids hs))
held_loaded types pairs g hs id ks r loads y = held_exact ks y (rises_loaded types pairs (closure_of types pairs hs g id) hs ks loads r) ∙ by (loaded_or_old types pairs (closure_of types pairs hs g id) hs ks loads y)
  where
    closure : Graph
    closure = closure_of types pairs hs g id

    by : IsLoaded types pairs closure ks y ⊎ IsOld closure hs ks y → is_saved (instance_at ks y) ≡ (has y (ids closure) || has y (held_ids hs))
    by (inl l) = ap is_saved l.at ∙ sym (or_left (has y (ids closure)) (has y (held_ids hs)) (has_ids closure y ∙ ap (λ (o : Option Entity). is_some o) l.listed))
    by (inr o) = ap is_saved o.at ∙ (sym (held_exact hs y r) ∙ sym (ap (λ (b : Bool). b || has y (held_ids hs)) (has_ids closure y ∙ ap (λ (e : Option Entity). is_some e) o.none)))

-- of what was held that is held on which is kept in memory
pub held_kept : (hs : Instances) (bound : List ℕ) → rises (ids_of hs) ≡ true → (y : ℕ) → has y (held_ids (kept_instances hs bound)) ≡ (has y (held_ids hs) && has_instance (kept_instances hs bound) y)
held_kept hs bound r y = held_exact (kept_instances hs bound) y (rises_kept (λ (z : ℕ). has z kept) hs r)
    ∙ (ap is_saved at ∙ (by (has y kept) (instance_at hs y)
    ∙ sym (ap (λ (b : Bool). b && is_some (instance_at (kept_instances hs bound) y)) (held_exact hs y r) ∙ ap (λ (o : Option Instance). is_saved (instance_at hs y) && is_some o) at)))
  where
    kept : List ℕ
    kept = reached (graph_of kept_refs hs) bound

    at : instance_at (kept_instances hs bound) y ≡ cond (has y kept) (instance_at hs y) None
    at = at_filter (λ (z : ℕ). has z kept) hs y

    by : (b : Bool) (o : Option Instance) → is_saved (cond b o None) ≡ (is_saved o && is_some (cond b o None))
    by true None = refl
    by true (Some i) = and_true i.saved
      where
        and_true : (c : Bool) → c ≡ (c && true)
        and_true true = refl
        and_true false = refl
    by false None = refl
    by false (Some i) = and_false i.saved
      where
        and_false : (c : Bool) → false ≡ (c && false)
        and_false true = refl
        and_false false = refl

-- so the held ids are those of the saved instances
pub held_is_saved : (hs : Instances) (x : ℕ) → rises (ids_of hs) ≡ true → (has x (held_ids hs) ≡ true) ↔ ((i : Instance) × (instance_at hs x ≡ Some i) × (i.saved ≡ true))
held_is_saved hs x r = (λ in_it. from (instance_at hs x) (sym (held_exact hs x r) ∙ in_it), λ there. held_exact hs x r ∙ (ap is_saved there.1 ∙ there.2))
  where
    from : (o : Option Instance) → is_saved o ≡ true → (i : Instance) × (o ≡ Some i) × (i.saved ≡ true)
    from None e = absurd cc
    from (Some i) e = (i, refl, e)
