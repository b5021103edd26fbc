-- What a registry holds, and the instances after a change.
use Rattle.std.specs.Prelude.{◌≡◌, ◌<◌, ℕ, true, false, not, ◌&&◌, Option, IfSome, IsSome, IsSomeAnd, List, [], ◌∷◌, length, map, set, slice_get}
use Rattle.std.specs.List.{filter}
use Rattle.graph_model.specs.Ids.{has}
use Rattle.entity_form.specs.declared.value.Object.{Object}
use Rattle.entity_form.specs.declared.value.Value.{Value}
use Rattle.entity_form.specs.declared.value.Value.TheVariants.{Refs}
use Rattle.session_model.specs.Instances.{Instance, Held, Instances, instance_at, put_instance}
use Rattle.session_model.specs.Answer.{Binding, refs_in}

-- the bound names, and the instances by rising id
pub record Registered : Type 0 where
  pub names : List Binding
  pub instances : Instances

abbrev pub unsaved : Object → Instance
unsaved object = record { object = object; saved = false; changed = false }

abbrev pub loaded : Object → Instance
loaded object = record { object = object; saved = true; changed = false }

-- with each of the loaded objects put in
abbrev pub put_loaded : List (ℕ × Object) → Instances → Instances
put_loaded [] instances = instances
put_loaded (p ∷ ps) instances = put_instance p.0 (loaded p.1) (put_loaded ps instances)

-- with another value of a member, which makes it changed
abbrev pub with_member : Instance → ℕ → Value → Instance
with_member i at value = record i { object = record i.object { values = set i.object.values at value }; changed = true }

-- the ids of a `refs` member
abbrev pub refs_at : Instance → ℕ → Option (List ℕ)
refs_at i at = refs_in (slice_get i.object.values at)

-- the id's instance has a `refs` member at this index
abbrev pub HasRefs : Instances → (id at : ℕ) → Type 0
HasRefs instances id at = IsSomeAnd (instance_at instances id) (λ i. IsSome (refs_at i at))

-- and the member has an id with this index
abbrev pub HasRefAt : Instances → (id at index : ℕ) → Type 0
HasRefAt instances id at index = IsSomeAnd (instance_at instances id) (λ i. IsSomeAnd (refs_at i at) (λ ids. index < length ids))

-- with another list of a `refs` member, made of the one before
abbrev pub ChangesRefs : (List ℕ → List ℕ) → (id at : ℕ) → (old new : Instances) → Type 0
ChangesRefs change id at old new = IfSome (instance_at old id) (λ i. IfSome (refs_at i at) (λ ids. new ≡ put_instance id (with_member i at (Refs (change ids))) old))

-- the ids of the instances
abbrev pub instance_ids : Instances → List ℕ
instance_ids instances = map (λ (h : Held). h.id) instances

-- the ids that are bound
abbrev pub bound_ids : List Binding → List ℕ
bound_ids names = map (λ (b : Binding). b.id) names

-- the instances whose ids are among these
abbrev pub kept_among : Instances → List ℕ → Instances
kept_among instances ids = filter (λ (h : Held). has h.id ids) instances

-- the ids of the saved ones whose ids are not among these
abbrev pub released_ids : Instances → List ℕ → List ℕ
released_ids instances ids = map (λ (h : Held). h.id) (filter (λ (h : Held). h.instance.saved && not (has h.id ids)) instances)
