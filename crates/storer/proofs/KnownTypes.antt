-- The types of the instances stay known as instances are put in and stored.
use Rattle.std.proofs.Common.{◌≡◌, ℕ, Bool, true, false, cond, List, [], ◌∷◌, Option, Some, None, ◌⊎◌, inl, inr, refl, sym, ap, ◌∙◌, subst}
use Rattle.std.specs.Prelude.{nat_eq, nat_lt, option_map}
use Rattle.std.proofs.lemmas.Bool.{eqb-true}
use Rattle.graph_model.specs.Ids.{has}
use Rattle.type_dictionary.specs.declared.dictionary.Dictionary.{Dictionary}
use Rattle.entity_form.specs.declared.value.Object.{Object}
use Rattle.session_model.specs.Instances.{Instance, Instances, Held, instance_at, put_instance}
use Rattle.session_model.specs.Answer.{saved_instances}
use Rattle.storer.specs.Gathered.{AreKnown, IsKnown}

found : (b : Bool) (i j : Instance) (o : Option Instance) → cond b (Some i) o ≡ Some j → (i ≡ j) ⊎ (o ≡ Some j)
found true i j o e = inl cc
found false i j o e = inr e

-- an instance is the one that was put in, or was there before
put_or_there : (is : Instances) (x : ℕ) (i : Instance) (id : ℕ) (j : Instance) → instance_at (put_instance x i is) id ≡ Some j → (i ≡ j) ⊎ (instance_at is id ≡ Some j)
put_or_there [] x i id j at = found (nat_eq x id) i j None at
put_or_there (h ∷ is) x i id j at = by (nat_lt h.id x) (nat_eq h.id x) refl at (put_or_there is x i id j)
  where
    here : (b : Bool) → cond b (Some h.instance) (instance_at (put_instance x i is) id) ≡ Some j → (instance_at (put_instance x i is) id ≡ Some j → (i ≡ j) ⊎ (instance_at is id ≡ Some j))
        → (i ≡ j) ⊎ (cond b (Some h.instance) (instance_at is id) ≡ Some j)
    here true e ih = inr e
    here false e ih = ih e

    over : nat_eq h.id x ≡ true → (b : Bool) → nat_eq x id ≡ b → cond b (Some i) (instance_at is id) ≡ Some j → (i ≡ j) ⊎ (cond (nat_eq h.id id) (Some h.instance) (instance_at is id) ≡ Some j)
    over same true f e = inl cc
    over same false f e = inr (rw (subst (λ (y : ℕ). nat_eq y id ≡ false) (sym (eqb-true h.id x same)) f) e)

    by : (a b : Bool) → nat_eq h.id x ≡ b → instance_at (cond a (h ∷ put_instance x i is) (cond b (record { id = x; instance = i } ∷ is) (record { id = x; instance = i } ∷ (h ∷ is)))) id ≡ Some j
        → (instance_at (put_instance x i is) id ≡ Some j → (i ≡ j) ⊎ (instance_at is id ≡ Some j)) → (i ≡ j) ⊎ (instance_at (h ∷ is) id ≡ Some j)
    by true b same e ih = here (nat_eq h.id id) e ih
    by false true same e ih = over same (nat_eq x id) refl e
    by false false same e ih = found (nat_eq x id) i j (instance_at (h ∷ is) id) e

pub known-put : (types : Dictionary) (is : Instances) (x : ℕ) (i : Instance) → AreKnown types is → IsKnown types i.object → AreKnown types (put_instance x i is)
known-put types is x i known p id j at = elim (put_or_there is x i id j at) [
  | inl same ↦ subst (λ (k : Instance). IsKnown types k.object) same p
  | inr there ↦ known id j there
]

abbrev object_in : Option Instance → Option Object
object_in o = option_map (λ (i : Instance). i.object) o

abbrev stored : Held → Held
stored h = record h { instance = record h.instance { saved = true; changed = false } }

-- a stored instance has the object that it had
stored_object : (is : Instances) (ids : List ℕ) (id : ℕ) → object_in (instance_at (saved_instances is ids) id) ≡ object_in (instance_at is id)
stored_object [] ids id = refl
stored_object (h ∷ is) ids id =
    elim (has h.id ids) as (λ b. object_in (instance_at (cond b (stored h) h ∷ saved_instances is ids) id) ≡ object_in (instance_at (h ∷ is) id)) [
      | true ↦ elim (nat_eq h.id id) as (λ d. object_in (cond d (Some (stored h).instance) (instance_at (saved_instances is ids) id)) ≡ object_in (cond d (Some h.instance) (instance_at is id))) [ true ↦ refl | false ↦ stored_object is ids id ]
      | false ↦ elim (nat_eq h.id id) as (λ d. object_in (cond d (Some h.instance) (instance_at (saved_instances is ids) id)) ≡ object_in (cond d (Some h.instance) (instance_at is id))) [ true ↦ refl | false ↦ stored_object is ids id ]
    ]

mapped : (o : Option Instance) (object : Object) → object_in o ≡ Some object → (i : Instance) × (o ≡ Some i) × (i.object ≡ object)
mapped None object e = absurd cc
mapped (Some i) object e = (i, refl, cc)

pub known-stored : (types : Dictionary) (is : Instances) (ids : List ℕ) → AreKnown types is → AreKnown types (saved_instances is ids)
known-stored types is ids known id j at =
    let m = mapped (instance_at is id) j.object (sym (stored_object is ids id) ∙ ap object_in at) in
    subst (IsKnown types) m.2 (known id m.0 m.1)
