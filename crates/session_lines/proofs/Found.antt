-- What a line's words lead to in memory, they lead to in the state of the model.
use Rattle.std.proofs.Common.{◌≡◌, ℕ, true, false, not, List, ◌∷◌, Option, Some, None, ap, ◌∙◌, refl, sym}
use Rattle.std.specs.Prelude.{is_none, is_some, option_and_then, unwrap_or, slice_get}
use Rattle.type_desc.specs.declared.desc.TypeDesc.{TypeDesc}
use Rattle.type_dictionary.specs.Latest.{desc_of}
use Rattle.entity_form.specs.declared.value.Value.{Value}
use Rattle.graph_model.specs.Served.{Storage}
use Rattle.session_model.specs.Types.{member_index}
use Rattle.session_model.specs.Instances.{Instance, Instances, instance_at}
use Rattle.session_model.specs.Answer.{State, Turn, Refusal, id_in, id_of, is_bound, judged, lacks_member, member_at, named_instance, no_desc, no_member, no_name, nothing, value_in, value_of}
use Rattle.session_lines.specs.declared.memory.Memory.{Memory}
use Rattle.session_lines.specs.declared.refusal.Stop.{Stop}
use Rattle.session_lines.specs.declared.refusal.Stop.TheVariants.{Refused}
use Rattle.session_lines.specs.declared.refusal.Refusal.TheVariants as refusals
use Rattle.session_lines.specs.Stands.{Stands}
use Rattle.session_lines.specs.Places.{IsMissing, IsBoundTo, IsPlace, LacksMember, index_of, instance_named}
use Rattle.session_lines.specs.Refusals.{IsRefusal}
use Rattle.session_lines.proofs.Judged.{judged_first, judged_next}

-- the object of a name in the state
pub record Names (state : State) (name : List ℕ) (id : ℕ) (i : Instance) : Type 0 where
  pub bound : is_bound state name ≡ true
  pub id_is : id_of state name ≡ id
  pub instance_is : named_instance state name ≡ i
  pub here : instance_at state.instances id ≡ Some i

pub names_it : (memory : Memory) (storage : Storage) (state : State) (name : List ℕ) (id : ℕ) (i : Instance) → Stands memory storage state → IsBoundTo memory.registry name id i → Names state name id i
names_it memory storage state name id i s is = record {
  bound = ap is_some found;
  id_is = id_is;
  instance_is = ap (λ (x : ℕ). unwrap_or (instance_at state.instances x) nothing) id_is ∙ ap (λ (o : Option Instance). unwrap_or o nothing) here;
  here = here;
}
  where
    found : id_in state.names name ≡ Some id
    found = sym (s.names name) ∙ is.bound

    id_is : id_of state name ≡ id
    id_is = ap (λ (o : Option ℕ). unwrap_or o 0) found

    here : instance_at state.instances id ≡ Some i
    here = ap (λ (hs : Instances). instance_at hs id) (sym s.instances) ∙ is.here

-- a name without an object is not bound
pub names_none : (memory : Memory) (storage : Storage) (state : State) (name : List ℕ) → Stands memory storage state → state.started ≡ true → instance_named memory.registry name ≡ None → is_bound state name ≡ false
names_none memory storage state name s started none = by (id_in state.names name) refl
  where
    by : (o : Option ℕ) → id_in state.names name ≡ o → is_some o ≡ false
    by None e = refl
    by (Some x) e = let there = s.sound.bound started name x e in
        let here : instance_at memory.registry.instances x ≡ Some there.0 = ap (λ (hs : Instances). instance_at hs x) s.instances ∙ there.1 in
        let found : id_in memory.registry.names name ≡ Some x = s.names name ∙ e in
        let both : instance_named memory.registry name ≡ Some there.0 = ap (option_and_then (instance_at memory.registry.instances)) found ∙ here in
        absurd (let w = none in cc)

-- a member of it in the state
pub record Finds (state : State) (name member : List ℕ) (id : ℕ) (i : Instance) (index : ℕ) (old : Value) : Type 0 where
  pub names : Names state name id i
  pub index_is : member_at state i member ≡ Some index
  pub stands : slice_get i.object.values index ≡ Some old
  pub value_is : value_of state name member ≡ Some old

same_index : (memory : Memory) (storage : Storage) (state : State) (i : Instance) (member : List ℕ) → Stands memory storage state → member_at state i member ≡ index_of memory.types i member
same_index memory storage state i member s = ap (λ (types : List TypeDesc). member_index (unwrap_or (desc_of types i.object.type_id) no_desc) member) (sym s.types)

value_named : (state : State) (name member : List ℕ) (i : Instance) → named_instance state name ≡ i → value_of state name member ≡ value_in i (member_at state i member)
value_named state name member i e = ap (λ (j : Instance). value_in j (member_at state j member)) e

pub finds_it : (memory : Memory) (storage : Storage) (state : State) (name member : List ℕ) (id index : ℕ) (old : Value) → Stands memory storage state
    → (place : IsPlace memory.registry memory.types name member id index old) → Finds state name member id place.instance index old
finds_it memory storage state name member id index old s place = record {
  names = names;
  index_is = index_is;
  stands = place.found.value_is;
  value_is = value_named state name member place.instance names.instance_is ∙ (ap (value_in place.instance) index_is ∙ place.found.value_is);
}
  where
    names : Names state name id place.instance
    names = names_it memory storage state name id place.instance s place.named

    index_is : member_at state place.instance member ≡ Some index
    index_is = same_index memory storage state place.instance member s ∙ place.found.at

lacks_it : (memory : Memory) (storage : Storage) (state : State) (name member : List ℕ) → Stands memory storage state → LacksMember memory.registry memory.types name member
    → (is_bound state name ≡ true) × (lacks_member state name member ≡ true)
lacks_it memory storage state name member s l = let names = names_it memory storage state name l.id l.instance s l.named in
    (names.bound, ap is_none (value_named state name member l.instance names.instance_is ∙ (ap (value_in l.instance) (same_index memory storage state l.instance member s) ∙ l.lacks)))

-- the first two refusals of each line that speaks of a member
pub missing_refuses : (memory : Memory) (storage : Storage) (state : State) (name member : List ℕ) (others : List Refusal) (effect : Turn) (stop : Stop) → Stands memory storage state → state.started ≡ true
    → IsMissing memory.registry memory.types name member stop
    → IsRefusal state (judged state (no_name (not (is_bound state name)) ∷ no_member (lacks_member state name member) ∷ others) effect) stop
missing_refuses memory storage state name member others effect (Refused refusals.NoName) s started missing =
    judged_first state (no_name (not (is_bound state name))) (no_member (lacks_member state name member) ∷ others) effect (ap not (names_none memory storage state name s started missing))
missing_refuses memory storage state name member others effect (Refused refusals.NoMember) s started missing = let t = lacks_it memory storage state name member s missing in
    judged_next state (no_name (not (is_bound state name))) (no_member (lacks_member state name member) ∷ others) effect (ap not t.0)
    ∙ judged_first state (no_member (lacks_member state name member)) others effect t.1
missing_refuses memory storage state name member others effect _ s started missing = absurd missing

-- and the rest where neither is due
pub found_goes_on : (state : State) (name member : List ℕ) (id : ℕ) (i : Instance) (index : ℕ) (old : Value) (others : List Refusal) (effect : Turn) → Finds state name member id i index old
    → judged state (no_name (not (is_bound state name)) ∷ no_member (lacks_member state name member) ∷ others) effect ≡ judged state others effect
found_goes_on state name member id i index old others effect f =
    judged_next state (no_name (not (is_bound state name))) (no_member (lacks_member state name member) ∷ others) effect (ap not f.names.bound)
    ∙ judged_next state (no_member (lacks_member state name member)) others effect (ap is_none f.value_is)
