-- Where a line's words lead: to an object that has a name, and to a member of it.
use Rattle.std.specs.Prelude.{◌≡◌, ℕ, true, false, is_some, Option, Some, None, List, option_and_then, unwrap_or, slice_get}
use Rattle.type_desc.specs.declared.desc.TypeDesc.{TypeDesc}
use Rattle.type_dictionary.specs.Latest.{desc_of}
use Rattle.entity_form.specs.declared.value.Value.{Value}
use Rattle.session_model.specs.Types.{member_index}
use Rattle.session_model.specs.Instances.{Instance, instance_at}
use Rattle.session_model.specs.Answer.{id_in, is_root_name, no_desc, value_in}
use Rattle.object_registry.specs.Registered.{Registered}
use Rattle.session_lines.specs.declared.refusal.Stop.{Stop}
use Rattle.session_lines.specs.declared.refusal.Stop.TheVariants.{Refused}
use Rattle.session_lines.specs.declared.refusal.Refusal.TheVariants.{Reserved, NameTaken, NoName, NoMember}

-- the name is bound to the id, which stands for the object
pub record IsBoundTo (registry : Registered) (name : List ℕ) (id : ℕ) (instance : Instance) : Type 0 where
  pub bound : id_in registry.names name ≡ Some id
  pub here : instance_at registry.instances id ≡ Some instance

-- the object of a name
abbrev pub instance_named : Registered → List ℕ → Option Instance
instance_named registry name = option_and_then (instance_at registry.instances) (id_in registry.names name)

-- the description of an object's type
abbrev pub desc_for : List TypeDesc → Instance → TypeDesc
desc_for types i = unwrap_or (desc_of types i.object.type_id) no_desc

-- where the object has the member
abbrev pub index_of : List TypeDesc → Instance → List ℕ → Option ℕ
index_of types i member = member_index (desc_for types i) member

-- the object's member of this name has this index and this value
pub record IsMember (types : List TypeDesc) (i : Instance) (member : List ℕ) (index : ℕ) (value : Value) : Type 0 where
  pub at : index_of types i member ≡ Some index
  pub value_is : slice_get i.object.values index ≡ Some value

-- the name stands for an object, whose member has this value
pub record IsPlace (registry : Registered) (types : List TypeDesc) (name member : List ℕ) (id index : ℕ) (value : Value) : Type 0 where
  pub instance : Instance
  pub named : IsBoundTo registry name id instance
  pub found : IsMember types instance member index value

-- the name stands for an object that lacks the member
pub record LacksMember (registry : Registered) (types : List TypeDesc) (name member : List ℕ) : Type 0 where
  pub id : ℕ
  pub instance : Instance
  pub named : IsBoundTo registry name id instance
  pub lacks : value_in instance (index_of types instance member) ≡ None

-- which of the two is missing
abbrev pub IsMissing : Registered → List TypeDesc → List ℕ → List ℕ → Stop → Type 0
IsMissing registry types name member (Refused NoName) = instance_named registry name ≡ None
IsMissing registry types name member (Refused NoMember) = LacksMember registry types name member
IsMissing registry types name member _ = ⊥

-- a name that may be bound
pub record IsFree (registry : Registered) (name : List ℕ) : Type 0 where
  pub other : is_root_name name ≡ false
  pub free : id_in registry.names name ≡ None

-- why a name may not be bound
abbrev pub IsNotFree : Registered → List ℕ → Stop → Type 0
IsNotFree registry name (Refused Reserved) = is_root_name name ≡ true
IsNotFree registry name (Refused NameTaken) = (is_root_name name ≡ false) × (is_some (id_in registry.names name) ≡ true)
IsNotFree registry name _ = ⊥
