-- The objects that well-formed entities hold.
use Rattle.std.specs.Prelude.{◌≡◌, ℕ, nat_eq, List, Option, Some, None}
use Rattle.graph_model.specs.declared.entity.Entity.{Entity}
use Rattle.type_desc.specs.declared.desc.TypeDesc.{TypeDesc}
use Rattle.type_dictionary.specs.Latest.{desc_of}
use Rattle.entity_form.specs.Form.{Holds}
use Rattle.entity_form.specs.Values.{kinds_of}
use Rattle.entity_form.specs.declared.value.Object.{Object}
use Rattle.session_model.specs.WellFormed.{IsWellFormed}

-- the entity's type is known, and the entity holds the values of this object of it
pub record IsObjectOf (types : List TypeDesc) (entity : Entity) (object : Object) : Type 0 where
  pub of_type : object.type_id ≡ entity.type_id
  pub desc : TypeDesc
  pub known : desc_of types entity.type_id ≡ Some desc
  pub holds : Holds (kinds_of desc) entity.refs entity.plain object.values

-- the entity of the id holds the object, and has the root's type exactly where the id is the root's
pub record IsObjectAt (types : List TypeDesc) (id : ℕ) (entity : Entity) (object : Object) : Type 0 where
  pub held : IsObjectOf types entity object
  pub root : nat_eq entity.type_id 1 ≡ nat_eq id 1

-- the object that the entity of an id holds; or the entity is not well-formed
abbrev pub IsReadAs : List TypeDesc → ℕ → Entity → Option Object → Type 0
IsReadAs types id entity None = ¬ (IsWellFormed types id entity)
IsReadAs types id entity (Some object) = IsObjectAt types id entity object
