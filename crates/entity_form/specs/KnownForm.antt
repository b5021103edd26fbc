-- The one word for an entity that has its type's form: what disks hold, the model's graph, loading and export go by it.
use Rattle.std.specs.Prelude.{◌≡◌, ℕ, nat_eq, Option, Some, List}
use Rattle.graph_model.specs.declared.entity.Entity.{Entity}
use Rattle.type_desc.specs.declared.desc.TypeDesc.{TypeDesc}
use Rattle.entity_form.specs.Form.{Holds}
use Rattle.entity_form.specs.Values.{kinds_of}
use Rattle.entity_form.specs.declared.value.Value.{Value}

-- the entity of an id is of a type that is known by its id and holds values of the type's kinds; and id 1, the root, has type 1, which no other id has
pub record IsOfKnownForm (type_of : ℕ → Option TypeDesc) (id : ℕ) (entity : Entity) : Type 0 where
  pub desc : TypeDesc
  pub known : type_of entity.type_id ≡ Some desc
  pub values : List Value
  pub holds : Holds (kinds_of desc) entity.refs entity.plain values
  pub root : nat_eq entity.type_id 1 ≡ nat_eq id 1
