-- The description by which an object is shown.
use Rattle.std.specs.Prelude.{◌≡◌, Some, List, length}
use Rattle.type_desc.specs.declared.desc.TypeDesc.{TypeDesc}
use Rattle.type_dictionary.specs.Latest.{desc_of}
use Rattle.session_model.specs.Instances.{Instance}

-- the description of the object's type, with as many members as the object has values
pub record IsDescOf (types : List TypeDesc) (i : Instance) (desc : TypeDesc) : Type 0 where
  pub known : desc_of types i.object.type_id ≡ Some desc
  pub as_many : length desc.members ≡ length i.object.values

-- there is none
abbrev pub LacksDesc : List TypeDesc → Instance → Type 0
LacksDesc types i = (desc : TypeDesc) → ¬ (IsDescOf types i desc)
