-- The table of conversion: what becomes of the values of an older type.
use Rattle.std.specs.Prelude.{◌≡◌, ℕ, List, Some, None}
use Rattle.type_desc.specs.declared.desc.TypeDesc.{TypeDesc}
use Rattle.type_dictionary.specs.Latest.{desc_of, latest_of}
use Rattle.entity_form.specs.declared.value.Value.{Value}
use Rattle.refactor_table.specs.declared.name.Pair.{Pair}
use Rattle.legacy_mapping.specs.Conversion.{IsConversion}
use Rattle.legacy_mapping.specs.Faults.{DiffersAt}
use Rattle.legacy_mapping.specs.Sources.{IsTarget}
use Rattle.session_model.specs.Loading.{Converted}

-- the newer type is the latest one of the older one's target name
pub record IsNewest (types : List TypeDesc) (pairs : List Pair) (old : TypeDesc) (new_type : ℕ) (new : TypeDesc) : Type 0 where
  pub name : List ℕ
  pub target : IsTarget pairs old.name name
  pub latest : latest_of types name ≡ Some new_type
  pub known : desc_of types new_type ≡ Some new

-- an object of the newest type, its values by the sources of its members; a member and its source are of two kinds; or no type has the target name
abbrev pub IsByTable : List TypeDesc → List Pair → TypeDesc → List Value → Converted → Type 0
IsByTable types pairs old values (Converted.Loaded made) = (new : TypeDesc) × IsNewest types pairs old made.type_id new × IsConversion pairs old new values made.values
IsByTable types pairs old values Converted.WrongKind = (new_type : ℕ) × (new : TypeDesc) × IsNewest types pairs old new_type new × (k : ℕ) × DiffersAt pairs old new k
IsByTable types pairs old values Converted.NoType = (name : List ℕ) × IsTarget pairs old.name name × (latest_of types name ≡ None)
