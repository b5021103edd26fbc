-- A name that is bound to an id, and an object that is made.
use Rattle.std.specs.Prelude.{◌≡◌, ◌+◌, ◌==◌, ◌||◌, ℕ, true, false, Result, Ok, Err, List, ◌++◌, codes, Some, None, is_some, map, slice_get, unwrap_or}
use Rattle.std.specs.Fmt.{decimal}
use Rattle.type_desc.specs.declared.desc.TypeDesc.{TypeDesc}
use Rattle.type_dictionary.specs.Latest.{desc_of}
use Rattle.entity_form.specs.Values.{default_of, kinds_of}
use Rattle.entity_form.specs.declared.value.Object.{Object}
use Rattle.session_model.specs.Types.{is_root_type}
use Rattle.session_model.specs.Instances.{put_instance}
use Rattle.session_model.specs.Answer.{State, Turn, answered, bound, id_in, is_root_name, ok, ref_in}
use Rattle.object_registry.specs.Registered.{Registered, unsaved}
use Rattle.session_lines.specs.declared.refusal.Stop.{Stop}
use Rattle.session_lines.specs.declared.refusal.Stop.TheVariants.{Refused, NoMemory}
use Rattle.session_lines.specs.declared.refusal.Refusal.TheVariants.{Reserved, NameTaken, NoTarget}
use Rattle.session_lines.specs.Changes.{root_value}
use Rattle.session_lines.specs.Refusals.{IsRefusal}

-- the name is not bound
abbrev pub IsUnbound : Registered → List ℕ → Type 0
IsUnbound registry name = id_in registry.names name ≡ None

-- the turn binds the name to the id, or is the refusal
abbrev pub IsNaming : List ℕ → Result ℕ Stop → State → Turn → Type 0
IsNaming name (Ok id) state turn = turn ≡ ok (bound state name id)
IsNaming name (Err stop) state turn = IsRefusal state turn stop

-- the turn binds the name to a new id, which stands for the object; or is the refusal
abbrev pub IsMaking : List ℕ → Result Object Stop → State → Turn → Type 0
IsMaking name (Ok object) state turn = turn ≡ answered
    (record (bound state name state.next_id) { next_id = state.next_id + 1; instances = put_instance state.next_id (unsaved object) state.instances })
    (codes "new " ++ decimal state.next_id)
IsMaking name (Err stop) state turn = IsRefusal state turn stop

-- what the root's member names
abbrev pub target_of_root : Registered → ℕ
target_of_root registry = unwrap_or (ref_in (root_value registry)) 0

-- the id at this place of a list, which is not null; or it is
abbrev pub IsTargetAt : List ℕ → ℕ → Result ℕ Stop → Type 0
IsTargetAt ids at (Ok id) = (slice_get ids at ≡ Some id) × ((id == 0) ≡ false)
IsTargetAt ids at (Err (Refused NoTarget)) = slice_get ids at ≡ Some 0
IsTargetAt ids at (Err _) = ⊥

-- neither the name nor the type is the root's, and the name is free
pub record IsOpen (registry : Registered) (name type_name : List ℕ) : Type 0 where
  pub other : (is_root_name name || is_root_type type_name) ≡ false
  pub free : IsUnbound registry name

-- one of them is the root's, or else the name is bound
abbrev pub IsNotOpen : Registered → (name type_name : List ℕ) → Stop → Type 0
IsNotOpen registry name type_name (Refused Reserved) = (is_root_name name || is_root_type type_name) ≡ true
IsNotOpen registry name type_name (Refused NameTaken) = ((is_root_name name || is_root_type type_name) ≡ false) × (is_some (id_in registry.names name) ≡ true)
IsNotOpen registry name type_name _ = ⊥

-- an object of the type with the default of each member
pub record IsDefault (types : List TypeDesc) (type_id : ℕ) (object : Object) : Type 0 where
  pub desc : TypeDesc
  pub known : desc_of types type_id ≡ Some desc
  pub type_is : object.type_id ≡ type_id
  pub defaults : object.values ≡ map default_of (kinds_of desc)

-- it is made, unless memory runs out
abbrev pub IsFreshObject : List TypeDesc → ℕ → Result Object Stop → Type 0
IsFreshObject types type_id (Ok object) = IsDefault types type_id object
IsFreshObject types type_id (Err NoMemory) = Unit {0}
IsFreshObject types type_id (Err _) = ⊥
