-- How a type is declared, and why it is not.
use Rattle.std.specs.Prelude.{◌≡◌, ◌≤◌, ℕ, true, false, Result, Ok, Err, List, length}
use Rattle.type_desc.specs.declared.desc.TypeDesc.{TypeDesc}
use Rattle.type_dictionary.specs.declared.declaration.Declared.{Declared}
use Rattle.type_dictionary.specs.declared.declaration.Declared.TheVariants.{Known, New}
use Rattle.type_dictionary.specs.Declaring.{IsGiven, IsKnownAs, IsNew}
use Rattle.type_dictionary.specs.Records.{IsNextRecord}
use Rattle.session_model.specs.Types.{is_root_type, repeats_member}
use Rattle.session_lines.specs.declared.refusal.Stop.{Stop}
use Rattle.session_lines.specs.declared.refusal.Stop.TheVariants.{Refused, NoMemory}
use Rattle.session_lines.specs.declared.refusal.Refusal.TheVariants.{Reserved, Duplicate, Full}

-- the name is not the built-in type's, and no member name stands twice
pub record MayBeDeclared (desc : TypeDesc) : Type 0 where
  pub other : is_root_type desc.name ≡ false
  pub once : repeats_member desc.members ≡ false

-- the latest type of the name has this id and is this one
pub record IsOldType (types : List TypeDesc) (desc : TypeDesc) (id : ℕ) : Type 0 where
  pub may : MayBeDeclared desc
  pub known : IsKnownAs types desc id

-- the type is new, the id is the next one, and the text is the next record
pub record IsNewType (types : List TypeDesc) (desc : TypeDesc) (id : ℕ) (text : List ℕ) : Type 0 where
  pub may : MayBeDeclared desc
  pub given : IsGiven types desc id text
  pub next : IsNextRecord types text desc

-- a member name stands twice in a type with a name of its own
pub record RepeatsMember (desc : TypeDesc) : Type 0 where
  pub other : is_root_type desc.name ≡ false
  pub twice : repeats_member desc.members ≡ true

-- the type is new, and there are as many as there may be
pub record HasNoRoom (types : List TypeDesc) (desc : TypeDesc) : Type 0 where
  pub may : MayBeDeclared desc
  pub fresh : IsNew types desc
  pub full : 65536 ≤ length types

-- what the type is, or the first reason against it
abbrev pub IsJudgedType : List TypeDesc → TypeDesc → Result Declared Stop → Type 0
IsJudgedType types desc (Ok (Known id)) = IsOldType types desc id
IsJudgedType types desc (Ok (New id text)) = IsNewType types desc id text
IsJudgedType types desc (Err (Refused Reserved)) = is_root_type desc.name ≡ true
IsJudgedType types desc (Err (Refused Duplicate)) = RepeatsMember desc
IsJudgedType types desc (Err (Refused Full)) = HasNoRoom types desc
IsJudgedType types desc (Err NoMemory) = Unit {0}
IsJudgedType types desc (Err _) = ⊥

-- the text is the next record of some type
pub record IsSomeRecord (types : List TypeDesc) (text : List ℕ) : Type 0 where
  pub desc : TypeDesc
  pub next : IsNextRecord types text desc
