-- What declaring a type gives.
use Rattle.std.specs.Prelude.{◌≡◌, ◌≢◌, ℕ, ◌+◌, ◌<◌, List, Some, codes, length}
use Rattle.type_desc.specs.Grammar.{record_text}
use Rattle.type_desc.specs.OwnNames.{HaveOwnNames}
use Rattle.type_desc.specs.declared.desc.TypeDesc.{TypeDesc}
use Rattle.type_dictionary.specs.Latest.{desc_of, latest_of}
use Rattle.type_dictionary.specs.Records.{IsNextRecord}
use Rattle.type_dictionary.specs.declared.declaration.Declared.{Declared}
use Rattle.type_dictionary.specs.declared.declaration.Declared.TheVariants.{Known, New}

-- the latest type of the name has this id, and is this one
abbrev pub IsKnownAs : List TypeDesc → TypeDesc → ℕ → Type 0
IsKnownAs types desc id = (latest_of types desc.name ≡ Some id) × (desc_of types id ≡ Some desc)

-- the latest type of the name is another, or there is none
abbrev pub IsNew : List TypeDesc → TypeDesc → Type 0
IsNew types desc = (id : ℕ) → ¬ (IsKnownAs types desc id)

-- what a new type is given: the next id, which is free, and the record with it
pub record IsGiven (types : List TypeDesc) (desc : TypeDesc) (id : ℕ) (text : List ℕ) : Type 0 where
  pub fresh : IsNew types desc
  pub room : length types < 65536
  pub next : id ≡ 16 + length types
  pub spelled : text ≡ record_text (16 + length types, desc)

abbrev pub IsDeclaredAs : List TypeDesc → TypeDesc → Declared → Type 0
IsDeclaredAs types desc (Known id) = IsKnownAs types desc id
IsDeclaredAs types desc (New id text) = IsGiven types desc id text

-- a text that was given for a new type is the next record, if the name and the member names allow one
abbrev pub IsRecordable : List TypeDesc → TypeDesc → Declared → Type 0
IsRecordable types desc (Known id) = Unit {0}
IsRecordable types desc (New id text) = desc.name ≢ codes "Root" → HaveOwnNames desc.members → IsNextRecord types text desc
