-- What stands in the records of a dictionary, and which text is the next one.
use Rattle.std.specs.Prelude.{◌≡◌, ◌≢◌, ℕ, ◌+◌, ◌<◌, List, [], ◌∷◌, ◌++◌, length, codes}
use Rattle.type_desc.specs.Grammar.{IsDesc, record_text}
use Rattle.type_desc.specs.OwnNames.{HaveOwnNames}
use Rattle.type_desc.specs.declared.desc.TypeDesc.{TypeDesc}

-- the names and the number of members are those that a record may have, and member names differ
pub record IsSound (desc : TypeDesc) : Type 0 where
  pub grammar : IsDesc desc
  pub own_names : HaveOwnNames desc.members

-- and the type is not the built-in one
pub record IsRecorded (desc : TypeDesc) : Type 0 where
  pub sound : IsSound desc
  pub named : desc.name ≢ codes "Root"

-- the id is the next one, the type is not the built-in one, and its member names differ
abbrev pub MayFollow : List TypeDesc → ℕ → TypeDesc → Type 0
MayFollow types id desc = (id ≡ 16 + length types) × (desc.name ≢ codes "Root") × HaveOwnNames desc.members

-- the records of types, of which the first has this id
abbrev pub records_from : ℕ → List TypeDesc → List (List ℕ)
records_from id [] = []
records_from id (desc ∷ types) = record_text (id, desc) ∷ records_from (id + 1) types

-- the text is the record of this description behind these
pub record IsNextRecord (types : List TypeDesc) (text : List ℕ) (desc : TypeDesc) : Type 0 where
  pub room : length types < 65536
  pub recorded : IsRecorded desc
  pub spelled : text ≡ record_text (16 + length types, desc)

-- the list has gained the description that the text spells
pub record GainsRecord (old new : List TypeDesc) (text : List ℕ) : Type 0 where
  pub desc : TypeDesc
  pub next : IsNextRecord old text desc
  pub gained : new ≡ old ++ desc ∷ []
