-- The dictionary log: one record of the dictionary a payload, and what an image of its file holds.
use Rattle.std.specs.Prelude.{◌≡◌, ℕ, ◌+◌, ◌≤◌, List, [], ◌∷◌, ◌++◌, length}
use Rattle.std.specs.List.{AllByRecursion}
use Rattle.type_desc.specs.declared.desc.TypeDesc.{TypeDesc}
use Rattle.type_dictionary.specs.Records.{IsRecorded, records_from}
use Rattle.plain_storage.specs.Logs.{IsLogFile}

-- what a file with the dictionary log begins with: ESD1, version 1
abbrev pub types_header : List ℕ
types_header = 69 ∷ 83 ∷ 68 ∷ 49 ∷ 1 ∷ 0 ∷ 1 ∷ 0 ∷ []

-- the image holds these types: it is the dictionary log of their records, which are sound and at most 65,536
pub record AreTypesHeld (image : List ℕ) (types : List TypeDesc) : Type 0 where
  pub few : length types ≤ 65536
  pub recorded : AllByRecursion IsRecorded types
  pub log : IsLogFile types_header (records_from 16 types) image

-- the image holds no types
abbrev pub IsTypesFault : List ℕ → Type 0
IsTypesFault image = (types : List TypeDesc) → ¬ (AreTypesHeld image types)

-- the payloads are the records of the types behind those before; with these they are the given ones
pub record AreRecords (before : List TypeDesc) (payloads : List (List ℕ)) (types : List TypeDesc) : Type 0 where
  pub more : List TypeDesc
  pub types_are : types ≡ before ++ more
  pub few : length types ≤ 65536
  pub recorded : AllByRecursion IsRecorded more
  pub spelled : payloads ≡ records_from (16 + length before) more
