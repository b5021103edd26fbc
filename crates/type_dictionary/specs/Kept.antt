-- What the fields of a dictionary keep.
use Rattle.std.specs.Prelude.{◌≡◌, ℕ, ◌≤◌, List, All, String, length}
use Rattle.std.specs.BTreeMap.{BTreeMap, get_by_text}
use Rattle.std.specs.declared.alloc.Global.{Global}
use Rattle.type_desc.specs.Root.{root_desc}
use Rattle.type_desc.specs.declared.desc.TypeDesc.{TypeDesc}
use Rattle.type_dictionary.specs.Latest.{latest_from}
use Rattle.type_dictionary.specs.Records.{IsRecorded}

-- the map gives the id of each name's latest record
abbrev pub AreLatest : List TypeDesc → BTreeMap (String Global) ℕ → Type 0
AreLatest types ids = (name : List ℕ) → get_by_text ids name ≡ latest_from 16 types name

-- the built-in type, and the records, which are few and sound and which the map finds
pub record IsKept (root : TypeDesc) (types : List TypeDesc) (ids : BTreeMap (String Global) ℕ) : Type 0 where
  pub built_in : root ≡ root_desc
  pub limit : length types ≤ 65536
  pub recorded : All IsRecorded types
  pub latest : AreLatest types ids
