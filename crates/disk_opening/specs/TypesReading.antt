-- How far the records of a dictionary log were read, and what is wrong with the next one.
use Rattle.std.specs.Prelude.{◌≡◌, ℕ, ◌+◌, ◌≤◌, List, ◌∷◌, ◌++◌, length}
use Rattle.std.specs.List.{AllByRecursion}
use Rattle.gated_log.specs.declared.opening.LogFault.{LogFault}
use Rattle.gated_log.specs.declared.opening.LogFault.TheVariants as log
use Rattle.type_desc.specs.declared.desc.TypeDesc.{TypeDesc}
use Rattle.type_dictionary.specs.Records.{IsNextRecord, IsRecorded, records_from}
use Rattle.disk_opening.specs.declared.type_log.DictionaryFault.{DictionaryFault}
use Rattle.disk_opening.specs.declared.type_log.DictionaryFault.TheVariants.{Fault, Header, Log}

-- the payloads are the records of these types
pub record AreTypes (payloads : List (List ℕ)) (types : List TypeDesc) : Type 0 where
  pub few : length types ≤ 65536
  pub recorded : AllByRecursion IsRecorded types
  pub spelled : payloads ≡ records_from 16 types

-- the payloads begin with the records of these types, and these are left
pub record HasPassedTypes (payloads left : List (List ℕ)) (types : List TypeDesc) : Type 0 where
  pub few : length types ≤ 65536
  pub recorded : AllByRecursion IsRecorded types
  pub split : payloads ≡ records_from 16 types ++ left

-- the records in front of this one, from 1, are those of types, and it is not that of a type that may follow
pub record IsTypeFault (payloads : List (List ℕ)) (at : ℕ) : Type 0 where
  pub types : List TypeDesc
  pub payload : List ℕ
  pub behind : List (List ℕ)
  pub front : HasPassedTypes payloads (payload ∷ behind) types
  pub number : at ≡ length types + 1
  pub wrong : (desc : TypeDesc) → ¬ (IsNextRecord types payload desc)

-- what a fault of the log is to who reads its types
abbrev pub dictionary_fault : LogFault → DictionaryFault
dictionary_fault log.Fault = Fault
dictionary_fault log.Header = Header
dictionary_fault (log.Cut at) = Log at
