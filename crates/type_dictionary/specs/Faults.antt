-- When a record is not added, and when a type is not declared.
use Rattle.std.specs.Prelude.{◌≤◌, ◌<◌, ℕ, List, length}
use Rattle.type_desc.specs.declared.desc.TypeDesc.{TypeDesc}
use Rattle.type_dictionary.specs.Declaring.{IsNew}
use Rattle.type_dictionary.specs.Records.{IsNextRecord}
use Rattle.type_dictionary.specs.declared.fault.DeclareFault.{DeclareFault}
use Rattle.type_dictionary.specs.declared.fault.DeclareFault.TheVariants as declare_faults
use Rattle.type_dictionary.specs.declared.fault.RecordFault.{RecordFault}
use Rattle.type_dictionary.specs.declared.fault.RecordFault.TheVariants as record_faults

-- the text is not the next record of any description
abbrev pub RefusesRecord : List TypeDesc → List ℕ → RecordFault → Type 0
RefusesRecord types text record_faults.Bad = (desc : TypeDesc) → ¬ (IsNextRecord types text desc)
RefusesRecord types text record_faults.NoMemory = Unit {0}

-- a type that is new has no room; memory runs out only where it has
abbrev pub RefusesType : List TypeDesc → TypeDesc → DeclareFault → Type 0
RefusesType types desc declare_faults.TooManyTypes = IsNew types desc × (65536 ≤ length types)
RefusesType types desc declare_faults.NoMemory = IsNew types desc × (length types < 65536)
