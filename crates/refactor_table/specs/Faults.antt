-- When a word is no name, and when a pair is not added.
use Rattle.std.specs.Prelude.{◌≡◌, ℕ, List, Result, MatchResult}
use Rattle.type_desc.specs.Prefixes.{IsLongestBeginning}
use Rattle.refactor_table.specs.Pairs.{IsFirstClash, IsFresh}
use Rattle.refactor_table.specs.declared.fault.AddFault.{AddFault}
use Rattle.refactor_table.specs.declared.fault.AddFault.TheVariants as add_faults
use Rattle.refactor_table.specs.declared.fault.NameFault.{NameFault}
use Rattle.refactor_table.specs.declared.fault.NameFault.TheVariants as name_faults
use Rattle.refactor_table.specs.declared.name.Pair.{Pair}
use Rattle.refactor_table.specs.declared.name.RefName.{RefName}

-- the fault is at the end of the longest front that begins a whole text, and the word is none
abbrev pub StandsAt : (List ℕ → Type 0) → List ℕ → NameFault → Type 0
StandsAt Whole word name_faults.NoMemory = Unit {0}
StandsAt Whole word (name_faults.Bad at) = ¬ (Whole word) × IsLongestBeginning Whole word at

-- the value was read, unless memory ran out
abbrev pub IsReadAs : {X : Type 0} → Result X NameFault → X → Type 0
IsReadAs result value = MatchResult result (λ x. x ≡ value) (λ fault. fault ≡ name_faults.NoMemory)

-- the first row that stands against the pair; memory runs out only where none does
abbrev pub StandsAgainst : List Pair → RefName → RefName → AddFault → Type 0
StandsAgainst pairs old new add_faults.NoMemory = IsFresh pairs old new
StandsAgainst pairs old new (add_faults.Duplicate row) = IsFirstClash pairs old new row
