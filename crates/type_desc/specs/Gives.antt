-- What a function that reads gives, and what reading is.
use Rattle.std.specs.Prelude.{◌≡◌, List, ℕ, Result, Ok, Err, MatchResult}
use Rattle.type_desc.specs.Prefixes.{IsLongestBeginning}
use Rattle.type_desc.specs.declared.fault.DescFault.{DescFault}
use Rattle.type_desc.specs.declared.fault.DescFault.TheVariants as faults_of_desc
use Rattle.type_desc.specs.declared.fault.ReadFault.{ReadFault}
use Rattle.type_desc.specs.declared.fault.ReadFault.TheVariants as faults

-- a function stops where reading does, unless memory ran out
abbrev pub Stops : {Y : Type 0} → ReadFault → Result Y ℕ → Type 0
Stops faults.Memory reading = Unit {0}
Stops (faults.Stuck left) reading = reading ≡ Err left

-- what a function returned, seen by view, is what reading gives, unless memory ran out
abbrev pub Gives : {X Y : Type 0} → (X → Y) → Result X ReadFault → Result Y ℕ → Type 0
Gives view (Ok x) reading = reading ≡ Ok (view x)
Gives view (Err fault) reading = Stops fault reading

-- the fault is at the end of the longest prefix that begins a whole text, and the text is none
abbrev pub StandsAt : (List ℕ → Type 0) → List ℕ → DescFault → Type 0
StandsAt Whole text faults_of_desc.NoMemory = Unit {0}
StandsAt Whole text (faults_of_desc.At at) = ¬ (Whole text) × IsLongestBeginning Whole text at

-- the value was read, unless memory ran out
abbrev pub IsReadAs : {X : Type 0} → Result X DescFault → X → Type 0
IsReadAs result value = MatchResult result (λ x. x ≡ value) (λ fault. fault ≡ faults_of_desc.NoMemory)
