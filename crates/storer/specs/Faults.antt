-- When what is gathered is too much to be stored.
use Rattle.std.specs.Prelude.{◌≡◌, ℕ, ◌-◌, ◌<◌, ◌^◌, min, nat_lt, Option, Some, None, IsSomeAnd, if◌then◌else◌, List, [], ◌∷◌, sum_by}
use Rattle.graph_model.specs.Limits.{entity_limit}
use Rattle.graph_model.specs.Graph.{entity_size}
use Rattle.graph_model.specs.declared.entity.Record.{Record}
use Rattle.storer.specs.declared.fault.GatherFault.{GatherFault}
use Rattle.storer.specs.declared.fault.GatherFault.TheVariants.{EntityTooBig, StoreTooBig, NoMemory}

abbrev pub size_of : Record → ℕ
size_of r = entity_size r.entity

abbrev pub total_of : List Record → ℕ
total_of records = sum_by (λ (r : Record). entity_size r.entity) records

-- a number, said as far as a `u64` can say it
abbrev pub as_said : ℕ → ℕ
as_said n = min n (2 ^ 64 - 1)

-- the first record whose entity is above the most bytes of an entity. Records stand by rising id, so it has the least id of all such.
abbrev pub first_big : List Record → Option Record
first_big [] = None
first_big (r ∷ rs) = if nat_lt entity_limit (size_of r) then Some r else first_big rs

-- the record with this id is the first that is too big, and has so many bytes
abbrev pub IsFirstBig : List Record → ℕ → ℕ → Type 0
IsFirstBig records id length = IsSomeAnd (first_big records) (λ r. (r.id ≡ id) × (length ≡ as_said (size_of r)))

-- no record is too big, and all together are above the most bytes, which are so many
abbrev pub IsTooBigTogether : ℕ → List Record → ℕ → Type 0
IsTooBigTogether most records length = (first_big records ≡ None) × (most < total_of records) × (length ≡ as_said (total_of records))

abbrev pub IsRefused : ℕ → List Record → GatherFault → Type 0
IsRefused most records (EntityTooBig id length) = IsFirstBig records id length
IsRefused most records (StoreTooBig length) = IsTooBigTogether most records length
IsRefused most records NoMemory = Unit {0}

-- the fault of one record alone
abbrev pub IsRefusedAlone : List Record → GatherFault → Type 0
IsRefusedAlone records (EntityTooBig id length) = IsFirstBig records id length
IsRefusedAlone records (StoreTooBig length) = ⊥
IsRefusedAlone records NoMemory = Unit {0}

-- the fault of all together
abbrev pub IsRefusedTogether : ℕ → List Record → GatherFault → Type 0
IsRefusedTogether most records (EntityTooBig id length) = ⊥
IsRefusedTogether most records (StoreTooBig length) = IsTooBigTogether most records length
IsRefusedTogether most records NoMemory = ⊥
