-- A list of pairs: what it has, and which of its rows stands against one more.
use Rattle.std.specs.Prelude.{◌≡◌, ℕ, ◌<◌, min, List, Option, Some, None, slice_get, IsSomeAnd, ◌⊎◌}
use Rattle.refactor_table.specs.Names.{AreOfOneForm}
use Rattle.refactor_table.specs.declared.name.Pair.{Pair}
use Rattle.refactor_table.specs.declared.name.RefName.{RefName}

abbrev pub pair_of : RefName → RefName → Pair
pair_of old new = record { old = old; new = new }

-- some row leads from the old name to the new one
abbrev pub Leads : List Pair → RefName → RefName → Type 0
Leads pairs old new = (k : ℕ) × (slice_get pairs k ≡ Some (pair_of old new))

-- the row has the same old name, or the same new one
abbrev pub Clashes : RefName → RefName → Pair → Type 0
Clashes old new row = (row.old ≡ old) ⊎ (row.new ≡ new)

-- the row with this index has
abbrev pub ClashesAt : List Pair → RefName → RefName → ℕ → Type 0
ClashesAt pairs old new k = IsSomeAnd (slice_get pairs k) (Clashes old new)

-- and no row before it has
pub record IsFirstClash (pairs : List Pair) (old new : RefName) (row : ℕ) : Type 0 where
  pub clashes : ClashesAt pairs old new row
  pub first : (k : ℕ) → k < row → ¬ (ClashesAt pairs old new k)

-- no row has the same old name or the same new one
abbrev pub IsFresh : List Pair → RefName → RefName → Type 0
IsFresh pairs old new = (k : ℕ) → ¬ (ClashesAt pairs old new k)

-- the earlier of two rows, as far as there are any
abbrev pub earlier_of : Option ℕ → Option ℕ → Option ℕ
earlier_of None second = second
earlier_of (Some k) None = Some k
earlier_of (Some k) (Some l) = Some (min k l)

-- both names of each row are of one form, and no two rows have the same old name or the same new one
pub record AreSound (pairs : List Pair) : Type 0 where
  pub one_form : (k : ℕ) (row : Pair) → slice_get pairs k ≡ Some row → AreOfOneForm row.old row.new
  pub own_old : (j k : ℕ) (row other : Pair) → slice_get pairs j ≡ Some row → slice_get pairs k ≡ Some other → row.old ≡ other.old → j ≡ k
  pub own_new : (j k : ℕ) (row other : Pair) → slice_get pairs j ≡ Some row → slice_get pairs k ≡ Some other → row.new ≡ other.new → j ≡ k
