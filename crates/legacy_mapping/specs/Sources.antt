-- Where the value of each member of a type comes from, when an object of an older type becomes one of it.
use Rattle.std.specs.Prelude.{◌≡◌, ℕ, List, Option, Some, None, slice_get}
use Rattle.std.specs.List.{AllZip}
use Rattle.type_desc.specs.declared.desc.TypeDesc.{TypeDesc}
use Rattle.type_desc.specs.OwnNames.{names_of, IsNamed}
use Rattle.refactor_table.specs.Pairs.{Leads}
use Rattle.refactor_table.specs.declared.name.Pair.{Pair}
use Rattle.refactor_table.specs.declared.name.RefName.TheVariants.{OfType, OfMember}

-- the new name of a type, looked up once: that of its pair, else its own
pub data IsTarget (pairs : List Pair) (name : List ℕ) : List ℕ → Type 0 where
  paired : (new : List ℕ) → Leads pairs (OfType name) (OfType new) → IsTarget pairs name new
  unpaired : ((new : List ℕ) → ¬ (Leads pairs (OfType name) (OfType new))) → IsTarget pairs name name

-- an explicit pair carries a member of the old type to one of the new type
abbrev pub Carries : List Pair → TypeDesc → TypeDesc → List ℕ → List ℕ → Type 0
Carries pairs old new from to = Leads pairs (OfMember old.name from) (OfMember new.name to)

-- an explicit pair carries member i of the old type to the member of this name
abbrev pub IsPaired : List Pair → TypeDesc → TypeDesc → List ℕ → ℕ → Type 0
IsPaired pairs old new name i = (from : List ℕ) × IsNamed old.members i from × Carries pairs old new from name

-- a pair carries the old member to some member that the new type has
abbrev pub IsCarried : List Pair → TypeDesc → TypeDesc → List ℕ → Type 0
IsCarried pairs old new from = (k : ℕ) × (to : List ℕ) × IsNamed new.members k to × Carries pairs old new from to

-- member i of the old type has this name, and no pair carries it to a member of the new type
abbrev pub IsAlike : List Pair → TypeDesc → TypeDesc → List ℕ → ℕ → Type 0
IsAlike pairs old new name i = IsNamed old.members i name × ¬ (IsCarried pairs old new name)

-- the source of the new type's member of this name: the old member of an explicit pair of the two types;
-- else the old member of equal name that no pair carries to a member of the new type; else none
pub data IsSource (pairs : List Pair) (old new : TypeDesc) (name : List ℕ) : Option ℕ → Type 0 where
  paired : (i : ℕ) → IsPaired pairs old new name i → IsSource pairs old new name (Some i)
  alike : (i : ℕ) → ((j : ℕ) → ¬ (IsPaired pairs old new name j)) → IsAlike pairs old new name i → IsSource pairs old new name (Some i)
  none : ((j : ℕ) → ¬ (IsPaired pairs old new name j)) → ((j : ℕ) → ¬ (IsAlike pairs old new name j)) → IsSource pairs old new name None

-- the sources of all members of the new type, in order
abbrev pub AreSources : List Pair → TypeDesc → TypeDesc → List (Option ℕ) → Type 0
AreSources pairs old new sources = AllZip (IsSource pairs old new) (names_of new.members) sources

-- no two members have one source
abbrev pub AreApart : List (Option ℕ) → Type 0
AreApart sources = (k l i : ℕ) → slice_get sources k ≡ Some (Some i) → slice_get sources l ≡ Some (Some i) → k ≡ l
