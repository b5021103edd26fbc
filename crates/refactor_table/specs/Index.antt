-- What an index of names says.
use Rattle.std.specs.Prelude.{◌≡◌, ℕ, List, String, ◌&&◌, Option, Some, option_and_then, slice_get, if◌then◌else◌}
use Rattle.std.specs.Str.{bytes_eq}
use Rattle.std.specs.BTreeMap.{BTreeMap, get_by_text}
use Rattle.std.specs.declared.alloc.Global.{Global}
use Rattle.refactor_table.specs.Names.{same_name}
use Rattle.refactor_table.specs.declared.index.NameIndex.{NameIndex}
use Rattle.refactor_table.specs.declared.name.RefName.{RefName}
use Rattle.refactor_table.specs.declared.name.RefName.TheVariants.{OfType, OfMember}

-- rows by the names of types, and by those of their members
abbrev pub MemberRows : Type 0
MemberRows = BTreeMap (String Global) (BTreeMap (String Global) ℕ)

abbrev pub member_row : MemberRows → List ℕ → List ℕ → Option ℕ
member_row members type_name member = option_and_then (λ rows. get_by_text rows member) (get_by_text members type_name)

-- the row that the index gives for a name
abbrev pub row_of : NameIndex → RefName → Option ℕ
row_of index (OfType type_name) = get_by_text index.types type_name
row_of index (OfMember type_name member) = member_row index.members type_name member

-- a member has this row, and all others have theirs
abbrev pub PutsMember : MemberRows → MemberRows → List ℕ → List ℕ → Option ℕ → Type 0
PutsMember old new type_name member row =
    (t m : List ℕ) → member_row new t m ≡ (if bytes_eq type_name t && bytes_eq member m then row else member_row old t m)

abbrev pub IsSameMembers : MemberRows → MemberRows → Type 0
IsSameMembers old new = (t m : List ℕ) → member_row new t m ≡ member_row old t m

-- a name has this row, and all others have theirs
abbrev pub PutsRow : NameIndex → NameIndex → RefName → Option ℕ → Type 0
PutsRow old new name row = (q : RefName) → row_of new q ≡ (if same_name name q then row else row_of old q)

abbrev pub IsSameIndex : NameIndex → NameIndex → Type 0
IsSameIndex old new = (q : RefName) → row_of new q ≡ row_of old q

-- the index gives exactly the rows of the names, each name's one row
pub record IsIndexOf (names : List RefName) (index : NameIndex) : Type 0 where
  pub found : (k : ℕ) (name : RefName) → slice_get names k ≡ Some name → row_of index name ≡ Some k
  pub stands : (k : ℕ) (name : RefName) → row_of index name ≡ Some k → slice_get names k ≡ Some name
