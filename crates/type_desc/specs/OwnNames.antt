-- Members by their names.
use Rattle.std.specs.Prelude.{◌≡◌, ℕ, List, map, Some, slice_get}
use Rattle.type_desc.specs.declared.desc.Member.{Member}

-- the names of members, in order
abbrev pub names_of : List Member → List (List ℕ)
names_of members = map (λ (m : Member). m.name) members

-- the member with this index has this name
abbrev pub IsNamed : List Member → ℕ → List ℕ → Type 0
IsNamed members i name = slice_get (names_of members) i ≡ Some name

-- no two members have one name
abbrev pub HaveOwnNames : List Member → Type 0
HaveOwnNames members = (i j : ℕ) (name : List ℕ) → IsNamed members i name → IsNamed members j name → i ≡ j
