-- The names of types and of members, and the one text of each.
use Rattle.std.specs.Prelude.{ℕ, List, ◌∷◌, ◌++◌, Bool, false, ◌&&◌}
use Rattle.std.specs.Str.{bytes_eq}
use Rattle.type_desc.specs.Grammar.{IsName}
use Rattle.type_desc.specs.declared.desc.NameKind.TheVariants as kinds
use Rattle.refactor_table.specs.declared.name.RefName.{RefName}
use Rattle.refactor_table.specs.declared.name.RefName.TheVariants.{OfType, OfMember}

-- the type's name, or the type's name, a dot and the member's
abbrev pub name_text : RefName → List ℕ
name_text (OfType type_name) = type_name
name_text (OfMember type_name member) = type_name ++ 46 ∷ member

-- what has such a text: names that a dictionary record may have
abbrev pub IsRefName : RefName → Type 0
IsRefName (OfType type_name) = IsName kinds.OfType type_name
IsRefName (OfMember type_name member) = IsName kinds.OfType type_name × IsName kinds.OfMember member

-- both name types, or both name members
abbrev pub AreOfOneForm : RefName → RefName → Type 0
AreOfOneForm (OfType t) (OfType u) = Unit {0}
AreOfOneForm (OfType t) (OfMember u n) = ⊥
AreOfOneForm (OfMember t m) (OfType u) = ⊥
AreOfOneForm (OfMember t m) (OfMember u n) = Unit {0}

-- two names are one
abbrev pub same_name : RefName → RefName → Bool
same_name (OfType t) (OfType u) = bytes_eq t u
same_name (OfType t) (OfMember u n) = false
same_name (OfMember t m) (OfType u) = false
same_name (OfMember t m) (OfMember u n) = bytes_eq t u && bytes_eq m n
