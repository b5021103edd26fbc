-- The types of a script: the latest of a name, and what becomes of an object of an older one.
use Rattle.std.specs.Prelude.{ℕ, ◌&&◌, not, Bool, true, false, if◌then◌else◌, Option, Some, None, option_map, List, [], ◌∷◌, codes, slice_get}
use Rattle.std.specs.List.{list_any, position}
use Rattle.std.specs.Str.{bytes_eq}
use Rattle.std.specs.Option.{option_or}
use Rattle.type_desc.specs.Grammar.{record_text}
use Rattle.type_desc.specs.declared.desc.Kind.{Kind}
use Rattle.type_desc.specs.declared.desc.Kind.TheVariants as kinds
use Rattle.type_desc.specs.declared.desc.Member.{Member}
use Rattle.type_desc.specs.declared.desc.TypeDesc.{TypeDesc}
use Rattle.type_dictionary.specs.Latest.{desc_of, latest_of}
use Rattle.refactor_table.specs.declared.name.Pair.{Pair}
use Rattle.refactor_table.specs.declared.name.RefName.{RefName}
use Rattle.refactor_table.specs.declared.name.RefName.TheVariants.{OfType, OfMember}
use Rattle.refactor_table.specs.Names.{same_name}

abbrev pub is_root_type : List ℕ → Bool
is_root_type name = bytes_eq name (codes "Root")

abbrev pub desc_at : List TypeDesc → Option ℕ → Option TypeDesc
desc_at types None = None
desc_at types (Some id) = desc_of types id

abbrev pub latest_desc : List TypeDesc → List ℕ → Option TypeDesc
latest_desc types name = desc_at types (latest_of types name)

-- two descriptions are one where their texts are
abbrev pub is_same_desc : TypeDesc → TypeDesc → Bool
is_same_desc a b = bytes_eq (record_text (16, a)) (record_text (16, b))

-- where a type has a member of this name
abbrev pub member_index : TypeDesc → List ℕ → Option ℕ
member_index desc name = position (λ (m : Member). bytes_eq m.name name) desc.members

abbrev pub kind_at : TypeDesc → Option ℕ → Option Kind
kind_at desc None = None
kind_at desc (Some i) = option_map (λ (m : Member). m.kind) (slice_get desc.members i)

-- the kind of a type's member of this name
abbrev pub kind_of_member : TypeDesc → List ℕ → Option Kind
kind_of_member desc name = kind_at desc (member_index desc name)

abbrev pub is_same_kind : Kind → Kind → Bool
is_same_kind kinds.Int kinds.Int = true
is_same_kind kinds.Text kinds.Text = true
is_same_kind kinds.Bytes kinds.Bytes = true
is_same_kind kinds.Ref kinds.Ref = true
is_same_kind kinds.Lazy kinds.Lazy = true
is_same_kind kinds.Refs kinds.Refs = true
is_same_kind _ _ = false

-- a member name stands twice
abbrev pub repeats_member : List Member → Bool
repeats_member [] = false
repeats_member (m ∷ ms) = if list_any (λ (o : Member). bytes_eq o.name m.name) ms then true else repeats_member ms

-- ---- refactorings

-- some pair leads from the old name to the new one
abbrev pub leads : List Pair → RefName → RefName → Bool
leads pairs old new = list_any (λ (p : Pair). same_name p.old old && same_name p.new new) pairs

abbrev pub type_in : RefName → List ℕ
type_in (OfType name) = name
type_in (OfMember name member) = name

-- the new name of the pair with this old type, else the name itself
abbrev pub target_name : List Pair → List ℕ → List ℕ
target_name [] name = name
target_name (p ∷ pairs) name = if same_name p.old (OfType name) then type_in p.new else target_name pairs name

-- ---- the source of each member of a newer type

abbrev pub is_carried : List Pair → TypeDesc → TypeDesc → List ℕ → Bool
is_carried pairs old new from = list_any (λ (to : Member). leads pairs (OfMember old.name from) (OfMember new.name to.name)) new.members

-- the old member of an explicit pair; else the old member of equal name that no pair carries to a member of the new type
abbrev pub source_of : List Pair → TypeDesc → TypeDesc → List ℕ → Option ℕ
source_of pairs old new name = option_or
    (position (λ (m : Member). leads pairs (OfMember old.name m.name) (OfMember new.name name)) old.members)
    (position (λ (m : Member). bytes_eq m.name name && not (is_carried pairs old new m.name)) old.members)

abbrev pub is_kind : Kind → Option Kind → Bool
is_kind kind None = false
is_kind kind (Some other) = is_same_kind kind other

-- the old member with this index, if there is one, has this kind
abbrev pub is_of_kind : TypeDesc → Kind → Option ℕ → Bool
is_of_kind old kind None = true
is_of_kind old kind (Some i) = is_kind kind (kind_at old (Some i))

abbrev pub sources_of : List Pair → TypeDesc → TypeDesc → List Member → List (Option ℕ)
sources_of pairs old new [] = []
sources_of pairs old new (m ∷ ms) = source_of pairs old new m.name ∷ sources_of pairs old new ms

abbrev pub all_of_kinds : List Pair → TypeDesc → TypeDesc → List Member → Bool
all_of_kinds pairs old new [] = true
all_of_kinds pairs old new (m ∷ ms) = is_of_kind old m.kind (source_of pairs old new m.name) && all_of_kinds pairs old new ms
