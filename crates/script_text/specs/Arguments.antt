-- What follows a keyword: its forms, their text, and how each is read from left to right.
use Rattle.std.specs.Prelude.{ℕ, zero, suc, ◌==◌, ◌≤◌, List, [], ◌∷◌, ◌++◌, length, map, Ok, IsTrue}
use Rattle.std.specs.List.{AllByRecursion}
use Rattle.std.specs.Str.{is_utf8}
use Rattle.type_desc.specs.Grammar.{HasMemberName, kind_text}
use Rattle.type_desc.specs.Reader.{Reading, ◌>>=◌, either, byte_at, end_at}
use Rattle.type_desc.specs.Reading.{name_at, kind_at}
use Rattle.type_desc.specs.declared.desc.Member.{Member}
use Rattle.type_desc.specs.declared.desc.NameKind.TheVariants as names
use Rattle.refactor_table.specs.Names.{IsRefName, AreOfOneForm, name_text}
use Rattle.refactor_table.specs.declared.name.RefName.{RefName}
use Rattle.refactor_table.specs.declared.name.RefName.TheVariants.{OfType, OfMember}
use Rattle.script_text.specs.Fields.{IsField, AreFields, spaced, spaced_at, words_at}
use Rattle.script_text.specs.Utf8.{rest_at}
use Rattle.script_text.specs.declared.fields.Field.{Field}
use Rattle.script_text.specs.declared.fields.Field.TheVariants as fields
use Rattle.script_text.specs.declared.keywords.Keyword.{Keyword}
use Rattle.script_text.specs.declared.keywords.Keyword.TheVariants as keys

-- the forms of what follows a keyword
pub data Shape : Type 0 where
  OfWords : List Field → Shape
  OfDescription : Shape
  OfPair : Shape
  OfValue : Shape

abbrev pub shape_of : Keyword → Shape
shape_of keys.DeclareType = OfDescription
shape_of keys.Refactor = OfPair
shape_of keys.New = OfWords (fields.Name ∷ fields.TypeName ∷ [])
shape_of keys.SetMember = OfValue
shape_of keys.AddTo = OfWords (fields.Name ∷ fields.Member ∷ fields.Target ∷ [])
shape_of keys.CutFrom = OfWords (fields.Name ∷ fields.Member ∷ fields.Index ∷ [])
shape_of keys.SetRoot = OfWords (fields.Name ∷ [])
shape_of keys.Store = OfWords (fields.Name ∷ [])
shape_of keys.StoreAll = OfWords (fields.Name ∷ [])
shape_of keys.Show = OfWords (fields.Name ∷ [])
shape_of keys.Home = OfWords (fields.Name ∷ [])
shape_of keys.Follow = OfWords (fields.Name ∷ fields.Member ∷ fields.Name ∷ [])
shape_of keys.Pick = OfWords (fields.Name ∷ fields.Member ∷ fields.Index ∷ fields.Name ∷ [])
shape_of keys.DropName = OfWords (fields.Name ∷ [])
shape_of keys.Forget = OfWords []
shape_of keys.Collect = OfWords []
shape_of keys.Tidy = OfWords []
shape_of keys.Export = OfWords []

-- what follows a keyword: words, a type's name and members, two names, or a name, a member and a value
pub data Arguments : Type 0 where
  Words : List (List ℕ) → Arguments
  Description : List ℕ → List Member → Arguments
  Pair : RefName → RefName → Arguments
  Value : (name member rest : List ℕ) → Arguments

-- KIND:MEMBER
abbrev pub member_word : Member → List ℕ
member_word member = kind_text member.kind ++ 58 ∷ member.name

-- the words between spaces, but for the last of a value, which may hold spaces
abbrev pub words_in : Arguments → List (List ℕ)
words_in (Words words) = words
words_in (Description name members) = name ∷ map member_word members
words_in (Pair old new) = name_text old ∷ name_text new ∷ []
words_in (Value name member rest) = name ∷ member ∷ rest ∷ []

abbrev pub arguments_text : Arguments → List ℕ
arguments_text arguments = spaced (words_in arguments)

-- a name of a type, and at most so many members
abbrev pub AreMembers : ℕ → List Member → Type 0
AreMembers most members = AllByRecursion HasMemberName members × (length members ≤ most)

-- what may follow
abbrev pub IsArguments : Shape → Arguments → Type 0
IsArguments (OfWords kinds) (Words words) = AreFields kinds words
IsArguments OfDescription (Description name members) = IsField fields.TypeName name × AreMembers 1024 members
IsArguments OfPair (Pair old new) = IsRefName old × IsRefName new × AreOfOneForm old new
IsArguments OfValue (Value name member rest) = IsField fields.Name name × IsField fields.Member member × IsTrue (is_utf8 rest)
IsArguments _ _ = ⊥

-- ---- read from left to right

-- KIND:MEMBER
unfoldable pub member_at : List ℕ → Reading Member
member_at text = do
  kind ← kind_at text
  colon ← byte_at 58 kind.1
  name ← name_at names.OfMember colon.1
  Ok (record { kind = kind.0; name = name.0 }, name.1)

-- at most so many members, each behind a space
unfoldable pub members_at : ℕ → List ℕ → Reading (List Member)
members_at zero text = Ok ([], text)
members_at (suc most) text =
    either (λ b. b == 32)
    (λ t. byte_at 32 t >>= λ space. member_at space.1 >>= λ first. members_at most first.1 >>= λ others. Ok (first.0 ∷ others.0, others.1))
    (λ t. Ok ([], t)) text

unfoldable pub description_at : List ℕ → Reading Arguments
description_at text = do
  name ← spaced_at fields.TypeName text
  members ← members_at 1024 name.1
  end ← end_at members.1
  Ok (Description name.0 members.0, end.1)

-- behind the name of a type, the name of another
unfoldable pub types_at : List ℕ → List ℕ → Reading Arguments
types_at old text = do
  new ← spaced_at fields.TypeName text
  end ← end_at new.1
  Ok (Pair (OfType old) (OfType new.0), end.1)

-- a dot and the name of a member
unfoldable pub dotted_at : List ℕ → Reading (List ℕ)
dotted_at text = do
  dot ← byte_at 46 text
  name_at names.OfMember dot.1

-- behind the name of a type, its member, and a member of another type
unfoldable pub type_members_at : List ℕ → List ℕ → Reading Arguments
type_members_at old text = do
  old_member ← dotted_at text
  new ← spaced_at fields.TypeName old_member.1
  new_member ← dotted_at new.1
  end ← end_at new_member.1
  Ok (Pair (OfMember old old_member.0) (OfMember new.0 new_member.0), end.1)

-- two members where a dot follows the first type, else two types
unfoldable pub pair_at : List ℕ → Reading Arguments
pair_at text = do
  old ← spaced_at fields.TypeName text
  either (λ b. b == 46) (type_members_at old.0) (types_at old.0) old.1

-- a name, a member, a space and all that follows it
unfoldable pub value_at : List ℕ → Reading Arguments
value_at text = do
  name ← spaced_at fields.Name text
  member ← spaced_at fields.Member name.1
  space ← byte_at 32 member.1
  rest ← rest_at space.1
  Ok (Value name.0 member.0 rest.0, rest.1)

abbrev pub arguments_at : Shape → List ℕ → Reading Arguments
arguments_at (OfWords kinds) text = words_at kinds text >>= λ words. Ok (Words words.0, words.1)
arguments_at OfDescription text = description_at text
arguments_at OfPair text = pair_at text
arguments_at OfValue text = value_at text
