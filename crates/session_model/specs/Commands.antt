-- The lines of a script as commands: a table of words.
use Rattle.std.specs.Prelude.{ℕ, zero, suc, ◌+◌, ◌-◌, ◌*◌, ◌==◌, nat_le, if◌then◌else◌, Option, Some, None, option_map, length, Ok, Err, List, [], ◌∷◌, codes, fold, ℤ, pos, neg_ℤ}
use Rattle.std.specs.List.{list_all}
use Rattle.std.specs.Char.{is_ascii_digit}
use Rattle.std.specs.Str.{bytes_eq, is_utf8}
use Rattle.std.specs.Option.{option_or}
use Rattle.type_desc.specs.Reader.{Reading}
use Rattle.type_desc.specs.Reading.{name_at}
use Rattle.type_desc.specs.declared.desc.Kind.{Kind}
use Rattle.type_desc.specs.declared.desc.Kind.TheVariants as kinds
use Rattle.type_desc.specs.declared.desc.Member.{Member}
use Rattle.type_desc.specs.declared.desc.NameKind.TheVariants as name_kinds
use Rattle.type_desc.specs.declared.desc.TypeDesc.{TypeDesc}
use Rattle.refactor_table.specs.Reading.{ref_name_at}
use Rattle.refactor_table.specs.declared.name.RefName.{RefName}
use Rattle.refactor_table.specs.declared.name.RefName.TheVariants.{OfType, OfMember}

-- a name or `null`
pub data Target : Type 0 where
  Null : Target
  Named : List ℕ → Target

pub data Command : Type 0 where
  DeclareType : TypeDesc → Command
  Refactor : RefName → RefName → Command
  New : (name type_name : List ℕ) → Command
  SetMember : (name member rest : List ℕ) → Command
  AddTo : (name member : List ℕ) → Target → Command
  CutFrom : (name member : List ℕ) → (index : ℕ) → Command
  SetRoot : (name : List ℕ) → Command
  Store : (name : List ℕ) → Command
  StoreAll : (name : List ℕ) → Command
  Show : (name : List ℕ) → Command
  Home : (name : List ℕ) → Command
  Follow : (name member new : List ℕ) → Command
  Pick : (name member : List ℕ) → (index : ℕ) → (new : List ℕ) → Command
  DropName : (name : List ℕ) → Command
  Forget : Command
  Collect : Command
  Tidy : Command
  Export : Command

-- a value that is there, and what is made of it
infixl 10 ◌>>=◌
abbrev pub ◌>>=◌ : {A B : Type 0} → Option A → (A → Option B) → Option B
None >>= make = None
(Some value) >>= make = make value

-- ---- words

-- one byte more at the front of the first word
abbrev pub with_byte : ℕ → List (List ℕ) → List (List ℕ)
with_byte b [] = (b ∷ []) ∷ []
with_byte b (word ∷ words) = (b ∷ word) ∷ words

-- what stands between single spaces
abbrev pub words_of : List ℕ → List (List ℕ)
words_of [] = [] ∷ []
words_of (b ∷ bytes) = if b == 32 then [] ∷ words_of bytes else with_byte b (words_of bytes)

-- what stands before the first byte of this value, and behind it
abbrev pub cut_at : ℕ → List ℕ → Option (List ℕ × List ℕ)
cut_at byte [] = None
cut_at byte (b ∷ bytes) = if b == byte then Some ([], bytes) else option_map (λ parts. (b ∷ parts.0, parts.1)) (cut_at byte bytes)

-- the first n words, each with a space behind it, and the rest of the line
abbrev pub front_words : ℕ → List ℕ → Option (List (List ℕ) × List ℕ)
front_words zero line = Some ([], line)
front_words (suc n) line = do
  parts ← cut_at 32 line
  others ← front_words n parts.1
  Some (parts.0 ∷ others.0, others.1)

-- the value that is read from the whole word
abbrev pub whole : {A : Type 0} → Reading A → Option A
whole (Ok (value, [])) = Some value
whole (Ok (value, b ∷ bytes)) = None
whole (Err left) = None

abbrev pub type_name_of : List ℕ → Option (List ℕ)
type_name_of word = whole (name_at name_kinds.OfType word)

abbrev pub member_name_of : List ℕ → Option (List ℕ)
member_name_of word = whole (name_at name_kinds.OfMember word)

-- `null` is a name of members alone
abbrev pub name_of : List ℕ → Option (List ℕ)
name_of word = if bytes_eq word (codes "null") then None else member_name_of word

abbrev pub target_of : List ℕ → Option Target
target_of word = if bytes_eq word (codes "null") then Some Null else option_map Named (name_of word)

abbrev pub digits_value : List ℕ → ℕ
digits_value digits = fold (λ n digit. 10 * n + (digit - 48)) 0 digits

-- one or more decimal digits
abbrev pub number_of : List ℕ → Option ℕ
number_of [] = None
number_of (b ∷ bytes) = if list_all is_ascii_digit (b ∷ bytes) then Some (digits_value (b ∷ bytes)) else None

-- a number, or a minus and a number
abbrev pub integer_of : List ℕ → Option ℤ
integer_of [] = None
integer_of (b ∷ bytes) = if b == 45 then option_map (λ n. neg_ℤ (pos n)) (number_of bytes) else option_map pos (number_of (b ∷ bytes))

-- ---- the table of lines

abbrev pub kind_named : List ℕ → Option Kind
kind_named word =
    if bytes_eq word (codes "int") then Some kinds.Int
    else (if bytes_eq word (codes "text") then Some kinds.Text
    else (if bytes_eq word (codes "bytes") then Some kinds.Bytes
    else (if bytes_eq word (codes "ref") then Some kinds.Ref
    else (if bytes_eq word (codes "lazy") then Some kinds.Lazy
    else (if bytes_eq word (codes "refs") then Some kinds.Refs
    else None)))))

-- KIND:MEMBER
abbrev pub member_of : List ℕ → Option Member
member_of word = do
  parts ← cut_at 58 word
  kind ← kind_named parts.0
  name ← member_name_of parts.1
  Some (record { kind = kind; name = name })

abbrev pub members_of : List (List ℕ) → Option (List Member)
members_of [] = Some []
members_of (word ∷ words) = do
  member ← member_of word
  members ← members_of words
  Some (member ∷ members)

-- TYPE and at most 1,024 words KIND:MEMBER
abbrev pub type_line : List (List ℕ) → Option Command
type_line [] = None
type_line (type_name ∷ words) = do
  name ← type_name_of type_name
  members ← members_of words
  if nat_le (length members) 1024 then Some (DeclareType (record { name = name; members = members })) else None

-- two types, or two members
abbrev pub refactor_of : RefName → RefName → Option Command
refactor_of (OfType old) (OfType new) = Some (Refactor (OfType old) (OfType new))
refactor_of (OfMember old old_member) (OfMember new new_member) = Some (Refactor (OfMember old old_member) (OfMember new new_member))
refactor_of _ _ = None

-- `refactor OLD NEW`
abbrev pub refactor_line : List (List ℕ) → Option Command
refactor_line (old ∷ (new ∷ [])) = do
  from ← whole (ref_name_at old)
  to ← whole (ref_name_at new)
  refactor_of from to
refactor_line _ = None

abbrev pub new_line : List (List ℕ) → Option Command
new_line (name ∷ (type_name ∷ [])) = do
  bound ← name_of name
  of_type ← type_name_of type_name
  Some (New bound of_type)
new_line _ = None

abbrev pub add_line : List (List ℕ) → Option Command
add_line (name ∷ (member ∷ (target ∷ []))) = do
  bound ← name_of name
  of_member ← member_name_of member
  named ← target_of target
  Some (AddTo bound of_member named)
add_line _ = None

abbrev pub cut_line : List (List ℕ) → Option Command
cut_line (name ∷ (member ∷ (index ∷ []))) = do
  bound ← name_of name
  of_member ← member_name_of member
  at ← number_of index
  Some (CutFrom bound of_member at)
cut_line _ = None

abbrev pub follow_line : List (List ℕ) → Option Command
follow_line (name ∷ (member ∷ (new ∷ []))) = do
  bound ← name_of name
  of_member ← member_name_of member
  fresh ← name_of new
  Some (Follow bound of_member fresh)
follow_line _ = None

abbrev pub pick_line : List (List ℕ) → Option Command
pick_line (name ∷ (member ∷ (index ∷ (new ∷ [])))) = do
  bound ← name_of name
  of_member ← member_name_of member
  at ← number_of index
  fresh ← name_of new
  Some (Pick bound of_member at fresh)
pick_line _ = None

-- a line of one NAME
abbrev pub name_line : (List ℕ → Command) → List (List ℕ) → Option Command
name_line make (name ∷ []) = option_map make (name_of name)
name_line make _ = None

-- a line of one word
abbrev pub bare_line : Command → List (List ℕ) → Option Command
bare_line command [] = Some command
bare_line command _ = None

-- `set NAME MEMBER REST`, where REST is all that follows the space
abbrev pub set_line : List (List ℕ) × List ℕ → Option Command
set_line ((name ∷ (member ∷ [])), rest) = do
  bound ← name_of name
  of_member ← member_name_of member
  Some (SetMember bound of_member rest)
set_line _ = None

pub record Row : Type 0 where
  pub word : List ℕ
  pub read : List (List ℕ) → Option Command

-- each line by its first word, but for `set`
abbrev pub rows : List Row
rows =
    record { word = codes "type"; read = type_line }
    ∷ record { word = codes "refactor"; read = refactor_line }
    ∷ record { word = codes "new"; read = new_line }
    ∷ record { word = codes "add"; read = add_line }
    ∷ record { word = codes "cut"; read = cut_line }
    ∷ record { word = codes "root"; read = name_line SetRoot }
    ∷ record { word = codes "store"; read = name_line Store }
    ∷ record { word = codes "store-all"; read = name_line StoreAll }
    ∷ record { word = codes "show"; read = name_line Show }
    ∷ record { word = codes "home"; read = name_line Home }
    ∷ record { word = codes "follow"; read = follow_line }
    ∷ record { word = codes "pick"; read = pick_line }
    ∷ record { word = codes "drop"; read = name_line DropName }
    ∷ record { word = codes "forget"; read = bare_line Forget }
    ∷ record { word = codes "collect"; read = bare_line Collect }
    ∷ record { word = codes "tidy"; read = bare_line Tidy }
    ∷ record { word = codes "export"; read = bare_line Export }
    ∷ []

abbrev pub by_rows : List Row → List ℕ → List (List ℕ) → Option Command
by_rows [] word words = None
by_rows (row ∷ more) word words = if bytes_eq row.word word then row.read words else by_rows more word words

abbrev pub by_first : List (List ℕ) → Option Command
by_first [] = None
by_first (word ∷ words) = by_rows rows word words

-- the line `set`, where the first word is that
abbrev pub set_of : List ℕ → Option Command
set_of line = do
  parts ← cut_at 32 line
  fields ← if bytes_eq parts.0 (codes "set") then front_words 2 parts.1 else None
  set_line fields

-- the command that a line of UTF-8 spells
abbrev pub command_in : List ℕ → Option Command
command_in line = option_or (set_of line) (by_first (words_of line))

-- the command that a line spells; a line that is no UTF-8 spells none
unfoldable pub command_of : List ℕ → Option Command
command_of line = if is_utf8 line then command_in line else None
