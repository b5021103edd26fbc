-- The words behind a keyword, each with a space before it.
use Rattle.std.specs.Prelude.{◌≡◌, ℕ, false, if◌then◌else◌, List, [], ◌∷◌, length, Ok, Err, codes, IsTrue}
use Rattle.std.specs.Char.{is_ascii_digit}
use Rattle.std.specs.List.{flat_map, list_all}
use Rattle.std.specs.Str.{bytes_eq}
use Rattle.type_desc.specs.Grammar.{IsName}
use Rattle.type_desc.specs.Reader.{Reading, ◌>>=◌, byte_at, end_at, word_at}
use Rattle.type_desc.specs.Reading.{name_at}
use Rattle.type_desc.specs.declared.desc.NameKind.TheVariants as names
use Rattle.script_text.specs.declared.fields.Field.{Field}
use Rattle.script_text.specs.declared.fields.Field.TheVariants as fields

-- ---- words

-- one or more digits
abbrev pub IsDigits : List ℕ → Type 0
IsDigits [] = ⊥
IsDigits (b ∷ bytes) = IsTrue (is_ascii_digit b) × IsTrue (list_all is_ascii_digit bytes)

-- what a word of each kind may be; `null` is no NAME
abbrev pub IsField : Field → List ℕ → Type 0
IsField fields.Name word = IsName names.OfMember word × (bytes_eq word (codes "null") ≡ false)
IsField fields.TypeName word = IsName names.OfType word
IsField fields.Member word = IsName names.OfMember word
IsField fields.Target word = IsName names.OfMember word
IsField fields.Index word = IsDigits word

-- words, each behind a space
abbrev pub spaced : List (List ℕ) → List ℕ
spaced words = flat_map (λ (word : List ℕ). 32 ∷ word) words

-- words of these kinds, one for each
abbrev pub AreFields : List Field → List (List ℕ) → Type 0
AreFields [] [] = Unit {0}
AreFields [] (word ∷ words) = ⊥
AreFields (field ∷ kinds) [] = ⊥
AreFields (field ∷ kinds) (word ∷ words) = IsField field word × AreFields kinds words

-- ---- read from left to right

-- a word that is not `null`
abbrev pub unless_null : List ℕ → List ℕ → Reading (List ℕ)
unless_null word text = if bytes_eq word (codes "null") then Err (length text) else Ok (word, text)

unfoldable pub bound_name_at : List ℕ → Reading (List ℕ)
bound_name_at text = do
  word ← name_at names.OfMember text
  unless_null word.0 word.1

unfoldable pub digits_at : List ℕ → Reading (List ℕ)
digits_at text = word_at is_ascii_digit is_ascii_digit (length text) text

abbrev pub field_at : Field → List ℕ → Reading (List ℕ)
field_at fields.Name text = bound_name_at text
field_at fields.TypeName text = name_at names.OfType text
field_at fields.Member text = name_at names.OfMember text
field_at fields.Target text = name_at names.OfMember text
field_at fields.Index text = digits_at text

-- a space and a word
unfoldable pub spaced_at : Field → List ℕ → Reading (List ℕ)
spaced_at field text = do
  space ← byte_at 32 text
  field_at field space.1

-- a word for each kind, and the end behind them
unfoldable pub words_at : List Field → List ℕ → Reading (List (List ℕ))
words_at [] text = do
  end ← end_at text
  Ok ([], end.1)
words_at (field ∷ kinds) text = do
  word ← spaced_at field text
  words ← words_at kinds word.1
  Ok (word.0 ∷ words.0, words.1)
