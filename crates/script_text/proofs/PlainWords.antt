-- The words of a line but for a value: they are ASCII and hold no space.
use Rattle.std.proofs.Common.{◌≡◌, ℕ, zero, suc, ◌<◌, Bool, false, ◌&&◌, not, ltb, ◌==◌, eqb, List, [], ◌∷◌, ◌++◌, map, refl, arith}
use Rattle.std.specs.Prelude.{IsAscii, IsTrue}
use Rattle.std.specs.Char.{is_ascii_digit}
use Rattle.std.specs.List.{list_all, AllByRecursion}
use Rattle.std.proofs.lemmas.Bool.{and_parts, and_from}
use Rattle.std.proofs.lemmas.Bool.Decides.{nat_tests}
use Rattle.type_desc.specs.Grammar.{IsName, HasMemberName, begins_name, continues_name, kind_text}
use Rattle.type_desc.specs.declared.desc.Kind.{Kind}
use Rattle.type_desc.specs.declared.desc.Kind.TheVariants.{Int, Text, Bytes, Ref, Lazy, Refs}
use Rattle.type_desc.specs.declared.desc.Member.{Member}
use Rattle.type_desc.specs.declared.desc.NameKind.{NameKind}
use Rattle.type_desc.specs.declared.desc.NameKind.TheVariants.{OfType as OfTypeName, OfMember as OfMemberName}
use Rattle.refactor_table.specs.Names.{IsRefName, name_text}
use Rattle.refactor_table.specs.declared.name.RefName.{RefName}
use Rattle.refactor_table.specs.declared.name.RefName.TheVariants.{OfType, OfMember}
use Rattle.script_text.specs.Arguments.{Shape, OfWords, OfDescription, OfPair, OfValue, Arguments, Words, Description, Pair, Value, IsArguments, words_in, member_word}
use Rattle.script_text.specs.Fields.{IsDigits, IsField, AreFields}
use Rattle.script_text.specs.Keywords.{keyword_text}
use Rattle.script_text.specs.declared.fields.Field.{Field}
use Rattle.script_text.specs.declared.fields.Field.TheVariants as fields
use Rattle.script_text.specs.declared.keywords.Keyword.{Keyword}
use Rattle.script_text.specs.declared.keywords.Keyword.TheVariants as keys

abbrev pub is_plain : ℕ → Bool
is_plain b = ltb b 128 && not (b == 32)

abbrev pub Plain : List ℕ → Type 0
Plain word = IsTrue (list_all is_plain word)

pub plain_parts : (b : ℕ) (bs : List ℕ) → Plain (b ∷ bs) → (b < 128) × (eqb b 32 ≡ false) × Plain bs
plain_parts b bs plain =
    let parts = and_parts (is_plain b) (list_all is_plain bs) plain in
    let byte = parts.0 in
    (grind (arith, nat_tests), grind (arith, nat_tests), parts.1)

plain_from : (b : ℕ) (bs : List ℕ) → IsTrue (is_plain b) → Plain bs → Plain (b ∷ bs)
plain_from b bs one more = and_from (is_plain b) (list_all is_plain bs) one more

pub plain_append : (a b : List ℕ) → Plain a → Plain b → Plain (a ++ b)
plain_append [] b one two = two
plain_append (x ∷ xs) b one two =
    let parts = and_parts (is_plain x) (list_all is_plain xs) one in
    plain_from x (xs ++ b) parts.0 (plain_append xs b parts.1 two)

pub plain_ascii : (word : List ℕ) → Plain word → IsAscii word
plain_ascii [] plain i = omega arith
plain_ascii (b ∷ bs) plain zero = (plain_parts b bs plain).0
plain_ascii (b ∷ bs) plain (suc i) = plain_ascii bs (plain_parts b bs plain).2 i

-- ---- words

begins_plain : (kind : NameKind) (b : ℕ) → IsTrue (begins_name kind b) → IsTrue (is_plain b)
begins_plain OfTypeName b is = grind (arith, nat_tests)
begins_plain OfMemberName b is = grind (arith, nat_tests)

continues_plain : (kind : NameKind) (b : ℕ) → IsTrue (continues_name kind b) → IsTrue (is_plain b)
continues_plain OfTypeName b is = grind (arith, nat_tests)
continues_plain OfMemberName b is = grind (arith, nat_tests)

all_plain : (test : ℕ → Bool) → ((b : ℕ) → IsTrue (test b) → IsTrue (is_plain b)) → (bs : List ℕ) → IsTrue (list_all test bs) → Plain bs
all_plain test plain [] all = refl
all_plain test plain (b ∷ bs) all =
    let parts = and_parts (test b) (list_all test bs) all in
    plain_from b bs (plain b parts.0) (all_plain test plain bs parts.1)

name_plain : (kind : NameKind) (word : List ℕ) → IsName kind word → Plain word
name_plain kind [] is = absurd is
name_plain kind (b ∷ bs) is = plain_from b bs (begins_plain kind b is.0) (all_plain (continues_name kind) (continues_plain kind) bs is.1)

digit_plain : (b : ℕ) → IsTrue (is_ascii_digit b) → IsTrue (is_plain b)
digit_plain b is = grind (arith, nat_tests)

digits_plain : (word : List ℕ) → IsDigits word → Plain word
digits_plain [] is = absurd is
digits_plain (b ∷ bs) is = plain_from b bs (digit_plain b is.0) (all_plain is_ascii_digit digit_plain bs is.1)

pub field_plain : (field : Field) (word : List ℕ) → IsField field word → Plain word
field_plain fields.Name word is = name_plain OfMemberName word is.0
field_plain fields.TypeName word is = name_plain OfTypeName word is
field_plain fields.Member word is = name_plain OfMemberName word is
field_plain fields.Target word is = name_plain OfMemberName word is
field_plain fields.Index word is = digits_plain word is

kind_plain : (kind : Kind) → Plain (kind_text kind)
kind_plain Int = refl
kind_plain Text = refl
kind_plain Bytes = refl
kind_plain Ref = refl
kind_plain Lazy = refl
kind_plain Refs = refl

ref_name_plain : (n : RefName) → IsRefName n → Plain (name_text n)
ref_name_plain (OfType t) is = name_plain OfTypeName t is
ref_name_plain (OfMember t m) is = plain_append t (46 ∷ m) (name_plain OfTypeName t is.0) (plain_from 46 m refl (name_plain OfMemberName m is.1))

pub keyword_plain : (k : Keyword) → Plain (keyword_text k)
keyword_plain keys.DeclareType = refl
keyword_plain keys.Refactor = refl
keyword_plain keys.New = refl
keyword_plain keys.SetMember = refl
keyword_plain keys.AddTo = refl
keyword_plain keys.CutFrom = refl
keyword_plain keys.SetRoot = refl
keyword_plain keys.Store = refl
keyword_plain keys.StoreAll = refl
keyword_plain keys.Show = refl
keyword_plain keys.Home = refl
keyword_plain keys.Follow = refl
keyword_plain keys.Pick = refl
keyword_plain keys.DropName = refl
keyword_plain keys.Forget = refl
keyword_plain keys.Collect = refl
keyword_plain keys.Tidy = refl
keyword_plain keys.Export = refl

-- ---- arguments

fields_plain : (kinds : List Field) (words : List (List ℕ)) → AreFields kinds words → AllByRecursion Plain words
fields_plain [] [] are = tt
fields_plain [] (word ∷ words) are = absurd are
fields_plain (field ∷ kinds) [] are = absurd are
fields_plain (field ∷ kinds) (word ∷ words) are = (field_plain field word are.0, fields_plain kinds words are.1)

members_plain : (members : List Member) → AllByRecursion HasMemberName members → AllByRecursion Plain (map member_word members)
members_plain [] are = tt
members_plain (m ∷ ms) are = (plain_append (kind_text m.kind) (58 ∷ m.name) (kind_plain m.kind) (plain_from 58 m.name refl (name_plain OfMemberName m.name are.0)), members_plain ms are.1)

-- the form holds a value, whose last word may be any text
abbrev pub HoldsValue : Shape → Type 0
HoldsValue OfValue = Unit {0}
HoldsValue _ = ⊥

pub arguments_plain : (shape : Shape) (a : Arguments) → ¬ (HoldsValue shape) → IsArguments shape a → AllByRecursion Plain (words_in a)
arguments_plain OfValue a no_value is = absurd (no_value tt)
arguments_plain (OfWords kinds) (Words words) no_value is = fields_plain kinds words is
arguments_plain OfDescription (Description name members) no_value is = (field_plain fields.TypeName name is.0, members_plain members is.1.0)
arguments_plain OfPair (Pair old new) no_value is = (ref_name_plain old is.0, (ref_name_plain new is.1, tt))
arguments_plain (OfWords kinds) (Description name members) no_value is = absurd is
arguments_plain (OfWords kinds) (Pair old new) no_value is = absurd is
arguments_plain (OfWords kinds) (Value name member rest) no_value is = absurd is
arguments_plain OfDescription (Words words) no_value is = absurd is
arguments_plain OfDescription (Pair old new) no_value is = absurd is
arguments_plain OfDescription (Value name member rest) no_value is = absurd is
arguments_plain OfPair (Words words) no_value is = absurd is
arguments_plain OfPair (Description name members) no_value is = absurd is
arguments_plain OfPair (Value name member rest) no_value is = absurd is
