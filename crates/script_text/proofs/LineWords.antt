-- A line as words between single spaces, and the row that the model gives it to.
use Rattle.std.proofs.Common.{◌≡◌, ℕ, zero, suc, Bool, true, false, cond, ◌==◌, List, [], ◌∷◌, ◌++◌, Option, Some, None, refl, sym, ap, subst, ◌∙◌, append_assoc, arith, ◌⊎◌, inl, inr}
use Rattle.std.specs.Prelude.{codes, IsAscii, IsTrue, IsUtf8}
use Rattle.std.specs.List.{AllByRecursion}
use Rattle.std.specs.Str.{bytes_eq, is_utf8}
use Rattle.std.proofs.lemmas.Bool.{eqb-true}
use Rattle.std.proofs.lemmas.List.{append-nil}
use Rattle.std.proofs.lemmas.Str.{IsUtf8-append, IsUtf8-from_ascii, IsUtf8-from_is_utf8, IsUtf8-past_char, IsAscii-append, encode_ascii, is_utf8-from_IsUtf8}
use Rattle.std.specs.Option.{option_or}
use Rattle.type_desc.specs.declared.desc.NameKind.TheVariants as names
use Rattle.type_desc.proofs.Readers.{chosen, choose_true}
use Rattle.session_model.specs.Commands.{◌>>=◌, with_byte, words_of, cut_at, front_words, name_of, member_name_of, Command, SetMember, Row, rows, by_rows, by_first, set_line, set_of, command_in, command_of}
use Rattle.script_text.specs.Arguments.{OfValue, Arguments, Words, Description, Pair, Value, IsArguments, words_in, arguments_text, shape_of}
use Rattle.script_text.specs.Fields.{spaced}
use Rattle.script_text.specs.Keywords.{keyword_text}
use Rattle.script_text.specs.Lines.{command_made}
use Rattle.script_text.specs.declared.fields.Field.TheVariants as fields
use Rattle.script_text.specs.declared.keywords.Keyword.{Keyword}
use Rattle.script_text.specs.declared.keywords.Keyword.TheVariants as keys
use Rattle.script_text.proofs.PlainWords.{Plain, HoldsValue, plain_parts, plain_ascii, field_plain, keyword_plain, arguments_plain}
use Rattle.script_text.proofs.RowValues.{row_read, Spelled, row_spelled, row_makes}
use Rattle.script_text.proofs.WordValues.{some_is, some_bind, same_bytes, cut_is, name_is, name_from, named_is, named_from}

-- ---- words and their text

-- words with single spaces between them
abbrev joined : List (List ℕ) → List ℕ
joined [] = []
joined (word ∷ words) = word ++ spaced words

abbrev HasWord : List (List ℕ) → Type 0
HasWord [] = ⊥
HasWord (word ∷ words) = Unit {0}

one_more_has : (t : Bool) (b : ℕ) (words : List (List ℕ)) → HasWord (cond t ([] ∷ words) (with_byte b words))
one_more_has true b words = tt
one_more_has false b [] = tt
one_more_has false b (word ∷ words) = tt

words_have : (text : List ℕ) → HasWord (words_of text)
words_have [] = tt
words_have (b ∷ bs) = one_more_has (b == 32) b (words_of bs)

one_more_joined : (t : Bool) (b : ℕ) (bs : List ℕ) (words : List (List ℕ)) → (b == 32) ≡ t → HasWord words → bs ≡ joined words → b ∷ bs ≡ joined (cond t ([] ∷ words) (with_byte b words))
one_more_joined t b bs [] is has same = absurd has
one_more_joined true b bs (word ∷ words) is has same = ap (λ (f : ℕ). f ∷ bs) (eqb-true b 32 is) ∙ ap (λ (r : List ℕ). 32 ∷ r) same
one_more_joined false b bs (word ∷ words) is has same = ap (λ (r : List ℕ). b ∷ r) same

-- the words of a text make up the text
words_joined : (text : List ℕ) → text ≡ joined (words_of text)
words_joined [] = refl
words_joined (b ∷ bs) = one_more_joined (b == 32) b bs (words_of bs) refl (words_have bs) (words_joined bs)

-- a plain word in front of what begins with the empty word
front_word : (word : List ℕ) (text : List ℕ) (words : List (List ℕ)) → Plain word → words_of text ≡ [] ∷ words → words_of (word ++ text) ≡ word ∷ words
front_word [] text words plain rest = rest
front_word (b ∷ bs) text words plain rest =
    let parts = plain_parts b bs plain in
    rw (parts.1, front_word bs text words parts.2 rest) refl

spaced_words : (words : List (List ℕ)) → AllByRecursion Plain words → words_of (spaced words) ≡ [] ∷ words
spaced_words [] plain = refl
spaced_words (word ∷ words) plain = ap (λ (ws : List (List ℕ)). [] ∷ ws) (front_word word (spaced words) words plain.0 (spaced_words words plain.1))

-- plain words are the words of their text
words_split : (word : List ℕ) (words : List (List ℕ)) → Plain word → AllByRecursion Plain words → words_of (word ++ spaced words) ≡ word ∷ words
words_split word words plain all = front_word word (spaced words) words plain (spaced_words words all)

-- ---- what stands before the first space

abbrev longer : ℕ → List ℕ × List ℕ → List ℕ × List ℕ
longer b parts = (b ∷ parts.0, parts.1)

cut_first : (word rest : List ℕ) → Plain word → cut_at 32 (word ++ 32 ∷ rest) ≡ Some (word, rest)
cut_first [] rest plain = refl
cut_first (b ∷ bs) rest plain =
    let parts = plain_parts b bs plain in
    rw (parts.1, cut_first bs rest parts.2) refl

no_cut : (word : List ℕ) → Plain word → cut_at 32 (word ++ []) ≡ None
no_cut [] plain = refl
no_cut (b ∷ bs) plain =
    let parts = plain_parts b bs plain in
    rw (parts.1, no_cut bs parts.2) refl

other_word : (k : Keyword) → ¬ (k ≡ keys.SetMember) → bytes_eq (keyword_text k) (codes "set") ≡ false
other_word keys.DeclareType other = refl
other_word keys.Refactor other = refl
other_word keys.New other = refl
other_word keys.SetMember other = absurd (other refl)
other_word keys.AddTo other = refl
other_word keys.CutFrom other = refl
other_word keys.SetRoot other = refl
other_word keys.Store other = refl
other_word keys.StoreAll other = refl
other_word keys.Show other = refl
other_word keys.Home other = refl
other_word keys.Follow other = refl
other_word keys.Pick other = refl
other_word keys.DropName other = refl
other_word keys.Forget other = refl
other_word keys.Collect other = refl
other_word keys.Tidy other = refl
other_word keys.Export other = refl

-- a line that begins with another keyword is no `set` line
not_set : (k : Keyword) (words : List (List ℕ)) → ¬ (k ≡ keys.SetMember) → set_of (keyword_text k ++ spaced words) ≡ None
not_set k [] other = rw (no_cut (keyword_text k) (keyword_plain k)) refl
not_set k (word ∷ words) other = rw (cut_first (keyword_text k) (word ++ spaced words) (keyword_plain k), other_word k other) refl

-- ---- rows

row_of : (k : Keyword) (words : List (List ℕ)) → ¬ (k ≡ keys.SetMember) → by_rows rows (keyword_text k) words ≡ row_read k words
row_of keys.DeclareType words other = refl
row_of keys.Refactor words other = refl
row_of keys.New words other = refl
row_of keys.SetMember words other = absurd (other refl)
row_of keys.AddTo words other = refl
row_of keys.CutFrom words other = refl
row_of keys.SetRoot words other = refl
row_of keys.Store words other = refl
row_of keys.StoreAll words other = refl
row_of keys.Show words other = refl
row_of keys.Home words other = refl
row_of keys.Follow words other = refl
row_of keys.Pick words other = refl
row_of keys.DropName words other = refl
row_of keys.Forget words other = refl
row_of keys.Collect words other = refl
row_of keys.Tidy words other = refl
row_of keys.Export words other = refl

-- what a row makes is spelled behind the keyword that is its word
abbrev IsRow : Row → Type 0
IsRow row = (k : Keyword) × (row.word ≡ keyword_text k) × ((words : List (List ℕ)) (c : Command) → row.read words ≡ Some c → Spelled k words c)

row_is : (k : Keyword) → IsRow (record { word = keyword_text k; read = row_read k })
row_is k = (k, refl, row_spelled k)

rows_are : AllByRecursion IsRow rows
rows_are = (
  row_is keys.DeclareType,
  (
    row_is keys.Refactor,
    (
      row_is keys.New,
      (
        row_is keys.AddTo,
        (
          row_is keys.CutFrom,
          (
            row_is keys.SetRoot,
            (
              row_is keys.Store,
              (
                row_is keys.StoreAll,
                (row_is keys.Show, (row_is keys.Home, (row_is keys.Follow, (row_is keys.Pick, (row_is keys.DropName, (row_is keys.Forget, (row_is keys.Collect, (row_is keys.Tidy, (row_is keys.Export, tt))))))))),
              ),
            ),
          ),
        ),
      ),
    ),
  ),
)

row_found : (table : List Row) → AllByRecursion IsRow table → (word : List ℕ) (words : List (List ℕ)) (c : Command) → by_rows table word words ≡ Some c → (k : Keyword) × (word ≡ keyword_text k) × Spelled k words c
row_found [] are word words c e = absurd cc
row_found (row ∷ table) are word words c e = elim (chosen (bytes_eq row.word word) (row.read words) (by_rows table word words) (Some c) e) [
  | inl here ↦ (are.0.0, sym (same_bytes row.word word here.0) ∙ are.0.1, are.0.2 words c here.1)
  | inr on ↦ row_found table are.1 word words c on.1
]

-- ---- lines of a value

-- ASCII in front of a text in UTF-8, and taken off it
utf8_with : (front rest : List ℕ) → IsAscii front → IsUtf8 rest → IsUtf8 (front ++ rest)
utf8_with front rest ascii is = IsUtf8-append front rest (IsUtf8-from_ascii front ascii) is

utf8_behind : (front rest : List ℕ) → IsAscii front → IsUtf8 (front ++ rest) → IsUtf8 rest
utf8_behind [] rest ascii is = is
utf8_behind (b ∷ bs) rest ascii is =
    utf8_behind bs rest (λ i. ascii (suc i)) (IsUtf8-past_char (b ∷ (bs ++ rest)) (bs ++ rest) b is (ap (λ (l : List ℕ). l ++ (bs ++ rest)) (sym (encode_ascii b (ascii 0)))))

-- what stands before the value
abbrev value_front : (name member : List ℕ) → List ℕ
value_front name member = codes "set" ++ 32 ∷ (name ++ 32 ∷ (member ++ 32 ∷ []))

value_text : (name member rest : List ℕ) → codes "set" ++ arguments_text (Value name member rest) ≡ value_front name member ++ rest
value_text name member rest =
    let end : (32 ∷ rest) ++ [] ≡ 32 ∷ rest = append-nil (32 ∷ rest) in
    let second : (name ++ 32 ∷ (member ++ 32 ∷ [])) ++ rest ≡ name ++ 32 ∷ (member ++ 32 ∷ rest) =
    append_assoc name (32 ∷ (member ++ 32 ∷ [])) rest ∙ ap (λ (t : List ℕ). name ++ 32 ∷ t) (append_assoc member (32 ∷ []) rest) in
    ap (λ (t : List ℕ). codes "set" ++ 32 ∷ (name ++ 32 ∷ (member ++ t))) end ∙ ap (λ (t : List ℕ). codes "set" ++ 32 ∷ t) (sym second)

space_ascii : IsAscii (32 ∷ [])
space_ascii zero = omega arith
space_ascii (suc i) = omega arith

front_ascii : (name member : List ℕ) → Plain name → Plain member → IsAscii (value_front name member)
front_ascii name member n m =
    let ended : IsAscii (member ++ 32 ∷ []) = IsAscii-append member (32 ∷ []) (plain_ascii member m) space_ascii in
    let spaced_member : IsAscii (32 ∷ (member ++ 32 ∷ [])) = IsAscii-append (32 ∷ []) (member ++ 32 ∷ []) space_ascii ended in
    let named : IsAscii (name ++ 32 ∷ (member ++ 32 ∷ [])) = IsAscii-append name (32 ∷ (member ++ 32 ∷ [])) (plain_ascii name n) spaced_member in
    IsAscii-append (codes "set") (32 ∷ (name ++ 32 ∷ (member ++ 32 ∷ []))) (plain_ascii (codes "set") refl) (IsAscii-append (32 ∷ []) (name ++ 32 ∷ (member ++ 32 ∷ [])) space_ascii named)

value_makes : (name member rest : List ℕ) → IsArguments OfValue (Value name member rest) → set_of (codes "set" ++ arguments_text (Value name member rest)) ≡ Some (SetMember name member rest)
value_makes name member rest is =
    rw (cut_first name (member ++ 32 ∷ (rest ++ [])) (field_plain fields.Name name is.0), cut_first member (rest ++ []) (field_plain fields.Member member is.1), name_from name is.0, named_from names.OfMember member is.1, append-nil rest) refl

value_utf8 : (name member rest : List ℕ) → IsArguments OfValue (Value name member rest) → IsTrue (is_utf8 (codes "set" ++ arguments_text (Value name member rest)))
value_utf8 name member rest is =
    let front = front_ascii name member (field_plain fields.Name name is.0) (field_plain fields.Member member is.1) in
    is_utf8-from_IsUtf8 _ (subst IsUtf8 (sym (value_text name member rest)) (utf8_with (value_front name member) rest front (IsUtf8-from_is_utf8 rest is.2)))

-- the line is the keyword and arguments that make the command
abbrev pub LineSpelled : List ℕ → Command → Type 0
LineSpelled text c = (k : Keyword) × (a : Arguments) × IsArguments (shape_of k) a × (text ≡ keyword_text k ++ arguments_text a) × (command_made k a ≡ c)

-- the parts of a `set` line
record Parts (text : List ℕ) (c : Command) : Type 0 where
  name : List ℕ
  member : List ℕ
  rest : List ℕ
  parts : text ≡ codes "set" ++ 32 ∷ (name ++ 32 ∷ (member ++ 32 ∷ rest))
  made : set_line ((name ∷ (member ∷ [])), rest) ≡ Some c

set_parts : (text : List ℕ) (c : Command) → set_of text ≡ Some c → Parts text c
set_parts text c e =
    let first = some_bind (cut_at 32 text) (λ p. cond (bytes_eq p.0 (codes "set")) (front_words 2 p.1) None >>= set_line) c e in
    let body = first.0.1 in
    let both = some_bind (cond (bytes_eq first.0.0 (codes "set")) (front_words 2 body) None) set_line c first.2 in
    elim (chosen (bytes_eq first.0.0 (codes "set")) (front_words 2 body) None (Some both.0) both.1) [
      | inr never ↦ absurd (let no_words = never.1 in cc)
      | inl is ↦
          let name = some_bind (cut_at 32 body) (λ p. front_words 1 p.1 >>= λ others. Some (p.0 ∷ others.0, others.1)) both.0 is.1 in
          let others = some_bind (front_words 1 name.0.1) (λ others. Some (name.0.0 ∷ others.0, others.1)) both.0 name.2 in
          let member = some_bind (cut_at 32 name.0.1) (λ p. front_words 0 p.1 >>= λ more. Some (p.0 ∷ more.0, more.1)) others.0 others.1 in
          let all : ((name.0.0 ∷ (member.0.0 ∷ [])), member.0.1) ≡ both.0 =
          ap (λ (o : List (List ℕ) × List ℕ). (name.0.0 ∷ o.0, o.1)) (some_is ((member.0.0 ∷ []), member.0.1) others.0 member.2) ∙ some_is (name.0.0 ∷ others.0.0, others.0.1) both.0 others.2 in
          record {
            name = name.0.0;
            member = member.0.0;
            rest = member.0.1;
            parts =
                cut_is 32 text first.0.0 body first.1
                ∙ ap (λ (w : List ℕ). w ++ 32 ∷ body) (same_bytes first.0.0 (codes "set") is.0)
                ∙ ap (λ (t : List ℕ). codes "set" ++ 32 ∷ t) (cut_is 32 body name.0.0 name.0.1 name.1 ∙ ap (λ (t : List ℕ). name.0.0 ++ 32 ∷ t) (cut_is 32 name.0.1 member.0.0 member.0.1 member.1));
            made = ap set_line all ∙ both.2;
          }
    ]

set_spelled : (text : List ℕ) (c : Command) → IsTrue (is_utf8 text) → set_of text ≡ Some c → LineSpelled text c
set_spelled text c utf8 e =
    let s = set_parts text c e in
    let bound = some_bind (name_of s.name) (λ bound. member_name_of s.member >>= λ of_member. Some (SetMember bound of_member s.rest)) c s.made in
    let of_member = some_bind (member_name_of s.member) (λ of_member. Some (SetMember bound.0 of_member s.rest)) c bound.2 in
    let n = name_is s.name bound.0 bound.1 in
    let m = named_is names.OfMember s.member of_member.0 of_member.1 in
    let whole : text ≡ codes "set" ++ arguments_text (Value s.name s.member s.rest) =
    s.parts ∙ ap (λ (t : List ℕ). codes "set" ++ 32 ∷ (s.name ++ 32 ∷ (s.member ++ 32 ∷ t))) (sym (append-nil s.rest)) in
    let front = front_ascii s.name s.member (field_plain fields.Name s.name n.0) (field_plain fields.Member s.member m.0) in
    let rest_utf8 = utf8_behind (value_front s.name s.member) s.rest front (subst IsUtf8 (whole ∙ value_text s.name s.member s.rest) (IsUtf8-from_is_utf8 text utf8)) in (
      keys.SetMember,
      Value s.name s.member s.rest,
      (n.0, m.0, is_utf8-from_IsUtf8 s.rest rest_utf8),
      whole,
      ap (λ (w : List ℕ). SetMember w s.member s.rest) n.1 ∙ ap (λ (w : List ℕ). SetMember bound.0 w s.rest) m.1 ∙ some_is (SetMember bound.0 of_member.0 s.rest) c of_member.2,
    )

-- ---- whole lines

either_makes : (first second : Option Command) (c : Command) → option_or first second ≡ Some c → (first ≡ Some c) ⊎ (second ≡ Some c)
either_makes None second c e = inr e
either_makes (Some x) second c e = inl e

first_spelled : (words : List (List ℕ)) (text : List ℕ) (c : Command) → text ≡ joined words → by_first words ≡ Some c → LineSpelled text c
first_spelled [] text c same e = absurd cc
first_spelled (word ∷ words) text c same e =
    let found = row_found rows rows_are word words c e in
    let s = found.2 in
    (found.0, s.0, s.1, same ∙ ap (λ (w : List ℕ). w ++ spaced words) found.1 ∙ ap (λ (ws : List (List ℕ)). keyword_text found.0 ++ spaced ws) (sym s.2), s.3)

-- a line that makes a command is a keyword and arguments that make it
pub line_spelled : (text : List ℕ) (c : Command) → command_of text ≡ Some c → LineSpelled text c
unfolding command_of
line_spelled text c e = elim (chosen (is_utf8 text) (command_in text) None (Some c) e) [
  | inr never ↦ absurd (let no_command = never.1 in cc)
  | inl is ↦ elim (either_makes (set_of text) (by_first (words_of text)) c is.1) [
    | inl set ↦ set_spelled text c is.0 set
    | inr row ↦ first_spelled (words_of text) text c (words_joined text) row
  ]
]

is_set : (k : Keyword) → (k ≡ keys.SetMember) ⊎ ¬ (k ≡ keys.SetMember)
is_set keys.DeclareType = inr (λ e. absurd cc)
is_set keys.Refactor = inr (λ e. absurd cc)
is_set keys.New = inr (λ e. absurd cc)
is_set keys.SetMember = inl refl
is_set keys.AddTo = inr (λ e. absurd cc)
is_set keys.CutFrom = inr (λ e. absurd cc)
is_set keys.SetRoot = inr (λ e. absurd cc)
is_set keys.Store = inr (λ e. absurd cc)
is_set keys.StoreAll = inr (λ e. absurd cc)
is_set keys.Show = inr (λ e. absurd cc)
is_set keys.Home = inr (λ e. absurd cc)
is_set keys.Follow = inr (λ e. absurd cc)
is_set keys.Pick = inr (λ e. absurd cc)
is_set keys.DropName = inr (λ e. absurd cc)
is_set keys.Forget = inr (λ e. absurd cc)
is_set keys.Collect = inr (λ e. absurd cc)
is_set keys.Tidy = inr (λ e. absurd cc)
is_set keys.Export = inr (λ e. absurd cc)

no_value : (k : Keyword) → ¬ (k ≡ keys.SetMember) → ¬ (HoldsValue (shape_of k))
no_value keys.DeclareType other holds = holds
no_value keys.Refactor other holds = holds
no_value keys.New other holds = holds
no_value keys.SetMember other holds = other refl
no_value keys.AddTo other holds = holds
no_value keys.CutFrom other holds = holds
no_value keys.SetRoot other holds = holds
no_value keys.Store other holds = holds
no_value keys.StoreAll other holds = holds
no_value keys.Show other holds = holds
no_value keys.Home other holds = holds
no_value keys.Follow other holds = holds
no_value keys.Pick other holds = holds
no_value keys.DropName other holds = holds
no_value keys.Forget other holds = holds
no_value keys.Collect other holds = holds
no_value keys.Tidy other holds = holds
no_value keys.Export other holds = holds

spaced_ascii : (words : List (List ℕ)) → AllByRecursion Plain words → IsAscii (spaced words)
spaced_ascii [] plain i = omega arith
spaced_ascii (word ∷ words) plain i =
    IsAscii-append (32 ∷ word) (spaced words) (IsAscii-append (32 ∷ []) word space_ascii (plain_ascii word plain.0)) (spaced_ascii words plain.1) i

-- of words: what is looked up is the row of the keyword
row_line : (k : Keyword) (a : Arguments) → ¬ (k ≡ keys.SetMember) → IsArguments (shape_of k) a → command_of (keyword_text k ++ arguments_text a) ≡ Some (command_made k a)
unfolding command_of
row_line k a other is =
    let plain = arguments_plain (shape_of k) a (no_value k other) is in
    let ascii = IsAscii-append (keyword_text k) (arguments_text a) (plain_ascii (keyword_text k) (keyword_plain k)) (spaced_ascii (words_in a) plain) in
    let utf8 = is_utf8-from_IsUtf8 (keyword_text k ++ arguments_text a) (IsUtf8-from_ascii (keyword_text k ++ arguments_text a) ascii) in
    choose_true (is_utf8 (keyword_text k ++ arguments_text a)) (command_in (keyword_text k ++ arguments_text a)) None (Some (command_made k a)) utf8
    (rw (not_set k (words_in a) other, words_split (keyword_text k) (words_in a) (keyword_plain k) plain) (row_of k (words_in a) other ∙ row_makes k a other is))

set_line_makes : (a : Arguments) → IsArguments OfValue a → command_of (codes "set" ++ arguments_text a) ≡ Some (command_made keys.SetMember a)
unfolding command_of
set_line_makes (Words words) is = absurd is
set_line_makes (Description name members) is = absurd is
set_line_makes (Pair old new) is = absurd is
set_line_makes (Value name member rest) is =
    let text = codes "set" ++ arguments_text (Value name member rest) in
    choose_true (is_utf8 text) (command_in text) None (Some (SetMember name member rest)) (value_utf8 name member rest is)
    (ap (λ (o : Option Command). option_or o (by_first (words_of text))) (value_makes name member rest is))

-- a keyword and its arguments are a line that makes their command
pub line_makes : (k : Keyword) (a : Arguments) → IsArguments (shape_of k) a → command_of (keyword_text k ++ arguments_text a) ≡ Some (command_made k a)
line_makes k a is = elim (is_set k) [
  | inl set ↦ subst (λ (x : Keyword). IsArguments (shape_of x) a → command_of (keyword_text x ++ arguments_text a) ≡ Some (command_made x a)) (sym set) (set_line_makes a) is
  | inr other ↦ row_line k a other is
]
