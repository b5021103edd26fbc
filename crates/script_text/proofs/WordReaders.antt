-- The readers of words are readers of what a word of each kind may be, and read it again.
use Rattle.std.proofs.Common.{◌≡◌, ℕ, suc, ◌+◌, Bool, true, false, cond, List, [], ◌∷◌, ◌++◌, length, drop, Ok, Err, refl, sym, ap, subst, ◌∙◌, arith, inl, inr}
use Rattle.std.specs.Prelude.{codes}
use Rattle.std.specs.Char.{is_ascii_digit}
use Rattle.std.specs.Str.{bytes_eq}
use Rattle.std.proofs.lemmas.Bool.{cases_Bool}
use Rattle.std.proofs.lemmas.List.{append-nil, length-append, drop_at}
use Rattle.std.proofs.lemmas.Slice.Eq.{bytes_eq-Decides}
use Rattle.type_desc.specs.Grammar.{IsName, continues_name}
use Rattle.type_desc.specs.Reader.{◌>>=◌, byte_at, end_at}
use Rattle.type_desc.specs.Reading.{name_at}
use Rattle.type_desc.specs.declared.desc.NameKind.{NameKind}
use Rattle.type_desc.specs.declared.desc.NameKind.TheVariants as names
use Rattle.type_desc.proofs.Again.{EndsRun, name_again}
use Rattle.type_desc.proofs.FieldReaders.{IsReader-byte, IsReader-end}
use Rattle.type_desc.proofs.Names.{IsReader-name}
use Rattle.type_desc.proofs.Readers.{IsReader, IsReader-bind, IsReader-value, IsReader-wider, bind_at, choose_false, done}
use Rattle.script_text.proofs.DigitReaders.{IsReader-digits, digits_again}
use Rattle.script_text.specs.Fields.{IsField, AreFields, spaced, unless_null, bound_name_at, field_at, spaced_at, words_at}
use Rattle.script_text.specs.declared.fields.Field.{Field}
use Rattle.script_text.specs.declared.fields.Field.TheVariants as fields

-- ---- a name that is not `null`

-- what goes on behind a word
abbrev more_of : List ℕ → List ℕ → List ℕ
more_of word name = drop (length word) name

-- a name that goes on like this word
abbrev GoesOn : List ℕ → List ℕ → Type 0
GoesOn word name = IsField fields.Name name × (name ≡ word ++ more_of word name)

nulla : IsField fields.Name (codes "nulla")
nulla = ((refl, refl, omega arith), refl)

itself : (word : List ℕ) → IsName names.OfMember word → bytes_eq word (codes "null") ≡ false → GoesOn word word × (more_of word word ≡ [])
itself word is test =
    let none : more_of word word ≡ [] = ap (drop (length word)) (sym (append-nil word)) ∙ drop_at word [] (length word) refl in
    (((is, test), sym (append-nil word) ∙ ap (λ (t : List ℕ). word ++ t) (sym none)), none)

is_null : (word : List ℕ) → bytes_eq word (codes "null") ≡ true → word ≡ codes "null"
is_null word test = (bytes_eq-Decides word (codes "null")).0 test

null_goes_on : (word : List ℕ) → bytes_eq word (codes "null") ≡ true → GoesOn word (codes "nulla") × (codes "a" ≡ more_of word (codes "nulla"))
null_goes_on word test = subst (λ (w : List ℕ). GoesOn w (codes "nulla") × (codes "a" ≡ more_of w (codes "nulla"))) (sym (is_null word test)) ((nulla, refl), refl)

some_name : (word : List ℕ) → IsName names.OfMember word → (name : List ℕ) × GoesOn word name
some_name word is = elim (cases_Bool (bytes_eq word (codes "null"))) [
  | inl null ↦ (codes "nulla", (null_goes_on word null).0)
  | inr other ↦ (word, (itself word is other).0)
]

by_test : (t : Bool) (word : List ℕ) → IsName names.OfMember word → bytes_eq word (codes "null") ≡ t → IsReader (more_of word) (GoesOn word) (λ text. cond t (Err (length text)) (Ok (word, text)))
by_test false word is test =
    IsReader-wider (λ (name : List ℕ). []) (more_of word) (λ name. name ≡ word) (GoesOn word) (λ text. Ok (word, text)) (IsReader-value word)
    (λ name same. let p = itself word is test in subst (λ (x : List ℕ). GoesOn word x × (more_of word x ≡ [])) (sym same) (p.0, p.1))
by_test true word is test = record {
  taken = λ text value rest e. absurd cc;
  stuck = λ text left e.
      let p = null_goes_on word test in
      record { front = []; rest = text; more = codes "a"; value = codes "nulla"; parts = refl; left_is = (cc); fits = p.0; spelled = p.1 };
  takes_again = λ front x y value c rest e. absurd cc;
  stuck_again = λ front x y k left e left_is.
      let len : length (front ++ x) ≡ left = (cc) in
      let long : length (front ++ y) ≡ suc k + length y = omega (arith, length-append front x, length-append front y) in
      ap (λ (n : ℕ). Err n) long;
}

IsReader-bound_name : IsReader (λ w. w) (IsField fields.Name) bound_name_at
unfolding bound_name_at
IsReader-bound_name =
    IsReader-bind (λ w. w) (IsName names.OfMember) (name_at names.OfMember) more_of GoesOn unless_null (λ w. w) (IsField fields.Name)
    (IsReader-name names.OfMember) (λ word is. by_test (bytes_eq word (codes "null")) word is refl) some_name
    (λ word name is on. (on.0, on.1))

-- ---- words

pub IsReader-field : (field : Field) → IsReader (λ w. w) (IsField field) (field_at field)
IsReader-field fields.Name = IsReader-bound_name
IsReader-field fields.TypeName = IsReader-name names.OfType
IsReader-field fields.Member = IsReader-name names.OfMember
IsReader-field fields.Target = IsReader-name names.OfMember
IsReader-field fields.Index = IsReader-digits

-- a word of each kind
pub sample_of : Field → List ℕ
sample_of fields.Name = codes "a"
sample_of fields.TypeName = codes "A"
sample_of fields.Member = codes "a"
sample_of fields.Target = codes "a"
sample_of fields.Index = codes "0"

pub sample_fits : (field : Field) → IsField field (sample_of field)
unfolding sample_of
sample_fits fields.Name = ((refl, refl, omega arith), refl)
sample_fits fields.TypeName = (refl, refl, omega arith)
sample_fits fields.Member = (refl, refl, omega arith)
sample_fits fields.Target = (refl, refl, omega arith)
sample_fits fields.Index = (refl, refl)

pub IsReader-spaced : (field : Field) → IsReader (λ w. 32 ∷ w) (IsField field) (spaced_at field)
unfolding spaced_at
IsReader-spaced field =
    IsReader-bind (λ b. b ∷ []) (λ b. b ≡ 32) (byte_at 32) (λ b w. w) (λ b w. IsField field w) (λ b text. field_at field text) (λ w. 32 ∷ w) (IsField field)
    (IsReader-byte 32) (λ b is. IsReader-field field) (λ b is. (sample_of field, sample_fits field))
    (λ b w is fits. (fits, ap (λ (f : ℕ). f ∷ w) (sym is)))

pub some_words : (kinds : List Field) → (words : List (List ℕ)) × AreFields kinds words
some_words [] = ([], tt)
some_words (field ∷ kinds) = let others = some_words kinds in (sample_of field ∷ others.0, (sample_fits field, others.1))

-- words of which this is the first
abbrev BeginsWith : List Field → List ℕ → List (List ℕ) → Type 0
BeginsWith kinds word words = (others : List (List ℕ)) × AreFields kinds others × (words ≡ word ∷ others)

abbrev behind_first : List (List ℕ) → List ℕ
behind_first words = spaced (drop 1 words)

pub IsReader-words : (kinds : List Field) → IsReader spaced (AreFields kinds) (words_at kinds)
unfolding words_at
IsReader-words [] =
    IsReader-bind (λ (u : Unit {0}). []) (λ (u : Unit {0}). Unit {0}) end_at (λ u words. []) (λ u words. words ≡ []) (λ u text. Ok ([], text)) spaced (AreFields [])
    IsReader-end (λ u fits. IsReader-value []) (λ u fits. ([], refl))
    (λ u words fits is. subst (λ (x : List (List ℕ)). AreFields [] x × (spaced x ≡ [])) (sym is) (tt, refl))
IsReader-words (field ∷ kinds) =
    let behind : (word : List ℕ) → IsReader behind_first (BeginsWith kinds word) (λ text. words_at kinds text >>= λ words. Ok (word ∷ words.0, words.1)) =
    λ word.
    IsReader-bind spaced (AreFields kinds) (words_at kinds) (λ others words. []) (λ others words. words ≡ word ∷ others) (λ others text. Ok (word ∷ others, text)) behind_first (BeginsWith kinds word)
    (IsReader-words kinds) (λ others fits. IsReader-value (word ∷ others)) (λ others fits. (word ∷ others, refl))
    (λ others words fits is. ((others, fits, is), ap behind_first is ∙ sym (append-nil (spaced others)))) in
    let some = some_words kinds in
    IsReader-bind (λ w. 32 ∷ w) (IsField field) (spaced_at field) (λ word words. behind_first words) (BeginsWith kinds)
    (λ word text. words_at kinds text >>= λ words. Ok (word ∷ words.0, words.1)) spaced (AreFields (field ∷ kinds))
    (IsReader-spaced field) (λ word is. behind word) (λ word is. (word ∷ some.0, (some.0, some.1, refl)))
    (λ word words is begins. subst (λ (x : List (List ℕ)). AreFields (field ∷ kinds) x × (spaced x ≡ (32 ∷ word) ++ behind_first x)) (sym begins.2) ((is, begins.1), refl))

-- ---- what is spelled is read again

pub name_ends : (kind : NameKind) (words : List (List ℕ)) → EndsRun (continues_name kind) (spaced words)
name_ends kind [] = tt
name_ends names.OfType (word ∷ words) = refl
name_ends names.OfMember (word ∷ words) = refl

digits_end : (words : List (List ℕ)) → EndsRun is_ascii_digit (spaced words)
digits_end [] = tt
digits_end (word ∷ words) = refl

bound_name_again : (word rest : List ℕ) → IsField fields.Name word → EndsRun (continues_name names.OfMember) rest → bound_name_at (word ++ rest) ≡ Ok (word, rest)
unfolding bound_name_at
bound_name_again word rest is ends =
    bind_at (name_at names.OfMember (word ++ rest)) (λ x. unless_null x.0 x.1) (word, rest) (Ok (word, rest)) (name_again names.OfMember word rest is.0 ends)
    (choose_false (bytes_eq word (codes "null")) (Err (length rest)) (done (word, rest)) (Ok (word, rest)) is.1 refl)

pub field_again : (field : Field) (word : List ℕ) (words : List (List ℕ)) → IsField field word → field_at field (word ++ spaced words) ≡ Ok (word, spaced words)
field_again fields.Name word words is = bound_name_again word (spaced words) is (name_ends names.OfMember words)
field_again fields.TypeName word words is = name_again names.OfType word (spaced words) is (name_ends names.OfType words)
field_again fields.Member word words is = name_again names.OfMember word (spaced words) is (name_ends names.OfMember words)
field_again fields.Target word words is = name_again names.OfMember word (spaced words) is (name_ends names.OfMember words)
field_again fields.Index word words is = digits_again word (spaced words) is (digits_end words)

pub spaced_again : (field : Field) (word : List ℕ) (words : List (List ℕ)) → IsField field word → spaced_at field (spaced (word ∷ words)) ≡ Ok (word, spaced words)
unfolding spaced_at
spaced_again field word words is = field_again field word words is

pub words_again : (kinds : List Field) (words : List (List ℕ)) → AreFields kinds words → words_at kinds (spaced words) ≡ Ok (words, [])
unfolding words_at
words_again [] [] are = refl
words_again [] (word ∷ words) are = absurd are
words_again (field ∷ kinds) [] are = absurd are
words_again (field ∷ kinds) (word ∷ words) are = rw (spaced_again field word words are.0, words_again kinds words are.1) refl
