-- The readers of what follows a keyword are readers of its text, and read it again.
use Rattle.std.proofs.Common.{◌≡◌, ℕ, eqb, List, [], ◌∷◌, ◌++◌, map, Ok, refl, sym, ap, subst, ◌∙◌, append_assoc, arith, ◌⊎◌, inl, inr}
use Rattle.std.specs.Prelude.{codes, IsTrue}
use Rattle.std.specs.Str.{is_utf8}
use Rattle.std.proofs.lemmas.List.{append-nil}
use Rattle.type_desc.specs.Grammar.{IsName}
use Rattle.type_desc.specs.Reader.{◌>>=◌, either, byte_at, end_at}
use Rattle.type_desc.specs.Reading.{name_at}
use Rattle.type_desc.specs.declared.desc.Member.{Member}
use Rattle.type_desc.specs.declared.desc.NameKind.TheVariants as names
use Rattle.type_desc.proofs.Again.{name_again}
use Rattle.type_desc.proofs.FieldReaders.{IsReader-byte, IsReader-end}
use Rattle.type_desc.proofs.Names.{IsReader-name}
use Rattle.type_desc.proofs.Readers.{IsReader, IsReader-bind, IsReader-value, IsReader-wider, IsReader-either}
use Rattle.refactor_table.specs.declared.name.RefName.{RefName}
use Rattle.refactor_table.specs.declared.name.RefName.TheVariants.{OfType, OfMember}
use Rattle.refactor_table.specs.Names.{name_text}
use Rattle.script_text.specs.Arguments.{Shape, OfWords, OfDescription, OfPair, OfValue, Arguments, Words, Description, Pair, Value, AreMembers, IsArguments, arguments_text, member_word, arguments_at, description_at, members_at, types_at, dotted_at, type_members_at, pair_at, value_at}
use Rattle.script_text.specs.Fields.{IsField, AreFields, spaced, spaced_at, words_at}
use Rattle.script_text.specs.Utf8.{rest_at}
use Rattle.script_text.specs.declared.fields.Field.TheVariants as fields
use Rattle.script_text.proofs.MemberReaders.{members_text, IsReader-members, members_again}
use Rattle.script_text.proofs.RestReaders.{IsReader-rest, rest_again, empty_rest}
use Rattle.script_text.proofs.WordReaders.{IsReader-spaced, IsReader-words, some_words, spaced_again, words_again}

abbrev No : Unit {0} → List ℕ
No u = []

abbrev Always : Unit {0} → Type 0
Always u = Unit {0}

-- the end behind arguments that have been read
ended : (arguments : Arguments) → IsReader (λ (a : Arguments). []) (λ a. a ≡ arguments) (λ text. end_at text >>= λ end. Ok (arguments, end.1))
ended arguments =
    IsReader-bind No Always end_at (λ u a. []) (λ u a. a ≡ arguments) (λ u text. Ok (arguments, text)) (λ (a : Arguments). []) (λ a. a ≡ arguments)
    IsReader-end (λ u fits. IsReader-value arguments) (λ u fits. (arguments, refl)) (λ u a fits is. (is, refl))

-- ---- words

IsReader-plain : (kinds : List _) → IsReader arguments_text (IsArguments (OfWords kinds)) (λ text. words_at kinds text >>= λ words. Ok (Words words.0, words.1))
IsReader-plain kinds =
    IsReader-bind spaced (AreFields kinds) (words_at kinds) (λ words a. []) (λ words a. a ≡ Words words) (λ words text. Ok (Words words, text)) arguments_text (IsArguments (OfWords kinds))
    (IsReader-words kinds) (λ words are. IsReader-value (Words words)) (λ words are. (Words words, refl))
    (λ words a are is. subst (λ (x : Arguments). IsArguments (OfWords kinds) x × (arguments_text x ≡ spaced words ++ [])) (sym is) (are, sym (append-nil (spaced words))))

-- ---- the name and the members of a type

-- a type of this name
abbrev OfName : List ℕ → Arguments → Type 0
OfName name a = (members : List Member) × AreMembers 1024 members × (a ≡ Description name members)

-- the text of the members
abbrev members_part : Arguments → List ℕ
members_part (Words words) = []
members_part (Description name members) = members_text members
members_part (Pair old new) = []
members_part (Value name member rest) = []

members_behind : (name : List ℕ) → IsReader members_part (OfName name) (λ text. members_at 1024 text >>= λ members. end_at members.1 >>= λ end. Ok (Description name members.0, end.1))
members_behind name =
    IsReader-bind members_text (AreMembers 1024) (members_at 1024) (λ members a. []) (λ members a. a ≡ Description name members)
    (λ members text. end_at text >>= λ end. Ok (Description name members, end.1)) members_part (OfName name)
    (IsReader-members 1024) (λ members are. ended (Description name members)) (λ members are. (Description name members, refl))
    (λ members a are is. ((members, are, is), ap members_part is ∙ sym (append-nil (members_text members))))

IsReader-description : IsReader arguments_text (IsArguments OfDescription) description_at
unfolding description_at
IsReader-description =
    IsReader-bind (λ w. 32 ∷ w) (IsField fields.TypeName) (spaced_at fields.TypeName) (λ name a. members_part a) OfName
    (λ name text. members_at 1024 text >>= λ members. end_at members.1 >>= λ end. Ok (Description name members.0, end.1)) arguments_text (IsArguments OfDescription)
    (IsReader-spaced fields.TypeName) (λ name is. members_behind name) (λ name is. (Description name [], ([], (tt, omega arith), refl)))
    (λ name a is of. subst (λ (x : Arguments). IsArguments OfDescription x × (arguments_text x ≡ (32 ∷ name) ++ members_part x)) (sym of.2) ((is, of.1), refl))

-- ---- two names

-- what stands behind the first type of two names
abbrev behind_old : Arguments → List ℕ
behind_old (Words words) = []
behind_old (Description name members) = []
behind_old (Pair (OfType old) new) = spaced (name_text new ∷ [])
behind_old (Pair (OfMember old member) new) = 46 ∷ (member ++ spaced (name_text new ∷ []))
behind_old (Value name member rest) = []

-- the second of two names
abbrev new_part : Arguments → List ℕ
new_part (Words words) = []
new_part (Description name members) = []
new_part (Pair old new) = spaced (name_text new ∷ [])
new_part (Value name member rest) = []

-- two types of which this is the first
abbrev AreTypes : List ℕ → Arguments → Type 0
AreTypes old a = (new : List ℕ) × IsName names.OfType new × (a ≡ Pair (OfType old) (OfType new))

two_types : (old : List ℕ) → IsReader behind_old (AreTypes old) (types_at old)
unfolding types_at
two_types old =
    IsReader-bind (λ w. 32 ∷ w) (IsField fields.TypeName) (spaced_at fields.TypeName) (λ new a. []) (λ new a. a ≡ Pair (OfType old) (OfType new))
    (λ new text. end_at text >>= λ end. Ok (Pair (OfType old) (OfType new), end.1)) behind_old (AreTypes old)
    (IsReader-spaced fields.TypeName) (λ new is. ended (Pair (OfType old) (OfType new))) (λ new is. (Pair (OfType old) (OfType new), refl))
    (λ new a is same. ((new, is, same), ap behind_old same))

IsReader-dotted : IsReader (λ w. 46 ∷ w) (IsName names.OfMember) dotted_at
unfolding dotted_at
IsReader-dotted =
    IsReader-bind (λ b. b ∷ []) (λ b. b ≡ 46) (byte_at 46) (λ b w. w) (λ b w. IsName names.OfMember w) (λ b text. name_at names.OfMember text) (λ w. 46 ∷ w) (IsName names.OfMember)
    (IsReader-byte 46) (λ b is. IsReader-name names.OfMember) (λ b is. (codes "a", (refl, refl, omega arith)))
    (λ b w is fits. (fits, ap (λ (f : ℕ). f ∷ w) (sym is)))

-- two members: of the first all is known, of the second its type, or all
abbrev AreThese : (old member new : List ℕ) → Arguments → Type 0
AreThese old member new a = (new_member : List ℕ) × IsName names.OfMember new_member × (a ≡ Pair (OfMember old member) (OfMember new new_member))

abbrev AreMembersOf : (old member : List ℕ) → Arguments → Type 0
AreMembersOf old member a = (new : List ℕ) × IsName names.OfType new × AreThese old member new a

abbrev AreOfTypes : List ℕ → Arguments → Type 0
AreOfTypes old a = (member : List ℕ) × IsName names.OfMember member × AreMembersOf old member a

-- what stands behind the second type
abbrev behind_new : Arguments → List ℕ
behind_new (Words words) = []
behind_new (Description name members) = []
behind_new (Pair old (OfType new)) = []
behind_new (Pair old (OfMember new member)) = 46 ∷ member
behind_new (Value name member rest) = []

new_member : (old member new : List ℕ) → IsReader behind_new (AreThese old member new) (λ text. dotted_at text >>= λ m. end_at m.1 >>= λ end. Ok (Pair (OfMember old member) (OfMember new m.0), end.1))
new_member old member new =
    IsReader-bind (λ w. 46 ∷ w) (IsName names.OfMember) dotted_at (λ m a. []) (λ m a. a ≡ Pair (OfMember old member) (OfMember new m))
    (λ m text. end_at text >>= λ end. Ok (Pair (OfMember old member) (OfMember new m), end.1)) behind_new (AreThese old member new)
    IsReader-dotted (λ m is. ended (Pair (OfMember old member) (OfMember new m))) (λ m is. (Pair (OfMember old member) (OfMember new m), refl))
    (λ m a is same. ((m, is, same), ap behind_new same ∙ sym (append-nil (46 ∷ m))))

these_text : (old member new : List ℕ) (a : Arguments) → AreThese old member new a → new_part a ≡ (32 ∷ new) ++ behind_new a
these_text old member new a these =
    subst (λ (x : Arguments). new_part x ≡ (32 ∷ new) ++ behind_new x) (sym these.2) (append-nil (32 ∷ (new ++ 46 ∷ these.0)))

new_type : (old member : List ℕ) → IsReader new_part (AreMembersOf old member)
    (λ text. spaced_at fields.TypeName text >>= λ new. dotted_at new.1 >>= λ m. end_at m.1 >>= λ end. Ok (Pair (OfMember old member) (OfMember new.0 m.0), end.1))
new_type old member =
    IsReader-bind (λ w. 32 ∷ w) (IsField fields.TypeName) (spaced_at fields.TypeName) (λ new a. behind_new a) (λ new a. AreThese old member new a)
    (λ new text. dotted_at text >>= λ m. end_at m.1 >>= λ end. Ok (Pair (OfMember old member) (OfMember new m.0), end.1)) new_part (AreMembersOf old member)
    (IsReader-spaced fields.TypeName) (λ new is. new_member old member new) (λ new is. (Pair (OfMember old member) (OfMember new (codes "a")), (codes "a", (refl, refl, omega arith), refl)))
    (λ new a is these. ((new, is, these), these_text old member new a these))

members_text_is : (old member : List ℕ) (a : Arguments) → AreMembersOf old member a → behind_old a ≡ (46 ∷ member) ++ new_part a
members_text_is old member a of = subst (λ (x : Arguments). behind_old x ≡ (46 ∷ member) ++ new_part x) (sym of.2.2) refl

two_members : (old : List ℕ) → IsReader behind_old (AreOfTypes old) (type_members_at old)
unfolding type_members_at
two_members old =
    IsReader-bind (λ w. 46 ∷ w) (IsName names.OfMember) dotted_at (λ member a. new_part a) (λ member a. AreMembersOf old member a)
    (λ member text. spaced_at fields.TypeName text >>= λ new. dotted_at new.1 >>= λ m. end_at m.1 >>= λ end. Ok (Pair (OfMember old member) (OfMember new.0 m.0), end.1)) behind_old (AreOfTypes old)
    IsReader-dotted (λ member is. new_type old member)
    (λ member is. (Pair (OfMember old member) (OfMember (codes "A") (codes "a")), (codes "A", (refl, refl, omega arith), (codes "a", (refl, refl, omega arith), refl))))
    (λ member a is of. ((member, is, of), members_text_is old member a of))

abbrev IsPairOf : List ℕ → Arguments → Type 0
IsPairOf old a = AreTypes old a ⊎ AreOfTypes old a

behind_first_type : (old : List ℕ) → IsReader behind_old (IsPairOf old) (either (λ b. eqb b 46) (type_members_at old) (types_at old))
behind_first_type old =
    IsReader-either behind_old (IsPairOf old) (λ b. eqb b 46) (type_members_at old) (types_at old)
    (IsReader-wider behind_old behind_old (AreOfTypes old) (IsPairOf old) (type_members_at old) (two_members old) (λ a of. (inr of, refl)))
    (IsReader-wider behind_old behind_old (AreTypes old) (IsPairOf old) (types_at old) (two_types old) (λ a are. (inl are, refl)))

pair_text : (old : List ℕ) (a : Arguments) → IsName names.OfType old → IsPairOf old a → IsArguments OfPair a × (arguments_text a ≡ (32 ∷ old) ++ behind_old a)
pair_text old a is (inl are) =
    subst (λ (x : Arguments). IsArguments OfPair x × (arguments_text x ≡ (32 ∷ old) ++ behind_old x)) (sym are.2) ((is, are.1, tt), refl)
pair_text old a is (inr of) =
    let these = of.2.2 in
    let parts : arguments_text (Pair (OfMember old of.0) (OfMember of.2.0 these.0)) ≡ (32 ∷ old) ++ behind_old (Pair (OfMember old of.0) (OfMember of.2.0 these.0)) =
    ap (λ (t : List ℕ). 32 ∷ t) (append_assoc old (46 ∷ of.0) (spaced ((of.2.0 ++ 46 ∷ these.0) ∷ []))) in
    subst (λ (x : Arguments). IsArguments OfPair x × (arguments_text x ≡ (32 ∷ old) ++ behind_old x)) (sym these.2) (((is, of.1), (of.2.1, these.1), tt), parts)

IsReader-pair : IsReader arguments_text (IsArguments OfPair) pair_at
unfolding pair_at
IsReader-pair =
    IsReader-bind (λ w. 32 ∷ w) (IsField fields.TypeName) (spaced_at fields.TypeName) (λ old a. behind_old a) IsPairOf
    (λ old text. either (λ b. eqb b 46) (type_members_at old) (types_at old) text) arguments_text (IsArguments OfPair)
    (IsReader-spaced fields.TypeName) (λ old is. behind_first_type old) (λ old is. (Pair (OfType old) (OfType old), inl (old, is, refl)))
    (λ old a is of. pair_text old a is of)

-- ---- a name, a member and a value

abbrev OfBoth : (name member : List ℕ) → Arguments → Type 0
OfBoth name member a = (rest : List ℕ) × IsTrue (is_utf8 rest) × (a ≡ Value name member rest)

abbrev OfBound : List ℕ → Arguments → Type 0
OfBound name a = (member : List ℕ) × IsField fields.Member member × OfBoth name member a

-- behind the name, behind the member, and behind the space
abbrev member_part : Arguments → List ℕ
member_part (Words words) = []
member_part (Description name members) = []
member_part (Pair old new) = []
member_part (Value name member rest) = spaced (member ∷ rest ∷ [])

abbrev value_part : Arguments → List ℕ
value_part (Words words) = []
value_part (Description name members) = []
value_part (Pair old new) = []
value_part (Value name member rest) = spaced (rest ∷ [])

abbrev rest_part : Arguments → List ℕ
rest_part (Words words) = []
rest_part (Description name members) = []
rest_part (Pair old new) = []
rest_part (Value name member rest) = rest

rest_behind : (name member : List ℕ) → IsReader rest_part (OfBoth name member) (λ text. rest_at text >>= λ rest. Ok (Value name member rest.0, rest.1))
rest_behind name member =
    IsReader-bind (λ w. w) (λ w. IsTrue (is_utf8 w)) rest_at (λ rest a. []) (λ rest a. a ≡ Value name member rest) (λ rest text. Ok (Value name member rest, text)) rest_part (OfBoth name member)
    IsReader-rest (λ rest is. IsReader-value (Value name member rest)) (λ rest is. (Value name member rest, refl))
    (λ rest a is same. ((rest, is, same), ap rest_part same ∙ sym (append-nil rest)))

space_behind : (name member : List ℕ) → IsReader value_part (OfBoth name member) (λ text. byte_at 32 text >>= λ space. rest_at space.1 >>= λ rest. Ok (Value name member rest.0, rest.1))
space_behind name member =
    IsReader-bind (λ b. b ∷ []) (λ b. b ≡ 32) (byte_at 32) (λ b a. rest_part a) (λ b a. OfBoth name member a) (λ b text. rest_at text >>= λ rest. Ok (Value name member rest.0, rest.1)) value_part (OfBoth name member)
    (IsReader-byte 32) (λ b is. rest_behind name member) (λ b is. (Value name member [], ([], empty_rest, refl)))
    (λ b a is of. (of, subst (λ (x : Arguments). value_part x ≡ (b ∷ []) ++ rest_part x) (sym of.2) (append-nil (32 ∷ of.0) ∙ ap (λ (f : ℕ). f ∷ of.0) (sym is))))

member_behind : (name : List ℕ) → IsReader member_part (OfBound name)
    (λ text. spaced_at fields.Member text >>= λ member. byte_at 32 member.1 >>= λ space. rest_at space.1 >>= λ rest. Ok (Value name member.0 rest.0, rest.1))
member_behind name =
    IsReader-bind (λ w. 32 ∷ w) (IsField fields.Member) (spaced_at fields.Member) (λ member a. value_part a) (λ member a. OfBoth name member a)
    (λ member text. byte_at 32 text >>= λ space. rest_at space.1 >>= λ rest. Ok (Value name member rest.0, rest.1)) member_part (OfBound name)
    (IsReader-spaced fields.Member) (λ member is. space_behind name member) (λ member is. (Value name member [], ([], empty_rest, refl)))
    (λ member a is of. ((member, is, of), subst (λ (x : Arguments). member_part x ≡ (32 ∷ member) ++ value_part x) (sym of.2) refl))

IsReader-value_form : IsReader arguments_text (IsArguments OfValue) value_at
unfolding value_at
IsReader-value_form =
    IsReader-bind (λ w. 32 ∷ w) (IsField fields.Name) (spaced_at fields.Name) (λ name a. member_part a) OfBound
    (λ name text. spaced_at fields.Member text >>= λ member. byte_at 32 member.1 >>= λ space. rest_at space.1 >>= λ rest. Ok (Value name member.0 rest.0, rest.1)) arguments_text (IsArguments OfValue)
    (IsReader-spaced fields.Name) (λ name is. member_behind name) (λ name is. (Value name (codes "a") [], (codes "a", (refl, refl, omega arith), ([], empty_rest, refl))))
    (λ name a is of. subst (λ (x : Arguments). IsArguments OfValue x × (arguments_text x ≡ (32 ∷ name) ++ member_part x)) (sym of.2.2) ((is, of.1, of.2.1), refl))

-- ---- all forms

pub IsReader-arguments : (shape : Shape) → IsReader arguments_text (IsArguments shape) (arguments_at shape)
IsReader-arguments (OfWords kinds) = IsReader-plain kinds
IsReader-arguments OfDescription = IsReader-description
IsReader-arguments OfPair = IsReader-pair
IsReader-arguments OfValue = IsReader-value_form

pub some_arguments : (shape : Shape) → (a : Arguments) × IsArguments shape a
some_arguments (OfWords kinds) = let some = some_words kinds in (Words some.0, some.1)
some_arguments OfDescription = (Description (codes "A") [], ((refl, refl, omega arith), (tt, omega arith)))
some_arguments OfPair = (Pair (OfType (codes "A")) (OfType (codes "A")), ((refl, refl, omega arith), (refl, refl, omega arith), tt))
some_arguments OfValue = (Value (codes "a") (codes "a") [], (((refl, refl, omega arith), refl), (refl, refl, omega arith), empty_rest))

-- ---- what is spelled is read again

description_again : (name : List ℕ) (members : List Member) → IsField fields.TypeName name → AreMembers 1024 members → description_at (arguments_text (Description name members)) ≡ Ok (Description name members, [])
unfolding description_at
description_again name members is are = rw (spaced_again fields.TypeName name (map member_word members) is, members_again 1024 members are) refl

pair_again : (old new : RefName) → IsArguments OfPair (Pair old new) → pair_at (arguments_text (Pair old new)) ≡ Ok (Pair old new, [])
unfolding pair_at types_at type_members_at dotted_at spaced_at
pair_again (OfType old) (OfType new) is = rw (name_again names.OfType old (32 ∷ (new ++ [])) is.0 refl, name_again names.OfType new [] is.1 tt) refl
pair_again (OfType old) (OfMember new member) is = absurd is.2
pair_again (OfMember old member) (OfType new) is = absurd is.2
pair_again (OfMember old member) (OfMember new new_member) is =
    let second : (new ++ 46 ∷ new_member) ++ [] ≡ new ++ 46 ∷ new_member = append-nil (new ++ 46 ∷ new_member) in
    let regrouped : arguments_text (Pair (OfMember old member) (OfMember new new_member)) ≡ 32 ∷ (old ++ 46 ∷ (member ++ 32 ∷ (new ++ 46 ∷ new_member))) =
    ap (λ (t : List ℕ). 32 ∷ ((old ++ 46 ∷ member) ++ 32 ∷ t)) second ∙ ap (λ (t : List ℕ). 32 ∷ t) (append_assoc old (46 ∷ member) (32 ∷ (new ++ 46 ∷ new_member))) in
    let whole : name_at names.OfMember new_member ≡ Ok (new_member, []) = ap (name_at names.OfMember) (sym (append-nil new_member)) ∙ name_again names.OfMember new_member [] is.1.1 tt in
    ap pair_at regrouped
    ∙ rw (name_again names.OfType old (46 ∷ (member ++ 32 ∷ (new ++ 46 ∷ new_member))) is.0.0 refl, name_again names.OfMember member (32 ∷ (new ++ 46 ∷ new_member)) is.0.1 refl, name_again names.OfType new (46 ∷ new_member) is.1.0 refl, whole) refl

value_again : (name member rest : List ℕ) → IsArguments OfValue (Value name member rest) → value_at (arguments_text (Value name member rest)) ≡ Ok (Value name member rest, [])
unfolding value_at
value_again name member rest is =
    let whole : rest_at (rest ++ []) ≡ Ok (rest, []) = ap rest_at (append-nil rest) ∙ rest_again rest is.2 in
    rw (spaced_again fields.Name name (member ∷ rest ∷ []) is.0, spaced_again fields.Member member (rest ∷ []) is.1, whole) refl

pub arguments_again : (shape : Shape) (a : Arguments) → IsArguments shape a → arguments_at shape (arguments_text a) ≡ Ok (a, [])
arguments_again (OfWords kinds) (Words words) is = rw (words_again kinds words is) refl
arguments_again OfDescription (Description name members) is = description_again name members is.0 is.1
arguments_again OfPair (Pair old new) is = pair_again old new is
arguments_again OfValue (Value name member rest) is = value_again name member rest is
arguments_again (OfWords kinds) (Description name members) is = absurd is
arguments_again (OfWords kinds) (Pair old new) is = absurd is
arguments_again (OfWords kinds) (Value name member rest) is = absurd is
arguments_again OfDescription (Words words) is = absurd is
arguments_again OfDescription (Pair old new) is = absurd is
arguments_again OfDescription (Value name member rest) is = absurd is
arguments_again OfPair (Words words) is = absurd is
arguments_again OfPair (Description name members) is = absurd is
arguments_again OfPair (Value name member rest) is = absurd is
arguments_again OfValue (Words words) is = absurd is
arguments_again OfValue (Description name members) is = absurd is
arguments_again OfValue (Pair old new) is = absurd is
