-- The readers of the members of a `type` line are readers of their text, and read it again.
use Rattle.std.proofs.Common.{◌≡◌, ℕ, zero, suc, eqb, List, [], ◌∷◌, ◌++◌, map, Ok, refl, sym, ap, subst, ◌∙◌, append_assoc, arith}
use Rattle.std.proofs.lemmas.List.{append-nil}
use Rattle.type_desc.specs.Grammar.{IsName, HasMemberName, kind_text}
use Rattle.type_desc.specs.Reader.{◌>>=◌, byte_at}
use Rattle.type_desc.specs.Reading.{kind_at, name_at}
use Rattle.type_desc.specs.declared.desc.Kind.{Kind}
use Rattle.type_desc.specs.declared.desc.Kind.TheVariants.{Int, Text, Bytes, Ref, Lazy, Refs}
use Rattle.type_desc.specs.declared.desc.Member.{Member}
use Rattle.type_desc.specs.declared.desc.NameKind.TheVariants as names
use Rattle.type_desc.proofs.Again.{name_again}
use Rattle.type_desc.proofs.FieldReaders.{IsReader-byte}
use Rattle.type_desc.proofs.Names.{IsReader-name}
use Rattle.type_desc.proofs.Readers.{IsReader, IsReader-bind, IsReader-value, IsReader-wider, IsReader-either}
use Rattle.type_desc.proofs.Records.{IsReader-kind}
use Rattle.script_text.specs.Arguments.{AreMembers, member_word, member_at, members_at}
use Rattle.script_text.specs.Fields.{spaced}
use Rattle.script_text.proofs.WordReaders.{name_ends}

-- ---- one member

-- a member of this kind
abbrev OfKind : Kind → Member → Type 0
OfKind kind m = (m.kind ≡ kind) × HasMemberName m

named : (kind : Kind) → IsReader (λ (m : Member). m.name) (OfKind kind) (λ text. name_at names.OfMember text >>= λ name. Ok (record { kind = kind; name = name.0 }, name.1))
named kind =
    IsReader-bind (λ w. w) (IsName names.OfMember) (name_at names.OfMember) (λ w m. []) (λ w m. m ≡ record { kind = kind; name = w }) (λ w text. Ok (record { kind = kind; name = w }, text))
    (λ (m : Member). m.name) (OfKind kind)
    (IsReader-name names.OfMember) (λ w is. IsReader-value (record { kind = kind; name = w })) (λ w is. (record { kind = kind; name = w }, refl))
    (λ w m is m-is. subst (λ (x : Member). OfKind kind x × (x.name ≡ w ++ [])) (sym m-is) ((refl, is), sym (append-nil w)))

-- a member named `a`
sample_name : IsName names.OfMember (97 ∷ [])
sample_name = (refl, refl, omega arith)

behind_colon : (kind : Kind) → IsReader (λ (m : Member). 58 ∷ m.name) (OfKind kind)
    (λ text. byte_at 58 text >>= λ colon. name_at names.OfMember colon.1 >>= λ name. Ok (record { kind = kind; name = name.0 }, name.1))
behind_colon kind =
    IsReader-bind (λ b. b ∷ []) (λ b. b ≡ 58) (byte_at 58) (λ b m. m.name) (λ b m. OfKind kind m)
    (λ b text. name_at names.OfMember text >>= λ name. Ok (record { kind = kind; name = name.0 }, name.1)) (λ (m : Member). 58 ∷ m.name) (OfKind kind)
    (IsReader-byte 58) (λ b is. named kind) (λ b is. (record { kind = kind; name = 97 ∷ [] }, (refl, sample_name)))
    (λ b m is fits. (fits, ap (λ (f : ℕ). f ∷ m.name) (sym is)))

IsReader-member : IsReader member_word HasMemberName member_at
unfolding member_at
IsReader-member =
    IsReader-bind kind_text (λ (k : Kind). Unit {0}) kind_at (λ k m. 58 ∷ m.name) OfKind
    (λ k text. byte_at 58 text >>= λ colon. name_at names.OfMember colon.1 >>= λ name. Ok (record { kind = k; name = name.0 }, name.1)) member_word HasMemberName
    IsReader-kind (λ k fits. behind_colon k) (λ k fits. (record { kind = k; name = 97 ∷ [] }, (refl, sample_name)))
    (λ k m fits is. (is.1, ap (λ (x : Kind). kind_text x ++ 58 ∷ m.name) is.0))

-- ---- lists of members

-- members, each behind a space
abbrev pub members_text : List Member → List ℕ
members_text ms = spaced (map member_word ms)

-- a list of at most so many members that begins with this one
abbrev BeginsWith : ℕ → Member → List Member → Type 0
BeginsWith most m ms = (others : List Member) × AreMembers most others × (ms ≡ m ∷ others)

abbrev Begun : ℕ → List Member → Type 0
Begun most ms = (m : Member) × HasMemberName m × BeginsWith most m ms

abbrev text_behind : List Member → List ℕ
text_behind [] = []
text_behind (m ∷ ms) = members_text ms

-- behind the space
abbrev first_text : List Member → List ℕ
first_text [] = []
first_text (m ∷ ms) = member_word m ++ members_text ms

behind : (most : ℕ) (m : Member) → IsReader members_text (AreMembers most) (members_at most) → IsReader text_behind (BeginsWith most m) (λ text. members_at most text >>= λ others. Ok (m ∷ others.0, others.1))
behind most m reader =
    IsReader-bind members_text (AreMembers most) (members_at most) (λ others ms. []) (λ others ms. ms ≡ m ∷ others) (λ others text. Ok (m ∷ others, text)) text_behind (BeginsWith most m)
    reader (λ others fits. IsReader-value (m ∷ others)) (λ others fits. (m ∷ others, refl))
    (λ others ms fits is. ((others, fits, is), ap text_behind is ∙ sym (append-nil (members_text others))))

begun_text : (most : ℕ) (m : Member) (ms : List Member) → BeginsWith most m ms → first_text ms ≡ member_word m ++ text_behind ms
begun_text most m ms b = rw b.2 refl

first_member : (most : ℕ) → IsReader members_text (AreMembers most) (members_at most)
    → IsReader first_text (Begun most) (λ text. member_at text >>= λ first. members_at most first.1 >>= λ others. Ok (first.0 ∷ others.0, others.1))
first_member most reader =
    IsReader-bind member_word HasMemberName member_at (λ m ms. text_behind ms) (λ m ms. BeginsWith most m ms) (λ m text. members_at most text >>= λ others. Ok (m ∷ others.0, others.1))
    first_text (Begun most)
    IsReader-member (λ m fits. behind most m reader) (λ m fits. (m ∷ [], ([], (tt, omega arith), refl)))
    (λ m ms fits b. ((m, fits, b), begun_text most m ms b))

sample_member : Member
sample_member = record { kind = Int; name = 97 ∷ [] }

has_name : HasMemberName sample_member
unfolding sample_member
has_name = sample_name

begun_fits : (most : ℕ) (ms : List Member) → Begun most ms → AreMembers (suc most) ms
begun_fits most ms b = rw b.2.2 ((b.1, b.2.1.0), omega (arith, b.2.1.1))

begun_spaced : (most : ℕ) (ms : List Member) → Begun most ms → members_text ms ≡ 32 ∷ first_text ms
begun_spaced most ms b = rw b.2.2 refl

-- no member
none : (most : ℕ) → IsReader members_text (AreMembers most) (λ text. Ok ([], text))
none most = IsReader-wider (λ (ms : List Member). []) members_text (λ (ms : List Member). ms ≡ []) (AreMembers most) (λ text. Ok ([], text)) (IsReader-value []) (λ ms is. rw is ((tt, omega arith), refl))

pub IsReader-members : (most : ℕ) → IsReader members_text (AreMembers most) (members_at most)
unfolding members_at
IsReader-members zero = none 0
IsReader-members (suc most) =
    let with_space : IsReader members_text (AreMembers (suc most)) (λ t. byte_at 32 t >>= λ space. member_at space.1 >>= λ first. members_at most first.1 >>= λ others. Ok (first.0 ∷ others.0, others.1)) =
    IsReader-bind (λ b. b ∷ []) (λ b. b ≡ 32) (byte_at 32) (λ b ms. first_text ms) (λ b ms. Begun most ms)
    (λ b text. member_at text >>= λ first. members_at most first.1 >>= λ others. Ok (first.0 ∷ others.0, others.1)) members_text (AreMembers (suc most))
    (IsReader-byte 32) (λ b is. first_member most (IsReader-members most)) (λ b is. (sample_member ∷ [], (sample_member, has_name, ([], (tt, omega arith), refl))))
    (λ b ms is begun. (begun_fits most ms begun, begun_spaced most ms begun ∙ ap (λ (f : ℕ). f ∷ first_text ms) (sym is))) in
    IsReader-either members_text (AreMembers (suc most)) (λ b. eqb b 32) _ _ with_space (none (suc most))

-- ---- what is spelled is read again

kind_again : (kind : Kind) (rest : List ℕ) → kind_at (kind_text kind ++ 58 ∷ rest) ≡ Ok (kind, 58 ∷ rest)
unfolding kind_at
kind_again Int rest = refl
kind_again Text rest = refl
kind_again Bytes rest = refl
kind_again Ref rest = refl
kind_again Lazy rest = refl
kind_again Refs rest = refl

member_again : (m : Member) (words : List (List ℕ)) → HasMemberName m → member_at (member_word m ++ spaced words) ≡ Ok (m, spaced words)
unfolding member_at
member_again m words has =
    let regrouped : member_word m ++ spaced words ≡ kind_text m.kind ++ 58 ∷ (m.name ++ spaced words) = append_assoc (kind_text m.kind) (58 ∷ m.name) (spaced words) in
    ap member_at regrouped ∙ rw (kind_again m.kind (m.name ++ spaced words), name_again names.OfMember m.name (spaced words) has (name_ends names.OfMember words)) refl

pub members_again : (most : ℕ) (ms : List Member) → AreMembers most ms → members_at most (members_text ms) ≡ Ok (ms, [])
unfolding members_at
members_again zero [] fits = refl
members_again (suc most) [] fits = refl
members_again zero (m ∷ ms) fits = absurd (omega (arith, fits.1))
members_again (suc most) (m ∷ ms) fits =
    rw (member_again m (map member_word ms) fits.0.0, members_again most ms (fits.0.1, omega (arith, fits.1))) refl
