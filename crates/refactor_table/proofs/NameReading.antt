-- The reader of names of types and of members is a reader of their one text, and reads it again.
use Rattle.std.proofs.Common.{◌≡◌, ℕ, eqb, List, [], ◌∷◌, ◌++◌, Ok, refl, sym, ap, subst, ◌∙◌, ◌⊎◌, inl, inr, arith}
use Rattle.std.proofs.lemmas.List.{append-nil}
use Rattle.type_desc.specs.Grammar.{IsName}
use Rattle.type_desc.specs.Reader.{◌>>=◌, either, byte_at, end_at}
use Rattle.type_desc.specs.Reading.{name_at}
use Rattle.type_desc.specs.declared.desc.NameKind.TheVariants as kinds
use Rattle.type_desc.proofs.Readers.{IsReader, IsReader-bind, IsReader-value, IsReader-wider, IsReader-either}
use Rattle.type_desc.proofs.FieldReaders.{IsReader-byte, IsReader-end}
use Rattle.type_desc.proofs.Names.{IsReader-name}
use Rattle.type_desc.proofs.Again.{name_again}
use Rattle.refactor_table.specs.Names.{IsRefName, name_text}
use Rattle.refactor_table.specs.Reading.{member_end_at, type_end_at, ref_name_at}
use Rattle.refactor_table.specs.declared.name.RefName.{RefName}
use Rattle.refactor_table.specs.declared.name.RefName.TheVariants.{OfType, OfMember}

-- what stands behind the type's name
abbrev tail : RefName → List ℕ
tail (OfType t) = []
tail (OfMember t m) = 46 ∷ m

-- the name is of this type, or of a member of it
abbrev Names : List ℕ → RefName → Type 0
Names type_name (OfType t) = t ≡ type_name
Names type_name (OfMember t m) = (t ≡ type_name) × IsName kinds.OfMember m

-- the name is of the type itself
abbrev IsTypeItself : List ℕ → RefName → Type 0
IsTypeItself type_name n = n ≡ OfType type_name

-- the name is of a member of the type
abbrev IsMemberOf : List ℕ → RefName → Type 0
IsMemberOf type_name n = (m : List ℕ) × IsName kinds.OfMember m × (n ≡ OfMember type_name m)

-- the name is of this member of the type
abbrev IsThisMember : List ℕ → List ℕ → RefName → Type 0
IsThisMember type_name m n = n ≡ OfMember type_name m

sample_name : IsName kinds.OfMember (97 ∷ [])
sample_name = (refl, refl, omega arith)

IsReader-type_end : (type_name : List ℕ) → IsReader tail (IsTypeItself type_name) (type_end_at type_name)
unfolding type_end_at
IsReader-type_end type_name =
    IsReader-bind (λ (u : Unit {0}). []) (λ (u : Unit {0}). Unit {0}) end_at (λ u n. []) (λ u n. n ≡ OfType type_name) (λ u text. Ok (OfType type_name, text)) tail (IsTypeItself type_name)
    IsReader-end (λ u fits. IsReader-value (OfType type_name)) (λ u fits. (OfType type_name, refl)) (λ u n fits is. (is, ap tail is))

member_and_end : (type_name m : List ℕ) → IsReader (λ (n : RefName). []) (IsThisMember type_name m) (λ text. end_at text >>= λ end. Ok (OfMember type_name m, end.1))
member_and_end type_name m =
    IsReader-bind (λ (u : Unit {0}). []) (λ (u : Unit {0}). Unit {0}) end_at (λ u n. []) (λ u n. n ≡ OfMember type_name m) (λ u text. Ok (OfMember type_name m, text)) (λ (n : RefName). []) (IsThisMember type_name m)
    IsReader-end (λ u fits. IsReader-value (OfMember type_name m)) (λ u fits. (OfMember type_name m, refl)) (λ u n fits is. (is, refl))

-- what stands behind the dot
abbrev behind_dot : RefName → List ℕ
behind_dot (OfType t) = []
behind_dot (OfMember t m) = m

member_part : (type_name : List ℕ) → IsReader behind_dot (IsMemberOf type_name) (λ text. name_at kinds.OfMember text >>= λ member. end_at member.1 >>= λ end. Ok (OfMember type_name member.0, end.1))
member_part type_name =
    IsReader-bind (λ w. w) (IsName kinds.OfMember) (name_at kinds.OfMember) (λ w n. []) (λ w n. IsThisMember type_name w n)
    (λ w text. end_at text >>= λ end. Ok (OfMember type_name w, end.1)) behind_dot (IsMemberOf type_name)
    (IsReader-name kinds.OfMember) (λ w is. member_and_end type_name w) (λ w is. (OfMember type_name w, refl))
    (λ w n is named. ((w, is, named), ap behind_dot named ∙ sym (append-nil w)))

IsReader-member_end : (type_name : List ℕ) → IsReader tail (IsMemberOf type_name) (member_end_at type_name)
unfolding member_end_at
IsReader-member_end type_name =
    IsReader-bind (λ b. b ∷ []) (λ b. b ≡ 46) (byte_at 46) (λ b n. behind_dot n) (λ b n. IsMemberOf type_name n)
    (λ b text. name_at kinds.OfMember text >>= λ member. end_at member.1 >>= λ end. Ok (OfMember type_name member.0, end.1)) tail (IsMemberOf type_name)
    (IsReader-byte 46) (λ b is. member_part type_name) (λ b is. (OfMember type_name (97 ∷ []), (97 ∷ [], sample_name, refl)))
    (λ b n is named. (named, ap tail named.2 ∙ ap (λ (c : ℕ). c ∷ named.0) (sym is) ∙ ap (λ (w : List ℕ). b ∷ w) (sym (ap behind_dot named.2))))

type_names : (type_name : List ℕ) (n : RefName) → IsTypeItself type_name n → Names type_name n × (tail n ≡ tail n)
type_names type_name n is = (subst (λ (x : RefName). Names type_name x) (sym is) refl, refl)

member_names : (type_name : List ℕ) (n : RefName) → IsMemberOf type_name n → Names type_name n × (tail n ≡ tail n)
member_names type_name n is = (subst (λ (x : RefName). Names type_name x) (sym is.2) (refl, is.1), refl)

IsReader-tail : (type_name : List ℕ) → IsReader tail (Names type_name) (either (λ b. eqb b 46) (member_end_at type_name) (type_end_at type_name))
IsReader-tail type_name =
    IsReader-either tail (Names type_name) (λ b. eqb b 46) (member_end_at type_name) (type_end_at type_name)
    (IsReader-wider tail tail (IsMemberOf type_name) (Names type_name) (member_end_at type_name) (IsReader-member_end type_name) (member_names type_name))
    (IsReader-wider tail tail (IsTypeItself type_name) (Names type_name) (type_end_at type_name) (IsReader-type_end type_name) (type_names type_name))

named : (type_name : List ℕ) (n : RefName) → IsName kinds.OfType type_name → Names type_name n → IsRefName n × (name_text n ≡ type_name ++ tail n)
named type_name (OfType t) is same = (subst (IsName kinds.OfType) (sym same) is, same ∙ sym (append-nil type_name))
named type_name (OfMember t m) is same = ((subst (IsName kinds.OfType) (sym same.0) is, same.1), ap (λ (w : List ℕ). w ++ 46 ∷ m) same.0)

pub IsReader-ref_name : IsReader name_text IsRefName ref_name_at
unfolding ref_name_at
IsReader-ref_name =
    IsReader-bind (λ w. w) (IsName kinds.OfType) (name_at kinds.OfType) (λ w n. tail n) Names
    (λ w text. either (λ b. eqb b 46) (member_end_at w) (type_end_at w) text) name_text IsRefName
    (IsReader-name kinds.OfType) (λ w is. IsReader-tail w) (λ w is. (OfType w, refl)) named

-- what is spelled is read again
pub ref_name_again : (n : RefName) → IsRefName n → ref_name_at (name_text n) ≡ Ok (n, [])
unfolding ref_name_at type_end_at member_end_at
ref_name_again (OfType t) is = ap ref_name_at (sym (append-nil t)) ∙ rw (name_again kinds.OfType t [] is tt) refl
ref_name_again (OfMember t m) is =
    let whole : name_at kinds.OfMember m ≡ Ok (m, []) = ap (name_at kinds.OfMember) (sym (append-nil m)) ∙ name_again kinds.OfMember m [] is.1 tt in
    rw (name_again kinds.OfType t (46 ∷ m) is.0 refl, whole) refl
