-- What the model makes of single words, beside what the readers take.
use Rattle.std.proofs.Common.{◌≡◌, ℕ, Bool, true, false, cond, ◌&&◌, ◌==◌, List, [], ◌∷◌, ◌++◌, map, Option, Some, None, Ok, Err, refl, sym, ap, subst, ◌∙◌, ◌⊎◌, inl, inr, arith}
use Rattle.std.specs.Prelude.{codes, option_map}
use Rattle.std.specs.Char.{is_ascii_digit}
use Rattle.std.specs.List.{list_all, AllByRecursion}
use Rattle.std.specs.Str.{bytes_eq}
use Rattle.std.proofs.lemmas.Bool.{and_parts, and_from, eqb-true}
use Rattle.std.proofs.lemmas.List.{append-nil}
use Rattle.std.proofs.lemmas.Slice.Eq.{bytes_eq-Decides}
use Rattle.type_desc.specs.Grammar.{IsName, HasMemberName, kind_text}
use Rattle.type_desc.specs.Reader.{Reading}
use Rattle.type_desc.specs.Reading.{name_at}
use Rattle.type_desc.specs.declared.desc.Kind.{Kind}
use Rattle.type_desc.specs.declared.desc.Kind.TheVariants.{Int, Text, Bytes, Ref, Lazy, Refs}
use Rattle.type_desc.specs.declared.desc.Member.{Member}
use Rattle.type_desc.specs.declared.desc.NameKind.{NameKind}
use Rattle.type_desc.specs.declared.desc.NameKind.TheVariants as names
use Rattle.type_desc.proofs.Again.{name_again}
use Rattle.type_desc.proofs.Names.{IsReader-name}
use Rattle.type_desc.proofs.Readers.{chosen, choose_true, choose_false, done}
use Rattle.refactor_table.specs.Names.{IsRefName, AreOfOneForm, name_text}
use Rattle.refactor_table.specs.Reading.{ref_name_at}
use Rattle.refactor_table.specs.declared.name.RefName.{RefName}
use Rattle.refactor_table.specs.declared.name.RefName.TheVariants.{OfType, OfMember}
use Rattle.refactor_table.proofs.NameReading.{IsReader-ref_name, ref_name_again}
use Rattle.session_model.specs.Commands.{◌>>=◌, whole, cut_at, member_name_of, name_of, target_of, number_of, digits_value, kind_named, member_of, members_of, refactor_of, Target, Null, Named, Command, Refactor}
use Rattle.script_text.specs.Arguments.{member_word}
use Rattle.script_text.specs.Fields.{IsDigits, IsField}
use Rattle.script_text.specs.Lines.{target_named}
use Rattle.script_text.specs.declared.fields.Field.TheVariants as fields

abbrev pub some : {A : Type 0} → A → Option A
some x = Some x

pub some_is : {A : Type 0} (x y : A) → some x ≡ some y → x ≡ y
some_is x y e = cc

pub some_bind : {A B : Type 0} (o : Option A) (f : A → Option B) (b : B) → (o >>= f) ≡ Some b → (a : A) × (o ≡ Some a) × (f a ≡ Some b)
some_bind None f b e = absurd cc
some_bind (Some a) f b e = (a, refl, e)

pub some_map : {A B : Type 0} (o : Option A) (f : A → B) (b : B) → option_map f o ≡ Some b → (a : A) × (o ≡ Some a) × (f a ≡ b)
some_map None f b e = absurd cc
some_map (Some a) f b e = (a, refl, some_is (f a) b e)

pub same_bytes : (a b : List ℕ) → bytes_eq a b ≡ true → a ≡ b
same_bytes a b test = (bytes_eq-Decides a b).0 test

whole_is : {A : Type 0} (reading : Reading A) (v : A) → whole reading ≡ Some v → reading ≡ Ok (v, [])
whole_is (Ok (x, [])) v e = ap (λ y. done (y, [])) (some_is x v e)
whole_is (Ok (x, b ∷ bs)) v e = absurd cc
whole_is (Err left) v e = absurd cc

-- ---- names

pub named_is : (kind : NameKind) (word v : List ℕ) → whole (name_at kind word) ≡ Some v → IsName kind word × (word ≡ v)
named_is kind word v e =
    let t = (IsReader-name kind).taken word v [] (whole_is (name_at kind word) v e) in
    let same : word ≡ v = t.1 ∙ append-nil v in
    (subst (IsName kind) (sym same) t.0, same)

pub named_from : (kind : NameKind) (word : List ℕ) → IsName kind word → whole (name_at kind word) ≡ Some word
named_from kind word is = ap (λ (t : List ℕ). whole (name_at kind t)) (sym (append-nil word)) ∙ ap whole (name_again kind word [] is tt)

pub name_is : (word v : List ℕ) → name_of word ≡ Some v → IsField fields.Name word × (word ≡ v)
name_is word v e = elim (chosen (bytes_eq word (codes "null")) None (member_name_of word) (Some v) e) [
  | inl null ↦ absurd (let never = null.1 in cc)
  | inr other ↦ let p = named_is names.OfMember word v other.1 in ((p.0, other.0), p.1)
]

pub name_from : (word : List ℕ) → IsField fields.Name word → name_of word ≡ Some word
name_from word is = choose_false (bytes_eq word (codes "null")) None (member_name_of word) (Some word) is.1 (named_from names.OfMember word is.0)

-- ---- targets

pub target_is : (word : List ℕ) (t : Target) → target_of word ≡ Some t → IsField fields.Target word × (target_named word ≡ t)
target_is word t e = elim (chosen (bytes_eq word (codes "null")) (Some Null) (option_map Named (name_of word)) (Some t) e) [
  | inl null ↦ (
    subst (IsName names.OfMember) (sym (same_bytes word (codes "null") null.0)) (refl, refl, omega arith),
    choose_true (bytes_eq word (codes "null")) Null (Named word) t null.0 (some_is Null t null.1),
  )
  | inr other ↦
      let v = some_map (name_of word) Named t other.1 in
      let p = name_is word v.0 v.1 in
      (p.0.0, choose_false (bytes_eq word (codes "null")) Null (Named word) t other.0 (ap Named p.1 ∙ v.2))
]

target_by : (test : Bool) (word : List ℕ) → bytes_eq word (codes "null") ≡ test → IsName names.OfMember word → target_of word ≡ Some (target_named word)
target_by true word null is = rw null refl
target_by false word other is = rw (other, named_from names.OfMember word is) refl

pub target_from : (word : List ℕ) → IsField fields.Target word → target_of word ≡ Some (target_named word)
target_from word is = target_by (bytes_eq word (codes "null")) word refl is

-- ---- numbers

pub number_is : (word : List ℕ) (n : ℕ) → number_of word ≡ Some n → IsDigits word × (digits_value word ≡ n)
number_is [] n e = absurd cc
number_is (b ∷ bs) n e = elim (chosen (is_ascii_digit b && list_all is_ascii_digit bs) (Some (digits_value (b ∷ bs))) None (Some n) e) [
  | inl all ↦ let p = and_parts (is_ascii_digit b) (list_all is_ascii_digit bs) all.0 in ((p.0, p.1), some_is (digits_value (b ∷ bs)) n all.1)
  | inr other ↦ absurd (let never = other.1 in cc)
]

pub number_from : (word : List ℕ) → IsDigits word → number_of word ≡ Some (digits_value word)
number_from [] is = absurd is
number_from (b ∷ bs) is =
    choose_true (is_ascii_digit b && list_all is_ascii_digit bs) (Some (digits_value (b ∷ bs))) None (Some (digits_value (b ∷ bs))) (and_from (is_ascii_digit b) (list_all is_ascii_digit bs) is.0 is.1) refl

-- ---- members

pub cut_is : (byte : ℕ) (text front back : List ℕ) → cut_at byte text ≡ Some (front, back) → text ≡ front ++ byte ∷ back
cut_is byte [] front back e = absurd cc
cut_is byte (b ∷ bs) front back e =
    let longer : List ℕ × List ℕ → List ℕ × List ℕ = λ parts. (b ∷ parts.0, parts.1) in
    elim (chosen (b == byte) (Some ([], bs)) (option_map longer (cut_at byte bs)) (Some (front, back)) e) [
      | inl here ↦
          let same : ([], bs) ≡ (front, back) = some_is ([], bs) (front, back) here.1 in
          subst (λ (p : List ℕ × List ℕ). b ∷ bs ≡ p.0 ++ byte ∷ p.1) same (ap (λ (f : ℕ). f ∷ bs) (eqb-true b byte here.0))
      | inr on ↦
          let p = some_map (cut_at byte bs) longer (front, back) on.1 in
          subst (λ (q : List ℕ × List ℕ). b ∷ bs ≡ q.0 ++ byte ∷ q.1) p.2 (ap (λ (t : List ℕ). b ∷ t) (cut_is byte bs p.0.0 p.0.1 p.1))
    ]

kind_step : (word text : List ℕ) (k kind : Kind) (more : Option Kind) → cond (bytes_eq word text) (some k) more ≡ Some kind → text ≡ kind_text k → (word ≡ kind_text kind) ⊎ (more ≡ Some kind)
kind_step word text k kind more e is = elim (chosen (bytes_eq word text) (some k) more (Some kind) e) [
  | inl here ↦ inl (same_bytes word text here.0 ∙ is ∙ ap kind_text (some_is k kind here.1))
  | inr on ↦ inr on.1
]

or_else_is : {A : Type 0} (word : List ℕ) (kind : Kind) → (word ≡ kind_text kind) ⊎ A → (A → word ≡ kind_text kind) → word ≡ kind_text kind
or_else_is word kind (inl is) next = is
or_else_is word kind (inr on) next = next on

kind_is : (word : List ℕ) (kind : Kind) → kind_named word ≡ Some kind → word ≡ kind_text kind
kind_is word kind e =
    or_else_is word kind (kind_step word (codes "int") Int kind _ e refl) λ e1.
    or_else_is word kind (kind_step word (codes "text") Text kind _ e1 refl) λ e2.
    or_else_is word kind (kind_step word (codes "bytes") Bytes kind _ e2 refl) λ e3.
    or_else_is word kind (kind_step word (codes "ref") Ref kind _ e3 refl) λ e4.
    or_else_is word kind (kind_step word (codes "lazy") Lazy kind _ e4 refl) λ e5.
    or_else_is word kind (kind_step word (codes "refs") Refs kind None e5 refl) λ never. absurd cc

pub member_is : (word : List ℕ) (m : Member) → member_of word ≡ Some m → HasMemberName m × (word ≡ member_word m)
member_is word m e =
    let parts = some_bind (cut_at 58 word) (λ p. kind_named p.0 >>= λ kind. member_name_of p.1 >>= λ name. Some (record { kind = kind; name = name })) m e in
    let kind = some_bind (kind_named parts.0.0) (λ kind. member_name_of parts.0.1 >>= λ name. Some (record { kind = kind; name = name })) m parts.2 in
    let name = some_bind (member_name_of parts.0.1) (λ name. Some (record { kind = kind.0; name = name })) m kind.2 in
    let n = named_is names.OfMember parts.0.1 name.0 name.1 in
    let text : word ≡ kind_text kind.0 ++ 58 ∷ name.0 = cut_is 58 word parts.0.0 parts.0.1 parts.1 ∙ ap (λ (t : List ℕ). t ++ 58 ∷ parts.0.1) (kind_is parts.0.0 kind.0 kind.1) ∙ ap (λ (t : List ℕ). kind_text kind.0 ++ 58 ∷ t) n.1 in
    subst (λ (x : Member). HasMemberName x × (word ≡ member_word x)) (some_is (record { kind = kind.0; name = name.0 }) m name.2) (subst (IsName names.OfMember) n.1 n.0, text)

member_named : (kind : Kind) (name : List ℕ) → IsName names.OfMember name → member_of (kind_text kind ++ 58 ∷ name) ≡ Some (record { kind = kind; name = name })
member_named Int name is = rw (named_from names.OfMember name is) refl
member_named Text name is = rw (named_from names.OfMember name is) refl
member_named Bytes name is = rw (named_from names.OfMember name is) refl
member_named Ref name is = rw (named_from names.OfMember name is) refl
member_named Lazy name is = rw (named_from names.OfMember name is) refl
member_named Refs name is = rw (named_from names.OfMember name is) refl

pub members_are : (words : List (List ℕ)) (ms : List Member) → members_of words ≡ Some ms → AllByRecursion HasMemberName ms × (words ≡ map member_word ms)
members_are [] ms e = subst (λ (x : List Member). AllByRecursion HasMemberName x × ([] ≡ map member_word x)) (some_is [] ms e) (tt, refl)
members_are (word ∷ words) ms e =
    let first = some_bind (member_of word) (λ m. members_of words >>= λ others. Some (m ∷ others)) ms e in
    let others = some_bind (members_of words) (λ others. Some (first.0 ∷ others)) ms first.2 in
    let one = member_is word first.0 first.1 in
    let more = members_are words others.0 others.1 in
    subst (λ (x : List Member). AllByRecursion HasMemberName x × (word ∷ words ≡ map member_word x)) (some_is (first.0 ∷ others.0) ms others.2)
    ((one.0, more.0), ap (λ (w : List ℕ). w ∷ words) one.1 ∙ ap (λ (ws : List (List ℕ)). member_word first.0 ∷ ws) more.1)

pub members_from : (ms : List Member) → AllByRecursion HasMemberName ms → members_of (map member_word ms) ≡ Some ms
members_from [] are = refl
members_from (m ∷ ms) are = rw (member_named m.kind m.name are.0, members_from ms are.1) refl

-- ---- names of types and of members

pub ref_name_is : (word : List ℕ) (n : RefName) → whole (ref_name_at word) ≡ Some n → IsRefName n × (word ≡ name_text n)
ref_name_is word n e =
    let t = IsReader-ref_name.taken word n [] (whole_is (ref_name_at word) n e) in
    (t.0, t.1 ∙ append-nil (name_text n))

pub ref_name_from : (n : RefName) → IsRefName n → whole (ref_name_at (name_text n)) ≡ Some n
ref_name_from n is = ap whole (ref_name_again n is)

pub pair_is : (old new : RefName) (c : Command) → refactor_of old new ≡ Some c → AreOfOneForm old new × (Refactor old new ≡ c)
pair_is (OfType old) (OfType new) c e = (tt, some_is (Refactor (OfType old) (OfType new)) c e)
pair_is (OfType old) (OfMember new member) c e = absurd cc
pair_is (OfMember old member) (OfType new) c e = absurd cc
pair_is (OfMember old member) (OfMember new new_member) c e = (tt, some_is (Refactor (OfMember old member) (OfMember new new_member)) c e)

pub pair_from : (old new : RefName) → AreOfOneForm old new → refactor_of old new ≡ Some (Refactor old new)
pair_from (OfType old) (OfType new) are = refl
pair_from (OfType old) (OfMember new member) are = absurd are
pair_from (OfMember old member) (OfType new) are = absurd are
pair_from (OfMember old member) (OfMember new new_member) are = refl
