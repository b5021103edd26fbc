-- What the rest of a `set` line is as a number, as bytes and as a target.
use Rattle.std.proofs.Common.{◌≡◌, ℕ, zero, suc, ◌+◌, ◌^◌, ◌<◌, ◌≤◌, false, eqb, List, [], ◌∷◌, ◌++◌, length, get_or, drop, Option, Some, None, Ok, Err, refl, sym, ap, ◌∙◌, append_assoc, arith}
use Rattle.std.specs.Prelude.{ℤ, pos, neg_ℤ, option_map, IsTrue}
use Rattle.std.specs.Char.{is_ascii_digit}
use Rattle.std.specs.List.{list_all}
use Rattle.std.proofs.lemmas.Bool.{and_parts, and_from, le-ltb}
use Rattle.std.proofs.lemmas.List.{append-nil}
use Rattle.type_desc.specs.Reading.{name_at}
use Rattle.type_desc.specs.declared.desc.NameKind.TheVariants as names
use Rattle.type_desc.proofs.Again.{name_again}
use Rattle.type_desc.proofs.Names.{IsReader-name}
use Rattle.type_desc.proofs.Readers.{ok_is}
use Rattle.session_model.specs.Answer.{is_in_range, hex_digit, hex_byte, hex_bytes}
use Rattle.session_model.specs.Commands.{number_of, digits_value, target_of, Target}
use Rattle.script_text.specs.Fields.{IsDigits}
use Rattle.script_text.specs.Given.{with_front}
use Rattle.script_text.specs.Lines.{target_named}
use Rattle.script_text.proofs.WordValues.{some, number_from, target_is, target_from}

-- ---- numbers

pub digits_from : (bytes : List ℕ) → 0 < length bytes → IsTrue (list_all is_ascii_digit bytes) → IsDigits bytes
digits_from [] long all = absurd (omega arith)
digits_from (b ∷ bs) long all = and_parts (is_ascii_digit b) (list_all is_ascii_digit bs) all

pub some_bytes : (bytes : List ℕ) → eqb (length bytes) 0 ≡ false → 0 < length bytes
some_bytes [] some = absurd cc
some_bytes (b ∷ bs) some = omega arith

pub digits_all : (bytes : List ℕ) → IsDigits bytes → (0 < length bytes) × IsTrue (list_all is_ascii_digit bytes)
digits_all [] is = absurd is
digits_all (b ∷ bs) is = (omega arith, and_from (is_ascii_digit b) (list_all is_ascii_digit bs) is.0 is.1)

-- the number is given, and it is out of range
abbrev pub IsOut : Option ℤ → Type 0
IsOut given = (z : ℤ) × (given ≡ Some z) × (is_in_range z ≡ false)

pub too_great : (digits : List ℕ) → IsDigits digits → 2 ^ 63 ≤ digits_value digits → IsOut (option_map pos (number_of digits))
too_great digits is great = (pos (digits_value digits), ap (option_map pos) (number_from digits is), le-ltb _ _ great)

minus_out : (n : ℕ) → 2 ^ 63 + 1 ≤ n → is_in_range (neg_ℤ (pos n)) ≡ false
minus_out zero great = absurd (omega arith)
minus_out (suc n) great = le-ltb _ _ (omega arith)

pub too_small : (digits : List ℕ) → IsDigits digits → 2 ^ 63 + 1 ≤ digits_value digits → IsOut (option_map (λ n. neg_ℤ (pos n)) (number_of digits))
too_small digits is great = (neg_ℤ (pos (digits_value digits)), ap (option_map (λ n. neg_ℤ (pos n))) (number_from digits is), minus_out (digits_value digits) great)

-- ---- bytes

no_bytes : (front : List ℕ) (given : Option (List ℕ)) → given ≡ None → with_front front given ≡ None
no_bytes front given none = ap (with_front front) none

regroup : (front : List ℕ) (byte : ℕ) (given : Option (List ℕ)) → with_front front (option_map (λ bytes. byte ∷ bytes) given) ≡ with_front (front ++ byte ∷ []) given
regroup front byte None = refl
regroup front byte (Some bytes) = ap some (sym (append_assoc front (byte ∷ []) bytes))

pub no_front : (given : Option (List ℕ)) → with_front [] given ≡ given
no_front None = refl
no_front (Some bytes) = refl

pub bytes_go_on : (front left total-of : List ℕ) (byte : ℕ) → 2 ≤ length left → Some byte ≡ hex_byte (hex_digit (get_or left 0 0)) (hex_digit (get_or left 1 0))
    → with_front front (hex_bytes left) ≡ hex_bytes total-of → with_front (front ++ byte ∷ []) (hex_bytes (drop 2 left)) ≡ hex_bytes total-of
bytes_go_on front [] total-of byte long is so_far = absurd (omega arith)
bytes_go_on front (a ∷ []) total-of byte long is so_far = absurd (omega arith)
bytes_go_on front (a ∷ (b ∷ left)) total-of byte long is so_far =
    let here : hex_bytes (a ∷ (b ∷ left)) ≡ option_map (λ bytes. byte ∷ bytes) (hex_bytes left) = rw (← is) refl in
    sym (regroup front byte (hex_bytes left)) ∙ ap (with_front front) (sym here) ∙ so_far

pub bytes_refused : (front left total-of : List ℕ) → 2 ≤ length left → None ≡ hex_byte (hex_digit (get_or left 0 0)) (hex_digit (get_or left 1 0))
    → with_front front (hex_bytes left) ≡ hex_bytes total-of → None ≡ hex_bytes total-of
bytes_refused front [] total-of long is so_far = absurd (omega arith)
bytes_refused front (a ∷ []) total-of long is so_far = absurd (omega arith)
bytes_refused front (a ∷ (b ∷ left)) total-of long is so_far =
    let here : hex_bytes (a ∷ (b ∷ left)) ≡ None = rw (← is) refl in
    sym (no_bytes front (hex_bytes (a ∷ (b ∷ left))) here) ∙ so_far

pub one_left : (front left total-of : List ℕ) → length left ≡ 1 → with_front front (hex_bytes left) ≡ hex_bytes total-of → None ≡ hex_bytes total-of
one_left front [] total-of one so_far = absurd (omega arith)
one_left front (a ∷ []) total-of one so_far = so_far
one_left front (a ∷ (b ∷ left)) total-of one so_far = absurd (omega arith)

pub none_left : (front left total-of : List ℕ) → length left ≡ 0 → with_front front (hex_bytes left) ≡ hex_bytes total-of → Some front ≡ hex_bytes total-of
none_left front [] total-of one so_far = ap some (sym (append-nil front)) ∙ so_far
none_left front (a ∷ left) total-of one so_far = absurd (omega arith)

-- ---- targets

none_if_not_some : {A : Type 0} (o : Option A) → ((a : A) → o ≡ Some a → ⊥) → None ≡ o
none_if_not_some None never = refl
none_if_not_some (Some a) never = absurd (never a refl)

is_read : (text : List ℕ) (t : Target) → target_of text ≡ Some t → name_at names.OfMember text ≡ Ok (text, [])
is_read text t e = ap (name_at names.OfMember) (sym (append-nil text)) ∙ name_again names.OfMember text [] (target_is text t e).0 tt

pub target_read : (text word rest : List ℕ) (t : Target) → name_at names.OfMember text ≡ Ok (word, rest) → length rest ≡ 0 → t ≡ target_named word → Some t ≡ target_of text
target_read text word (b ∷ bs) t e none is = absurd (omega arith)
target_read text word [] t e none is =
    let taken = (IsReader-name names.OfMember).taken text word [] e in
    let same : text ≡ word = taken.1 ∙ append-nil word in
    ap some is ∙ sym (target_from word taken.0) ∙ ap target_of (sym same)

pub no_target-stuck : (text : List ℕ) (left : ℕ) → name_at names.OfMember text ≡ Err left → None ≡ target_of text
no_target-stuck text left e = none_if_not_some (target_of text) (λ t is. let read = is_read text t is in absurd cc)

pub no_target-rest : (text word rest : List ℕ) → name_at names.OfMember text ≡ Ok (word, rest) → 1 ≤ length rest → None ≡ target_of text
no_target-rest text word [] e long = absurd (omega arith)
no_target-rest text word (b ∷ bs) e long = none_if_not_some (target_of text) (λ t is.
    let same : (word, b ∷ bs) ≡ (text, []) = ok_is _ _ (sym e ∙ is_read text t is) in
    let never : b ∷ bs ≡ [] = ap (λ (p : List ℕ × List ℕ). p.1) same in
    absurd cc)
