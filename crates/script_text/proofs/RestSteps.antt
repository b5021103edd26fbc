-- What std says of a text is what the reader of the rest of a line makes of it.
use Rattle.std.proofs.Common.{◌≡◌, ℕ, ◌-◌, ◌≤◌, Bool, true, false, cond, List, [], length, take, drop, Ok, Err, sym, ap, ◌∙◌, arith, inl, inr}
use Rattle.std.specs.Prelude.{IsUtf8}
use Rattle.std.specs.Str.{is_utf8}
use Rattle.std.specs.Str.Lossy.{utf8_valid_len}
use Rattle.std.proofs.lemmas.Bool.{cases_Bool}
use Rattle.std.proofs.lemmas.List.{length-take}
use Rattle.std.proofs.lemmas.Str.{IsUtf8-from_is_utf8, is_utf8-from_IsUtf8}
use Rattle.type_desc.proofs.Readers.{choose_true, choose_false, done}
use Rattle.script_text.specs.Utf8.{is_cut_char, cut_len, left_of, rest_at}

pub not_utf8 : (text : List ℕ) → ¬ (IsUtf8 text) → is_utf8 text ≡ false
not_utf8 text isnt = elim (cases_Bool (is_utf8 text)) [
  | inl is ↦ absurd (isnt (IsUtf8-from_is_utf8 text is))
  | inr is ↦ is
]

pub rest_taken : (text value : List ℕ) → IsUtf8 text → value ≡ text → rest_at text ≡ Ok (value, [])
unfolding rest_at
rest_taken text value is same =
    choose_true (is_utf8 text) (done (text, [])) (Err (left_of text)) (Ok (value, [])) (is_utf8-from_IsUtf8 text is) (ap (λ (t : List ℕ). done (t, [])) (sym same))

pub cut_len-le : (text : List ℕ) → cut_len text ≤ length text
unfolding cut_len
cut_len-le text = by (is_cut_char (take 3 text)) (is_cut_char (take 2 text)) (is_cut_char (take 1 text))
  where
    by : (three two one : Bool) → cond three (length (take 3 text)) (cond two (length (take 2 text)) (cond one (length (take 1 text)) 0)) ≤ length text
    by true two one = omega (arith, length-take 3 text)
    by false true one = omega (arith, length-take 2 text)
    by false false true = omega (arith, length-take 1 text)
    by false false false = omega arith

pub rest_refused : (text tail : List ℕ) (valid left : ℕ) → ¬ (IsUtf8 text) → valid ≡ utf8_valid_len text → tail ≡ drop valid text → left ≡ length tail - cut_len tail → rest_at text ≡ Err left
unfolding rest_at
rest_refused text tail valid left isnt valid_is tail_is left_is =
    let here : tail ≡ drop (utf8_valid_len text) text = tail_is ∙ ap (λ (n : ℕ). drop n text) valid_is in
    choose_false (is_utf8 text) (done (text, [])) (Err (left_of text)) (Err left) (not_utf8 text isnt)
    (ap (λ (n : ℕ). Err n) (sym (left_is ∙ ap (λ (t : List ℕ). length t - cut_len t) here)))
