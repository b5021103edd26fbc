-- What digits say, from the first to the last.
use Rattle.std.proofs.Common.{◌≡◌, ℕ, zero, suc, ◌+◌, ◌-◌, ◌*◌, ◌≤◌, ◌<◌, List, [], ◌∷◌, length, get_or, drop, fold, arith}
use Rattle.std.specs.Prelude.{IsTrue}
use Rattle.std.specs.Char.{is_ascii_digit}
use Rattle.std.specs.List.{list_all}
use Rattle.std.proofs.lemmas.Bool.{and_parts}
use Rattle.std.proofs.lemmas.Bool.Decides.{nat_tests}
use Rattle.std.proofs.lemmas.List.{at_drop_more, at_drop_all}
use Rattle.script_text.specs.Fields.{IsDigits}

-- what digits say behind others that say this number
abbrev pub value_after : ℕ → List ℕ → ℕ
value_after n digits = fold (λ m digit. 10 * m + (digit - 48)) n digits

pub value_grows : (n : ℕ) (digits : List ℕ) → n ≤ value_after n digits
value_grows n [] = omega arith
value_grows n (d ∷ digits) = omega (arith, value_grows (10 * n + (d - 48)) digits)

pub value_next : (n i : ℕ) (digits : List ℕ) → i < length digits → value_after n (drop i digits) ≡ value_after (10 * n + (get_or digits i 0 - 48)) (drop (i + 1) digits)
value_next n i digits within = at_drop_more (value_after n) digits i 0 within

pub value_whole : (n i : ℕ) (digits : List ℕ) → length digits ≤ i → value_after n (drop i digits) ≡ n
value_whole n i digits past = at_drop_all (value_after n) digits i past

digit_bounds : (b : ℕ) → IsTrue (is_ascii_digit b) → (48 ≤ b) × (b ≤ 57)
digit_bounds b is = (grind (arith, nat_tests), grind (arith, nat_tests))

all_bounds : (bs : List ℕ) (i : ℕ) → IsTrue (list_all is_ascii_digit bs) → i < length bs → (48 ≤ get_or bs i 0) × (get_or bs i 0 ≤ 57)
all_bounds [] i all within = absurd (omega arith)
all_bounds (b ∷ bs) zero all within = digit_bounds b (and_parts (is_ascii_digit b) (list_all is_ascii_digit bs) all).0
all_bounds (b ∷ bs) (suc i) all within = all_bounds bs i (and_parts (is_ascii_digit b) (list_all is_ascii_digit bs) all).1 (omega arith)

pub digit_at : (digits : List ℕ) (i : ℕ) → IsDigits digits → i < length digits → (48 ≤ get_or digits i 0) × (get_or digits i 0 ≤ 57)
digit_at [] i is within = absurd is
digit_at (b ∷ bs) zero is within = digit_bounds b is.0
digit_at (b ∷ bs) (suc i) is within = all_bounds bs i is.1 (omega arith)

pub some_digit : (digits : List ℕ) → IsDigits digits → 0 < length digits
some_digit [] is = absurd is
some_digit (b ∷ bs) is = omega arith
