-- Words of digits, read by `parse`.
use Rattle.std.proofs.Common.{◌≡◌, ◌≢◌, ℕ, zero, suc, ◌^◌, ◌<◌, true, List, [], ◌∷◌, length, get_or, Result, Ok, refl, sym, ap, subst, ◌∙◌, arith}
use Rattle.std.specs.Prelude.{decimal}
use Rattle.std.specs.Result.{OkIff}
use Rattle.std.specs.Str.Parse.{AllDigits, digits_value, ParsesUnsigned}
use Rattle.std.proofs.lemmas.Bool.Decides.{nat_tests}
use Rattle.std.proofs.lemmas.Fmt.{decimal-digits_value, decimal_is_IsNumeral, first_decimal, decimal_digit, parse-decimal}
use Rattle.std.proofs.lemmas.Str.Parse.{IsNumeralModel, parse_plain, digit_at}
use Rattle.store_words.specs.Numbers.{is_tidy}

own : IsNumeralModel (AllDigits 10) (digits_value 10)
own = record { to = λ ds h. h; from = λ ds h. h; same = λ ds h. refl }

tidy_first : (word : List ℕ) → is_tidy word ≡ true → get_or word 0 0 ≢ 43
tidy_first [] tidy = λ e. omega arith
tidy_first (first ∷ []) tidy = grind (arith, nat_tests)
tidy_first (first ∷ next ∷ rest) tidy = grind (arith, nat_tests)

tidy_zero : (word : List ℕ) → is_tidy word ≡ true → get_or word 0 0 ≡ 48 → 0 < length word → length word ≡ 1
tidy_zero [] tidy first some = absurd (omega arith)
tidy_zero (first ∷ []) tidy is some = refl
tidy_zero (first ∷ next ∷ rest) tidy is some = absurd (grind (arith, nat_tests))

-- what `parse` reads of a tidy word is the number that it is the digits of
pub read_is : {E : Type 0} (word : List ℕ) (r : Result ℕ E) (n : ℕ) → is_tidy word ≡ true → ParsesUnsigned 64 10 word r → r ≡ Ok n → word ≡ decimal n
read_is {E} word r n tidy parses is =
    let read = subst (λ (x : Result ℕ E). OkIff x (AllDigits 10 word × (0 < length word) × (digits_value 10 word < 2 ^ 64)) (digits_value 10 word)) is
    (parse_plain own 64 word r parses (tidy_first word tidy)) in
    sym (ap decimal read.1 ∙ decimal-digits_value own word read.0.0 read.0.1 (λ first. tidy_zero word tidy first read.0.1) read.0.2)

tidy_digits : (word : List ℕ) → AllDigits 10 word → (get_or word 0 0 ≡ 48 → length word ≡ 1) → is_tidy word ≡ true
tidy_digits [] all zero_first = refl
tidy_digits (first ∷ []) all zero_first = let d = digit_at (first ∷ []) 0 all (omega arith) in grind (arith, nat_tests)
tidy_digits (first ∷ next ∷ rest) all zero_first =
    let d = digit_at (first ∷ next ∷ rest) 0 all (omega arith) in
    let other : first ≢ 48 = λ e. omega (arith, zero_first e) in
    grind (arith, nat_tests)

zero_first_is_zero : (n : ℕ) → n < 2 ^ 64 → get_or (decimal n) 0 0 ≡ 48 → length (decimal n) ≡ 1
zero_first_is_zero zero small first = ap length (decimal_digit 0 (omega arith))
zero_first_is_zero (suc n) small first = absurd (omega (arith, first_decimal (suc n) (omega arith) small))

-- the digits of a number are tidy
pub decimal_is_tidy : (word : List ℕ) (n : ℕ) → n < 2 ^ 64 → word ≡ decimal n → is_tidy word ≡ true
decimal_is_tidy word n small is =
    ap is_tidy is ∙ tidy_digits (decimal n) (decimal_is_IsNumeral n small).0.1 (zero_first_is_zero n small)

-- `parse` reads the digits of a number as that number
pub parse_gives_number : {E : Type 0} (word : List ℕ) (r : Result ℕ E) (n : ℕ) → n < 2 ^ 64 → ParsesUnsigned 64 10 word r → word ≡ decimal n → r ≡ Ok n
parse_gives_number word r n small parses is = parse-decimal 64 n word r small small is parses
