-- Runs of digits: how they are cut off, and that their reader reads them again.
use Rattle.std.proofs.Common.{◌≡◌, ℕ, zero, suc, ◌+◌, ◌≤◌, ◌<◌, Bool, true, false, cond, List, [], ◌∷◌, ◌++◌, length, get_or, take, drop, Ok, Err, refl, sym, ap, ◌∙◌, arith}
use Rattle.std.specs.Prelude.{IsAscii, IsTrue}
use Rattle.std.specs.Char.{is_ascii_digit}
use Rattle.std.specs.List.{list_all, prefix_len}
use Rattle.std.proofs.lemmas.Bool.{and_parts}
use Rattle.std.proofs.lemmas.Bool.Decides.{nat_tests}
use Rattle.std.proofs.lemmas.List.{take_all, take_at, drop_at}
use Rattle.std.proofs.lemmas.List.Sums.{prefix_len-le-length}
use Rattle.type_desc.specs.Reader.{Reading, ◌>>=◌, many_at, run_len, word_at, IsWord}
use Rattle.type_desc.proofs.Again.{EndsRun}
use Rattle.type_desc.proofs.FieldReaders.{IsReader-word}
use Rattle.type_desc.proofs.Readers.{IsReader, choose_true, choose_false, done}
use Rattle.script_text.specs.Fields.{IsDigits, digits_at}

-- ---- the reader

bind_same : (t : Bool) (x : ℕ × List ℕ) (left : ℕ) (f g : ℕ × List ℕ → Reading (List ℕ)) → f x ≡ g x → (cond t (done x) (Err left) >>= f) ≡ (cond t (done x) (Err left) >>= g)
bind_same true x left f g e = e
bind_same false x left f g e = refl

-- a word of no more bytes than the text has
word_to_end : (test : ℕ → Bool) (most : ℕ) (text : List ℕ) → length text ≤ most → word_at test test most text ≡ word_at test test (length text) text
unfolding word_at
word_to_end test most [] short = refl
word_to_end test most (b ∷ bs) short =
    let all : take most bs ≡ take (suc (length bs)) bs = take_all most bs (omega arith) ∙ sym (take_all (suc (length bs)) bs (omega arith)) in
    let short_word : ℕ × List ℕ → Reading (List ℕ) = λ x. many_at test most x.1 >>= λ w. Ok (x.0 ∷ w.0, w.1) in
    let long_word : ℕ × List ℕ → Reading (List ℕ) = λ x. many_at test (suc (length bs)) x.1 >>= λ w. Ok (x.0 ∷ w.0, w.1) in
    bind_same (test b) (b, bs) (suc (length bs)) short_word long_word (ap (λ (t : List ℕ). done (b ∷ take (prefix_len test t) bs, drop (prefix_len test t) bs)) all)

are_digits : (most : ℕ) (word : List ℕ) → IsWord is_ascii_digit is_ascii_digit most word → IsDigits word
are_digits most [] is = is
are_digits most (b ∷ bs) is = (is.0, is.1)

pub IsReader-digits : IsReader (λ w. w) IsDigits digits_at
unfolding digits_at
IsReader-digits = record {
  taken = λ text word rest e.
      let t = (IsReader-word is_ascii_digit is_ascii_digit (length text) 48 refl).taken text word rest e in
      (are_digits (length text) word t.0, t.1);
  stuck = λ text left e.
      let s = (IsReader-word is_ascii_digit is_ascii_digit (length text) 48 refl).stuck text left e in
      record { front = s.front; rest = s.rest; more = s.more; value = s.value; parts = s.parts; left_is = s.left_is; fits = are_digits (length text) s.value s.fits; spelled = s.spelled };
  takes_again = λ front x y word c rest e.
      let most = length (front ++ x) + length (front ++ y) in
      let before = word_to_end is_ascii_digit most (front ++ x) (omega arith) ∙ e in
      sym (word_to_end is_ascii_digit most (front ++ y) (omega arith)) ∙ (IsReader-word is_ascii_digit is_ascii_digit most 48 refl).takes_again front x y word c rest before;
  stuck_again = λ front x y k left e left_is.
      let most = length (front ++ x) + length (front ++ y) in
      let before = word_to_end is_ascii_digit most (front ++ x) (omega arith) ∙ e in
      sym (word_to_end is_ascii_digit most (front ++ y) (omega arith)) ∙ (IsReader-word is_ascii_digit is_ascii_digit most 48 refl).stuck_again front x y k left before left_is;
}

run_ended : (test : ℕ → Bool) (rest : List ℕ) → EndsRun test rest → prefix_len test rest ≡ 0
run_ended test [] ends = refl
run_ended test (b ∷ bs) ends = choose_false (test b) (1 + prefix_len test bs) 0 0 ends refl

run_all : (test : ℕ → Bool) (bs rest : List ℕ) → IsTrue (list_all test bs) → EndsRun test rest → prefix_len test (bs ++ rest) ≡ length bs
run_all test [] rest all ends = run_ended test rest ends
run_all test (b ∷ bs) rest all ends =
    let parts = and_parts (test b) (list_all test bs) all in
    choose_true (test b) (1 + prefix_len test (bs ++ rest)) 0 (suc (length bs)) parts.0 (omega (arith, run_all test bs rest parts.1 ends))

pub digits_again : (word rest : List ℕ) → IsDigits word → EndsRun is_ascii_digit rest → digits_at (word ++ rest) ≡ Ok (word, rest)
unfolding digits_at word_at
digits_again [] rest is ends = absurd is
digits_again (b ∷ bs) rest is ends =
    let all : take (suc (length (bs ++ rest))) (bs ++ rest) ≡ bs ++ rest = take_all (suc (length (bs ++ rest))) (bs ++ rest) (omega arith) in
    let n : run_len is_ascii_digit (suc (length (bs ++ rest))) (bs ++ rest) ≡ length bs = ap (prefix_len is_ascii_digit) all ∙ run_all is_ascii_digit bs rest is.1 ends in
    rw (is.0, n, take_at bs rest (length bs) refl, drop_at bs rest (length bs) refl) refl

-- ---- how a run is cut off

pub digits_len-le : (text : List ℕ) (n : ℕ) → 1 ≤ length text → n ≡ prefix_len is_ascii_digit (drop 1 text) → 1 + n ≤ length text
digits_len-le [] n h e = absurd (omega arith)
digits_len-le (b ∷ bs) n h e = omega (arith, prefix_len-le-length is_ascii_digit bs)

-- the digits are cut off behind the last that stands at the front
pub digits_cut : (text : List ℕ) (n : ℕ) → 1 ≤ length text → is_ascii_digit (get_or text 0 0) ≡ true → n ≡ prefix_len is_ascii_digit (drop 1 text)
    → digits_at text ≡ Ok (take (1 + n) text, drop (1 + n) text)
unfolding digits_at word_at
digits_cut [] n h digit e = absurd (omega arith)
digits_cut (b ∷ bs) n h digit e =
    let one : 1 + n ≡ suc n = omega arith in
    let all : take (suc (length bs)) bs ≡ bs = take_all (suc (length bs)) bs (omega arith) in
    rw (one, digit, all, e) refl

-- ---- digits are ASCII

digit_ascii : (b : ℕ) → IsTrue (is_ascii_digit b) → b < 128
digit_ascii b is = grind (arith, nat_tests)

all_ascii : (bs : List ℕ) → IsTrue (list_all is_ascii_digit bs) → IsAscii bs
all_ascii [] all i = omega arith
all_ascii (b ∷ bs) all zero = digit_ascii b (and_parts (is_ascii_digit b) (list_all is_ascii_digit bs) all).0
all_ascii (b ∷ bs) all (suc i) = all_ascii bs (and_parts (is_ascii_digit b) (list_all is_ascii_digit bs) all).1 i

pub IsDigits-ascii : (word : List ℕ) → IsDigits word → IsAscii word
IsDigits-ascii [] is i = absurd is
IsDigits-ascii (b ∷ bs) is zero = digit_ascii b is.0
IsDigits-ascii (b ∷ bs) is (suc i) = all_ascii bs is.1 i

pub digits_read : (text word rest : List ℕ) → digits_at text ≡ Ok (word, rest) → IsDigits word
digits_read text word rest e = (IsReader-digits.taken text word rest e).0
