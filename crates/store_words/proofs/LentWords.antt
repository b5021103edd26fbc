-- The texts of lent words, word by word.
use Rattle.std.proofs.Common.{◌≡◌, ℕ, ◌-◌, ◌≤◌, ◌<◌, List, [], ◌∷◌, length, get_or, take, drop, refl, sym, ap, arith, Bor}
use Rattle.std.proofs.lemmas.List.{take_all}
use Rattle.store_words.specs.Grammar.{Text}
use Rattle.store_words.specs.Reading.{words_of}

-- the word that stands for one that is not there
abbrev pub no_word : Bor Text
no_word = record { ref_ptr = (0, 0); now = [] }

abbrev pub word_at : List (Bor Text) → ℕ → Text
word_at words k = (get_or words k no_word).now

pub no_words : (words : List (Bor Text)) → length words < 1 → words_of words ≡ []
no_words [] none = refl
no_words (w ∷ ws) none = absurd (omega arith)

-- all of the words
whole : (words : List (Bor Text)) (n : ℕ) → n ≡ length words → words_of (take n words) ≡ words_of words
whole words n is = ap words_of (take_all n words (omega (arith, is)))

pub two_and_more : (words : List (Bor Text)) → 2 ≤ length words
    → words_of words ≡ word_at words 0 ∷ word_at words 1 ∷ words_of (take (length words - 2) (drop 2 words))
two_and_more [] two = absurd (omega arith)
two_and_more (a ∷ []) two = absurd (omega arith)
two_and_more (a ∷ b ∷ rest) two = ap (λ ws. a.now ∷ b.now ∷ ws) (sym (whole rest (length (a ∷ b ∷ rest) - 2) (omega arith)))

pub three_and_more : (words : List (Bor Text)) → 3 ≤ length words
    → words_of words ≡ word_at words 0 ∷ word_at words 1 ∷ word_at words 2 ∷ words_of (take (length words - 3) (drop 3 words))
three_and_more [] three = absurd (omega arith)
three_and_more (a ∷ []) three = absurd (omega arith)
three_and_more (a ∷ b ∷ []) three = absurd (omega arith)
three_and_more (a ∷ b ∷ c ∷ rest) three = ap (λ ws. a.now ∷ b.now ∷ c.now ∷ ws) (sym (whole rest (length (a ∷ b ∷ c ∷ rest) - 3) (omega arith)))

pub two_words : (words : List (Bor Text)) → 2 ≤ length words → length words < 3 → words_of words ≡ word_at words 0 ∷ word_at words 1 ∷ []
two_words [] two last = absurd (omega arith)
two_words (a ∷ []) two last = absurd (omega arith)
two_words (a ∷ b ∷ []) two last = refl
two_words (a ∷ b ∷ c ∷ rest) two last = absurd (omega arith)

pub three_words : (words : List (Bor Text)) → 3 ≤ length words → length words < 4
    → words_of words ≡ word_at words 0 ∷ word_at words 1 ∷ word_at words 2 ∷ []
three_words [] three last = absurd (omega arith)
three_words (a ∷ rest) three last = ap (λ ws. a.now ∷ ws) (two_words rest (omega arith) (omega arith))

pub four_words : (words : List (Bor Text)) → 4 ≤ length words → length words < 5
    → words_of words ≡ word_at words 0 ∷ word_at words 1 ∷ word_at words 2 ∷ word_at words 3 ∷ []
four_words [] four last = absurd (omega arith)
four_words (a ∷ rest) four last = ap (λ ws. a.now ∷ ws) (three_words rest (omega arith) (omega arith))
