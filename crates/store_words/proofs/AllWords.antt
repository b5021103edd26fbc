-- All words of a line, one by one.
use Rattle.std.proofs.Common.{◌≡◌, ℕ, zero, suc, ◌≤◌, ◌<◌, ◌&&◌, Bool, true, false, List, [], ◌∷◌, length, get_or, take, drop, String, Global, refl, ap, ap₂, arith}
use Rattle.std.specs.List.{list_all}
use Rattle.std.specs.String.{string_bytes}
use Rattle.std.proofs.lemmas.Bool.{and_parts}
use Rattle.store_words.specs.Grammar.{is_plain, texts}

-- the words so far and one more are plain
pub plain_more : (words : List (String Global)) (k : ℕ) (d : String Global) → k < length words → list_all is_plain (texts (take k words)) ≡ true
    → is_plain (string_bytes (get_or words k d)) ≡ true → list_all is_plain (texts (take (suc k) words)) ≡ true
plain_more [] k d inside before here = absurd (omega arith)
plain_more (w ∷ ws) zero d inside before here = ap (λ b. b && true) here
plain_more (w ∷ ws) (suc k) d inside before here =
    let parts = and_parts _ _ before in
    ap₂ (λ a b. a && b) parts.0 (plain_more ws k d (omega arith) parts.1 here)

-- one that is not plain decides
pub unplain_one : (words : List (String Global)) (k : ℕ) (d : String Global) → k < length words
    → is_plain (string_bytes (get_or words k d)) ≡ false → list_all is_plain (texts words) ≡ false
unplain_one [] k d inside here = absurd (omega arith)
unplain_one (w ∷ ws) zero d inside here = ap (λ b. b && list_all is_plain (texts ws)) here
unplain_one (w ∷ ws) (suc k) d inside here = go (is_plain (string_bytes w)) (unplain_one ws k d (omega arith) here)
  where
    go : (b : Bool) → list_all is_plain (texts ws) ≡ false → (b && list_all is_plain (texts ws)) ≡ false
    go true e = e
    go false e = refl

-- the first word and the others
pub first_and_more : (words : List (String Global)) (d : String Global) → 1 ≤ length words → texts words ≡ string_bytes (get_or words 0 d) ∷ texts (drop 1 words)
first_and_more [] d some = absurd (omega arith)
first_and_more (w ∷ ws) d some = refl
