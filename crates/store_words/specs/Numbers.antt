-- The numbers among the words.
use Rattle.std.specs.Prelude.{◌≡◌, ◌≤◌, ◌==◌, ◌&&◌, ℕ, Bool, true, not, List, [], ◌∷◌, decimal, Contains}

-- the word is the number in decimal digits, without leading zeros, and the number is from `least` to `most`
pub record IsNumber (least most : ℕ) (word : List ℕ) (n : ℕ) : Type 0 where
  pub digits : word ≡ decimal n
  pub above : least ≤ n
  pub below : n ≤ most

-- the word is a count of channels
pub record IsChannelCount (word : List ℕ) (n : ℕ) : Type 0 where
  pub digits : word ≡ decimal n
  pub among : Contains (1 ∷ 2 ∷ 4 ∷ 8 ∷ 16 ∷ 32 ∷ 64 ∷ []) n

-- no `+` (43) stands in front, and a `0` (48) only where it is all
abbrev pub is_tidy : List ℕ → Bool
is_tidy [] = true
is_tidy (first ∷ []) = not (first == 43)
is_tidy (first ∷ _ ∷ _) = not (first == 43) && not (first == 48)
