-- How far a text goes on like one of a language. A language is the fact of being one of its texts.
use Rattle.std.specs.Prelude.{◌≡◌, ℕ, ◌<◌, ◌≤◌, List, ◌++◌, length, take}

-- some text of the language begins with this prefix
abbrev pub Begins : (List ℕ → Type 0) → List ℕ → Type 0
Begins Whole prefix = (more : List ℕ) × Whole (prefix ++ more)

-- `at` is the length of the longest prefix of the text that begins a text of the language
pub record IsLongestBeginning (Whole : List ℕ → Type 0) (text : List ℕ) (at : ℕ) : Type 0 where
  pub within : at ≤ length text
  pub begins : Begins Whole (take at text)
  pub longest : (n : ℕ) → at < n → n ≤ length text → ¬ (Begins Whole (take n text))

-- the language of the spellings of those values that have one
abbrev pub Spells : {A : Type 0} → (A → List ℕ) → (A → Type 0) → List ℕ → Type 0
Spells {A = A} spelling Fits text = (value : A) × Fits value × (text ≡ spelling value)
