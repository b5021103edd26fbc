-- Which words spell which command.
use Rattle.std.specs.Prelude.{◌≡◌, ◌≤◌, ◌-◌, ◌^◌, ◌==◌, ℕ, Bool, false, not, List, [], ◌∷◌, map, IsTrue, String}
use Rattle.std.specs.List.{list_all}
use Rattle.std.specs.String.{string_bytes}
use Rattle.std.specs.declared.alloc.Global.{Global}
use Rattle.store_words.specs.Numbers.{IsNumber, IsChannelCount}
use Rattle.store_words.specs.Verbs.{name_of}
use Rattle.store_words.specs.declared.plan.Plan.{Plan}
use Rattle.store_words.specs.declared.plan.Plan.TheVariants as plan
use Rattle.store_words.specs.declared.plan.WordSizes.{WordSizes}
use Rattle.store_words.specs.declared.verb.Verb.{Verb}
use Rattle.store_words.specs.declared.verb.Verb.TheVariants as verb

-- a word as its bytes
abbrev pub Text : Type 0
Text = List ℕ

-- the words as texts
abbrev pub texts : List (String Global) → List Text
texts words = map (λ word. string_bytes word) words

-- the word is not empty, and does not begin with `-` (45)
abbrev pub is_plain : Text → Bool
is_plain [] = false
is_plain (first ∷ rest) = not (first == 45)

-- the sizes of a channel where no word gives them
abbrev pub default_sizes : WordSizes
default_sizes = record { minimum = 1048576; maximum = 8388608; use_rate = 750 }

-- MIN, MAX and USE
pub record AreSizes (minimum maximum use_rate : Text) (sizes : WordSizes) : Type 0 where
  pub least : IsNumber 0 (2 ^ 30) minimum sizes.minimum
  pub most : IsNumber 1 (2 ^ 30) maximum sizes.maximum
  pub ordered : sizes.minimum ≤ sizes.maximum
  pub rate : IsNumber 0 1000 use_rate sizes.use_rate

-- none of these three words, or all
pub data GiveSizes : List Text → WordSizes → Type 0 where
  default : GiveSizes [] default_sizes
  given : (minimum maximum use_rate : Text) (sizes : WordSizes) → AreSizes minimum maximum use_rate sizes
      → GiveSizes (minimum ∷ maximum ∷ use_rate ∷ []) sizes

-- LINES and NUMBER
pub record AreLines (lines number : Text) (count start : ℕ) : Type 0 where
  pub length : IsNumber 0 1000000 lines count
  pub seed : IsNumber 0 (2 ^ 31 - 1) number start

-- what stands behind each command's name, and what it says
pub data Takes : Verb → List Text → Plan → Type 0 where
  run : (dir n : Text) (more : List Text) (channels : ℕ) (sizes : WordSizes)
      → IsChannelCount n channels → GiveSizes more sizes
      → Takes verb.Run (dir ∷ n ∷ more) (plan.Run dir channels sizes)
  work : (dir n w : Text) (more : List Text) (channels workers : ℕ) (sizes : WordSizes)
      → IsChannelCount n channels → IsNumber 1 16 w workers → GiveSizes more sizes
      → Takes verb.Work (dir ∷ n ∷ w ∷ more) (plan.Work dir channels workers sizes)
  check : (dir n : Text) (channels : ℕ) → IsChannelCount n channels
      → Takes verb.Check (dir ∷ n ∷ []) (plan.Check dir channels)
  export : (dir n : Text) (channels : ℕ) → IsChannelCount n channels
      → Takes verb.Export (dir ∷ n ∷ []) (plan.Export dir channels)
  generate : (lines number : Text) (count start : ℕ) → AreLines lines number count start
      → Takes verb.Generate (lines ∷ number ∷ []) (plan.Generate count start)
  trial : (dir n lines number : Text) (channels count start : ℕ)
      → IsChannelCount n channels → AreLines lines number count start
      → Takes verb.Trial (dir ∷ n ∷ lines ∷ number ∷ []) (plan.Trial dir channels count start)

-- the words are a command's name and what stands behind it, and each of them is plain
pub record Spell (words : List Text) (command : Plan) : Type 0 where
  pub plain : IsTrue (list_all is_plain words)
  pub verb : Verb
  pub rest : List Text
  pub named : words ≡ name_of verb ∷ rest
  pub takes : Takes verb rest command
