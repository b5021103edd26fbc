-- The live files of a channel: pairs of a number and a length.
use Rattle.std.specs.Prelude.{◌≡◌, ℕ, ◌+◌, ◌≤◌, ◌<◌, ◌==◌, length, slice_index_or, not, if◌then◌else◌, Bool, List, [], ◌∷◌, map, filter, is_some, unwrap_or, Option, Some, None}

-- the length of a live file
abbrev pub length_of : List (ℕ × ℕ) → ℕ → Option ℕ
length_of [] file = None
length_of (pair ∷ files) file = if pair.0 == file then Some pair.1 else length_of files file

abbrev pub is_live : List (ℕ × ℕ) → ℕ → Bool
is_live files file = is_some (length_of files file)

-- the length of a live file; 0 of one that is not live
abbrev pub length_in : List (ℕ × ℕ) → ℕ → ℕ
length_in files file = unwrap_or (length_of files file) 0

abbrev pub set_length : List (ℕ × ℕ) → ℕ → ℕ → List (ℕ × ℕ)
set_length files file n = map (λ pair. (pair.0, if pair.0 == file then n else pair.1)) files

abbrev pub without : List (ℕ × ℕ) → ℕ → List (ℕ × ℕ)
without files file = filter (λ pair. not (pair.0 == file)) files

-- the numbers rise, from at least `low` to below `high`
abbrev pub IsRising : ℕ → ℕ → List (ℕ × ℕ) → Type 0
IsRising low high [] = low ≤ high
IsRising low high (pair ∷ files) = (low ≤ pair.0) × IsRising (pair.0 + 1) high files

-- the file stands at this place
pub record IsAt (files : List (ℕ × ℕ)) (file place : ℕ) : Type 0 where
  pub within : place < length files
  pub number : (slice_index_or files place (0, 0)).0 ≡ file

-- a list of files as contracts see it, and how many more it takes without memory
pub record Files : Type 0 where
  pub pairs : List (ℕ × ℕ)
  pub spare : ℕ
