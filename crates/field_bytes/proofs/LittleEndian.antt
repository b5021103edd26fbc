-- A number's bytes as the standard library says them, by a width, and as a field, by a count of bytes.
use Rattle.std.proofs.Common.{◌≡◌, ℕ, ◌+◌, ◌≤◌, leb, List, [], ◌∷◌, length, take, drop, Some, None, refl, ap, ◌∙◌, arith, w32, w64}
use Rattle.std.specs.Int.{from_le_bytes, to_le_bytes}
use Rattle.std.proofs.lemmas.Bool.{le-leb, cond-true}
use Rattle.std.proofs.lemmas.List.{length-drop}
use Rattle.byteorder.specs.Endian.{little_number}
use Rattle.field_bytes.specs.Fields.{bytes_of, number_at}

-- ---- written

pub bytes_of-u32 : (value : ℕ) → bytes_of 4 value ≡ to_le_bytes w32 value
bytes_of-u32 value = refl

pub bytes_of-u64 : (value : ℕ) → bytes_of 8 value ≡ to_le_bytes w64 value
bytes_of-u64 value = refl

-- ---- read

little_number-u32 : (bytes : List ℕ) → 4 ≤ length bytes → little_number 4 bytes ≡ from_le_bytes w32 (take 4 bytes)
little_number-u32 [] long = absurd (omega arith)
little_number-u32 (a ∷ []) long = absurd (omega arith)
little_number-u32 (a ∷ b ∷ []) long = absurd (omega arith)
little_number-u32 (a ∷ b ∷ c ∷ []) long = absurd (omega arith)
little_number-u32 (a ∷ b ∷ c ∷ d ∷ rest) long = omega arith

little_number-u64 : (bytes : List ℕ) → 8 ≤ length bytes → little_number 8 bytes ≡ from_le_bytes w64 (take 8 bytes)
little_number-u64 [] long = absurd (omega arith)
little_number-u64 (a ∷ []) long = absurd (omega arith)
little_number-u64 (a ∷ b ∷ []) long = absurd (omega arith)
little_number-u64 (a ∷ b ∷ c ∷ []) long = absurd (omega arith)
little_number-u64 (a ∷ b ∷ c ∷ d ∷ []) long = absurd (omega arith)
little_number-u64 (a ∷ b ∷ c ∷ d ∷ e ∷ []) long = absurd (omega arith)
little_number-u64 (a ∷ b ∷ c ∷ d ∷ e ∷ f ∷ []) long = absurd (omega arith)
little_number-u64 (a ∷ b ∷ c ∷ d ∷ e ∷ f ∷ g ∷ []) long = absurd (omega arith)
little_number-u64 (a ∷ b ∷ c ∷ d ∷ e ∷ f ∷ g ∷ h ∷ rest) long = omega arith

found : (size : ℕ) (bytes : List ℕ) (at number : ℕ) → at + size ≤ length bytes → little_number size (drop at bytes) ≡ number → number_at size bytes at ≡ Some number
found size bytes at number within is =
    cond-true (leb (at + size) (length bytes)) (Some (little_number size (drop at bytes))) None (le-leb (at + size) (length bytes) within)
    ∙ ap (λ (n : ℕ). Some n) is

pub number_at-u32 : (bytes : List ℕ) (at : ℕ) → at + 4 ≤ length bytes → number_at 4 bytes at ≡ Some (from_le_bytes w32 (take 4 (drop at bytes)))
number_at-u32 bytes at within = found 4 bytes at _ within (little_number-u32 (drop at bytes) (omega (arith, length-drop at bytes)))

pub number_at-u64 : (bytes : List ℕ) (at : ℕ) → at + 8 ≤ length bytes → number_at 8 bytes at ≡ Some (from_le_bytes w64 (take 8 (drop at bytes)))
number_at-u64 bytes at within = found 8 bytes at _ within (little_number-u64 (drop at bytes) (omega (arith, length-drop at bytes)))
