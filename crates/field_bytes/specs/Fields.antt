-- Numbers that stand in bytes, the lowest byte first.
use Rattle.std.specs.Prelude.{ℕ, ◌+◌, List, ◌++◌, length, take, drop, Option, Some, None, nat_le, if◌then◌else◌}
use Rattle.byteorder.specs.Endian.{little_number, little_bytes}

-- a number as so many bytes
abbrev pub bytes_of : ℕ → ℕ → List ℕ
bytes_of size value = little_bytes size value

-- the number of so many bytes that stands at a place, where it ends within the bytes
abbrev pub number_at : ℕ → List ℕ → ℕ → Option ℕ
number_at size bytes at =
    if nat_le (at + size) (length bytes) then Some (little_number size (drop at bytes)) else None

-- the bytes with a number of so many bytes written at a place
abbrev pub with_number : ℕ → List ℕ → ℕ → ℕ → List ℕ
with_number size bytes at value = (take at bytes ++ bytes_of size value) ++ drop (at + size) bytes

-- the bytes with these written at a place
abbrev pub with_bytes : List ℕ → ℕ → List ℕ → List ℕ
with_bytes bytes at new = (take at bytes ++ new) ++ drop (at + length new) bytes
