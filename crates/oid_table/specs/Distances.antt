-- The order in which places are probed: upwards, and from the last on to the first.
use Rattle.std.specs.Prelude.{ℕ, ◌+◌, ◌-◌, ◌*◌, ◌/◌, ◌%◌, ◌^◌, nat_le, nat_eq, bit_and, bit_xor, if◌then◌else◌}

-- how many steps it is from one place to another
abbrev pub distance : ℕ → ℕ → ℕ → ℕ
distance places from to = if nat_le from to then to - from else (places - from) + to

-- the place one step on
abbrev pub next_place : ℕ → ℕ → ℕ
next_place places place = if nat_eq (place + 1) places then 0 else place + 1

-- a key times an odd number near 2 ^ 64 over the golden ratio, which sends keys that differ by a
-- fixed step far apart
abbrev pub scattered : ℕ → ℕ
scattered key = (key * 0x9E37_79B9_7F4A_7C15) % 2 ^ 64

-- the place where the search for a key begins, where the number of places is a power of two
unfoldable pub home_of : ℕ → ℕ → ℕ
home_of places key = bit_and (bit_xor (scattered key) (scattered key / 2 ^ 32)) (places - 1)
