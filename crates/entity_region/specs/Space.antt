-- What a contract sees of a `Region`: its memory, and where its live blocks lie, by their numbers.
use Rattle.std.specs.Prelude.{◌≡◌, ◌≢◌, ℕ, ◌+◌, ◌-◌, ◌*◌, ◌/◌, ◌<◌, ◌≤◌, ◌⊎◌, ◌++◌, List, length, set, take, drop, Option, None, Some, IsSome, is_some, slice_index_or}
use Rattle.std.specs.List.{sum_by, count_by}
use Rattle.std.specs.Option.{option_map, option_map_or}

-- where a live block lies: the offset of its first byte, and its number of bytes
pub record Placed : Type 0 where
  pub at : ℕ
  pub len : ℕ

-- all bytes of a region, and under each number a live block or none
pub record Space : Type 0 where
  pub memory : List ℕ
  pub blocks : List (Option Placed)

abbrev pub size : Space → ℕ
size s = length s.memory

-- a block begins at a multiple of 16, and so many bytes are taken for one of n
abbrev pub rounded : ℕ → ℕ
rounded n = 16 * ((n + 15) / 16)

abbrev pub end_of : Placed → ℕ
end_of p = p.at + rounded p.len

abbrev pub block_at : Space → ℕ → Option Placed
block_at s number = slice_index_or s.blocks number None

abbrev pub IsLive : Space → ℕ → Type 0
IsLive s number = IsSome (block_at s number)

-- the bytes of a block, if it is live
abbrev pub bytes_of : List ℕ → Placed → List ℕ
bytes_of memory p = take p.len (drop p.at memory)

abbrev pub bytes_at : Space → ℕ → Option (List ℕ)
bytes_at s number = option_map (bytes_of s.memory) (block_at s number)

-- how many blocks are live, and how many may be
abbrev pub live : Space → ℕ
live s = count_by is_some s.blocks

abbrev pub most : Space → ℕ
most s = length s.blocks

-- the bytes that no live block takes
abbrev pub free : Space → ℕ
free s = size s - sum_by (λ block. option_map_or (λ p. rounded p.len) block 0) s.blocks

-- one ends before the other begins
abbrev pub AreApart : Placed → Placed → Type 0
AreApart p q = (end_of p ≤ q.at) ⊎ (end_of q ≤ p.at)

-- live blocks lie in the memory and share no byte
pub record IsDisjoint (s : Space) : Type 0 where
  pub inside : (i : ℕ) (p : Placed) → block_at s i ≡ Some p → end_of p ≤ size s
  pub apart : (i j : ℕ) (p q : Placed) → block_at s i ≡ Some p → block_at s j ≡ Some q → i ≢ j → AreApart p q

-- no live block has one of these n bytes
pub record IsHole (s : Space) (at n : ℕ) : Type 0 where
  pub inside : at + n ≤ size s
  pub clear : (number : ℕ) (p : Placed) → block_at s number ≡ Some p → (end_of p ≤ at) ⊎ (at + n ≤ p.at)

abbrev pub HasNoHole : Space → ℕ → Type 0
HasNoHole s n = (at : ℕ) → IsHole s at n → ⊥

-- the space with another block under a number, or with none
abbrev pub with_block : Space → ℕ → Option Placed → Space
with_block s number block = record s { blocks = set s.blocks number block }

-- the memory with other bytes from an offset on
abbrev pub written : List ℕ → ℕ → List ℕ → List ℕ
written memory at bytes = take (length memory) (take at memory ++ (bytes ++ drop (at + length bytes) memory))

-- the space once the bytes of a block were written
abbrev pub with_bytes : Space → ℕ → List ℕ → Space
with_bytes s number bytes = record s { memory = written s.memory (option_map_or (λ p. p.at) (block_at s number) 0) bytes }

-- a block has these bytes, and every other block has its own as before
pub record AreWritten (old new : Space) (number : ℕ) (bytes : List ℕ) : Type 0 where
  pub there : bytes_at new number ≡ Some bytes
  pub others : (other : ℕ) → other ≢ number → bytes_at new other ≡ bytes_at old other

-- a block of n bytes came in the first hole that holds them
pub record IsTaken (old new : Space) (n number : ℕ) : Type 0 where
  pub at : ℕ
  pub fresh : block_at old number ≡ None
  pub below : number < most old
  pub becomes : new ≡ with_block old number (Some (record { at = at; len = n }))
  pub hole : IsHole old at (rounded n)
  pub first : (other : ℕ) → IsHole old other (rounded n) → at ≤ other

-- the live blocks moved to the front, with their bytes and in their order
pub record IsPacked (old new : Space) : Type 0 where
  pub size_stays : size new ≡ size old
  pub most_stays : most new ≡ most old
  pub live_stays : live new ≡ live old
  pub free_stays : free new ≡ free old
  pub stays : (number : ℕ) → IsLive old number → IsLive new number
  pub bytes : (number : ℕ) → bytes_at new number ≡ bytes_at old number
  pub order : (i j : ℕ) (p q v w : Placed) → block_at old i ≡ Some p → block_at old j ≡ Some q → block_at new i ≡ Some v → block_at new j ≡ Some w → p.at < q.at → v.at < w.at
  pub one_hole : IsHole new (size new - free new) (free new)
