-- Counts of calls: how often a call failed, or a file was read.
use Rattle.std.specs.Prelude.{ℕ, ◌+◌, ◌-◌, ◌^◌, ◌≤◌, min}

-- the count after one more; at its greatest it stands still
abbrev pub raised : ℕ → ℕ
raised count = min (count + 1) (2 ^ 64 - 1)

-- a count rose by one or more, or it stands at its greatest
abbrev pub Rose : ℕ → ℕ → Type 0
Rose before now = raised before ≤ now
