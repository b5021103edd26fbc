-- Disks of several channels, before and after calls of some of them.
use Rattle.std.specs.Prelude.{◌≡◌, ℕ, ◌<◌, ◌≤◌, List, length, get_or}
use Rattle.call_counts.specs.Counts.{Rose}

abbrev pub count_at : List ℕ → ℕ → ℕ
count_at counts j = get_or counts j 0

-- no disk's count has fallen
pub record NoneFell (old new : List ℕ) : Type 0 where
  pub many : length new ≡ length old
  pub each : (j : ℕ) → count_at old j ≤ count_at new j

-- the count of one of the disks rose
pub record OneRose (old new : List ℕ) : Type 0 where
  pub disk : ℕ
  pub within : disk < length old
  pub rose : Rose (count_at old disk) (count_at new disk)
