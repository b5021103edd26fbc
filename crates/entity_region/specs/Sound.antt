-- How the places of blocks, the units that they have and the free numbers belong together.
-- No public clause cites this module.
use Rattle.std.specs.Prelude.{◌≡◌, ◌≢◌, ℕ, ◌+◌, ◌*◌, ◌/◌, ◌<◌, ◌≤◌, ◌⊎◌, Bool, true, false, not, List, length, map, Option, None, Some, is_some, slice_index_or}
use Rattle.std.specs.List.{sum_by, count_by}
use Rattle.std.specs.Option.{option_map, option_map_or}
use Rattle.entity_region.specs.declared.runs.Runs.{Runs}
use Rattle.entity_region.specs.declared.place.Place.{Place}
use Rattle.entity_region.specs.Space.{Placed, Space}
use Rattle.entity_region.specs.Units.{unit_at, IsTree}

-- so many units hold n bytes
abbrev pub units_of : ℕ → ℕ
units_of n = (n + 15) / 16

abbrev pub end_unit : Place → ℕ
end_unit p = p.unit + units_of p.len

abbrev pub place_at : List (Option Place) → ℕ → Option Place
place_at places number = slice_index_or places number None

-- what a contract sees of a block at a place
abbrev pub placed_of : Place → Placed
placed_of p = record { at = 16 * p.unit; len = p.len }

abbrev pub space_of : List ℕ → List (Option Place) → Space
space_of bytes places = record { memory = bytes; blocks = map (option_map placed_of) places }

-- a unit is one of a block's
pub record IsCovered (places : List (Option Place)) (u : ℕ) : Type 0 where
  pub number : ℕ
  pub place : Place
  pub is : place_at places number ≡ Some place
  pub low : place.unit ≤ u
  pub high : u < end_unit place

-- blocks lie apart within so many units
pub record AreLaidOut (count : ℕ) (places : List (Option Place)) : Type 0 where
  pub some : (i : ℕ) (p : Place) → place_at places i ≡ Some p → 0 < p.len
  pub inside : (i : ℕ) (p : Place) → place_at places i ≡ Some p → end_unit p ≤ count
  pub apart : (i j : ℕ) (p q : Place) → place_at places i ≡ Some p → place_at places j ≡ Some q → i ≢ j → (end_unit p ≤ q.unit) ⊎ (end_unit q ≤ p.unit)

-- the used units are those of blocks
pub record AreMarked (count : ℕ) (units : List Bool) (places : List (Option Place)) : Type 0 where
  pub fits : count ≤ length units
  pub used : (u : ℕ) → u < count → unit_at units u ≡ true → IsCovered places u
  pub clear_in : (u : ℕ) → unit_at units u ≡ false → u < count
  pub clear : (u : ℕ) → unit_at units u ≡ false → IsCovered places u → ⊥

-- the numbers from one place of their list on are those of no block
pub record AreSpare (numbers : List ℕ) (live : ℕ) (places : List (Option Place)) : Type 0 where
  pub all : length numbers ≡ length places
  pub inside : (k : ℕ) → live ≤ k → k < length numbers → slice_index_or numbers k 0 < length places
  pub none : (k : ℕ) → live ≤ k → k < length numbers → place_at places (slice_index_or numbers k 0) ≡ None
  pub distinct : (j k : ℕ) → live ≤ j → j < k → k < length numbers → slice_index_or numbers j 0 ≢ slice_index_or numbers k 0
  pub counted : count_by is_some places ≡ live

-- each number below a bound stands at its place
pub record AreAll (bound : ℕ) (numbers : List ℕ) : Type 0 where
  pub count : length numbers ≡ bound
  pub each : (k : ℕ) → k < bound → slice_index_or numbers k 0 ≡ k

-- how many units blocks have, and how many are clear
abbrev pub taken : List (Option Place) → ℕ
taken places = sum_by (λ place. option_map_or (λ p. units_of p.len) place 0) places

abbrev pub clear_units : List Bool → ℕ
clear_units units = count_by not units

-- what a region keeps belongs together
pub record IsSound (bytes : List ℕ) (units : List Bool) (nodes : List Runs) (levels : ℕ) (places : List (Option Place)) (numbers : List ℕ) (live free room : ℕ) : Type 0 where
  pub count : ℕ
  pub sized : length bytes ≡ 16 * count
  pub laid_out : AreLaidOut count places
  pub marked : AreMarked count units places
  pub tree : IsTree levels nodes units
  pub spare : AreSpare numbers live places
  pub counted : taken places + clear_units units ≡ count
  pub free_is : free ≡ 16 * clear_units units
  pub ordered : length places ≤ room
