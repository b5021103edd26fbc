-- When a search among slots finds what they hold. No public clause cites this module.
use Rattle.std.specs.Prelude.{◌≡◌, ℕ, ◌+◌, ◌-◌, ◌<◌, ◌≤◌, ◌⊎◌, List, length, Some, Result, Ok, Err, slice_get, count_by}
use Rattle.std.specs.FinMap.{len}
use Rattle.oid_table.specs.declared.slot.Slot.{Slot}
use Rattle.oid_table.specs.declared.slot.Slot.TheVariants.{Empty}
use Rattle.oid_table.specs.Distances.{distance, home_of}
use Rattle.oid_table.specs.Slots.{Holds, Lacks, IsPassed, contents_of, is_full}

module _ {V : Type 0} where
  -- the place is met before the other one, where a search begins at the key's home
  abbrev pub ComesBefore : List (Slot V) → ℕ → ℕ → ℕ → Type 0
  ComesBefore slots key place other =
      distance (length slots) (home_of (length slots) key) place < distance (length slots) (home_of (length slots) key) other

  -- a search for each key that stands somewhere passes other keys alone until it is there
  abbrev pub IsReached : List (Slot V) → Type 0
  IsReached slots = (place key x : ℕ) → Holds slots place key → x < length slots → ComesBefore slots key x place → IsPassed slots x key

  -- the same, but that the search may also come by one gap
  abbrev pub IsReachedBut : ℕ → List (Slot V) → Type 0
  IsReachedBut gap slots =
      (place key x : ℕ) → Holds slots place key → x < length slots → ComesBefore slots key x place → (x ≡ gap) ⊎ IsPassed slots x key

  -- a search for the key ends at this empty place
  pub record IsFree (slots : List (Slot V)) (place key : ℕ) : Type 0 where
    pub empty : slice_get slots place ≡ Some Empty
    pub passed : (x : ℕ) → x < length slots → ComesBefore slots key x place → IsPassed slots x key

  -- the place where the key stands, or the empty one where it may be put
  abbrev pub IsSearched : List (Slot V) → ℕ → Result ℕ ℕ → Type 0
  IsSearched slots key (Ok place) = Holds slots place key
  IsSearched slots key (Err place) = IsFree slots place key × Lacks slots key

  -- `len` counts the keys, and with them and the spare room at least one place stays empty
  pub record IsSound (slots : List (Slot V)) (len_kept spare : ℕ) : Type 0 where
    pub reached : IsReached slots
    pub counted : count_by is_full slots ≡ len_kept
    pub sized : len (contents_of slots) ≡ len_kept
    pub room : len_kept + spare ≤ length slots - 1
