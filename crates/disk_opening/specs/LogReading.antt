-- How far the entries of a log were read.
use Rattle.std.specs.Prelude.{◌≡◌, ℕ, List, ◌++◌, length, Some}
use Rattle.transactions_file.specs.Inventory.{State, inventory_of}
use Rattle.channel_files.specs.Chunks.{Range, ranges_of}

-- so many payloads were passed, and these are left; the passed ones fold to this inventory and these chunks
pub record HasPassed (payloads left : List (List ℕ)) (count : ℕ) (state : State) (ranges : List Range) : Type 0 where
  pub passed : List (List ℕ)
  pub split : payloads ≡ passed ++ left
  pub number : count ≡ length passed
  pub inventory : inventory_of passed ≡ Some state
  pub chunks : ranges ≡ ranges_of passed

-- the payloads fold to this inventory and these chunks
pub record AreEntries (payloads : List (List ℕ)) (state : State) (ranges : List Range) : Type 0 where
  pub inventory : inventory_of payloads ≡ Some state
  pub chunks : ranges ≡ ranges_of payloads
