-- The files of a channel, as contracts see them.
use Rattle.std.specs.Prelude.{◌≡◌, ℕ, ◌≤◌, ◌^◌, List, length}
use Rattle.transactions_file.specs.Files.{length_in}
use Rattle.transactions_file.specs.Transactions.{Transactions, IsKept}
use Rattle.channel_files.specs.declared.sizes.Sizes.{Sizes}

pub record Channel (D : Type 0) : Type 0 where
  pub disk : D
  pub transactions : Transactions
  pub sizes : Sizes
  -- the number of the last store that is confirmed
  pub confirmed : ℕ

-- sizes that may be given
pub record IsInRange (sizes : Sizes) : Type 0 where
  pub some : 1 ≤ sizes.maximum
  pub most : sizes.maximum ≤ 2 ^ 30
  pub ordered : sizes.minimum ≤ sizes.maximum
  pub rate : sizes.use_rate ≤ 1000

-- the log is what file 0 reads, and each live file is at least as long as the inventory says
pub record IsOfDisk (t : Transactions) (reads : ℕ → List ℕ) : Type 0 where
  pub file : t.log.file ≡ 0
  pub kept : IsKept t (reads 0)
  pub long : (f : ℕ) → length_in t.inventory.state.files f ≤ length (reads f)
