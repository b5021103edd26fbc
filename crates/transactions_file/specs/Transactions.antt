-- A transactions log with its inventory.
use Rattle.std.specs.Prelude.{◌≡◌, ℕ, List, Some}
use Rattle.gated_log.specs.State.{LogState}
use Rattle.gated_log.specs.Log.{payloads_of}
use Rattle.gated_log.specs.Of.{IsOf}
use Rattle.transactions_file.specs.Inventory.{Held, inventory_of}

pub record Transactions : Type 0 where
  pub log : LogState
  pub inventory : Held

-- the file reads as this log, and its entries give this inventory
pub record IsKept (t : Transactions) (bytes : List ℕ) : Type 0 where
  pub log : IsOf t.log bytes
  pub inventory : inventory_of (payloads_of bytes) ≡ Some t.inventory.state
