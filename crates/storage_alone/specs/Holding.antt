-- What holding and releasing ids changes.
use Rattle.std.specs.Prelude.{◌≡◌, ℕ, ◌&&◌, ◌||◌, not, Bool, List}
use Rattle.graph_model.specs.Ids.{has}
use Rattle.core_steps.specs.declared.state.Book.{Book}
use Rattle.type_desc.specs.declared.desc.TypeDesc.{TypeDesc}
use Rattle.channel.specs.Shown.{DiskTable}
use Rattle.recovery.specs.Alone.{AloneState, Serves}
use Rattle.storage_alone.specs.Asks.{held_by}

module _ {D : Type 0} (reads : D → ℕ → List ℕ) (leaves : D → ℕ → List ℕ → Bool) where
  -- the storage serves on, and holds these ids too
  pub record HoldsToo (old : AloneState D) (b : Book) (disks : ℕ → DiskTable) (kept : List TypeDesc) (xs : List ℕ) (new : AloneState D) : Type 0 where
    pub serves : Serves reads leaves new b disks kept
    pub ended : new.monitor.stores_ended ≡ old.monitor.stores_ended
    pub held : (x : ℕ) → has x (held_by reads new) ≡ (has x xs || has x (held_by reads old))

  -- it serves on, and holds these ids no longer
  pub record HoldsNoLonger (old : AloneState D) (b : Book) (disks : ℕ → DiskTable) (kept : List TypeDesc) (xs : List ℕ) (new : AloneState D) : Type 0 where
    pub serves : Serves reads leaves new b disks kept
    pub ended : new.monitor.stores_ended ≡ old.monitor.stores_ended
    pub held : (x : ℕ) → has x (held_by reads new) ≡ (has x (held_by reads old) && not (has x xs))
