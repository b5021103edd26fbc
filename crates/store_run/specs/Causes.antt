-- Why a run ends before its input does: what must have been seen where a part of it, or the whole, stops.
use Rattle.std.specs.Prelude.{ℕ, ◌≤◌, Bool, IsTrue, List}
use Rattle.call_counts.specs.Counts.{Rose}
use Rattle.plain_storage.specs.Logs.{HasFullLog}
use Rattle.store_run.specs.declared.stop.Stop.{Stop}
use Rattle.store_run.specs.declared.stop.Stop.TheVariants.{ReadFault, WriteFault, StorageFault, InputTooLong, Full}

-- No count of faults falls. A fault of the sink or of the disk is told only where its count rose, and `Full` only where a log of the disk, if it
-- `tells`, is over its limit. `told stop` says that this is what is told; of the source nothing is.
pub record HasLineCauses (told : Stop → Type 0) (tells : Bool) (reads : ℕ → List ℕ) (sink sink' disk disk' : ℕ) : Type 0 where
  pub sink_faults : sink ≤ sink'
  pub disk_faults : disk ≤ disk'
  pub write_fault : told WriteFault → Rose sink sink'
  pub storage_fault : told StorageFault → Rose disk disk'
  pub full : IsTrue tells → told Full → HasFullLog reads
  pub not_read : told ReadFault → ⊥
  pub not_long : told InputTooLong → ⊥

-- The same of what reads the source too.
pub record HasCauses (told : Stop → Type 0) (tells : Bool) (reads : ℕ → List ℕ) (source source' sink sink' disk disk' : ℕ) : Type 0 where
  pub source_faults : source ≤ source'
  pub sink_faults : sink ≤ sink'
  pub disk_faults : disk ≤ disk'
  pub read_fault : told ReadFault → Rose source source'
  pub write_fault : told WriteFault → Rose sink sink'
  pub storage_fault : told StorageFault → Rose disk disk'
  pub full : IsTrue tells → told Full → HasFullLog reads
