-- A disk in memory, as contracts see it.
use Rattle.std.specs.Prelude.{◌≡◌, ℕ, Bool, ◌||◌, List, Option}
use Rattle.store_io.specs.Files.{reads_of, leaves_of}
use Rattle.call_counts.specs.Counts.{raised}
use Rattle.store_io.specs.Failing.{is_listed, is_stopped, is_past}
use Rattle.store_io.specs.declared.mem_file.MemFile.{MemFile}

pub record DiskState : Type 0 where
  pub files : List MemFile
  -- the calls that fail, by number from 1
  pub fails : List ℕ
  -- after so many calls every call fails
  pub stop_after : Option ℕ
  pub calls : ℕ
  pub faults : ℕ
  pub read_calls : ℕ

-- what each file reads
abbrev pub disk_reads : DiskState → ℕ → List ℕ
disk_reads disk = reads_of disk.files

-- whether a stop now may leave this of a file
abbrev pub disk_leaves : DiskState → ℕ → List ℕ → Bool
disk_leaves disk = leaves_of disk.files

-- the next call is to fail
abbrev pub is_due : DiskState → Bool
is_due disk = is_listed disk.fails (raised disk.calls) || is_stopped disk.stop_after (raised disk.calls)

-- the next call is to change nothing
abbrev pub is_dead : DiskState → Bool
is_dead disk = is_past disk.stop_after (raised disk.calls)

-- the next call was counted, and the calls that fail are the same
pub record IsCounted (old new : DiskState) : Type 0 where
  pub calls : new.calls ≡ raised old.calls
  pub fails : new.fails ≡ old.fails
  pub stop_after : new.stop_after ≡ old.stop_after
