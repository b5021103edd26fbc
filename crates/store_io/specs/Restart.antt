-- The image of each file that a restart takes.
use Rattle.std.specs.Prelude.{◌≡◌, ℕ, ◌==◌, if◌then◌else◌, List, [], ◌∷◌, length, map, unwrap_or}
use Rattle.store_io.specs.Image.{closed}
use Rattle.store_io.specs.declared.pick.Pick.{Pick}
use Rattle.store_io.specs.declared.pick.Pick.TheVariants.{Synced, Written, Filled}
use Rattle.store_io.specs.declared.mem_file.MemFile.{MemFile}
use Rattle.store_io.specs.MemDisk.{DiskState}

abbrev pub picked : Pick → MemFile → List ℕ
picked Synced m = m.synced.items
picked Written m = m.bytes.items
picked (Filled fill) m = map (λ k. unwrap_or k fill) m.kept.items

abbrev pub picked_of : Pick → List MemFile → ℕ → List ℕ
picked_of pick [] file = []
picked_of pick (m ∷ files) file = if m.number == file then picked pick m else picked_of pick files file

-- what each file of the disk reads after the restart
abbrev pub disk_picked : Pick → DiskState → ℕ → List ℕ
disk_picked pick disk = picked_of pick disk.files

-- what the last sync kept of each file
abbrev pub synced_of : List MemFile → ℕ → List ℕ
synced_of = picked_of Synced

abbrev pub disk_synced : DiskState → ℕ → List ℕ
disk_synced disk = synced_of disk.files

-- the file after the restart
pub record IsRestart (pick : Pick) (old new : MemFile) : Type 0 where
  pub number : new.number ≡ old.number
  pub bytes : new.bytes.items ≡ picked pick old
  pub synced : new.synced.items ≡ new.bytes.items
  pub kept : new.kept.items ≡ closed new.bytes.items
  pub least : new.least ≡ length new.bytes.items

abbrev pub AllRestart : Pick → List MemFile → List MemFile → Type 0
AllRestart pick [] [] = Unit {0}
AllRestart pick [] (n ∷ new) = ⊥
AllRestart pick (m ∷ files) [] = ⊥
AllRestart pick (m ∷ files) (n ∷ new) = IsRestart pick m n × AllRestart pick files new
