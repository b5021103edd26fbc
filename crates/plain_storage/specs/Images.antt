-- The two files of a session's disk, and what a stop may leave of them.
use Rattle.std.specs.Prelude.{◌≡◌, ◌≢◌, ℕ, Bool, IsTrue, List}
use Rattle.store_io.specs.Disk.{Only}

-- a stop leaves of both files what they read
pub record AreClean (reads : ℕ → List ℕ) (leaves : ℕ → List ℕ → Bool) : Type 0 where
  pub stores : Only (reads 0) (leaves 0)
  pub types : Only (reads 1) (leaves 1)

-- P of whatever a stop may leave of the two
abbrev pub EachPair : (ℕ → List ℕ → Bool) → (List ℕ → List ℕ → Type 0) → Type 0
EachPair leaves P = (image0 image1 : List ℕ) → IsTrue (leaves 0 image0) → IsTrue (leaves 1 image1) → P image0 image1

-- all files but the two are as they were
pub record OtherFilesStay (old_reads new_reads : ℕ → List ℕ) (old_leaves new_leaves : ℕ → List ℕ → Bool) : Type 0 where
  pub reads : (f : ℕ) → f ≢ 0 → f ≢ 1 → new_reads f ≡ old_reads f
  pub leaves : (f : ℕ) → f ≢ 0 → f ≢ 1 → new_leaves f ≡ old_leaves f
