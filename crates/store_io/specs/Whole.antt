-- What a stop may leave of a whole disk: of each file one image.
use Rattle.std.specs.Prelude.{◌≡◌, ◌≢◌, ℕ, Bool, IsTrue, List}
use Rattle.store_io.specs.Disk.{Only}

abbrev pub IsImage : (ℕ → List ℕ → Bool) → (ℕ → List ℕ) → Type 0
IsImage leaves image = (file : ℕ) → IsTrue (leaves file (image file))

-- a stop leaves what the disk reads and nothing else
abbrev pub IsClean : (ℕ → List ℕ) → (ℕ → List ℕ → Bool) → Type 0
IsClean reads leaves = (file : ℕ) → Only (reads file) (leaves file)

-- each image has P
abbrev pub EachImage : (ℕ → List ℕ → Bool) → ((ℕ → List ℕ) → Type 0) → Type 0
EachImage leaves P = (image : ℕ → List ℕ) → IsImage leaves image → P image

-- they differ in one file alone, and there by this step
pub record StepsIn (step : List ℕ → List ℕ → Type 0) (file : ℕ) (old new : ℕ → List ℕ) : Type 0 where
  pub there : step (old file) (new file)
  pub others : (f : ℕ) → f ≢ file → new f ≡ old f
