-- What the disks of all channels hold whatever a stop leaves of them.
use Rattle.std.specs.Prelude.{◌≡◌, ℕ, ◌<◌, List, length}
use Rattle.store_io.specs.Whole.{IsImage}
use Rattle.channel.specs.Images.{Image}
use Rattle.recovery.specs.Images.{image_at}
use Rattle.recovery.specs.Stored.{IsStored, Stored}
use Rattle.store_opening.specs.Left.{Leaves, leaves_at}

-- a stop may leave these images, one of each disk
pub record MayLeave (leaves : List Leaves) (images : List Image) : Type 0 where
  pub many : length images ≡ length leaves
  pub each : (j : ℕ) → j < length leaves → IsImage (leaves_at leaves j) (image_at images j)

-- whatever a stop leaves, of each disk at a moment of its own, the disks hold this
abbrev pub Hold : List Leaves → Stored → Type 0
Hold leaves what = (images : List Image) → MayLeave leaves images → IsStored images what
