-- What a stop may leave of the disks of all channels, and what they hold whatever it leaves.
use Rattle.std.specs.Prelude.{◌≡◌, ℕ, ◌<◌, Bool, false, IsTrue, List, length, get_or}
use Rattle.store_io.specs.Disk.{Only}
use Rattle.channel.specs.Images.{Image}
use Rattle.recovery.specs.Images.{image_at}

-- what may be left of a disk: of each file, whether it may be these bytes
abbrev pub Leaves : Type 0
Leaves = ℕ → List ℕ → Bool

abbrev pub leaves_at : List Leaves → ℕ → Leaves
leaves_at leaves j = get_or leaves j (λ (file : ℕ) (bytes : List ℕ). false)

-- nothing may be left of the disk that might not have been left before
abbrev pub LeavesNoMore : Leaves → Leaves → Type 0
LeavesNoMore old new = (file : ℕ) (bytes : List ℕ) → IsTrue (new file bytes) → IsTrue (old file bytes)

-- so it is with each disk
pub record LeaveNoMore (old new : List Leaves) : Type 0 where
  pub many : length new ≡ length old
  pub each : (j : ℕ) → LeavesNoMore (leaves_at old j) (leaves_at new j)

-- of each disk below n a stop leaves this file as it is read
abbrev pub AreSyncedBelow : ℕ → ℕ → List Image → List Leaves → Type 0
AreSyncedBelow n file images leaves = (j : ℕ) → j < n → Only (image_at images j file) (leaves_at leaves j file)
