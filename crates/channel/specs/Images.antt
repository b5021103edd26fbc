-- An image of a channel's disk, and what its log says.
use Rattle.std.specs.Prelude.{◌≡◌, ◌⊎◌, ℕ, ◌≤◌, ◌==◌, if◌then◌else◌, List, [], ◌∷◌, length, unwrap_or, Some}
use Rattle.gated_log.specs.Log.{IsLogOf, payloads_of}
use Rattle.transactions_file.specs.Inventory.{State, inventory_of, start}

-- what a stop leaves of a disk: the bytes of each file
abbrev pub Image : Type 0
Image = ℕ → List ℕ

-- what the transactions log of channel j of n begins with: ESC1, version 1
abbrev pub log_header : ℕ → ℕ → List ℕ
log_header n j = 69 ∷ 83 ∷ 67 ∷ 49 ∷ 1 ∷ j ∷ n ∷ 0 ∷ []

-- the file is a log with this header, or is too short to have one
abbrev pub IsLogFile : List ℕ → List ℕ → Type 0
IsLogFile header file = (length file ≤ 9) ⊎ IsLogOf header (payloads_of file) file

-- the inventory of an image's log; that of no entry, where the log has none
abbrev pub state_of : Image → State
state_of image = unwrap_or (inventory_of (payloads_of (image 0))) start

-- the image of channel j of n has a log of entries, each allowed where it stands
pub record HasLog (n j : ℕ) (image : Image) : Type 0 where
  pub file : IsLogFile (log_header n j) (image 0)
  pub allowed : inventory_of (payloads_of (image 0)) ≡ Some (state_of image)

-- the next id of an image at the number m, which is that of its last store or of the one before
abbrev pub next_at : ℕ → Image → ℕ
next_at m image = if (state_of image).last == m then (state_of image).next_id else (state_of image).next_id_before
