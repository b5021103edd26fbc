-- What a channel tells of its disk from one turn to the next, so that the disk stays tied to the stores that were made.
use Rattle.std.specs.Prelude.{◌≡◌, ◌-◌, ◌==◌, ℕ, Bool, cond, List, Option, Some, None, IsSomeAnd}
use Rattle.graph_model.specs.declared.entity.Record.{Record}
use Rattle.transactions_file.specs.Inventory.{State}
use Rattle.channel_files.specs.Chunks.{Chunk, content_of}
use Rattle.channel.specs.Shown.{DiskTable, disk_in, with_part}
use Rattle.channel.specs.State.{ChannelState}

-- what a channel's disk holds at the number of its last part; and at the number before, while the last part is not confirmed
pub record Holding : Type 0 where
  pub held : DiskTable
  pub before : Option DiskTable

-- what these chunks are to a log that says so, where the part of this number is confirmed
abbrev pub holding_in : State → ℕ → List Chunk → Holding
holding_in s confirmed chunks = record {
  held = disk_in s.last chunks s.next_id;
  before = cond (confirmed == s.last) None (Some (disk_in (s.last - 1) chunks s.next_id_before));
}

abbrev pub holding : {D : Type 0} → (D → ℕ → List ℕ) → ChannelState D → Holding
holding reads c = holding_in c.files.transactions.inventory.state c.files.confirmed (content_of (reads c.files.disk))

-- what a unit has to tell beside what `told_of` says: what its disk holds, where that tells what it reads
abbrev pub holding_told : {D : Type 0} → Bool → (D → ℕ → List ℕ) → ChannelState D → Option Holding
holding_told tells reads c = cond tells (Some (holding reads c)) None

-- the same entity of each id, and the same next id
pub record AreAlike (a b : DiskTable) : Type 0 where
  pub entities : (x : ℕ) → a.entities x ≡ b.entities x
  pub next_id : a.next_id ≡ b.next_id

-- alike, or neither is there
abbrev pub AreBothAlike : Option DiskTable → Option DiskTable → Type 0
AreBothAlike None None = Unit {0}
AreBothAlike None (Some b) = ⊥
AreBothAlike (Some a) None = ⊥
AreBothAlike (Some a) (Some b) = AreAlike a b

-- nothing of it changed
pub record KeepsHolding (old new : Holding) : Type 0 where
  pub held : AreAlike new.held old.held
  pub before : AreBothAlike new.before old.before

-- The disk, which held d, has gained a part of a store with this next id, and has d at the number before. Where d is what the disk held when the
-- last store ended, this is so of a channel that has its part of the open store; one that has not holds what is like d.
pub record HasGained (part : List Record) (next_id : ℕ) (d : DiskTable) (h : Holding) : Type 0 where
  pub held : AreAlike h.held (with_part part next_id d)
  pub before : IsSomeAnd h.before (λ b. AreAlike b d)
