-- When a channel has no room for a part.
use Rattle.std.specs.Prelude.{ℕ, List, length, Option}
use Rattle.graph_model.specs.declared.entity.Record.{Record}
use Rattle.channel_files.specs.Heads.{full_at_first, full_behind_creation}
use Rattle.channel.specs.Entities.{chunk_for}
use Rattle.channel.specs.State.{ChannelState}

-- the number of `Full` of a store of this number before anything is written
abbrev pub part_full_at_first : {D : Type 0} → ChannelState D → ℕ → List Record → Option ℕ
part_full_at_first c number part =
    full_at_first c.files.transactions.inventory.state c.files.transactions.log.length c.files.sizes.maximum number (length (chunk_for part))

-- and behind a file that the part needs and that was made
abbrev pub part_full_behind : {D : Type 0} → ChannelState D → List Record → Option ℕ
part_full_behind c part =
    full_behind_creation c.files.transactions.inventory.state c.files.transactions.log.length c.files.sizes.maximum (length (chunk_for part))
