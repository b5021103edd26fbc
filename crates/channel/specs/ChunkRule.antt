-- The rule for the chunks of a channel's data files.
use Rattle.std.specs.Prelude.{◌≡◌, ℕ, ◌+◌, ◌*◌, ◌≤◌, nat_le, true, List, length, take, drop}
use Rattle.std.specs.List.{AllByRecursion, filter}
use Rattle.gated_log.specs.Log.{payloads_of}
use Rattle.graph_model.specs.Stores.{is_good_id}
use Rattle.graph_model.specs.declared.entity.Record.{Record}
use Rattle.core_steps.specs.Core.{is_home}
use Rattle.data_file.specs.Chunks.{IsChunk, entities_of}
use Rattle.channel_files.specs.Chunks.{Chunk, Range, ranges_of}
use Rattle.channel_files.specs.Table.{up_to}
use Rattle.channel_files.specs.Whole.{header_of}
use Rattle.channel.specs.Images.{Image}

-- an entity of channel j of n: its references lie within it, and it has a type and an id of this channel, which is 1 or from 1024 to below `next`
pub record KeepsRule (n j next : ℕ) (bytes : List ℕ) : Type 0 where
  pub refs : 32 + 8 * (header_of bytes).count ≤ length bytes
  pub type_id : 1 ≤ (header_of bytes).type_id
  pub own : is_home n j (header_of bytes).id ≡ true
  pub good : is_good_id next (header_of bytes).id ≡ true

-- whole entities one after another, each of which keeps the rule
pub record IsRightChunk (n j next : ℕ) (bytes : List ℕ) : Type 0 where
  pub whole : IsChunk bytes
  pub rule : AllByRecursion (KeepsRule n j next) (entities_of bytes)

-- a chunk that lies within its file and is right
pub record IsRightRange (n j next : ℕ) (image : Image) (r : Range) : Type 0 where
  pub within : r.at + r.length ≤ length (image r.file)
  pub right : IsRightChunk n j next (take r.length (drop r.at (image r.file)))

-- the chunks of stores up to this number, and of all transfers
abbrev pub ranges_to : ℕ → Image → List Range
ranges_to m image = filter (λ (r : Range). nat_le r.number m) (ranges_of (payloads_of (image 0)))

-- each of them keeps the rule
abbrev pub HasRightChunks : (n j next m : ℕ) → Image → Type 0
HasRightChunks n j next m image = AllByRecursion (IsRightRange n j next image) (ranges_to m image)

-- of a list of chunks those of stores up to this number, and of transfers, are right
abbrev pub AreRightTo : (n j next m : ℕ) → List Chunk → Type 0
AreRightTo n j next m chunks = AllByRecursion (λ (c : Chunk). IsRightChunk n j next c.bytes) (up_to m chunks)

-- no chunk has a greater number
abbrev pub AllUpTo : ℕ → List Chunk → Type 0
AllUpTo m chunks = AllByRecursion (λ (c : Chunk). c.number ≤ m) chunks

-- a record of this channel, with an id that may be stored
abbrev pub IsOwn : (n j next : ℕ) → Record → Type 0
IsOwn n j next r = (is_home n j r.id ≡ true) × (is_good_id next r.id ≡ true)
