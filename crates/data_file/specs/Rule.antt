-- The rule for the entities of a chunk.
use Rattle.std.specs.Prelude.{ℕ, ◌+◌, ◌*◌, ◌%◌, ◌==◌, nat_le, nat_lt, Bool, ◌&&◌, ◌||◌, IsTrue, List}
use Rattle.graph_model.specs.Limits.{entity_limit, first_id}
use Rattle.entity_form.specs.declared.places.Header.{Header}
use Rattle.data_file.specs.declared.walk.ChunkWalk.{ChunkWalk}
use Rattle.data_file.specs.Headers.{IsHeaderAt}

-- an object id of this channel that may be stored
abbrev pub is_own_id : ChunkWalk → ℕ → Bool
is_own_id w id = id % w.count == w.channel && (id == 1 || (nat_le first_id id && nat_lt id w.next_id))

-- whole within the chunk and the file, of a length that an entity may have, and with a type and an id that it may have
abbrev pub keeps_rule : ChunkWalk → Header → Bool
keeps_rule w h =
    nat_le (w.at + h.length) w.end && (nat_le (w.at + h.length) w.file_length && (nat_le 32 h.length && (nat_le h.length entity_limit
    && (nat_le (32 + 8 * h.count) h.length && (nat_le 1 h.type_id && is_own_id w h.id)))))

-- an entity that keeps the rule stands at the walk's place
pub record IsEntityAt (w : ChunkWalk) (bytes : List ℕ) : Type 0 where
  pub header : Header
  pub stands : IsHeaderAt bytes w.at header
  pub keeps : IsTrue (keeps_rule w header)
