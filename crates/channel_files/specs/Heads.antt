-- When a chunk needs a new head, where it then stands, and when a log is too full for that.
use Rattle.std.specs.Prelude.{ℕ, ◌+◌, ◌-◌, ◌^◌, ◌==◌, nat_le, nat_lt, not, Bool, false, if◌then◌else◌, List, Option, Some, None}
use Rattle.std.specs.Option.{option_or}
use Rattle.tx_entry.specs.declared.entry.Entry.TheVariants.{Creation}
use Rattle.transactions_file.specs.Files.{length_of, length_in}
use Rattle.transactions_file.specs.Inventory.{State, after}
use Rattle.channel_files.specs.declared.place.Place.{Place}
use Rattle.channel_files.specs.Chunks.{Chunk}

-- a file of this length has room for a chunk; one that is not live has none
abbrev pub has_room : Option ℕ → ℕ → Bool
has_room None maximum = false
has_room (Some len) maximum = nat_lt len maximum

-- the head's length is at least the maximum, or there is no head
abbrev pub lacks_room : State → ℕ → Bool
lacks_room s maximum = not (has_room (length_of s.files s.created) maximum)

-- the inventory with the next file as its head
abbrev pub with_new_head : State → State
with_new_head s = after s (Creation (s.created + 1))

-- the inventory that a chunk of this length is stored over: an empty one needs no head, another one a head with room
abbrev pub with_head : State → ℕ → ℕ → State
with_head s maximum len = if len == 0 then s else (if lacks_room s maximum then with_new_head s else s)

-- how many files that creates
abbrev pub heads_made : State → ℕ → ℕ → ℕ
heads_made s maximum len = if len == 0 then 0 else (if lacks_room s maximum then 1 else 0)

-- the end of the head
abbrev pub head_end : State → Place
head_end s = record { file = s.created; at = length_in s.files s.created }

-- where the next chunk of this length stands
abbrev pub place_of : State → ℕ → Place
place_of s len = if len == 0 then record { file = 0; at = 0 } else head_end s

-- the chunk of a store at a place
abbrev pub chunk_of : ℕ → Place → List ℕ → Chunk
chunk_of number place bytes = record { number = number; file = place.file; at = place.at; bytes = bytes }

-- the number of `Full` where a log of this length takes no further record
abbrev pub full_record : ℕ → Option ℕ
full_record log = if nat_lt (2 ^ 40 - 64) log then Some log else None

-- the number of `Full` where there can be no further head: the log takes no record, or the next file number is too great
abbrev pub full_creation : State → ℕ → Option ℕ
full_creation s log = option_or (full_record log) (if nat_le (2 ^ 31) (s.created + 1) then Some (2 ^ 31) else None)

-- the number of `Full` of a store before anything is written: its own number is too great, or its first record cannot be written
abbrev pub full_at_first : State → ℕ → ℕ → ℕ → ℕ → Option ℕ
full_at_first s log maximum number len =
    if nat_lt (2 ^ 63) number then Some (2 ^ 63)
    else (if len == 0 then full_record log else (if lacks_room s maximum then full_creation s log else full_record log))

-- the number of `Full` behind a Creation, whose record has 14 bytes
abbrev pub full_behind_creation : State → ℕ → ℕ → ℕ → Option ℕ
full_behind_creation s log maximum len = if len == 0 then None else (if lacks_room s maximum then full_record (log + 14) else None)
