-- Where chunks stand, as the program keeps it.
use Rattle.std.specs.Prelude.{◌<◌, ◌^◌}
use Rattle.tx_entry.specs.declared.entry.Entry.{Entry}
use Rattle.tx_entry.specs.declared.entry.Entry.TheVariants.{Creation, Store, Transfer, Truncation, Deletion}
use Rattle.channel_files.specs.Chunks.{Range}
use Rattle.disk_opening.specs.declared.ranges.ChunkRange.{ChunkRange}

abbrev pub range_in : ChunkRange → Range
range_in r = record { number = r.number; file = r.file; at = r.at; length = r.length }

-- four bytes hold the number of the file in which an entry's chunk stands
abbrev pub HasLowFile : Entry → Type 0
HasLowFile (Creation file) = Unit {0}
HasLowFile (Store number file at len next_id) = file < 2 ^ 32
HasLowFile (Transfer source file at len) = file < 2 ^ 32
HasLowFile (Truncation file new_length dropped) = Unit {0}
HasLowFile (Deletion file) = Unit {0}
