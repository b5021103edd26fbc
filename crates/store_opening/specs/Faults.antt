-- What a fault of a reader is to who opens the disks.
use Rattle.std.specs.Prelude.{ℕ}
use Rattle.core_steps.specs.Core.{home}
use Rattle.disk_opening.specs.declared.chunks.ChunkFault.{ChunkFault}
use Rattle.disk_opening.specs.declared.chunks.ChunkFault.TheVariants as chunks
use Rattle.disk_opening.specs.declared.entities.SearchFault.{SearchFault}
use Rattle.disk_opening.specs.declared.entities.SearchFault.TheVariants as searches
use Rattle.disk_opening.specs.declared.logs.ChannelLogFault.{ChannelLogFault}
use Rattle.disk_opening.specs.declared.logs.ChannelLogFault.TheVariants as logs
use Rattle.disk_opening.specs.declared.type_log.DictionaryFault.{DictionaryFault}
use Rattle.disk_opening.specs.declared.type_log.DictionaryFault.TheVariants as types
use Rattle.store_opening.specs.declared.fault.Cause.TheVariants.{Header, Log, Entry, Order, TypesHeader, TypesLog, TypesRecord, Chunk, Missing, NoType, Form, Changed}
use Rattle.store_opening.specs.declared.fault.OpenFault.{OpenFault}
use Rattle.store_opening.specs.declared.fault.OpenFault.TheVariants.{NoMemory, Fault, Damaged}

-- of the log of channel j
abbrev pub of_log : ℕ → ChannelLogFault → OpenFault
of_log j logs.NoMemory = NoMemory
of_log j logs.Fault = Fault
of_log j logs.Header = Damaged j Header
of_log j (logs.Log at) = Damaged j (Log at)
of_log j (logs.Entry record_number) = Damaged j (Entry record_number)
of_log j (logs.Order record_number) = Damaged j (Order record_number)

-- of the dictionary, on the disk of channel 0
abbrev pub of_dictionary : DictionaryFault → OpenFault
of_dictionary types.NoMemory = NoMemory
of_dictionary types.Fault = Fault
of_dictionary types.Header = Damaged 0 TypesHeader
of_dictionary (types.Log at) = Damaged 0 (TypesLog at)
of_dictionary (types.Record record_number) = Damaged 0 (TypesRecord record_number)

-- of a chunk of channel j
abbrev pub of_chunk : ℕ → ChunkFault → OpenFault
of_chunk j chunks.NoMemory = NoMemory
of_chunk j chunks.Fault = Fault
of_chunk j (chunks.BadChunk file at) = Damaged j (Chunk file at)

-- of what the root reaches, in the tables of n channels
abbrev pub of_search : ℕ → SearchFault → OpenFault
of_search n searches.NoMemory = NoMemory
of_search n searches.Fault = Fault
of_search n (searches.Missing id) = Damaged (home n id) (Missing id)
of_search n (searches.NoType id) = Damaged (home n id) (NoType id)
of_search n (searches.Form id) = Damaged (home n id) (Form id)
of_search n (searches.Changed id) = Damaged (home n id) (Changed id)
