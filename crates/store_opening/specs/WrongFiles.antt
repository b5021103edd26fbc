-- What is wrong with a log's file.
use Rattle.std.specs.Prelude.{◌≢◌, ℕ, ◌<◌, List, length, take}
use Rattle.gated_log.specs.Log.{payloads_of}
use Rattle.channel.specs.Images.{log_header}
use Rattle.recovery.specs.Images.{types_header}
use Rattle.disk_opening.specs.LogFaults.{IsCutAt, IsEntryFault, IsOrderFault}
use Rattle.disk_opening.specs.TypesReading.{IsTypeFault}
use Rattle.store_opening.specs.declared.fault.Cause.{Cause}
use Rattle.store_opening.specs.declared.fault.Cause.TheVariants.{Header, Log, Entry, Order, Disagree, TypesHeader, TypesLog, TypesRecord, Chunk, Missing, NoType, Form, Changed}

-- a file of more than 9 bytes that begins otherwise
pub record HasOtherHeader (header file : List ℕ) : Type 0 where
  pub long : 9 < length file
  pub other : take 8 file ≢ header

-- this is wrong with the transactions log of channel j of n, and nothing in front of it
abbrev pub IsWrongLog : (n j : ℕ) → List ℕ → Cause → Type 0
IsWrongLog n j file Header = HasOtherHeader (log_header n j) file
IsWrongLog n j file (Log at) = IsCutAt (log_header n j) file at
IsWrongLog n j file (Entry number) = IsEntryFault (payloads_of file) number
IsWrongLog n j file (Order number) = IsOrderFault (payloads_of file) number
IsWrongLog n j file (Disagree number) = ⊥
IsWrongLog n j file TypesHeader = ⊥
IsWrongLog n j file (TypesLog at) = ⊥
IsWrongLog n j file (TypesRecord number) = ⊥
IsWrongLog n j file (Chunk place at) = ⊥
IsWrongLog n j file (Missing id) = ⊥
IsWrongLog n j file (NoType id) = ⊥
IsWrongLog n j file (Form id) = ⊥
IsWrongLog n j file (Changed id) = ⊥

-- this is wrong with the dictionary log of n channels, and nothing in front of it
abbrev pub IsWrongDictionary : ℕ → List ℕ → Cause → Type 0
IsWrongDictionary n file Header = ⊥
IsWrongDictionary n file (Log at) = ⊥
IsWrongDictionary n file (Entry number) = ⊥
IsWrongDictionary n file (Order number) = ⊥
IsWrongDictionary n file (Disagree number) = ⊥
IsWrongDictionary n file TypesHeader = HasOtherHeader (types_header n) file
IsWrongDictionary n file (TypesLog at) = IsCutAt (types_header n) file at
IsWrongDictionary n file (TypesRecord number) = IsTypeFault (payloads_of file) number
IsWrongDictionary n file (Chunk place at) = ⊥
IsWrongDictionary n file (Missing id) = ⊥
IsWrongDictionary n file (NoType id) = ⊥
IsWrongDictionary n file (Form id) = ⊥
IsWrongDictionary n file (Changed id) = ⊥
