-- What is wrong with what the disks of all channels read as, and with which channel. What is looked for in front of it is right.
use Rattle.std.specs.Prelude.{◌≡◌, ◌≢◌, ℕ, ◌<◌, List, length, None}
use Rattle.type_desc.specs.declared.desc.TypeDesc.{TypeDesc}
use Rattle.core_steps.specs.Core.{home}
use Rattle.store_agreement.specs.Agreement.{AllAgree, IsFirstApart}
use Rattle.channel.specs.ChunkRule.{HasRightChunks}
use Rattle.channel.specs.Images.{HasLog, Image}
use Rattle.recovery.specs.Images.{IsNextId, image_at, lasts_of}
use Rattle.recovery.specs.Reach.{IsFromRoot}
use Rattle.recovery.specs.Stored.{HasTypes, tables_at}
use Rattle.disk_opening.specs.SearchFaults.{HasNoForm, HasNoType}
use Rattle.store_opening.specs.WrongFiles.{IsWrongDictionary, IsWrongLog}
use Rattle.store_opening.specs.declared.fault.Cause.{Cause}
use Rattle.store_opening.specs.declared.fault.Cause.TheVariants.{Header, Log, Entry, Order, Disagree, TypesHeader, TypesLog, TypesRecord, Chunk, Missing, NoType, Form, Changed}

-- WHAT IS RIGHT IN FRONT

-- the logs of the channels below j
abbrev pub HaveLogsBelow : List Image → ℕ → Type 0
HaveLogsBelow images j = (i : ℕ) → i < j → HasLog (length images) i (image_at images i)

-- the logs of all channels, which have the store m in common
pub record Agree (images : List Image) (m : ℕ) : Type 0 where
  pub logs : HaveLogsBelow images (length images)
  pub agreed : AllAgree m (lasts_of images)

-- and the dictionary; the greatest next id at that store is this one
pub record AreRead (images : List Image) (m next : ℕ) (types : List TypeDesc) : Type 0 where
  pub agree : Agree images m
  pub types_are : HasTypes (length images) (image_at images 0) types
  pub next_id : IsNextId images m next

-- the chunks of the channels below j, up to the store m
abbrev pub HaveChunksBelow : List Image → (m next j : ℕ) → Type 0
HaveChunksBelow images m next j = (i : ℕ) → i < j → HasRightChunks (length images) i next m (image_at images i)

-- WHAT IS WRONG

-- the log of channel j is the first one that is wrong, and this is wrong with it
pub record IsFirstWrongLog (images : List Image) (j : ℕ) (cause : Cause) : Type 0 where
  pub within : j < length images
  pub front : HaveLogsBelow images j
  pub wrong : IsWrongLog (length images) j (image_at images j 0) cause

-- the logs are right, and channel j is the first one that fits no agreement
pub record IsApart (images : List Image) (j number : ℕ) : Type 0 where
  pub logs : HaveLogsBelow images (length images)
  pub first : IsFirstApart record { channel = j; number = number } (lasts_of images)

-- the logs are right and agree, and this is wrong with the dictionary, which is channel 0's
pub record IsDictionaryDamage (images : List Image) (j : ℕ) (cause : Cause) : Type 0 where
  pub channel : j ≡ 0
  pub m : ℕ
  pub agree : Agree images m
  pub wrong : IsWrongDictionary (length images) (image_at images 0 1) cause

-- channel j is the first one of which a chunk up to the store m is wrong
pub record IsFirstWrongChunk (images : List Image) (m next j : ℕ) : Type 0 where
  pub within : j < length images
  pub front : HaveChunksBelow images m next j
  pub wrong : ¬ (HasRightChunks (length images) j next m (image_at images j))

pub record IsChunkDamage (images : List Image) (j : ℕ) : Type 0 where
  pub m : ℕ
  pub next : ℕ
  pub types : List TypeDesc
  pub read : AreRead images m next types
  pub first : IsFirstWrongChunk images m next j

-- the root reaches the id at the store m, its channel is j, and this is wrong with it
pub record IsWrongId (images : List Image) (m j id : ℕ) (Wrong : Type 0) : Type 0 where
  pub channel : j ≡ home (length images) id
  pub reached : IsFromRoot (tables_at m images) id
  pub wrong : Wrong

-- all chunks are right, and this is wrong with an id that the root reaches
pub record IsReachedWrong (images : List Image) (j id : ℕ) (Wrong : (m : ℕ) → List TypeDesc → Type 0) : Type 0 where
  pub m : ℕ
  pub next : ℕ
  pub types : List TypeDesc
  pub read : AreRead images m next types
  pub chunks : HaveChunksBelow images m next (length images)
  pub here : IsWrongId images m j id (Wrong m types)

-- the id is missing, and is not the root's
pub record IsAbsent (images : List Image) (m id : ℕ) : Type 0 where
  pub not_root : id ≢ 1
  pub none : tables_at m images id ≡ None

-- What is wrong where this channel and cause are told. Exact, the first in the order of faults: those of logs, of the agreement and of the dictionary. Of
-- chunks the channel is the first one, the place is not said; of what the root reaches the id need not be the least.
abbrev pub IsDamage : List Image → ℕ → Cause → Type 0
IsDamage images j Header = IsFirstWrongLog images j Header
IsDamage images j (Log at) = IsFirstWrongLog images j (Log at)
IsDamage images j (Entry number) = IsFirstWrongLog images j (Entry number)
IsDamage images j (Order number) = IsFirstWrongLog images j (Order number)
IsDamage images j (Disagree number) = IsApart images j number
IsDamage images j TypesHeader = IsDictionaryDamage images j TypesHeader
IsDamage images j (TypesLog at) = IsDictionaryDamage images j (TypesLog at)
IsDamage images j (TypesRecord number) = IsDictionaryDamage images j (TypesRecord number)
IsDamage images j (Chunk file at) = IsChunkDamage images j
IsDamage images j (Missing id) = IsReachedWrong images j id (λ m types. IsAbsent images m id)
IsDamage images j (NoType id) = IsReachedWrong images j id (λ m types. HasNoType types (tables_at m images) id)
IsDamage images j (Form id) = IsReachedWrong images j id (λ m types. HasNoForm types (tables_at m images) id)
-- a disk that tells reads what it read before
IsDamage images j (Changed id) = ⊥

-- what is wrong with what the root reaches at the store m, where this channel and cause are told
abbrev pub IsSearchDamage : List Image → (m : ℕ) → List TypeDesc → ℕ → Cause → Type 0
IsSearchDamage images m types j (Missing id) = IsWrongId images m j id (IsAbsent images m id)
IsSearchDamage images m types j (NoType id) = IsWrongId images m j id (HasNoType types (tables_at m images) id)
IsSearchDamage images m types j (Form id) = IsWrongId images m j id (HasNoForm types (tables_at m images) id)
IsSearchDamage images m types j (Changed id) = ⊥
IsSearchDamage images m types j Header = ⊥
IsSearchDamage images m types j (Log at) = ⊥
IsSearchDamage images m types j (Entry number) = ⊥
IsSearchDamage images m types j (Order number) = ⊥
IsSearchDamage images m types j (Disagree number) = ⊥
IsSearchDamage images m types j TypesHeader = ⊥
IsSearchDamage images m types j (TypesLog at) = ⊥
IsSearchDamage images m types j (TypesRecord number) = ⊥
IsSearchDamage images m types j (Chunk file at) = ⊥
