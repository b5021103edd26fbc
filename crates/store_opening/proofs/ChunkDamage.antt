-- The fault that is told of a chunk, or of what the root reaches, is one.
use Rattle.std.proofs.Common.{◌≡◌, ◌∙◌, ℕ, ◌<◌, List, length, Result, Err, sym, ap, subst}
use Rattle.oid_table.specs.Table.{Table}
use Rattle.entity_index.specs.declared.row.Row.{Row}
use Rattle.type_desc.specs.declared.desc.TypeDesc.{TypeDesc}
use Rattle.core_steps.specs.Core.{home}
use Rattle.channel.specs.Images.{Image}
use Rattle.recovery.specs.Stored.{tables_at}
use Rattle.disk_opening.specs.RowTables.{rows_in, tables_in}
use Rattle.disk_opening.specs.SearchFaults.{IsFaultAt, IsReachedFault}
use Rattle.disk_opening.specs.declared.chunks.ChunkFault.{ChunkFault}
use Rattle.disk_opening.specs.declared.chunks.ChunkFault.TheVariants as chunks
use Rattle.disk_opening.specs.declared.entities.SearchFault.{SearchFault}
use Rattle.disk_opening.specs.declared.entities.SearchFault.TheVariants as searches
use Rattle.store_opening.specs.Damage.{IsSearchDamage}
use Rattle.store_opening.specs.Faults.{of_chunk, of_search}
use Rattle.store_opening.specs.IndexesRead.{AreIndexed}
use Rattle.store_opening.specs.declared.fault.Cause.{Cause}
use Rattle.store_opening.specs.declared.fault.Cause.TheVariants.{Chunk}
use Rattle.store_opening.specs.declared.fault.OpenFault.{OpenFault}
use Rattle.store_opening.specs.declared.fault.OpenFault.TheVariants.{Damaged, Full}
use Rattle.store_opening.proofs.TablesGiven.{tables_given}

same_channel : {j k : ℕ} {a b : Cause} → Damaged j a ≡ Damaged k b → k ≡ j
same_channel e = cc

same_cause : {j k : ℕ} {a b : Cause} → Damaged j a ≡ Damaged k b → a ≡ b
same_cause e = cc

pub inside : {T : Type 0} {e f : OpenFault} → ◌≡◌ {A = Result T OpenFault} (Err e) (Err f) → e ≡ f
inside is = cc

-- CHUNKS

pub record IsBadChunk (channel j : ℕ) (cause : Cause) (e : ChunkFault) : Type 0 where
  pub file : ℕ
  pub at : ℕ
  pub channel_is : j ≡ channel
  pub cause_is : cause ≡ Chunk file at
  pub fault : e ≡ chunks.BadChunk file at

pub bad_chunk : (channel j : ℕ) (cause : Cause) (e : ChunkFault) → of_chunk channel e ≡ Damaged j cause → IsBadChunk channel j cause e
bad_chunk channel j cause chunks.NoMemory is = absurd cc
bad_chunk channel j cause chunks.Fault is = absurd cc
bad_chunk channel j cause (chunks.BadChunk file at) is = record { file = file; at = at; channel_is = same_channel is; cause_is = sym (same_cause is); fault = cc }

pub chunk_not_full : (channel bytes : ℕ) (e : ChunkFault) → of_chunk channel e ≡ Full bytes → ⊥
chunk_not_full channel bytes chunks.NoMemory is = cc
chunk_not_full channel bytes chunks.Fault is = cc
chunk_not_full channel bytes (chunks.BadChunk file at) is = cc

-- WHAT THE ROOT REACHES

pub same_tables : (m next : ℕ) (images : List Image) (indexes : List (Table Row)) → length indexes ≡ length images → AreIndexed images indexes m next → 0 < length images
    → tables_in images (rows_in indexes) ≡ tables_at m images
same_tables m next images indexes many is some = λ i x. tables_given m next images indexes many is.right is.indexes_are some x i

module _ (images : List Image) (m : ℕ) (types : List TypeDesc) (j : ℕ) (cause : Cause) where
  pub search_damage : (n : ℕ) (e : SearchFault) → n ≡ length images → IsFaultAt types (tables_at m images) e → IsReachedFault (tables_at m images) e → of_search n e ≡ Damaged j cause
      → IsSearchDamage images m types j cause
  search_damage n searches.NoMemory many wrong reached is = absurd cc
  search_damage n searches.Fault many wrong reached is = absurd cc
  search_damage n (searches.Missing id) many wrong reached is = subst (IsSearchDamage images m types j) (same_cause is)
      record { channel = same_channel is ∙ ap (λ (k : ℕ). home k id) many; reached = reached.0; wrong = record { not_root = reached.1; none = wrong } }
  search_damage n (searches.NoType id) many wrong reached is = subst (IsSearchDamage images m types j) (same_cause is)
      record { channel = same_channel is ∙ ap (λ (k : ℕ). home k id) many; reached = reached; wrong = wrong }
  search_damage n (searches.Form id) many wrong reached is = subst (IsSearchDamage images m types j) (same_cause is)
      record { channel = same_channel is ∙ ap (λ (k : ℕ). home k id) many; reached = reached; wrong = wrong }
  search_damage n (searches.Changed id) many wrong reached is = absurd wrong

pub search_not_full : (n bytes : ℕ) (e : SearchFault) → of_search n e ≡ Full bytes → ⊥
search_not_full n bytes searches.NoMemory is = cc
search_not_full n bytes searches.Fault is = cc
search_not_full n bytes (searches.Missing id) is = cc
search_not_full n bytes (searches.NoType id) is = cc
search_not_full n bytes (searches.Form id) is = cc
search_not_full n bytes (searches.Changed id) is = cc
