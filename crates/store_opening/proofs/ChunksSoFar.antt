-- The chunks of the channels that were read so far, and of one more.
use Rattle.std.proofs.Common.{◌≡◌, ℕ, zero, suc, ◌+◌, ◌<◌, true, List, [], ◌∷◌, ◌++◌, length, set, get_or, map, Some, sym, subst, arith, inl, inr}
use Rattle.std.proofs.lemmas.Bool.{cases_order}
use Rattle.std.specs.FinMap.{empty, get-empty}
use Rattle.std.specs.Ordering.{nat_cmp}
use Rattle.std.specs.Prelude.{Option, None}
use Rattle.store_io.specs.Disk.{Only}
use Rattle.transactions_file.specs.Files.{is_live}
use Rattle.oid_table.specs.Table.{Table}
use Rattle.entity_index.specs.declared.row.Row.{Row}
use Rattle.channel.specs.ChunkRule.{HasRightChunks}
use Rattle.channel.specs.Images.{Image, state_of}
use Rattle.recovery.specs.Images.{image_at}
use Rattle.disk_opening.specs.Indexes.{HasRowsOfIds, IsIndexAt}
use Rattle.store_opening.specs.Damage.{HaveChunksBelow, IsFirstWrongChunk}
use Rattle.store_opening.specs.IndexesRead.{AreIndexesAt, AreLiveFilesSynced, HaveLiveFilesSynced, HaveRowsOfIds}
use Rattle.store_opening.specs.Left.{LeaveNoMore, Leaves, leaves_at}
use Rattle.store_opening.proofs.SyncedDisks.{each_more, only_still, only_there}

-- of the disk that was called
pub live_there : {A : Type 0} (reads : A → Image) (leaves : A → Leaves) (xs : List A) (j : ℕ) (x y : A) (files : List (ℕ × ℕ)) → j < length xs → files ≡ (state_of (image_at (map reads xs) j)).files
    → ((file : ℕ) → is_live files file ≡ true → Only (reads (get_or xs j x) file) (leaves y file)) → AreLiveFilesSynced (image_at (map reads xs) j) (leaves_at (map leaves (set xs j y)) j)
live_there reads leaves xs j x y files within same all file live =
    only_there reads leaves xs j x y file within (all file (subst (λ (l : List (ℕ × ℕ)). is_live l file ≡ true) (sym same) live))

-- NONE YET

pub right_at_first : (m next : ℕ) (images : List Image) → HaveChunksBelow images m next 0
right_at_first m next images i below = absurd (omega arith)

pub live_at_first : (images : List Image) (leaves : List Leaves) → HaveLiveFilesSynced 0 images leaves
live_at_first images leaves j below = absurd (omega arith)

no_rows : HasRowsOfIds empty
no_rows id row is = absurd (nothing row (get-empty {X = Row} nat_cmp id) is)
  where
    nothing : {o : Option Row} (r : Row) → o ≡ None → o ≡ Some r → ⊥
    nothing r n s = cc

pub rows_at_first : (indexes : List (Table Row)) → indexes ≡ [] → HaveRowsOfIds indexes
rows_at_first [] none j = no_rows
rows_at_first (t ∷ indexes) none j = absurd cc

-- ONE MORE

pub right_more : (n m next place : ℕ) (images : List Image) → length images ≡ n → HaveChunksBelow images m next place → HasRightChunks n place next m (image_at images place) → HaveChunksBelow images m next (place + 1)
right_more n m next place images many all here i below = elim (cases_order i place) [
  | inl e ↦ subst (λ (j : ℕ). HasRightChunks (length images) j next m (image_at images j)) (sym e) (subst (λ (k : ℕ). HasRightChunks k place next m (image_at images place)) (sym many) here)
  | inr (inl lt) ↦ all i lt
  | inr (inr gt) ↦ absurd (omega arith)
]

pub indexes_more : (m place : ℕ) (images : List Image) (indexes : List (Table Row)) (t : Table Row) → length indexes ≡ place → AreIndexesAt m images indexes → IsIndexAt m (image_at images place) t.contents
    → AreIndexesAt m images (indexes ++ t ∷ [])
indexes_more m place images indexes t count all here = each_more (λ (j : ℕ) (k : Table Row). IsIndexAt m (image_at images j) k.contents) indexes t all
    (subst (λ (j : ℕ). IsIndexAt m (image_at images j) t.contents) (sym count) here)

pub rows_more : (indexes : List (Table Row)) (t : Table Row) → HaveRowsOfIds indexes → HasRowsOfIds t.contents → HaveRowsOfIds (indexes ++ t ∷ [])
rows_more [] t all here zero = here
rows_more [] t all here (suc j) = no_rows
rows_more (s ∷ indexes) t all here zero = all 0
rows_more (s ∷ indexes) t all here (suc j) = rows_more indexes t (λ i. all (suc i)) here j

pub live_more : (place : ℕ) (images : List Image) (old new : List Leaves) → HaveLiveFilesSynced place images old → LeaveNoMore old new
    → AreLiveFilesSynced (image_at images place) (leaves_at new place) → HaveLiveFilesSynced (place + 1) images new
live_more place images old new all less here i below = elim (cases_order i place) [
  | inl e ↦ subst (λ (j : ℕ). AreLiveFilesSynced (image_at images j) (leaves_at new j)) (sym e) here
  | inr (inl lt) ↦ λ file live. only_still file (image_at images i file) old new i less (all i lt file live)
  | inr (inr gt) ↦ absurd (omega arith)
]

pub first_wrong_chunk : (n m next j place : ℕ) (images : List Image) → length images ≡ n → place < n → HaveChunksBelow images m next place → j ≡ place
    → (HasRightChunks n place next m (image_at images place) → ⊥) → IsFirstWrongChunk images m next j
first_wrong_chunk n m next j place images many within all is wrong = subst (IsFirstWrongChunk images m next) (sym is) record {
  within = omega (arith, many);
  front = all;
  wrong = λ right. wrong (subst (λ (k : ℕ). HasRightChunks k place next m (image_at images place)) many right);
}
