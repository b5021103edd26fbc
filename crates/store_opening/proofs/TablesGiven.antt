-- The indexes of all channels give the tables of what the disks hold.
use Rattle.std.proofs.Common.{◌≡◌, ℕ, zero, suc, ◌<◌, List, [], ◌∷◌, length, Option, Some, None, refl, sym, ap, ◌∙◌, subst, arith, inl, inr}
use Rattle.std.specs.Prelude.{slice_get}
use Rattle.std.specs.FinMap.{empty, get, get-empty}
use Rattle.std.specs.Ordering.{nat_cmp}
use Rattle.std.proofs.lemmas.List.{length-map}
use Rattle.std.proofs.lemmas.Option.{slice_get_cases}
use Rattle.oid_table.specs.Table.{Table}
use Rattle.entity_index.specs.declared.row.Row.{Row}
use Rattle.core_steps.specs.Core.{home}
use Rattle.core_steps.proofs.Lists.{home_below}
use Rattle.channel.specs.Images.{Image}
use Rattle.recovery.specs.Images.{image_at}
use Rattle.recovery.specs.Stored.{tables_at}
use Rattle.disk_opening.specs.Indexes.{IsIndexAt}
use Rattle.disk_opening.specs.RowTables.{AreRowsThere, entity_of_row, rows_at, rows_in, tables_in}
use Rattle.disk_opening.proofs.RowsStand.{rows_stand, table_given}
use Rattle.store_opening.specs.Damage.{HaveChunksBelow}
use Rattle.store_opening.specs.IndexesRead.{AreIndexesAt}

rows_there : (indexes : List (Table Row)) (j : ℕ) (index : Table Row) → slice_get indexes j ≡ Some index → rows_at (rows_in indexes) j ≡ index.contents
rows_there [] j index is = absurd cc
rows_there (t ∷ indexes) zero index is = let same : t ≡ index = cc in ap (λ (q : Table Row). q.contents) same
rows_there (t ∷ indexes) (suc j) index is = rows_there indexes j index is

rows_past : (indexes : List (Table Row)) (j : ℕ) → slice_get indexes j ≡ None → rows_at (rows_in indexes) j ≡ empty
rows_past [] j is = refl
rows_past (t ∷ indexes) zero is = absurd cc
rows_past (t ∷ indexes) (suc j) is = rows_past indexes j is

none_there : (image : Image) → AreRowsThere image empty
none_there image id row is = absurd (nothing row (get-empty {X = Row} nat_cmp id) is)
  where
    nothing : {o : Option Row} (r : Row) → o ≡ None → o ≡ Some r → ⊥
    nothing r n s = cc

module _ (m next : ℕ) (images : List Image) (indexes : List (Table Row)) (many : length indexes ≡ length images) (right : HaveChunksBelow images m next (length images)) (index : AreIndexesAt m images indexes) where
  index_there : (j : ℕ) → j < length images → IsIndexAt m (image_at images j) (rows_at (rows_in indexes) j)
  index_there j lt = elim (slice_get_cases indexes j).1 [
    | inl t ↦ subst (IsIndexAt m (image_at images j)) (sym (rows_there indexes j t.0 t.2)) (index j t.0 t.2)
    | inr past ↦ absurd (omega (arith, past.0, many))
  ]

  pub rows_are_there : (j : ℕ) → AreRowsThere (image_at images j) (rows_at (rows_in indexes) j)
  rows_are_there j = elim (slice_get_cases indexes j).1 [
    | inl t ↦ let lt : j < length images = omega (arith, t.1, many) in
        rows_stand (length images) j next m (image_at images j) (right j lt) (rows_at (rows_in indexes) j) (index_there j lt)
    | inr past ↦ subst (AreRowsThere (image_at images j)) (sym (rows_past indexes j past.1)) (none_there (image_at images j))
  ]

  pub tables_given : 0 < length images → (x : ℕ) → tables_in images (rows_in indexes) x ≡ tables_at m images x
  tables_given some x =
      let n = length images in
      let same : length (rows_in indexes) ≡ n = length-map indexes (λ (t : Table Row). t.contents) ∙ many in
      let lt = home_below n x some in
      ap (λ (k : ℕ). entity_of_row (image_at images (home k x)) (get (rows_at (rows_in indexes) (home k x)) x)) same
      ∙ table_given n (home n x) next m (image_at images (home n x)) (right (home n x) lt) (rows_at (rows_in indexes) (home n x)) (index_there (home n x) lt) x
