-- What the fields of a table keep.
use Rattle.std.specs.Prelude.{◌≡◌, ℕ, List, Some, map, slice_get}
use Rattle.refactor_table.specs.Index.{IsIndexOf}
use Rattle.refactor_table.specs.Names.{AreOfOneForm}
use Rattle.refactor_table.specs.declared.index.NameIndex.{NameIndex}
use Rattle.refactor_table.specs.declared.name.Pair.{Pair}
use Rattle.refactor_table.specs.declared.name.RefName.{RefName}

abbrev pub olds : List Pair → List RefName
olds rows = map (λ (row : Pair). row.old) rows

abbrev pub news : List Pair → List RefName
news rows = map (λ (row : Pair). row.new) rows

-- both names of each row are of one form, and each index finds the rows
pub record IsTable (rows : List Pair) (by_old by_new : NameIndex) : Type 0 where
  pub one_form : (k : ℕ) (row : Pair) → slice_get rows k ≡ Some row → AreOfOneForm row.old row.new
  pub old_rows : IsIndexOf (olds rows) by_old
  pub new_rows : IsIndexOf (news rows) by_new
