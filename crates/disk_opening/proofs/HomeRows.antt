-- The row of an id in the index of its channel, and what is wrong with its entity.
use Rattle.std.proofs.Common.{◌≡◌, ℕ, List, length, Some, None, Result, Ok, Err, IsErrAnd, IfErr, sym, ap, ◌∙◌, subst}
use Rattle.std.specs.FinMap.{get}
use Rattle.std.proofs.lemmas.List.{length-map}
use Rattle.core_steps.specs.Core.{home}
use Rattle.graph_model.specs.declared.entity.Entity.{Entity}
use Rattle.oid_table.specs.Table.{Table}
use Rattle.entity_index.specs.declared.row.Row.{Row}
use Rattle.type_desc.specs.declared.desc.TypeDesc.{TypeDesc}
use Rattle.channel.specs.Core.{bytes_at}
use Rattle.channel.specs.Entities.{entity_in}
use Rattle.channel.specs.Images.{Image}
use Rattle.recovery.specs.Images.{image_at}
use Rattle.recovery.specs.Reach.{Tables}
use Rattle.disk_opening.specs.RowTables.{entity_of_row, row_of, rows_at, rows_in, tables_in}
use Rattle.disk_opening.specs.SearchFaults.{IsFaultOf, IsFormFault, IsReadFault}
use Rattle.disk_opening.specs.declared.entities.SearchFault.{SearchFault}
use Rattle.disk_opening.specs.declared.entities.SearchFault.TheVariants.{NoMemory, Fault, Missing, NoType, Form, Changed}

module _ (indexes : List (Table Row)) (id place : ℕ) (row : Row) (at : place ≡ home (length indexes) id) (is : Some row ≡ row_of (rows_in indexes) id) where
  same_place : home (length (rows_in indexes)) id ≡ place
  same_place = ap (λ (n : ℕ). home n id) (length-map indexes (λ (t : Table Row). t.contents)) ∙ sym at

  pub home_row : get (rows_at (rows_in indexes) place) id ≡ Some row
  home_row = subst (λ (j : ℕ). get (rows_at (rows_in indexes) j) id ≡ Some row) same_place (sym is)

  pub table_row : (images : List Image) → tables_in images (rows_in indexes) id ≡ Some (entity_in (bytes_at (image_at images place) row))
  table_row images = ap (entity_of_row (image_at images (home (length (rows_in indexes)) id))) (sym is)
      ∙ ap (λ (j : ℕ). Some (entity_in (bytes_at (image_at images j) row))) same_place

pub table_none : (indexes : List (Table Row)) (id : ℕ) (images : List Image) → None ≡ row_of (rows_in indexes) id → tables_in images (rows_in indexes) id ≡ None
table_none indexes id images is = ap (entity_of_row (image_at images (home (length (rows_in indexes)) id))) (sym is)

-- FAULTS

pub read_fault : (types : List TypeDesc) (tables : Tables) (id : ℕ) (f : SearchFault) → IsReadFault f → IsFaultOf types tables id f
read_fault types tables id NoMemory is = tt
read_fault types tables id Fault is = tt
read_fault types tables id (Missing x) is = absurd is
read_fault types tables id (NoType x) is = absurd is
read_fault types tables id (Form x) is = absurd is
read_fault types tables id (Changed x) is = is

pub form_fault : (types : List TypeDesc) (tables : Tables) (id : ℕ) (e : Entity) (f : SearchFault) → tables id ≡ Some e → IsFormFault types id e f → IsFaultOf types tables id f
form_fault types tables id e NoMemory there is = tt
form_fault types tables id e Fault there is = absurd is
form_fault types tables id e (Missing x) there is = absurd is
form_fault types tables id e (NoType x) there is = (is.0, record { entity = e; there = there; unknown = is.1 })
form_fault types tables id e (Form x) there is = (is.0, record { entity = e; there = there; wrong = is.1 })
form_fault types tables id e (Changed x) there is = is

pub handed_on : {T E : Type 0} (r : Result T E) (e : E) (P : E → Type 0) → IsErrAnd r (λ f. f ≡ e) → P e → IfErr r P
handed_on (Ok x) e P is so = tt
handed_on (Err f) e P is so = subst P (sym is) so
