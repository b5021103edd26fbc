-- The entities that rows of an index stand for, and the tables of all channels that way.
use Rattle.std.specs.Prelude.{◌≡◌, ℕ, ◌+◌, ◌≤◌, List, length, get_or, map, option_map, Option, Some}
use Rattle.std.specs.FinMap.{FinMap, empty, get}
use Rattle.std.specs.Ordering.{nat_cmp}
use Rattle.data_file.specs.Headers.{IsHeaderAt}
use Rattle.graph_model.specs.declared.entity.Entity.{Entity}
use Rattle.core_steps.specs.Core.{home}
use Rattle.oid_table.specs.Table.{Table}
use Rattle.entity_index.specs.declared.row.Row.{Row}
use Rattle.channel.specs.Core.{bytes_at}
use Rattle.channel.specs.Entities.{entity_in}
use Rattle.channel.specs.Images.{Image}
use Rattle.recovery.specs.Images.{image_at}
use Rattle.recovery.specs.Reach.{Tables}

abbrev pub Rows : Type 0
Rows = FinMap nat_cmp Row

-- within its file the image has the row's header where the row says
pub record IsRowThere (image : Image) (row : Row) : Type 0 where
  pub within : row.at + row.header.length ≤ length (image row.file)
  pub header : IsHeaderAt (image row.file) row.at row.header

-- so it is with each row
abbrev pub AreRowsThere : Image → Rows → Type 0
AreRowsThere image rows = (id : ℕ) (row : Row) → get rows id ≡ Some row → IsRowThere image row

-- the entity that stands where a row says
abbrev pub entity_of_row : Image → Option Row → Option Entity
entity_of_row image row = option_map (λ (r : Row). entity_in (bytes_at image r)) row

-- the rows of each index
abbrev pub rows_in : List (Table Row) → List Rows
rows_in indexes = map (λ (t : Table Row). t.contents) indexes

abbrev pub rows_at : List Rows → ℕ → Rows
rows_at indexes j = get_or indexes j empty

-- the row of an id, in the index of its channel
abbrev pub row_of : List Rows → ℕ → Option Row
row_of indexes x = get (rows_at indexes (home (length indexes) x)) x

-- the tables that the indexes of all channels give over these images
abbrev pub tables_in : List Image → List Rows → Tables
tables_in images indexes x = entity_of_row (image_at images (home (length indexes) x)) (row_of indexes x)
