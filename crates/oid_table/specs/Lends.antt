-- What an `OidTable` ends as, where a `&mut` to one of its values is returned.
use Rattle.std.specs.Prelude.{ℕ, Option}
use Rattle.std.specs.Borrow.{Lends, LendsIf, Fml, RattleType, MutBor}
use Rattle.oid_table.specs.Table.{Table, with_value, with_value_at_place}
use Rattle.oid_table.specs.contracts.table.OidTable.{the_row}

module _ (V : RattleType) (t : MutBor (Table V.Denot)) where
  -- once the borrow r ends, the key at the place has the last value written through r
  abbrev pub LendsPlace : ℕ → MutBor V.Denot → Fml
  LendsPlace place r = Lends (the_row V) V t r (with_value_at_place t.now place)

  -- the same of a key, where r is a reference, and at `None` the table stays as it is
  abbrev pub LendsGet : ℕ → Option (MutBor V.Denot) → Fml
  LendsGet key r = LendsIf (the_row V) V t r (with_value t.now key) t.now
