-- A search reaches each key, so no key stands at two places.
use Rattle.oid_table.proofs.TableLemmas.{IsPlaced-view}
use Rattle.oid_table.proofs.table.OidTable.places.Goals as goal

pub returns-clause-placed : goal.returns-clause-placed
returns-clause-placed g c = rw (← c.self.view_is) (IsPlaced-view _ _ c.self.invariant.reached)
