-- A search finds the key's place, and a table without keys has none.
use Rattle.std.proofs.Common.{◌∙◌, arith}
use Rattle.oid_table.proofs.TableLemmas.{HasEmpty-sound, found_place, absent_place, get-none}
use Rattle.oid_table.proofs.table.OidTable.place_of.Goals as goal

pub returns-then-self-eq0-clause-absent : goal.returns-then-self-eq0-clause-absent
returns-then-self-eq0-clause-absent g c = rw (← c.self.view_is) (get-none _ c.args.key (c.self.invariant.sized ∙ c.if-self-eq0.true))

pub search-requires-clause-reached : goal.search-requires-clause-reached
search-requires-clause-reached g c = rw c.deref.ensures.value c.self.invariant.reached

pub search-requires-clause-empty : goal.search-requires-clause-empty
search-requires-clause-empty g c = let room = c.self.invariant.room in rw c.deref.ensures.value (HasEmpty-sound _ _ _ c.self.invariant (omega arith))

pub returns-clause-found : goal.returns-clause-found
returns-clause-found g c = rw (c.ok.ensures.value, ← c.self.view_is) (found_place _ c.args.key c.search.result (rw c.deref.ensures.value at c.search.ensures.searched))

pub returns-clause-absent : goal.returns-clause-absent
returns-clause-absent g c = rw (c.ok.ensures.value, ← c.self.view_is) (absent_place _ c.args.key c.search.result (rw c.deref.ensures.value at c.search.ensures.searched))
