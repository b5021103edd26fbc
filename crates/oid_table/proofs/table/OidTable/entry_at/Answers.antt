-- What stands at a place is in the map.
use Rattle.std.proofs.Common.{refl}
use Rattle.std.proofs.lemmas.Option.{slice_get_read}
use Rattle.oid_table.proofs.TableLemmas.{read_entry}
use Rattle.oid_table.proofs.table.OidTable.entry_at.Goals as goal

pub returns-clause-value : goal.returns-clause-value
returns-clause-value g c =
    let seen = rw c.deref.ensures.value at c.in_ok-get.ensures.lookup in
    let at = slice_get_read c.self.inside.slots.items _ c.args.place _ refl seen.3.0 seen.1 in
    rw (← c.self.view_is) (read_entry _ c.args.place _ (λ entry. (entry.0, entry.1.now)) c.entry.result c.self.invariant.reached at c.entry.ensures)
