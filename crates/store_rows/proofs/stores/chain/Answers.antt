use Rattle.std.proofs.Common.{[]}
use Rattle.storer.proofs.KnownTypes.{known-stored}
use Rattle.store_rows.proofs.stores.chain.Goals as goal

pub returns : goal.returns
returns c = rw c.stored.ensures.saved (known-stored [] c.put-3.new.registry.instances _ c.in_ok-put-3.ensures)
