-- What was in the old slots is in those that are left and in the new ones, and no key is in both.
use Rattle.std.proofs.Common.{vec_len}
use Rattle.oid_table.proofs.PourLemmas.{IsPoured}
use Rattle.oid_table.proofs.probing.refill.Given as goal

abbrev pub invariant-keys : goal.invariant-keys
invariant-keys g l = IsPoured l.fn.old.items l.old.items l.slots

abbrev pub decreases-keys : goal.decreases-keys
decreases-keys g l = vec_len l.old
