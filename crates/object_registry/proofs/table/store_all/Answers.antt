use Rattle.std.proofs.Common.{sym, take, arith}
use Rattle.std.proofs.lemmas.List.{take_more}
use Rattle.object_registry.specs.Entries.{held_in}
use Rattle.object_registry.proofs.EntryLemmas.{saved_instances-append, saved_instances-none}
use Rattle.object_registry.proofs.table.store_all.Goals as goal

pub loop-id-init : goal.loop-id-init
loop-id-init c = (sym (saved_instances-none (held_in c.args.table.now.entries)), c.requires)

pub loop-id-preserved : goal.loop-id-preserved
loop-id-preserved c =
    let before = held_in c.args.table.now.entries in
    let more = take_more c.args.ids.now c.loop-id.id-index 0 (omega arith) in
    (rw (c.store.ensures.saved, c.loop-id.invariant.0, more) (saved_instances-append before (take c.loop-id.id-index c.args.ids.now) _), c.store.ensures.ordered)
