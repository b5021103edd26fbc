-- A store is kept on the disk and in memory.
use Rattle.std.proofs.Common.{arith, ap}
use Rattle.plain_storage.specs.Keeping.{Plain}
use Rattle.plain_storage.proofs.GoodStores.{good_store}
use Rattle.plain_storage.proofs.Serving.{store_keeps, store_stops}
use Rattle.plain_storage.proofs.storage.PlainStorage.store.Goals as goal

pub keep_store-requires-clause-good : goal.keep_store-requires-clause-good
keep_store-requires-clause-good g c = (good_store c.args.self.now c.args.op c.requires.may).0

pub returns-in_err-keep_store-clause-stop : goal.returns-in_err-keep_store-clause-stop
returns-in_err-keep_store-clause-stop g c told clean held next stored same with =
    let reads = g.D.Disk.reads in
    let leaves = g.D.Disk.leaves in
    let old = c.args.disk.now in
    let new = c.keep_store.new.disk in
    store_stops (reads old) (reads new) (leaves old) (leaves new) (c.keep_store.ensures.others told) c.args.op held next clean stored
    (omega (arith, same, (good_store c.args.self.now c.args.op c.requires.may).1)) (c.keep_store.ensures.stop told clean.stores) with

pub returns-in_default-clause-stop : goal.returns-in_default-clause-stop
returns-in_default-clause-stop g c told clean held next stored same with =
    let reads = g.D.Disk.reads in
    let leaves = g.D.Disk.leaves in
    let old = c.args.disk.now in
    let new = c.keep_store.new.disk in
    store_stops (reads old) (reads new) (leaves old) (leaves new) (c.keep_store.ensures.others told) c.args.op held next clean stored
    (omega (arith, same, (good_store c.args.self.now c.args.op c.requires.may).1)) (c.keep_store.ensures.stop told clean.stores) with

pub returns-clause-stop : goal.returns-clause-stop
returns-clause-stop g c told clean held next stored same with =
    let reads = g.D.Disk.reads in
    let leaves = g.D.Disk.leaves in
    let old = c.args.disk.now in
    let new = c.keep_store.new.disk in
    store_stops (reads old) (reads new) (leaves old) (leaves new) (c.keep_store.ensures.others told) c.args.op held next clean stored
    (omega (arith, same, (good_store c.args.self.now c.args.op c.requires.may).1)) (c.keep_store.ensures.stop told clean.stores) with

pub returns-clause-keeps : goal.returns-clause-keeps
returns-clause-keeps g c told types next_types keeps with =
    let reads = g.D.Disk.reads in
    let leaves = g.D.Disk.leaves in
    let old = c.args.disk.now in
    let new = c.keep_store.new.disk in
    store_keeps (reads old) (reads new) (leaves old) (leaves new) (c.keep_store.ensures.others told) c.args.op c.args.self.now _ types next_types keeps
    (c.in_ok-keep_store.ensures.open_log told) (ap (λ (p : Plain). p.types_log) c.self.view_is) (good_store c.args.self.now c.args.op c.requires.may).1
    (c.in_ok-keep_store.ensures.kept told) with
