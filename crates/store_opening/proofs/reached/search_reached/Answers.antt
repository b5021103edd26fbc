-- The tables of the indexes are searched.
use Rattle.std.proofs.Common.{◌∙◌, map, sym, subst, arith}
use Rattle.std.proofs.lemmas.List.{length-map}
use Rattle.recovery.specs.Reach.{Tables}
use Rattle.disk_opening.specs.SearchFaults.{IsFaultAt, IsReachedFault, IsSearchedWhole}
use Rattle.store_opening.proofs.ChunkDamage.{inside, same_tables, search_damage}
use Rattle.store_opening.proofs.TablesGiven.{rows_are_there}
use Rattle.store_opening.proofs.reached.search_reached.Goals as goal

pub search-requires-clause-there : goal.search-requires-clause-there
search-requires-clause-there g c tells =
    let images = map g.D.Disk.reads c.args.disks.now in
    let t = c.requires.read tells in
    rows_are_there t.0 t.1 images c.args.indexes.now (c.requires.many ∙ sym (length-map c.args.disks.now g.D.Disk.reads)) t.2.right t.2.indexes_are

pub returns-in-Ok-clause-found : goal.returns-in-Ok-clause-found
returns-in-Ok-clause-found g c tells m next is =
    let images = map g.D.Disk.reads c.args.disks.now in
    let many = sym (length-map c.args.disks.now g.D.Disk.reads) in
    let same = same_tables m next images c.args.indexes.now (c.requires.many ∙ many) is (omega (arith, many, c.requires.some)) in
    subst (λ (t : Tables). IsSearchedWhole c.args.types.now t c.in-Ok.found.keys) same (c.in-Ok.ensures.found tells)

pub returns-in-Err-clause-damaged : goal.returns-in-Err-clause-damaged
returns-in-Err-clause-damaged g c tells m next is j cause told =
    let images = map g.D.Disk.reads c.args.disks.now in
    let many = sym (length-map c.args.disks.now g.D.Disk.reads) in
    let same = same_tables m next images c.args.indexes.now (c.requires.many ∙ many) is (omega (arith, many, c.requires.some)) in
    search_damage images m c.args.types.now j cause _ c.in-Err.fault many
    (subst (λ (t : Tables). IsFaultAt c.args.types.now t c.in-Err.fault) same (c.in-Err.ensures.fault tells))
    (subst (λ (t : Tables). IsReachedFault t c.in-Err.fault) same (c.in-Err.ensures.reached tells))
    (sym c.of_search.ensures ∙ inside told)
