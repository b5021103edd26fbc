-- The first file of the number is the one found.
use Rattle.std.proofs.Common.{arith}
use Rattle.store_io.proofs.FilesChanged.{place_step, place_stop, place_end}
use Rattle.store_io.proofs.files.find.Goals as goal

pub loop-place-init : goal.loop-place-init
loop-place-init c = omega arith

pub returns-then-m-file-clause-some : goal.returns-then-m-file-clause-some
returns-then-m-file-clause-some c =
    let here = place_stop c.args.files.now c.args.file c.loop-place.place c.index-files-place.result (omega arith) c.index-files-place.is c.if-m-file.true in
    (omega arith, omega arith)

pub loop-place-preserved : goal.loop-place-preserved
loop-place-preserved c =
    let next = place_step c.args.files.now c.args.file c.loop-place.place c.index-files-place.result (omega arith) c.index-files-place.is c.if-m-file.false in
    omega arith

pub returns-clause-none : goal.returns-clause-none
returns-clause-none c =
    let none = place_end c.args.files.now c.args.file c.loop-place.place (omega arith) in
    omega arith
