-- Nothing is served before there is a buffer.
use Rattle.std.proofs.Common.{[], refl, sym}
use Rattle.std.proofs.lemmas.List.{append-nil}
use Rattle.store_run.specs.Lines.{lines_of}
use Rattle.store_run.specs.Progress.{IsPartAnswered}
use Rattle.store_run.specs.declared.stop.Stop.TheVariants as stop_
use Rattle.store_run.proofs.Stops.{if_stopped}
use Rattle.store_run.proofs.PartAnswers.{whole_lines_answered}
use Rattle.store_run.proofs.Served.{stands_images}
use Rattle.store_run.proofs.input.serve_source.Goals as goal

pub returns-in_err-buf-clause-stop : goal.returns-in_err-buf-clause-stop
returns-in_err-buf-clause-stop g c takes answers told clean start stands =
    let script = g.S.Source.left c.args.source.now in
    let reads = g.D.Disk.reads c.args.disk.now in
    let leaves = g.D.Disk.leaves c.args.disk.now in
    let written = g.K.Sink.written c.args.sink.now in
    if_stopped c.from_residual.result stop_.NoMemory (λ e. IsPartAnswered start script e written written reads leaves) c.from_residual.ensures.1
    (whole_lines_answered start script [] (lines_of script) stop_.NoMemory written written reads leaves refl (sym (append-nil written))
    (stands_images start [] c.args.session.now c.args.plain.now reads leaves stands clean) (λ full. cc))
