-- A script is served from where the session stands.
use Rattle.std.proofs.Common.{sym, subst}
use Rattle.store_run.specs.Run.{IsRun}
use Rattle.store_run.proofs.Promise.{finished_run, stopped_run}
use Rattle.store_run.proofs.run.serve_script.Goals as goal

pub returns-in-Ok-clause-run : goal.returns-in-Ok-clause-run
returns-in-Ok-clause-run g c takes answers told clean start stands =
    finished_run start c.serve_source.new.session c.serve_source.new.plain (g.D.Disk.reads c.serve_source.new.disk) (g.S.Source.left c.args.source.now) (g.S.Source.left c.serve_source.new.source)
    (g.K.Sink.written c.args.sink.now) (g.K.Sink.written c.serve_source.new.sink) (g.D.Disk.leaves c.serve_source.new.disk)
    (c.in-Ok.ensures.finished takes answers told start stands) (c.in-Ok.ensures.clean told clean) (c.in-Ok.ensures.at_end takes)

pub returns-in-Err-clause-run : goal.returns-in-Err-clause-run
returns-in-Err-clause-run g c takes answers told clean start stands =
    let script = g.S.Source.left c.args.source.now in
    let left = g.S.Source.left c.serve_source.new.source in
    let written0 = g.K.Sink.written c.args.sink.now in
    let written = g.K.Sink.written c.serve_source.new.sink in
    let reads = g.D.Disk.reads c.serve_source.new.disk in
    let leaves = g.D.Disk.leaves c.serve_source.new.disk in
    subst (λ status. IsRun start status script left written0 written reads leaves) (sym c.status_of.ensures)
    (stopped_run start script left written0 written reads leaves c.in-Err.stop (c.in-Err.ensures.stop takes answers told clean start stands))
