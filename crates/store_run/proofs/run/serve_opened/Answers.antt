-- A script is served over a storage that was opened.
use Rattle.plain_storage.specs.Keeping.{held_in}
use Rattle.store_run.specs.declared.stop.Stop.TheVariants as stop_
use Rattle.store_run.proofs.Opened.{first_stands}
use Rattle.store_run.proofs.PartAnswers.{nothing_answered}
use Rattle.store_run.proofs.Promise.{stopped_run}
use Rattle.store_run.proofs.Served.{clean_images}
use Rattle.store_run.proofs.run.serve_opened.Goals as goal

pub returns-in-Ok-clause-run : goal.returns-in-Ok-clause-run
returns-in-Ok-clause-run g c takes answers told clean =
    let plain = c.args.plain.now in
    let types = c.args.types in
    c.serve_script.ensures.run takes answers told clean (held_in plain types) (first_stands plain types c.in-Ok.session (g.D.Disk.reads c.args.disk.now) c.in-Ok.ensures.at (c.requires.keeps told))

pub returns-in-Err-clause-run : goal.returns-in-Err-clause-run
returns-in-Err-clause-run g c takes answers told clean =
    let start = held_in c.args.plain.now c.args.types in
    let script = g.S.Source.left c.args.source.now in
    let written = g.K.Sink.written c.args.sink.now in
    let reads = g.D.Disk.reads c.args.disk.now in
    let leaves = g.D.Disk.leaves c.args.disk.now in
    let keeps = c.requires.keeps told in
    stopped_run start script script written written reads leaves stop_.NoMemory
    (nothing_answered start script stop_.NoMemory written reads leaves (clean_images start reads leaves clean keeps.stored) (λ full. cc))
