-- The bytes of a piece are served one by one.
use Rattle.std.proofs.Common.{◌++◌, ◌+◌, ◌<◌, ℕ, List, length, take, drop, subst, arith}
use Rattle.std.proofs.lemmas.List.{take_all}
use Rattle.store_run.specs.Progress.{IsPartAnswered, IsServed, Stops}
use Rattle.store_run.proofs.Others.{others_then}
use Rattle.store_run.proofs.Stops.{if_stopped}
use Rattle.store_run.proofs.PartAnswers.{piece_more, piece_split}
use Rattle.store_run.proofs.serve.serve_piece.Goals as goal

pub returns-in_err-serve_byte-clause-stop : goal.returns-in_err-serve_byte-clause-stop
returns-in_err-serve_byte-clause-stop g c answers told clean =
    let i = c.loop-byte.byte-index in
    let piece = c.args.piece.now in
    let within : i < length piece = omega arith in
    let e = c.in_err-serve_byte.field-0.0 in
    let written' = g.K.Sink.written c.serve_byte.new.sink in
    let reads' = g.D.Disk.reads c.serve_byte.new.disk in
    let leaves = g.D.Disk.leaves c.serve_byte.new.disk in
    if_stopped c.from_residual.result e (λ f. Stops c.args.session.now c.args.plain.now (g.D.Disk.reads c.args.disk.now) c.args.unended.now.items piece f (g.K.Sink.written c.args.sink.now) written' reads' leaves) c.from_residual.ensures.1
    (λ start read written0 left served.
    subst (λ (l : List ℕ). IsPartAnswered start l e written0 written' reads' leaves) (piece_split read piece left i within)
    (c.in_err-serve_byte.ensures.stop answers told (c.loop-byte.invariant.clean told clean) start (read ++ take i piece) written0 (drop (i + 1) piece ++ left)
    (c.loop-byte.invariant.served answers told start read written0 served)))

pub loop-byte-preserved : goal.loop-byte-preserved
loop-byte-preserved g c =
    let so = c.loop-byte.invariant in
    let i = c.loop-byte.byte-index in
    let piece = c.args.piece.now in
    let within : i < length piece = omega arith in
    record {
      at_ = c.in_ok-serve_byte.ensures.at;
      logs = c.in_ok-serve_byte.ensures.logs;
      clean = λ told clean. c.in_ok-serve_byte.ensures.clean told (so.clean told clean);
      others = λ told. others_then (so.others told) (c.serve_byte.ensures.others told);
      served = λ answers told start read written0 served.
          subst (λ (l : List ℕ). IsServed start c.serve_byte.new.session c.serve_byte.new.plain (g.D.Disk.reads c.serve_byte.new.disk) l c.serve_byte.new.unended.items written0 (g.K.Sink.written c.serve_byte.new.sink))
          (piece_more read piece i within)
          (c.in_ok-serve_byte.ensures.served answers told start (read ++ take i piece) written0 (so.served answers told start read written0 served));
      disk_faults = omega (arith, so.disk_faults, c.serve_byte.ensures.causes.disk_faults);
      sink_faults = omega (arith, so.sink_faults, c.serve_byte.ensures.causes.sink_faults);
    }

pub returns-clause-served : goal.returns-clause-served
returns-clause-served g c answers told start read written0 served =
    let i = c.loop-byte.byte-index in
    let piece = c.args.piece.now in
    subst (λ (l : List ℕ). IsServed start c.loop-byte.session c.loop-byte.plain (g.D.Disk.reads c.loop-byte.disk) (read ++ l) c.loop-byte.unended.items written0 (g.K.Sink.written c.loop-byte.sink))
    (take_all i piece (omega arith)) (c.loop-byte.invariant.served answers told start read written0 served)
