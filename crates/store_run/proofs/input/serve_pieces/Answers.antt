-- The pieces of a source are served one by one.
use Rattle.std.proofs.Common.{◌≡◌, [], ◌++◌, ℕ, List, length, take, drop, ap, subst, sym, ◌∙◌, arith, append_assoc, length-append, refl}
use Rattle.std.proofs.lemmas.List.{append-nil, length-take, drop_at}
use Rattle.store_run.specs.Progress.{IsFinished, IsPartAnswered, IsServed}
use Rattle.store_run.specs.declared.stop.Stop.TheVariants as stop_
use Rattle.store_run.proofs.Others.{others_same, others_then}
use Rattle.store_run.proofs.Stops.{if_stopped}
use Rattle.store_run.proofs.PartAnswers.{served_answered}
use Rattle.store_run.proofs.Served.{nothing_served, stands_images}
use Rattle.store_run.proofs.input.serve_pieces.Goals as goal

pub returns-in_err-n-clause-stop : goal.returns-in_err-n-clause-stop
returns-in_err-n-clause-stop g c takes answers told clean start stands =
    let so = c.loop-taken.invariant in
    let part = so.so_far takes in
    let session = c.loop-taken.session in
    let plain = c.loop-taken.plain in
    let reads = g.D.Disk.reads c.loop-taken.disk in
    let leaves = g.D.Disk.leaves c.loop-taken.disk in
    let written0 = g.K.Sink.written c.args.sink.now in
    let written = g.K.Sink.written c.loop-taken.sink in
    let served = part.3 answers told start stands in
    if_stopped c.from_residual.result stop_.ReadFault (λ e. IsPartAnswered start (g.S.Source.left c.args.source.now) e written0 written reads leaves) c.from_residual.ensures.1
    (subst (λ (l : List ℕ). IsPartAnswered start l stop_.ReadFault written0 written reads leaves) (sym part.2)
    (served_answered start session plain reads part.0 c.loop-taken.unended.items written0 written leaves stop_.ReadFault (g.S.Source.left c.loop-taken.source) served
    (stands_images start served.lines session plain reads leaves served.stands (so.clean told clean)) (λ full. cc)))

pub returns-clause-stop : goal.returns-clause-stop
returns-clause-stop g c takes answers told clean start stands =
    let so = c.loop-taken.invariant in
    let part = so.so_far takes in
    let session = c.loop-taken.session in
    let plain = c.loop-taken.plain in
    let reads = g.D.Disk.reads c.loop-taken.disk in
    let leaves = g.D.Disk.leaves c.loop-taken.disk in
    let written0 = g.K.Sink.written c.args.sink.now in
    let written = g.K.Sink.written c.loop-taken.sink in
    let served = part.3 answers told start stands in
    subst (λ (l : List ℕ). IsPartAnswered start l stop_.InputTooLong written0 written reads leaves) (sym part.2)
    (served_answered start session plain reads part.0 c.loop-taken.unended.items written0 written leaves stop_.InputTooLong (g.S.Source.left c.loop-taken.source) served
    (stands_images start served.lines session plain reads leaves served.stands (so.clean told clean)) (λ full. cc))

pub returns-then-n-eq0-clause-finished : goal.returns-then-n-eq0-clause-finished
returns-then-n-eq0-clause-finished g c takes answers told start stands =
    let so = c.loop-taken.invariant in
    let part = so.so_far takes in
    let written0 = g.K.Sink.written c.args.sink.now in
    let all : part.0 ≡ g.S.Source.left c.args.source.now = sym (append-nil part.0) ∙ ap (λ (l : List ℕ). part.0 ++ l) (sym (c.in_ok-n.ensures.end takes c.if-n-eq0.true)) ∙ sym part.2 in
    let served = subst (λ (l : List ℕ). IsServed start c.loop-taken.session c.loop-taken.plain (g.D.Disk.reads c.loop-taken.disk) part.0 l written0 (g.K.Sink.written c.loop-taken.sink))
    (sym c.deref.ensures.value) (part.3 answers told start stands) in
    subst (λ (l : List ℕ). IsFinished start c.serve_end.new.session c.serve_end.new.plain (g.D.Disk.reads c.serve_end.new.disk) l written0 (g.K.Sink.written c.serve_end.new.sink)) all
    (c.in_ok-serve_end.ensures.finished answers told start part.0 written0 served)

pub returns-in_err-serve_end-clause-stop : goal.returns-in_err-serve_end-clause-stop
returns-in_err-serve_end-clause-stop g c takes answers told clean start stands =
    let so = c.loop-taken.invariant in
    let part = so.so_far takes in
    let written0 = g.K.Sink.written c.args.sink.now in
    let e = c.in_err-serve_end.field-0.0 in
    let all : part.0 ≡ g.S.Source.left c.args.source.now = sym (append-nil part.0) ∙ ap (λ (l : List ℕ). part.0 ++ l) (sym (c.in_ok-n.ensures.end takes c.if-n-eq0.true)) ∙ sym part.2 in
    let served = subst (λ (l : List ℕ). IsServed start c.loop-taken.session c.loop-taken.plain (g.D.Disk.reads c.loop-taken.disk) part.0 l written0 (g.K.Sink.written c.loop-taken.sink))
    (sym c.deref.ensures.value) (part.3 answers told start stands) in
    if_stopped c.from_residual-in_err-serve_end.result e
    (λ f. IsPartAnswered start (g.S.Source.left c.args.source.now) f written0 (g.K.Sink.written c.serve_end.new.sink) (g.D.Disk.reads c.serve_end.new.disk) (g.D.Disk.leaves c.serve_end.new.disk)) c.from_residual-in_err-serve_end.ensures.1
    (subst (λ (l : List ℕ). IsPartAnswered start l e written0 (g.K.Sink.written c.serve_end.new.sink) (g.D.Disk.reads c.serve_end.new.disk) (g.D.Disk.leaves c.serve_end.new.disk)) all
    (c.in_err-serve_end.ensures.stop answers told (so.clean told clean) start part.0 written0 served))

pub returns-in_err-serve_piece-clause-stop : goal.returns-in_err-serve_piece-clause-stop
returns-in_err-serve_piece-clause-stop g c takes answers told clean start stands =
    let so = c.loop-taken.invariant in
    let part = so.so_far takes in
    let written0 = g.K.Sink.written c.args.sink.now in
    let e = c.in_err-serve_piece.field-0.0 in
    let piece = take c.in_ok-n.n c.read_piece.new.buf in
    let left = g.S.Source.left c.read_piece.new.source in
    let all : g.S.Source.left c.args.source.now ≡ part.0 ++ (piece ++ left) = part.2 ∙ ap (λ (l : List ℕ). part.0 ++ l) (c.in_ok-n.ensures.given takes) in
    if_stopped c.from_residual-in_err-serve_piece.result e
    (λ f. IsPartAnswered start (g.S.Source.left c.args.source.now) f written0 (g.K.Sink.written c.serve_piece.new.sink) (g.D.Disk.reads c.serve_piece.new.disk) (g.D.Disk.leaves c.serve_piece.new.disk)) c.from_residual-in_err-serve_piece.ensures.1
    (subst (λ (l : List ℕ). IsPartAnswered start l e written0 (g.K.Sink.written c.serve_piece.new.sink) (g.D.Disk.reads c.serve_piece.new.disk) (g.D.Disk.leaves c.serve_piece.new.disk)) (sym all)
    (c.in_err-serve_piece.ensures.stop answers told (so.clean told clean) start part.0 written0 left (part.3 answers told start stands)))

pub loop-taken-preserved : goal.loop-taken-preserved
loop-taken-preserved g c =
    let so = c.loop-taken.invariant in
    let piece = take c.in_ok-n.n c.read_piece.new.buf in
    let left = g.S.Source.left c.read_piece.new.source in
    record {
      buf = c.read_piece.auto.buf ∙ so.buf;
      within = omega (arith, c.in_ok-n.ensures.room);
      at_ = c.in_ok-serve_piece.ensures.at;
      logs = c.in_ok-serve_piece.ensures.logs;
      clean = λ told clean. c.in_ok-serve_piece.ensures.clean told (so.clean told clean);
      others = λ told. others_then (so.others told) (c.serve_piece.ensures.others told);
      so_far = λ takes.
          let part = so.so_far takes in (
            part.0 ++ piece,
            omega (arith, part.1, length-append part.0 piece, length-take {A = ℕ} c.in_ok-n.n c.read_piece.new.buf, c.in_ok-n.ensures.count),
            part.2 ∙ ap (λ (l : List ℕ). part.0 ++ l) (c.in_ok-n.ensures.given takes) ∙ sym (append_assoc part.0 piece left),
            λ answers told start stands. c.in_ok-serve_piece.ensures.served answers told start part.0 (g.K.Sink.written c.args.sink.now) (part.3 answers told start stands),
          );
      source_faults = omega (arith, so.source_faults, c.read_piece.ensures.faults);
      sink_faults = omega (arith, so.sink_faults, c.serve_piece.ensures.causes.sink_faults);
      disk_faults = omega (arith, so.disk_faults, c.serve_piece.ensures.causes.disk_faults);
    }

pub loop-taken-init : goal.loop-taken-init
loop-taken-init g c =
    let session = c.args.session.now in
    let plain = c.args.plain.now in
    let reads = g.D.Disk.reads c.args.disk.now in
    let written = g.K.Sink.written c.args.sink.now in
    record {
      buf = refl;
      within = omega arith;
      at_ = c.requires.at;
      logs = c.requires.logs;
      clean = λ told clean. clean;
      others = λ told. others_same;
      so_far = λ takes. (
        [],
        refl,
        refl,
        λ answers told start stands. subst (λ (l : List ℕ). IsServed start session plain reads [] l written written) (sym c.new-unended.ensures.items) (nothing_served start session plain reads written stands),
      );
      source_faults = omega arith;
      sink_faults = omega arith;
      disk_faults = omega arith;
    }

pub returns-clause-too_long : goal.returns-clause-too_long
returns-clause-too_long g c takes is =
    let part = c.loop-taken.invariant.so_far takes in
    let left = g.S.Source.left c.loop-taken.source in
    let all : length part.0 ≡ 268435456 = omega (arith, part.1, c.loop-taken.invariant.within) in
    (omega (arith, all, ap length part.2, length-append part.0 left), sym (ap (drop 268435456) part.2 ∙ drop_at part.0 left 268435456 all))
