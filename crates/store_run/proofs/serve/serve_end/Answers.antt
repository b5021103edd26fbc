-- The last line is answered where it has a byte.
use Rattle.std.proofs.Common.{[], ℕ, List, sym, subst, ◌∙◌}
use Rattle.session_model.specs.Answer.{turn}
use Rattle.session_lines.specs.Limits.{most_bytes}
use Rattle.plain_storage.specs.Held.{PlainHeld}
use Rattle.store_run.specs.Answer.{opened_on, state_after}
use Rattle.store_run.specs.Progress.{IsPartAnswered, IsServed}
use Rattle.store_run.specs.Serving.{IsTurnCut}
use Rattle.store_run.proofs.Stops.{if_stopped}
use Rattle.store_run.proofs.PartAnswers.{cut_answered}
use Rattle.store_run.proofs.Served.{end_lines, line_finished, no_bytes, served_finished, some_bytes, stands_line}
use Rattle.store_run.proofs.serve.serve_end.Goals as goal

pub returns-then-is_empty-clause-finished : goal.returns-then-is_empty-clause-finished
returns-then-is_empty-clause-finished g c answers told start script written0 served =
    let unended = c.args.unended.now in
    served_finished start _ _ _ script unended written0 _ (no_bytes unended (sym c.is_empty.ensures ∙ c.if-is_empty.true)) served

pub returns-in_err-serve_line-clause-stop : goal.returns-in_err-serve_line-clause-stop
returns-in_err-serve_line-clause-stop g c answers told clean =
    let unended = c.args.unended.now in
    let some = some_bytes unended (sym c.is_empty.ensures ∙ c.if-is_empty.false) in
    let session = c.args.session.now in
    let plain = c.args.plain.now in
    let reads = g.D.Disk.reads c.args.disk.now in
    let written = g.K.Sink.written c.args.sink.now in
    let written' = g.K.Sink.written c.serve_line.new.sink in
    let reads' = g.D.Disk.reads c.serve_line.new.disk in
    let leaves = g.D.Disk.leaves c.serve_line.new.disk in
    let e = c.in_err-serve_line.field-0.0 in
    if_stopped c.from_residual.result e
    (λ f. (start : PlainHeld) (script written0 : List ℕ) → IsServed start session plain reads script unended written0 written → IsPartAnswered start script f written0 written' reads' leaves)
    c.from_residual.ensures.1
    (λ start script written0 served.
    let now = state_after (opened_on start) served.lines in
    let here = subst (λ (h : PlainHeld). IsTurnCut (turn most_bytes now unended) h e written written' reads' leaves) served.stands.held
    (c.in_err-serve_line.ensures.stop answers told clean now served.stands.at_ served.stands.keeps) in
    cut_answered start script served.lines [] unended e written0 written written' reads' leaves (end_lines start session plain reads script unended written0 written served some) served.answered here)

pub returns-clause-finished : goal.returns-clause-finished
returns-clause-finished g c answers told start script written0 served =
    let unended = c.args.unended.now in
    let some = some_bytes unended (sym c.is_empty.ensures ∙ c.if-is_empty.false) in
    let here = c.in_ok-serve_line.ensures in
    let now = state_after (opened_on start) served.lines in
    let at_ = served.stands.at_ in
    let stands = stands_line start served.lines unended _ _ _ _ _ _ served.stands (here.at now at_) (here.keeps told now at_ served.stands.keeps) (here.behind now at_) in
    line_finished start _ _ _ _ _ _ script unended written0 _ _ some served stands (here.answered answers now at_)
