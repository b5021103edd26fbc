-- One byte more of the script.
use Rattle.std.proofs.Common.{[], ◌∷◌, ◌++◌, ℕ, List, subst, sym}
use Rattle.session_model.specs.Answer.{turn}
use Rattle.session_lines.specs.Limits.{most_bytes}
use Rattle.plain_storage.specs.Held.{PlainHeld}
use Rattle.plain_storage.specs.Keeping.{held_in}
use Rattle.store_run.specs.Answer.{opened_on, state_after}
use Rattle.store_run.specs.Lines.{lines_of}
use Rattle.store_run.specs.Progress.{IsPartAnswered, IsServed, Stops}
use Rattle.store_run.specs.Serving.{IsTurnCut}
use Rattle.store_run.specs.declared.stop.Stop.TheVariants as stop_
use Rattle.store_run.proofs.Stops.{if_stopped}
use Rattle.store_run.proofs.PartAnswers.{cut_answered, fed_lines, served_answered}
use Rattle.store_run.proofs.Served.{no_feed, served_byte, served_line, stands_images, stands_line}
use Rattle.store_run.proofs.serve.serve_byte.Goals as goal

pub returns-in_err-push-clause-stop : goal.returns-in_err-push-clause-stop
returns-in_err-push-clause-stop g c answers told clean =
    let session = c.args.session.now in
    let plain = c.args.plain.now in
    let written = g.K.Sink.written c.args.sink.now in
    let reads = g.D.Disk.reads c.args.disk.now in
    let leaves = g.D.Disk.leaves c.args.disk.now in
    if_stopped c.from_residual.result stop_.NoMemory (λ e. Stops session plain reads c.args.unended.now.items (c.args.byte ∷ []) e written written reads leaves) c.from_residual.ensures.1
    (λ start read written0 left served.
    served_answered start session plain reads read c.args.unended.now.items written0 written leaves stop_.NoMemory (c.args.byte ∷ left) served
    (stands_images start served.lines session plain reads leaves served.stands clean) (λ full. cc))

pub returns-then-byte-ne10-clause-served : goal.returns-then-byte-ne10-clause-served
returns-then-byte-ne10-clause-served g c answers told start read written0 served =
    let session = c.args.session.now in
    let plain = c.args.plain.now in
    let written = g.K.Sink.written c.args.sink.now in
    let reads = g.D.Disk.reads c.args.disk.now in
    let byte = c.args.byte in
    subst (λ (l : List ℕ). IsServed start session plain reads (read ++ byte ∷ []) l written0 written) (sym c.in_ok-push.ensures.items)
    (served_byte start session plain reads read c.args.unended.now.items written0 written byte (no_feed byte c.if-byte-ne10.true) served)

pub returns-in_err-serve_line-clause-stop : goal.returns-in_err-serve_line-clause-stop
returns-in_err-serve_line-clause-stop g c answers told clean =
    let session = c.args.session.now in
    let plain = c.args.plain.now in
    let reads = g.D.Disk.reads c.args.disk.now in
    let written = g.K.Sink.written c.args.sink.now in
    let written' = g.K.Sink.written c.serve_line.new.sink in
    let reads' = g.D.Disk.reads c.serve_line.new.disk in
    let leaves = g.D.Disk.leaves c.serve_line.new.disk in
    let e = c.in_err-serve_line.field-0.0 in
    let unended = c.args.unended.now.items in
    if_stopped c.from_residual-in_err-serve_line.result e (λ f. Stops session plain reads unended (c.args.byte ∷ []) f written written' reads' leaves) c.from_residual-in_err-serve_line.ensures.1
    (λ start read written0 left served.
    let now = state_after (opened_on start) served.lines in
    let cut = subst (λ (l : List ℕ). IsTurnCut (turn most_bytes now l) (held_in plain now.types) e written written' reads' leaves) c.deref.ensures.value
    (c.in_err-serve_line.ensures.stop answers told clean now served.stands.at_ served.stands.keeps) in
    let here = subst (λ (h : PlainHeld). IsTurnCut (turn most_bytes now unended) h e written written' reads' leaves) served.stands.held cut in
    subst (λ (b : ℕ). IsPartAnswered start (read ++ (b ∷ [] ++ left)) e written0 written' reads' leaves) (sym c.if-byte-ne10.false)
    (cut_answered start (read ++ (10 ∷ [] ++ left)) served.lines (lines_of left) unended e written0 written written' reads' leaves
    (fed_lines start session plain reads read unended written0 written left served) served.answered here))

pub returns-clause-served : goal.returns-clause-served
returns-clause-served g c answers told start read written0 served =
    let session = c.args.session.now in
    let session' = c.serve_line.new.session in
    let plain = c.args.plain.now in
    let plain' = c.serve_line.new.plain in
    let reads = g.D.Disk.reads c.args.disk.now in
    let reads' = g.D.Disk.reads c.serve_line.new.disk in
    let written = g.K.Sink.written c.args.sink.now in
    let written' = g.K.Sink.written c.serve_line.new.sink in
    let line = c.deref.result.now in
    let before = subst (λ (l : List ℕ). IsServed start session plain reads read l written0 written) (sym c.deref.ensures.value) served in
    let now = state_after (opened_on start) before.lines in
    let here = c.in_ok-serve_line.ensures in
    let at_ = before.stands.at_ in
    let stands = stands_line start before.lines line session session' plain plain' reads reads' before.stands (here.at now at_) (here.keeps told now at_ before.stands.keeps) (here.behind now at_) in
    let done = served_line start session session' plain plain' reads reads' read line written0 written written' before stands (here.answered answers now at_) in
    subst (λ (b : ℕ). IsServed start session' plain' reads' (read ++ b ∷ []) c.clear.new.self.items written0 written') (sym c.if-byte-ne10.false)
    (subst (λ (l : List ℕ). IsServed start session' plain' reads' (read ++ 10 ∷ []) l written0 written') (sym c.clear.ensures.items) done)
