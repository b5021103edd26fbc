-- What comes next is carried out, or the run ends within the line.
use Rattle.std.proofs.Common.{◌≡◌, ◌++◌, IsErrOf, List, ℕ, take, refl, subst, arith}
use Rattle.graph_model.specs.declared.ask.StorageFault.TheVariants as storage
use Rattle.session.specs.Dealing.{IsDueStep}
use Rattle.session.specs.declared.session.SessionStep.{SessionStep as Step}
use Rattle.plain_storage.specs.Logs.{HasFullLog}
use Rattle.store_run.specs.Faults.{storage_stop}
use Rattle.store_run.specs.Serving.{IsTurnCut}
use Rattle.store_run.specs.Within.{IsWithin, any_record}
use Rattle.store_run.specs.declared.stop.Stop.{Stop}
use Rattle.store_run.specs.declared.stop.Stop.TheVariants as stop
use Rattle.store_run.proofs.CutWithin.{ask_cut, print_cut}
use Rattle.store_run.proofs.StepsWithin.{printed_within, served_within}
use Rattle.store_run.proofs.Stops.{failed_so, if_stopped, not_of_storage, some_full, stopped_is, storage_failed, storage_full}
use Rattle.store_run.proofs.line.carry_on.Goals as goal

pub returns-in_ok-reply-in-Ask-clause-carried : goal.returns-in_ok-reply-in-Ask-clause-carried
returns-in_ok-reply-in-Ask-clause-carried g c session kept line tells within =
    let now = g.D.Disk.reads c.args.disk.now in
    let written = g.K.Sink.written c.args.sink.now in
    let asked = subst (λ (s : Step). IsWithin g.K.Sink.tells kept line (IsDueStep any_record s session) c.args.plain.now now written) c.in-Ask.is within in
    served_within g.K.Sink.tells kept line c.in-Ask.ask session c.args.plain.now c.serve.new.self now (g.D.Disk.reads c.serve.new.disk) written c.in_ok-reply-in-Ask.reply asked
    c.in_ok-reply-in-Ask.ensures.served (λ k. c.in_ok-reply-in-Ask.ensures.keeps (tells k))

pub returns-in_ok-put-in-Print-clause-carried : goal.returns-in_ok-put-in-Print-clause-carried
returns-in_ok-put-in-Print-clause-carried g c session kept line tells within =
    let now = g.D.Disk.reads c.args.disk.now in
    let written = g.K.Sink.written c.args.sink.now in
    let same : c.as_slice.result.now ≡ c.in-Print.line = cc in
    let printed = subst (λ (s : Step). IsWithin g.K.Sink.tells kept line (IsDueStep any_record s session) c.args.plain.now now written) c.in-Print.is within in
    printed_within g.K.Sink.tells kept line c.in-Print.line session c.args.plain.now now written (g.K.Sink.written c.put.new.self) printed
    (λ t. subst (λ (b : List ℕ). g.K.Sink.written c.put.new.self ≡ written ++ b) same (c.in_ok-put-in-Print.ensures.ok t))

pub returns-in_err-reply-in-Ask-clause-stop : goal.returns-in_err-reply-in-Ask-clause-stop
returns-in_err-reply-in-Ask-clause-stop g c answers tells clean session kept line k within =
    let now = g.D.Disk.reads c.args.disk.now in
    let written = g.K.Sink.written c.args.sink.now in
    let fault = c.in_err-reply-in-Ask.field-0.0 in
    let asked = subst (λ (s : Step). IsWithin g.K.Sink.tells kept line (IsDueStep any_record s session) c.args.plain.now now written) c.in-Ask.is within in
    if_stopped c.from_residual.result (storage_stop fault) (λ (e : Stop). IsTurnCut line.turn line.held e line.written written (g.D.Disk.reads c.serve.new.disk) (g.D.Disk.leaves c.serve.new.disk)) c.from_residual.ensures.1
    (ask_cut g.K.Sink.tells kept line c.in-Ask.ask session c.args.plain.now now written (g.D.Disk.reads c.serve.new.disk) (g.D.Disk.leaves c.serve.new.disk) (storage_stop fault) answers k
    (λ full. storage_full fault _ full (λ number is. c.in_err-reply-in-Ask.ensures.full tells number (failed_so fault (storage.Full number) is)))
    (c.in_err-reply-in-Ask.ensures.stop tells clean) asked)

pub returns-in_err-reply-in-Ask-clause-causes : goal.returns-in_err-reply-in-Ask-clause-causes
returns-in_err-reply-in-Ask-clause-causes g c =
    let fault = c.in_err-reply-in-Ask.field-0.0 in
    let reads = g.D.Disk.reads c.serve.new.disk in
    let ends = c.in_err-reply-in-Ask.ensures in
    let is = λ (s : Stop) (told : IsErrOf c.from_residual.result s). stopped_is c.from_residual.result (storage_stop fault) s c.from_residual.ensures.1 told in
    let never = not_of_storage fault in
    record {
      sink_faults = omega arith;
      disk_faults = c.serve.ensures.faults;
      write_fault = λ told. absurd (never.0 (is stop.WriteFault told));
      storage_fault = λ told.
          storage_failed fault _ (is stop.StorageFault told) (λ failed. ends.cause (failed_so fault storage.Fault failed))
          (λ id broken. ends.not_broken id (failed_so fault (storage.Broken id) broken));
      full = λ tells told.
          storage_full fault (HasFullLog reads) (is stop.Full told)
          (λ number full. some_full c.in-Ask.ask reads (ends.full tells number (failed_so fault (storage.Full number) full)));
      not_read = λ told. never.1.0 (is stop.ReadFault told);
      not_long = λ told. never.1.1 (is stop.InputTooLong told);
    }

pub returns-in_err-put-in-Print-clause-stop : goal.returns-in_err-put-in-Print-clause-stop
returns-in_err-put-in-Print-clause-stop g c answers tells clean session kept line k within =
    let now = g.D.Disk.reads c.args.disk.now in
    let written = g.K.Sink.written c.args.sink.now in
    let failed = c.in_err-put-in-Print.ensures.err answers in
    let same : c.as_slice.result.now ≡ c.in-Print.line = cc in
    let printed = subst (λ (s : Step). IsWithin g.K.Sink.tells kept line (IsDueStep any_record s session) c.args.plain.now now written) c.in-Print.is within in
    if_stopped c.from_residual-in_err-put-in-Print.result stop.WriteFault
    (λ (e : Stop). IsTurnCut line.turn line.held e line.written (g.K.Sink.written c.put.new.self) now (g.D.Disk.leaves c.args.disk.now)) c.from_residual-in_err-put-in-Print.ensures.1
    (print_cut g.K.Sink.tells kept line c.in-Print.line session c.args.plain.now now written (g.K.Sink.written c.put.new.self)
    (g.D.Disk.leaves c.args.disk.now) stop.WriteFault failed.0 answers k clean refl
    (subst (λ (b : List ℕ). g.K.Sink.written c.put.new.self ≡ written ++ take failed.0 b) same failed.2) printed)
