-- One line is answered, or the run ends within it.
use Rattle.std.proofs.Common.{◌≡◌, ℕ, true, false, Option, Some, List, refl, subst, arith}
use Rattle.type_dictionary.specs.Records.{records_from}
use Rattle.session_model.specs.Answer.{turn}
use Rattle.session.specs.Dealing.{IsDueStep}
use Rattle.session_lines.specs.Limits.{most_bytes}
use Rattle.session_lines.specs.Steps.{steps_left}
use Rattle.session.specs.declared.session.Given.TheVariants as given
use Rattle.plain_storage.specs.Keeping.{held_in, storage_of}
use Rattle.store_run.specs.Serving.{IsTurnCut}
use Rattle.store_run.specs.Within.{IsNoLine, IsWithin, StandsFor, any_record}
use Rattle.store_run.specs.declared.stop.Stop.{Stop}
use Rattle.store_run.specs.declared.stop.Stop.TheVariants as stop
use Rattle.store_run.proofs.AskedWithin.{step_may}
use Rattle.store_run.proofs.BeginsWithin.{any_admitted, begun_at, comes_nearer, fits_within, line_begins, not_kept, others_stay}
use Rattle.store_run.proofs.EveryId.{every_id, looked_up_listed}
use Rattle.store_run.proofs.CutWithin.{within_cut}
use Rattle.store_run.proofs.StepsWithin.{through, within_so}
use Rattle.store_run.proofs.Stops.{if_stopped, memory_is_not_full}
use Rattle.store_run.proofs.line.serve_line.Goals as goal

-- ---- the line is given

pub returns-in_err-from_slice-clause-stop : goal.returns-in_err-from_slice-clause-stop
returns-in_err-from_slice-clause-stop g c answers tells clean now at keeps =
    let written = g.K.Sink.written c.args.sink.now in
    let line = c.args.line.now in
    let reads = g.D.Disk.reads c.args.disk.now in
    let leaves = g.D.Disk.leaves c.args.disk.now in
    if_stopped c.from_residual.result stop.NoMemory (λ (e : Stop). IsTurnCut (turn most_bytes now line) (held_in c.args.plain.now now.types) e written written reads leaves) c.from_residual.ensures.1
    (within_cut g.K.Sink.tells true (begun_at now c.args.plain.now line written) (StandsFor (Some (given.Line line)) c.args.session.now) c.args.plain.now reads written leaves stop.NoMemory
    answers refl clean memory_is_not_full (line_begins g.K.Sink.tells true now c.args.session.now c.args.plain.now line line reads written at (λ k. keeps) refl))

pub next-requires : goal.next-requires
next-requires g c =
    let same : c.new-text.result ≡ c.args.line.now = subst (λ (b : List ℕ). c.new-text.result ≡ b) c.in_ok-from_slice.ensures.items c.new-text.ensures in
    let at = c.requires.at in
    let written = g.K.Sink.written c.args.sink.now in
    let reads = g.D.Disk.reads c.args.disk.now in
    let begins = line_begins false false at.0 c.args.session.now c.args.plain.now c.args.line.now c.new-text.result reads written at.1 (λ k. not_kept k) same in
    fits_within false false (begun_at at.0 c.args.plain.now c.args.line.now written) (given.Line c.new-text.result) c.args.session.now c.args.plain.now reads written begins

pub returns-in_err-step-clause-stop : goal.returns-in_err-step-clause-stop
returns-in_err-step-clause-stop g c answers tells clean now at keeps =
    let written = g.K.Sink.written c.args.sink.now in
    let line = c.args.line.now in
    let reads = g.D.Disk.reads c.args.disk.now in
    let leaves = g.D.Disk.leaves c.args.disk.now in
    if_stopped c.from_residual-in_err-step.result stop.NoMemory (λ (e : Stop). IsTurnCut (turn most_bytes now line) (held_in c.args.plain.now now.types) e written written reads leaves)
    c.from_residual-in_err-step.ensures.1
    (within_cut g.K.Sink.tells true (begun_at now c.args.plain.now line written) (StandsFor (Some (given.Line line)) c.args.session.now) c.args.plain.now reads written leaves stop.NoMemory
    answers refl clean memory_is_not_full (line_begins g.K.Sink.tells true now c.args.session.now c.args.plain.now line line reads written at (λ k. keeps) refl))

pub steps-init : goal.steps-init
steps-init g c =
    let same : c.new-text.result ≡ c.args.line.now = subst (λ (b : List ℕ). c.new-text.result ≡ b) c.in_ok-from_slice.ensures.items c.new-text.ensures in
    let written = g.K.Sink.written c.args.sink.now in
    let reads = g.D.Disk.reads c.args.disk.now in
    record {
      within = λ now at kept tells keeps.
          within_so g.K.Sink.tells kept (begun_at now c.args.plain.now c.args.line.now written) (StandsFor (Some (given.Line c.new-text.result)) c.args.session.now)
          (IsDueStep any_record c.in_ok-step.step c.next.new.self) c.args.plain.now reads written (λ storage due may. c.in_ok-step.ensures.gives any_record storage due any_admitted may)
          (line_begins g.K.Sink.tells kept now c.args.session.now c.args.plain.now c.args.line.now c.new-text.result reads written at keeps same);
      listed = looked_up_listed c.in_ok-step.step c.next.new.self.waiting c.in_ok-step.ensures.asks;
      logs = c.requires.logs;
      clean = λ tells clean. clean;
      others = λ tells. record { reads = λ f a b. refl; leaves = λ f a b. refl };
      disk_faults = omega arith;
      sink_faults = omega arith;
    }

-- ---- a step

pub carry_on-requires-clause-may : goal.carry_on-requires-clause-may
carry_on-requires-clause-may g c =
    let at = c.requires.at in
    step_may g.K.Sink.tells false (begun_at at.0 c.args.plain.now c.args.line.now (g.K.Sink.written c.args.sink.now)) c.steps.step c.steps.session c.steps.plain (g.D.Disk.reads c.steps.disk)
    (g.K.Sink.written c.steps.sink) (c.steps.invariant.within at.0 at.1 false (λ k. not_kept k) (λ k. not_kept k))

pub returns-in_err-given-clause-stop : goal.returns-in_err-given-clause-stop
returns-in_err-given-clause-stop g c answers tells clean now at keeps =
    let line = begun_at now c.args.plain.now c.args.line.now (g.K.Sink.written c.args.sink.now) in
    let cut = c.in_err-given.ensures.stop answers tells (c.steps.invariant.clean tells clean) c.steps.session true line refl (c.steps.invariant.within now at true (λ k. tells) (λ k. keeps)) in
    if_stopped c.from_residual-in_err-given.result c.in_err-given.field-0.0
    (λ (e : Stop). IsTurnCut line.turn line.held e line.written (g.K.Sink.written c.carry_on.new.sink) (g.D.Disk.reads c.carry_on.new.disk) (g.D.Disk.leaves c.carry_on.new.disk)) c.from_residual-in_err-given.ensures.1 cut

pub returns-in_err-given-clause-others : goal.returns-in_err-given-clause-others
returns-in_err-given-clause-others g c tells =
    others_stay (g.D.Disk.reads c.args.disk.now) (g.D.Disk.reads c.steps.disk) (g.D.Disk.reads c.carry_on.new.disk) (g.D.Disk.leaves c.args.disk.now) (g.D.Disk.leaves c.steps.disk)
    (g.D.Disk.leaves c.carry_on.new.disk) (c.steps.invariant.others tells) (c.in_err-given.ensures.others tells)

pub next-requires-in-Some : goal.next-requires-in-Some
next-requires-in-Some g c =
    let at = c.requires.at in
    let line = begun_at at.0 c.args.plain.now c.args.line.now (g.K.Sink.written c.args.sink.now) in
    let reads = g.D.Disk.reads c.carry_on.new.disk in
    let written = g.K.Sink.written c.carry_on.new.sink in
    let within = c.in_ok-given.ensures.carried c.steps.session false line (λ k. not_kept k) (c.steps.invariant.within at.0 at.1 false (λ k. not_kept k) (λ k. not_kept k)) in
    let given_now = subst (λ (o : Option _). IsWithin g.K.Sink.tells false line (StandsFor o c.steps.session) c.carry_on.new.plain reads written) c.in-Some.is within in
    fits_within g.K.Sink.tells false line c.in-Some.given c.steps.session c.carry_on.new.plain reads written given_now

pub returns-in_err-step-2-clause-stop : goal.returns-in_err-step-2-clause-stop
returns-in_err-step-2-clause-stop g c answers tells clean now at keeps =
    let line = begun_at now c.args.plain.now c.args.line.now (g.K.Sink.written c.args.sink.now) in
    let reads = g.D.Disk.reads c.carry_on.new.disk in
    let written = g.K.Sink.written c.carry_on.new.sink in
    let leaves = g.D.Disk.leaves c.carry_on.new.disk in
    let within = c.in_ok-given.ensures.carried c.steps.session true line (λ k. tells) (c.steps.invariant.within now at true (λ k. tells) (λ k. keeps)) in
    if_stopped c.from_residual-in_err-step-2.result stop.NoMemory (λ (e : Stop). IsTurnCut line.turn line.held e line.written written reads leaves) c.from_residual-in_err-step-2.ensures.1
    (within_cut g.K.Sink.tells true line (StandsFor c.in_ok-given.field-0 c.steps.session) c.carry_on.new.plain reads written leaves stop.NoMemory answers refl
    (c.in_ok-given.ensures.clean tells (c.steps.invariant.clean tells clean)) memory_is_not_full within)

pub steps-smaller : goal.steps-smaller
steps-smaller g c =
    comes_nearer c.in-Some.given (steps_left c.steps.session.waiting every_id) (steps_left c.next-in-Some.new.self.waiting every_id)
    (subst IsNoLine c.in-Some.is c.in_ok-given.ensures.no_line) (c.in_ok-step-2.ensures.nearer every_id c.steps.invariant.listed)

pub steps-preserved : goal.steps-preserved
steps-preserved g c = record {
  within = λ now at kept tells keeps.
      let line = begun_at now c.args.plain.now c.args.line.now (g.K.Sink.written c.args.sink.now) in
      let reads = g.D.Disk.reads c.carry_on.new.disk in
      let written = g.K.Sink.written c.carry_on.new.sink in
      let within = c.in_ok-given.ensures.carried c.steps.session kept line tells (c.steps.invariant.within now at kept tells keeps) in
      let given_now = subst (λ (o : Option _). IsWithin g.K.Sink.tells kept line (StandsFor o c.steps.session) c.carry_on.new.plain reads written) c.in-Some.is within in
      within_so g.K.Sink.tells kept line (StandsFor (Some c.in-Some.given) c.steps.session) (IsDueStep any_record c.in_ok-step-2.step c.next-in-Some.new.self) c.carry_on.new.plain reads written
      (λ storage due may. c.in_ok-step-2.ensures.gives any_record storage due any_admitted may) given_now;
  listed = looked_up_listed c.in_ok-step-2.step c.next-in-Some.new.self.waiting c.in_ok-step-2.ensures.asks;
  logs = c.in_ok-given.ensures.logs;
  clean = λ tells clean. c.in_ok-given.ensures.clean tells (c.steps.invariant.clean tells clean);
  others = λ tells. others_stay (g.D.Disk.reads c.args.disk.now) (g.D.Disk.reads c.steps.disk) (g.D.Disk.reads c.carry_on.new.disk) (g.D.Disk.leaves c.args.disk.now) (g.D.Disk.leaves c.steps.disk)
      (g.D.Disk.leaves c.carry_on.new.disk) (c.steps.invariant.others tells) (c.in_ok-given.ensures.others tells);
  disk_faults = omega (arith, c.steps.invariant.disk_faults, c.carry_on.ensures.causes.disk_faults);
  sink_faults = omega (arith, c.steps.invariant.sink_faults, c.carry_on.ensures.causes.sink_faults);
}

-- ---- the line is answered

pub returns-clause-at : goal.returns-clause-at
returns-clause-at g c now at =
    let line = begun_at now c.args.plain.now c.args.line.now (g.K.Sink.written c.args.sink.now) in
    let reads = g.D.Disk.reads c.carry_on.new.disk in
    let written = g.K.Sink.written c.carry_on.new.sink in
    let within = c.in_ok-given.ensures.carried c.steps.session false line (λ k. not_kept k) (c.steps.invariant.within now at false (λ k. not_kept k) (λ k. not_kept k)) in
    let ended = through g.K.Sink.tells false line c.steps.session c.carry_on.new.plain reads written
    (subst (λ (o : Option _). IsWithin g.K.Sink.tells false line (StandsFor o c.steps.session) c.carry_on.new.plain reads written) c.in_default.is within) in
    record { waits = ended.waits; stands = ended.stands }

pub returns-clause-answered : goal.returns-clause-answered
returns-clause-answered g c answers now at =
    let line = begun_at now c.args.plain.now c.args.line.now (g.K.Sink.written c.args.sink.now) in
    let reads = g.D.Disk.reads c.carry_on.new.disk in
    let written = g.K.Sink.written c.carry_on.new.sink in
    let within = c.in_ok-given.ensures.carried c.steps.session false line (λ k. not_kept k) (c.steps.invariant.within now at false (λ k. not_kept k) (λ k. not_kept k)) in
    let ended = through g.K.Sink.tells false line c.steps.session c.carry_on.new.plain reads written
    (subst (λ (o : Option _). IsWithin g.K.Sink.tells false line (StandsFor o c.steps.session) c.carry_on.new.plain reads written) c.in_default.is within) in
    ended.wrote answers

pub returns-clause-keeps : goal.returns-clause-keeps
returns-clause-keeps g c tells now at keeps =
    let line = begun_at now c.args.plain.now c.args.line.now (g.K.Sink.written c.args.sink.now) in
    let reads = g.D.Disk.reads c.carry_on.new.disk in
    let written = g.K.Sink.written c.carry_on.new.sink in
    let within = c.in_ok-given.ensures.carried c.steps.session true line (λ k. tells) (c.steps.invariant.within now at true (λ k. tells) (λ k. keeps)) in
    let ended = through g.K.Sink.tells true line c.steps.session c.carry_on.new.plain reads written
    (subst (λ (o : Option _). IsWithin g.K.Sink.tells true line (StandsFor o c.steps.session) c.carry_on.new.plain reads written) c.in_default.is within) in
    ended.keeps refl

pub returns-clause-behind : goal.returns-clause-behind
returns-clause-behind g c now at =
    let line = begun_at now c.args.plain.now c.args.line.now (g.K.Sink.written c.args.sink.now) in
    let reads = g.D.Disk.reads c.carry_on.new.disk in
    let written = g.K.Sink.written c.carry_on.new.sink in
    let within = c.in_ok-given.ensures.carried c.steps.session false line (λ k. not_kept k) (c.steps.invariant.within now at false (λ k. not_kept k) (λ k. not_kept k)) in
    let ended = through g.K.Sink.tells false line c.steps.session c.carry_on.new.plain reads written
    (subst (λ (o : Option _). IsWithin g.K.Sink.tells false line (StandsFor o c.steps.session) c.carry_on.new.plain reads written) c.in_default.is within) in
    ended.held
