use Rattle.std.proofs.Common.{Err, arith}
use Rattle.std.proofs.lemmas.Result.{IfOk-weaker}
use Rattle.session_model.specs.Answer.{follow_turn}
use Rattle.session_model.proofs.Following.{follow_line_sound}
use Rattle.session.proofs.LoadCounts.{said_steps}
use Rattle.session_lines.proofs.Shortness.{if_said_steady}
use Rattle.session.proofs.SteadySteps.{said_whole}
use Rattle.session_lines.proofs.Told.{if_meets_said, says_refusal}
use Rattle.session.proofs.loading.follow.Goals as goal

pub bind_or_load-requires : goal.bind_or_load-requires
bind_or_load-requires c = record { known = c.requires.known; free = c.in-Ok.ensures.free }

pub returns-in-Ok-clause-meets : goal.returns-in-Ok-clause-meets
returns-in-Ok-clause-meets c = λ is_next_type storage state at started.
    c.bind_or_load.ensures.meets is_next_type storage state _ at started (c.in-Ok.ensures.judged storage state at started)
    (follow_line_sound state c.args.name.now c.args.member.now c.args.new at.stands.sound started)

pub returns-in-Ok-clause-few : goal.returns-in-Ok-clause-few
returns-in-Ok-clause-few c = c.bind_or_load.ensures.few

pub returns-in-Err-clause-meets : goal.returns-in-Err-clause-meets
returns-in-Err-clause-meets c = λ is_next_type storage state at started.
    if_meets_said is_next_type (Err c.in-Err.stop) c.outcome_of.result c.args.memory.now storage (follow_turn state c.args.name.now c.args.member.now c.args.new) c.outcome_of.ensures
    (says_refusal c.in-Err.stop c.args.memory.now storage state (follow_turn state c.args.name.now c.args.member.now c.args.new) at (c.in-Err.ensures.judged storage state at started))

pub returns-in-Err-clause-known : goal.returns-in-Err-clause-known
returns-in-Err-clause-known c = IfOk-weaker c.outcome_of.result _ _ (λ o is. c.requires.known) c.outcome_of.ensures

pub returns-in-Err-clause-steady : goal.returns-in-Err-clause-steady
returns-in-Err-clause-steady c = if_said_steady (Err c.in-Err.stop) c.outcome_of.result c.args.memory.now c.outcome_of.ensures

pub returns-in-Err-clause-whole : goal.returns-in-Err-clause-whole
returns-in-Err-clause-whole c = IfOk-weaker c.outcome_of.result _ _ (λ o is. said_whole (Err c.in-Err.stop) o is) c.outcome_of.ensures

pub returns-in-Err-clause-few : goal.returns-in-Err-clause-few
returns-in-Err-clause-few c = λ g. IfOk-weaker c.outcome_of.result _ _ (λ o is. let one = said_steps (Err c.in-Err.stop) o g is in omega arith) c.outcome_of.ensures
