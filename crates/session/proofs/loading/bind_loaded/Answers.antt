use Rattle.std.proofs.Common.{arith}
use Rattle.std.proofs.lemmas.Result.{IfOk-weaker}
use Rattle.session.proofs.LoadCounts.{said_steps}
use Rattle.session_lines.proofs.Shortness.{if_said_steady}
use Rattle.session.proofs.SteadySteps.{said_whole}
use Rattle.session_lines.proofs.Told.{if_meets_said}
use Rattle.session.proofs.loading.bind_loaded.Goals as goal

pub bind_found-said-requires : goal.bind_found-said-requires
bind_found-said-requires c = c.requires.free

pub returns-clause-meets : goal.returns-clause-meets
returns-clause-meets c = λ is_next_type storage due g.
    if_meets_said is_next_type c.bind_found-said.result c.outcome_of.result c.bind_found-said.new.memory storage due c.outcome_of.ensures (c.bind_found-said.ensures.says storage g.state due g.stands g.turn_is g.sound)

pub returns-clause-known : goal.returns-clause-known
returns-clause-known c = IfOk-weaker c.outcome_of.result _ _ (λ o is. c.bind_found-said.ensures.known c.requires.known) c.outcome_of.ensures

pub returns-clause-steady : goal.returns-clause-steady
returns-clause-steady c = if_said_steady c.bind_found-said.result c.outcome_of.result c.bind_found-said.new.memory c.outcome_of.ensures

pub returns-clause-whole : goal.returns-clause-whole
returns-clause-whole c = IfOk-weaker c.outcome_of.result _ _ (λ o is. said_whole c.bind_found-said.result o is) c.outcome_of.ensures

pub returns-clause-short : goal.returns-clause-short
returns-clause-short c = IfOk-weaker c.outcome_of.result _ _ (λ o is g. let one = said_steps c.bind_found-said.result o g is in omega arith) c.outcome_of.ensures
