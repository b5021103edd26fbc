use Rattle.std.proofs.Common.{arith}
use Rattle.std.proofs.lemmas.Result.{IfOk-weaker}
use Rattle.session.proofs.FollowLines.{as_in_memory, followed_here, followed_loads}
use Rattle.session.proofs.LoadCounts.{said_steps}
use Rattle.session_lines.proofs.Shortness.{if_said_steady}
use Rattle.session.proofs.SteadySteps.{said_whole}
use Rattle.session_lines.proofs.Told.{if_meets_said}
use Rattle.session.proofs.loading.bind_or_load.Goals as goal

pub bind_found-said-requires : goal.bind_found-said-requires
bind_found-said-requires c = c.requires.free

pub returns-in-Some-clause-meets : goal.returns-in-Some-clause-meets
returns-in-Some-clause-meets c = λ is_next_type storage state due at started f sound.
    if_meets_said is_next_type c.bind_found-said.result c.outcome_of.result c.bind_found-said.new.memory storage due c.outcome_of.ensures
    (c.bind_found-said.ensures.says storage state due at (followed_here state c.args.new c.args.id due f (as_in_memory c.args.memory.now storage state c.args.id _ at c.in-Some.ensures.found)) sound)

pub returns-in-Some-clause-known : goal.returns-in-Some-clause-known
returns-in-Some-clause-known c = IfOk-weaker c.outcome_of.result _ _ (λ o is. c.bind_found-said.ensures.known c.requires.known) c.outcome_of.ensures

pub returns-in-Some-clause-steady : goal.returns-in-Some-clause-steady
returns-in-Some-clause-steady c = if_said_steady c.bind_found-said.result c.outcome_of.result c.bind_found-said.new.memory c.outcome_of.ensures

pub returns-in-Some-clause-whole : goal.returns-in-Some-clause-whole
returns-in-Some-clause-whole c = IfOk-weaker c.outcome_of.result _ _ (λ o is. said_whole c.bind_found-said.result o is) c.outcome_of.ensures

pub returns-in-Some-clause-few : goal.returns-in-Some-clause-few
returns-in-Some-clause-few c = λ g. IfOk-weaker c.outcome_of.result _ _ (λ o is. let one = said_steps c.bind_found-said.result o g is in omega arith) c.outcome_of.ensures

pub returns-in-None-clause-meets : goal.returns-in-None-clause-meets
returns-in-None-clause-meets c = λ is_next_type storage state due at started f sound.
    c.begin.ensures.meets is_next_type storage state due at (followed_loads state c.args.new c.args.id due started f sound (as_in_memory c.args.memory.now storage state c.args.id _ at c.in-None.ensures.found))

pub returns-in-None-clause-few : goal.returns-in-None-clause-few
returns-in-None-clause-few c = λ g. IfOk-weaker c.begin.result _ _ (λ o most. omega arith) (c.begin.ensures.few g)
