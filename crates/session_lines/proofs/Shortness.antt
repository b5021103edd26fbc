-- Outcomes that are answered at once, or after one reply.
use Rattle.std.proofs.Common.{◌+◌, ◌*◌, ◌<◌, ◌≤◌, ℕ, List, Result, Ok, Err, length, subst, sym, arith}
use Rattle.std.specs.Prelude.{IfOk}
use Rattle.graph_model.specs.Graph.{Graph}
use Rattle.session_lines.specs.declared.outcome.Outcome.{Outcome}
use Rattle.session_lines.specs.declared.outcome.Outcome.TheVariants as outcomes
use Rattle.session_lines.specs.declared.outcome.Phase.TheVariants as phases
use Rattle.session_lines.specs.declared.refusal.Stop.{Stop}
use Rattle.session_lines.specs.declared.refusal.Stop.TheVariants.{Refused, NoMemory}
use Rattle.session_lines.specs.declared.memory.Memory.{Memory}
use Rattle.session_lines.specs.Refusals.{IsOutcomeOf}
use Rattle.session_lines.specs.Steady.{IsSteadyOutcome}
use Rattle.session_lines.specs.Steps.{IsShort, outcome_steps}

said_short : (said : Result (List ℕ) Stop) (outcome : Outcome) → IsOutcomeOf said outcome → IsShort outcome
said_short (Ok text) outcome is = subst IsShort (sym is) tt
said_short (Err (Refused refusal)) outcome is = subst IsShort (sym is) tt
said_short (Err NoMemory) outcome is = absurd is

-- an answer is short
pub if_said_short : (said : Result (List ℕ) Stop) {E : Type 0} (outcome : Result Outcome E) → IfOk outcome (IsOutcomeOf said) → IfOk outcome IsShort
if_said_short said (Ok o) is = said_short said o is
if_said_short said (Err e) is = tt

-- an answer is steady
said_steady : (said : Result (List ℕ) Stop) (outcome : Outcome) (memory : Memory) → IsOutcomeOf said outcome → IsSteadyOutcome memory outcome
said_steady (Ok text) outcome memory is = subst (λ (o : Outcome). IsSteadyOutcome memory o) (sym is) tt
said_steady (Err (Refused refusal)) outcome memory is = subst (λ (o : Outcome). IsSteadyOutcome memory o) (sym is) tt
said_steady (Err NoMemory) outcome memory is = absurd is

pub if_said_steady : (said : Result (List ℕ) Stop) {E : Type 0} (outcome : Result Outcome E) (memory : Memory) → IfOk outcome (IsOutcomeOf said) → IfOk outcome (IsSteadyOutcome memory)
if_said_steady said (Ok o) memory is = said_steady said o memory is
if_said_steady said (Err e) memory is = tt

pub few_steps : (outcome : Outcome) (g : Graph) → IsShort outcome → outcome_steps outcome g < 4 * length g + 4
few_steps (outcomes.Answer text) g short = omega arith
few_steps (outcomes.Ask ask (phases.Saying text)) g short = omega arith
few_steps (outcomes.Ask ask (phases.Storing count)) g short = omega arith
few_steps (outcomes.Ask ask phases.Collecting) g short = omega arith
few_steps (outcomes.Ask ask _) g short = absurd short
few_steps (outcomes.Line text export) g short = absurd short
few_steps (outcomes.Broken id) g short = absurd short

pub if_short_few : {E : Type 0} (outcome : Result Outcome E) (g : Graph) → IfOk outcome IsShort → IfOk outcome (λ o. outcome_steps o g < 4 * length g + 4)
if_short_few (Ok o) g short = few_steps o g short
if_short_few (Err e) g short = tt

pub if_at_most_few : {E : Type 0} (outcome : Result Outcome E) (g : Graph) (most : ℕ) → most < 4 * length g + 4 → IfOk outcome (λ o. outcome_steps o g ≤ most) → IfOk outcome (λ o. outcome_steps o g < 4 * length g + 4)
if_at_most_few (Ok o) g most few at_most = omega arith
if_at_most_few (Err e) g most few at_most = tt
