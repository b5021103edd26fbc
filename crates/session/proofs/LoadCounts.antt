-- How many steps are left behind a step of a loading, and that no entity is broken.
use Rattle.std.proofs.Common.{◌≡◌, ◌+◌, ◌≤◌, ◌<◌, ℕ, Bool, true, false, cond, not, List, [], ◌∷◌, length, suc, Some, None, Result, Ok, Err, refl, ap, arith}
use Rattle.std.specs.Prelude.{IfOk}
use Rattle.std.specs.List.{filter}
use Rattle.std.proofs.lemmas.Result.{IfOk-weaker}
use Rattle.graph_model.specs.Ids.{has, insert}
use Rattle.graph_model.specs.Graph.{Graph, lists}
use Rattle.graph_model.specs.declared.entity.Entity.{Entity}
use Rattle.graph_model.specs.declared.entity.Record.{Record}
use Rattle.type_desc.specs.declared.desc.TypeDesc.{TypeDesc}
use Rattle.lazy_refs.specs.Advances.{IsDoneNext}
use Rattle.lazy_refs.specs.Steps.{IsBrokenAtAsked}
use Rattle.lazy_refs.specs.Walks.{Progress}
use Rattle.lazy_refs.specs.declared.step.LoadStep.{LoadStep}
use Rattle.lazy_refs.specs.declared.step.LoadStep.TheVariants as steps
use Rattle.session_lines.specs.declared.outcome.Outcome.{Outcome}
use Rattle.session_lines.specs.declared.outcome.Phase.TheVariants as phases
use Rattle.session_lines.specs.declared.outcome.Purpose.{Purpose}
use Rattle.session_lines.specs.declared.outcome.Purpose.TheVariants as purposes
use Rattle.session_lines.specs.declared.refusal.Stop.{Stop}
use Rattle.session_lines.specs.declared.refusal.Stop.TheVariants.{Refused, NoMemory}
use Rattle.session.specs.LoadSteps.{IsFailure, IsLast, IsWhole, last_steps, step_steps}
use Rattle.session_lines.specs.Refusals.{IsOutcomeOf}
use Rattle.session_lines.specs.Steps.{outcome_steps, phase_steps, purpose_steps, unseen}
use Rattle.session_model.specs.WellFormed.{IsWellFormed}
use Rattle.session_lines.proofs.Unseen.{unseen_less}

-- ---- steps

unseen_within : (seen : List ℕ) (g : Graph) → unseen seen g ≤ length g
unseen_within seen [] = omega arith
unseen_within seen (r ∷ g) = by (has r.id seen) (unseen_within seen g)
  where
    by : (b : Bool) → unseen seen g ≤ length g → length (cond (not b) (r ∷ filter (λ (s : Record). not (has s.id seen)) g) (filter (λ (s : Record). not (has s.id seen)) g)) ≤ suc (length g)
    by true ih = omega arith
    by false ih = omega arith

-- the purpose takes two more at least
purpose_takes : (purpose : Purpose) (g : Graph) → 2 ≤ purpose_steps purpose g
purpose_takes (purposes.Start command) g = omega arith
purpose_takes (purposes.Follow new id) g = omega arith

pub steps_within : (step : LoadStep) (loading : Progress) (purpose : Purpose) (g : Graph) → step_steps step loading purpose g ≤ length g + purpose_steps purpose g + 1
steps_within (steps.Want id) loading purpose g = let few = unseen_within loading.done g in omega arith
steps_within (steps.Ready all) loading purpose g = omega arith
steps_within (steps.NoType id) loading purpose g = omega arith
steps_within (steps.WrongKind id) loading purpose g = omega arith
steps_within (steps.Broken id) loading purpose g = omega arith

-- a failure takes no more
pub failure_steps : (step : LoadStep) (purpose : Purpose) (g : Graph) (outcome : Outcome) → IsFailure step outcome → outcome_steps outcome g ≡ last_steps step purpose g
failure_steps (steps.Want id) purpose g outcome is = absurd is
failure_steps (steps.Ready all) purpose g outcome is = absurd is
failure_steps (steps.NoType id) purpose g outcome is = ap (λ (o : Outcome). outcome_steps o g) is
failure_steps (steps.WrongKind id) purpose g outcome is = ap (λ (o : Outcome). outcome_steps o g) is
failure_steps (steps.Broken id) purpose g outcome is = ap (λ (o : Outcome). outcome_steps o g) is

pub last_are_steps : (step : LoadStep) (loading : Progress) (purpose : Purpose) (g : Graph) → IsLast step → last_steps step purpose g ≡ step_steps step loading purpose g
last_are_steps (steps.Want id) loading purpose g last = absurd last
last_are_steps (steps.Ready all) loading purpose g last = refl
last_are_steps (steps.NoType id) loading purpose g last = refl
last_are_steps (steps.WrongKind id) loading purpose g last = refl
last_are_steps (steps.Broken id) loading purpose g last = refl

-- nor does an answer
pub said_steps : (said : Result (List ℕ) Stop) (outcome : Outcome) (g : Graph) → IsOutcomeOf said outcome → outcome_steps outcome g ≡ 1
said_steps (Ok text) outcome g is = ap (λ (o : Outcome). outcome_steps o g) is
said_steps (Err (Refused refusal)) outcome g is = ap (λ (o : Outcome). outcome_steps o g) is
said_steps (Err NoMemory) outcome g is = absurd is

-- an entity that was taken leaves less
pub steps_fall : (purpose : Purpose) (old new : Progress) (entity : Entity) (step : LoadStep) (g : Graph) → IsDoneNext (Some entity) old new step → has old.asked old.done ≡ false → lists g old.asked ≡ true
    → step_steps step new purpose g < phase_steps (phases.Looking old purpose) g
steps_fall purpose old new entity (steps.Want id) g is fresh there =
    let less = unseen_less old.asked old.done g there fresh in
    let same : unseen new.done g ≡ unseen (insert old.asked old.done) g = ap (λ (seen : List ℕ). unseen seen g) (is fresh) in
    omega arith
steps_fall purpose old new entity (steps.Ready all) g is fresh there = omega arith
steps_fall purpose old new entity (steps.NoType id) g is fresh there = let two = purpose_takes purpose g in omega arith
steps_fall purpose old new entity (steps.WrongKind id) g is fresh there = let two = purpose_takes purpose g in omega arith
steps_fall purpose old new entity (steps.Broken id) g is fresh there = omega arith

pub if_within : {E : Type 0} (r : Result Outcome E) (g : Graph) (m n : ℕ) → m ≤ n → IfOk r (λ o. outcome_steps o g ≡ m) → IfOk r (λ o. outcome_steps o g ≤ n)
if_within r g m n most h = IfOk-weaker r (λ o. outcome_steps o g ≡ m) (λ o. outcome_steps o g ≤ n) (λ o e. omega arith) h

pub if_below : {E : Type 0} (r : Result Outcome E) (g : Graph) (m n : ℕ) → m < n → IfOk r (λ o. outcome_steps o g ≡ m) → IfOk r (λ o. outcome_steps o g < n)
if_below r g m n most h = IfOk-weaker r (λ o. outcome_steps o g ≡ m) (λ o. outcome_steps o g < n) (λ o e. omega arith) h

-- ---- no entity is broken

pub whole_first : (types : List TypeDesc) (p : Progress) (step : LoadStep) → IsBrokenAtAsked types p None step → IsWhole step
whole_first types p (steps.Want id) is = tt
whole_first types p (steps.Ready all) is = tt
whole_first types p (steps.NoType id) is = tt
whole_first types p (steps.WrongKind id) is = tt
whole_first types p (steps.Broken id) is = absurd is

pub whole_next : (types : List TypeDesc) (p : Progress) (entity : Entity) (step : LoadStep) → IsWellFormed types p.asked entity → IsBrokenAtAsked types p (Some entity) step → IsWhole step
whole_next types p entity (steps.Want id) form is = tt
whole_next types p entity (steps.Ready all) form is = tt
whole_next types p entity (steps.NoType id) form is = tt
whole_next types p entity (steps.WrongKind id) form is = tt
whole_next types p entity (steps.Broken id) form is = is.1 form
