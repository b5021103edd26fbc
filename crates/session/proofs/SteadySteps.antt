-- What a session keeps for itself over the steps of a line.
use Rattle.std.proofs.Common.{◌≡◌, ◌<◌, ◌^◌, ℕ, true, List, Option, Some, None, Result, Ok, Err, refl, sym, ap, ◌∙◌, subst}
use Rattle.std.specs.Prelude.{IfOk, is_some}
use Rattle.std.proofs.lemmas.Result.{IfOk-weaker}
use Rattle.graph_model.specs.declared.ask.Ask.{Ask}
use Rattle.graph_model.specs.declared.ask.Ask.TheVariants as asks
use Rattle.graph_model.specs.declared.ask.Reply.{Reply}
use Rattle.graph_model.specs.declared.ask.Reply.TheVariants as replies
use Rattle.graph_model.specs.declared.entity.Entity.{Entity}
use Rattle.type_desc.specs.declared.desc.TypeDesc.{TypeDesc}
use Rattle.session_model.specs.Answer.{Binding, id_in}
use Rattle.lazy_refs.specs.Steps.{IsBrokenAtAsked, IsTypedStep}
use Rattle.lazy_refs.specs.Walks.{Progress}
use Rattle.lazy_refs.specs.declared.step.LoadStep.{LoadStep}
use Rattle.lazy_refs.specs.declared.step.LoadStep.TheVariants as steps
use Rattle.session_lines.specs.declared.exporting.ExportStep.{ExportStep}
use Rattle.session_lines.specs.declared.exporting.ExportStep.TheVariants as export_steps
use Rattle.session_lines.specs.declared.memory.Memory.{Memory}
use Rattle.session_lines.specs.declared.outcome.Outcome.{Outcome}
use Rattle.session_lines.specs.declared.outcome.Outcome.TheVariants as outcomes
use Rattle.session_lines.specs.declared.outcome.Phase.{Phase}
use Rattle.session_lines.specs.declared.outcome.Phase.TheVariants as phases
use Rattle.session_lines.specs.declared.outcome.Purpose.{Purpose}
use Rattle.session_lines.specs.declared.outcome.Waiting.TheVariants as waits
use Rattle.session.specs.declared.session.SessionStep.TheVariants as turns
use Rattle.session_lines.specs.declared.outcome.Purpose.TheVariants as purposes
use Rattle.session_lines.specs.declared.refusal.Stop.{Stop}
use Rattle.session_lines.specs.declared.refusal.Stop.TheVariants.{Refused, NoMemory}
use Rattle.session_lines.specs.Broken.{IsBrokenAt, Taken, broken_by, broken_by_export, broken_by_loading, taken_for}
use Rattle.session_lines.specs.Due.{SuitsPhase}
use Rattle.session_lines.specs.Exports.{Exported, IsUnbrokenStep, IsDueNext}
use Rattle.session.specs.Fitting.{IsReplyTo, LooksUp, TakesReply}
use Rattle.session.specs.LoadSteps.{IsFailure, IsTypedEnd}
use Rattle.session_lines.specs.Refusals.{IsOutcomeOf}
use Rattle.session_lines.specs.Steady.{IsSmallId, IsSteadyOutcome, IsSteadyPhase, IsSteadyPurpose}
use Rattle.session_lines.specs.Steps.{IsShort}

-- ---- the loading

-- with the same names a free name stays free
pub purpose_kept : (old new : Memory) (purpose : Purpose) → new.registry.names ≡ old.registry.names → IsSteadyPurpose old purpose → IsSteadyPurpose new purpose
purpose_kept old new (purposes.Start command) names steady = steady
purpose_kept old new (purposes.Follow name id) names steady = ap (λ (bs : List Binding). id_in bs name) names ∙ steady

pub typed_end : (types : List TypeDesc) (p : Progress) (step : LoadStep) → IsTypedStep types p step → IsTypedEnd types step
typed_end types p (steps.Want id) typed = tt
typed_end types p (steps.Ready all) typed = typed
typed_end types p (steps.NoType id) typed = tt
typed_end types p (steps.WrongKind id) typed = tt
typed_end types p (steps.Broken id) typed = tt

pub failure_steady : (memory : Memory) (step : LoadStep) (outcome : Outcome) → IsFailure step outcome → IsSteadyOutcome memory outcome
failure_steady memory (steps.Want id) outcome is = absurd is
failure_steady memory (steps.Ready all) outcome is = absurd is
failure_steady memory (steps.NoType id) outcome is = subst (IsSteadyOutcome memory) (sym is) tt
failure_steady memory (steps.WrongKind id) outcome is = subst (IsSteadyOutcome memory) (sym is) tt
failure_steady memory (steps.Broken id) outcome is = subst (IsSteadyOutcome memory) (sym is) tt

pub failure_broken : (step : LoadStep) (outcome : Outcome) → IsFailure step outcome → broken_by outcome ≡ broken_by_loading step
failure_broken (steps.Want id) outcome is = absurd is
failure_broken (steps.Ready all) outcome is = absurd is
failure_broken (steps.NoType id) outcome is = ap broken_by is
failure_broken (steps.WrongKind id) outcome is = ap broken_by is
failure_broken (steps.Broken id) outcome is = ap broken_by is

-- without an entity none is broken
pub none_broken_first : (types : List TypeDesc) (p : Progress) (step : LoadStep) → IsBrokenAtAsked types p None step → broken_by_loading step ≡ None
none_broken_first types p (steps.Want id) is = refl
none_broken_first types p (steps.Ready all) is = refl
none_broken_first types p (steps.NoType id) is = refl
none_broken_first types p (steps.WrongKind id) is = refl
none_broken_first types p (steps.Broken id) is = absurd is

pub broken_next : (types : List TypeDesc) (p : Progress) (entity : Entity) (step : LoadStep) → IsBrokenAtAsked types p (Some entity) step
    → IsBrokenAt types (taken_for (Some p.asked) (Some entity)) (broken_by_loading step)
broken_next types p entity (steps.Want id) is = is
broken_next types p entity (steps.Ready all) is = is
broken_next types p entity (steps.NoType id) is = is
broken_next types p entity (steps.WrongKind id) is = is
broken_next types p entity (steps.Broken id) is = is

-- ---- the export

pub due_next : (p : Exported) (step : ExportStep) → IsUnbrokenStep p step → IsDueNext p step
due_next p (export_steps.Look id) on = on
due_next p (export_steps.Line bytes) on = tt
due_next p (export_steps.End bytes) on = tt
due_next p (export_steps.Broken id) on = tt

pub none_broken_on : (p : Exported) (step : ExportStep) → IsUnbrokenStep p step → broken_by_export step ≡ None
none_broken_on p (export_steps.Look id) on = refl
none_broken_on p (export_steps.Line bytes) on = refl
none_broken_on p (export_steps.End bytes) on = refl
none_broken_on p (export_steps.Broken id) on = absurd on

-- ---- answers

pub said_whole : (said : Result (List ℕ) Stop) (outcome : Outcome) → IsOutcomeOf said outcome → broken_by outcome ≡ None
said_whole (Ok text) outcome is = ap broken_by is
said_whole (Err (Refused refusal)) outcome is = ap broken_by is
said_whole (Err NoMemory) outcome is = absurd is

pub short_whole : (outcome : Outcome) → IsShort outcome → broken_by outcome ≡ None
short_whole (outcomes.Answer text) short = refl
short_whole (outcomes.Ask ask phase) short = refl
short_whole (outcomes.Line text export) short = refl
short_whole (outcomes.Broken id) short = absurd short

pub if_short_whole : {E : Type 0} (result : Result Outcome E) → IfOk result IsShort → IfOk result (λ outcome. broken_by outcome ≡ None)
if_short_whole result short = IfOk-weaker result _ _ short_whole short

-- ---- what is taken

pub none_broken_without : (types : List TypeDesc) (asked broken : Option ℕ) → IsBrokenAt types (taken_for asked None) broken → broken ≡ None
none_broken_without types asked None is = refl
none_broken_without types None (Some id) is = absurd is
none_broken_without types (Some x) (Some id) is = absurd is

pub unbroken : (types : List TypeDesc) (taken : Option Taken) (broken : Option ℕ) → taken ≡ None → broken ≡ None → IsBrokenAt types taken broken
unbroken types taken broken nothing none = subst (λ (t : Option Taken). IsBrokenAt types t broken) (sym nothing) (subst (IsBrokenAt types None) (sym none) tt)

-- ---- replies

takes_stored : (ask : Ask) (count : ℕ) (reply : Reply) → SuitsPhase ask (phases.Storing count) → IsReplyTo ask reply → TakesReply (phases.Storing count) reply
takes_stored (asks.Store op) count (replies.Stored number) suits is = tt
takes_stored (asks.Store op) count reply suits is = absurd is
takes_stored ask count reply suits is = absurd suits

takes_count : (ask : Ask) (reply : Reply) → SuitsPhase ask phases.Collecting → IsReplyTo ask reply → TakesReply phases.Collecting reply
takes_count asks.Collect (replies.Count count) suits is = tt
takes_count asks.Collect reply suits is = absurd is
takes_count ask reply suits is = absurd suits

takes_loaded : (ask : Ask) (loading : Progress) (purpose : Purpose) (reply : Reply) → SuitsPhase ask (phases.Looking loading purpose) → IsReplyTo ask reply → TakesReply (phases.Looking loading purpose) reply
takes_loaded (asks.Look id) loading purpose (replies.Found entity) suits is = tt
takes_loaded (asks.Look id) loading purpose reply suits is = absurd is
takes_loaded ask loading purpose reply suits is = absurd suits

takes_held : (ask : Ask) (purpose : Purpose) (reply : Reply) → SuitsPhase ask (phases.Holding purpose) → IsReplyTo ask reply → TakesReply (phases.Holding purpose) reply
takes_held (asks.Hold ids) purpose replies.Held suits is = tt
takes_held (asks.Hold ids) purpose reply suits is = absurd is
takes_held ask purpose reply suits is = absurd suits

takes_exported : (ask : Ask) (export : Exported) (reply : Reply) → SuitsPhase ask (phases.Exporting export) → IsReplyTo ask reply → TakesReply (phases.Exporting export) reply
takes_exported (asks.Look id) export (replies.Found entity) suits is = tt
takes_exported (asks.Look id) export reply suits is = absurd is
takes_exported ask export reply suits is = absurd suits

-- a phase takes each reply to an ask that suits it
pub takes_reply : (ask : Ask) (phase : Phase) (reply : Reply) → SuitsPhase ask phase → IsReplyTo ask reply → TakesReply phase reply
takes_reply ask (phases.Saying text) reply suits is = tt
takes_reply ask (phases.Storing count) reply suits is = takes_stored ask count reply suits is
takes_reply ask phases.Collecting reply suits is = takes_count ask reply suits is
takes_reply ask (phases.Looking loading purpose) reply suits is = takes_loaded ask loading purpose reply suits is
takes_reply ask (phases.Holding purpose) reply suits is = takes_held ask purpose reply suits is
takes_reply ask (phases.Exporting export) reply suits is = takes_exported ask export reply suits is

-- ---- what is looked up

pub some_small : (asked : Option ℕ) → IsSmallId asked → is_some asked ≡ true
some_small None small = absurd small
some_small (Some id) small = refl

export_looks_up : (export : Exported) (x : ℕ) → export.asked ≡ Some x → IsSmallId export.asked → LooksUp (turns.Ask (asks.Look x)) (waits.ForReply (phases.Exporting export))
export_looks_up export x is small = (is, subst IsSmallId is small)

-- a phase that waits for an entity looks up the id that is asked for
pub looks_up : (memory : Memory) (ask : Ask) (phase : Phase) → SuitsPhase ask phase → IsSteadyPhase memory phase → LooksUp (turns.Ask ask) (waits.ForReply phase)
looks_up memory (asks.Look x) (phases.Looking loading purpose) suits steady = (ap (λ (n : ℕ). Some n) suits, subst (λ (n : ℕ). n < 2 ^ 64) suits steady.0.small)
looks_up memory (asks.Look x) (phases.Exporting export) suits steady = export_looks_up export x suits steady
looks_up memory (asks.Look x) phase suits steady = absurd suits
looks_up memory (asks.Hold xs) (phases.Holding purpose) suits steady = refl
looks_up memory (asks.Hold xs) phase suits steady = absurd suits
looks_up memory (asks.Release xs) (phases.Saying text) suits steady = refl
looks_up memory (asks.Release xs) phase suits steady = absurd suits
looks_up memory (asks.Store op) (phases.Storing count) suits steady = refl
looks_up memory (asks.Store op) phase suits steady = absurd suits
looks_up memory (asks.KeepType bytes) (phases.Saying text) suits steady = refl
looks_up memory (asks.KeepType bytes) phase suits steady = absurd suits
looks_up memory asks.Collect phases.Collecting suits steady = refl
looks_up memory asks.Collect phase suits steady = absurd suits
looks_up memory asks.Tidy (phases.Saying text) suits steady = refl
looks_up memory asks.Tidy phase suits steady = absurd suits
