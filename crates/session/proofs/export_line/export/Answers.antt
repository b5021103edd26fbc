use Rattle.std.proofs.Common.{[], ◌∙◌, refl, sym}
use Rattle.session_model.specs.Answer.{export_turn}
use Rattle.session.proofs.ExportAsks.{rest_at_first}
use Rattle.session_lines.proofs.ExportCounts.{few_at_first}
use Rattle.session.proofs.SteadySteps.{none_broken_without}
use Rattle.session.proofs.export_line.export.Goals as goal

pub returns-clause-meets : goal.returns-clause-meets
returns-clause-meets c = λ is_next_type storage state at started.
    c.outcome_of_step.ensures.meets is_next_type [] state c.args.memory.now storage (export_turn state) (rest_at_first c.args.memory.now storage state at)
    (c.in_ok-step.ensures.step state [] (sym at.stands.types) (c.start-export.ensures.exporting state at.stands.sound.graph (c.has_root-rooted.ensures storage state at started)) tt)

pub returns-clause-steady : goal.returns-clause-steady
returns-clause-steady c = c.outcome_of_step.ensures.steady c.args.memory.now c.in_ok-step.ensures.asks

pub returns-clause-whole : goal.returns-clause-whole
returns-clause-whole c = c.outcome_of_step.ensures.broken ∙ none_broken_without c.args.memory.now.types _ _ c.in_ok-step.ensures.broken

pub returns-clause-few : goal.returns-clause-few
returns-clause-few c = λ g. few_at_first c.has_root-rooted.result _ _ _ g c.start-export.ensures.begun (c.outcome_of_step.ensures.few g) (c.in_ok-step.ensures.few g refl)
