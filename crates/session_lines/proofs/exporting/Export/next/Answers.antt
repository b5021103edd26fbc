use Rattle.std.proofs.Common.{Option, Some, ap, ◌∙◌, subst, sym}
use Rattle.graph_model.specs.declared.entity.Entity.{Entity}
use Rattle.session_lines.specs.Exports.{Exported, IsGiven}
use Rattle.session_lines.proofs.ExportSteps.{due_is_exported, none_broken}
use Rattle.session_lines.proofs.exporting.Export.next.Goals as goal

pub returns-in_default-given-clause-step : goal.returns-in_default-given-clause-step
returns-in_default-given-clause-step c = λ state text same e given.
    let asked = sym (ap (λ (p : Exported). p.asked) c.self.view_is) ∙ c.in-Some.is in
    (asked, due_is_exported state text c.args.self.now c.in-Some.id e asked, e)

pub returns-in-Ok-None-clause-step : goal.returns-in-Ok-None-clause-step
returns-in-Ok-None-clause-step c = λ state text same e given.
    let asked = sym (ap (λ (p : Exported). p.asked) c.self.view_is) ∙ c.in-Some.is in
    let there : IsGiven state.graph c.args.self.now (Some c.in-Some-given.entity) = subst (λ (o : Option Entity). IsGiven state.graph c.args.self.now o) c.in-Some-given.is given in
    none_broken state text c.args.types.now c.args.self.now c.in-Some.id c.in-Some-given.entity same e (there c.in-Some.id asked) (rw c.in-Ok-None.field-0-is at c.in-Ok-None.ensures)
