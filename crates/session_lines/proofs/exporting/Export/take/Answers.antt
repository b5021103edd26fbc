use Rattle.std.proofs.Common.{ap, ◌∙◌, sym, subst}
use Rattle.session_lines.specs.Exports.{Exported, IsUnseen}
use Rattle.session_lines.proofs.ExportSteps.{unseen_is_fresh}
use Rattle.session_lines.proofs.exporting.Export.take.Goals as goal

pub returns-in-Telling-clause-step : goal.returns-in-Telling-clause-step
returns-in-Telling-clause-step c = λ state text same asked e at.
    c.tell.ensures.step state text c.args.entity.now same (sym (ap (λ (p : Exported). p.stage) c.self.view_is) ∙ c.in-Telling.is) asked e at c.requires

pub returns-in-Walking-clause-nearer : goal.returns-in-Walking-clause-nearer
returns-in-Walking-clause-nearer c = λ g asked there.
    let is = sym (ap (λ (p : Exported). p.stage) c.self.view_is) ∙ c.in-Walking.is in
    c.walk.ensures.nearer g is (unseen_is_fresh c.args.self.now c.args.id (subst (λ (p : Exported). IsUnseen p.stage p.asked p.left) c.self.view_is c.self.invariant) is asked) there
