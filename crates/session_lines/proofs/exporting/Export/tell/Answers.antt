use Rattle.std.proofs.Common.{refl, ap, ◌∙◌, sym, subst}
use Rattle.session_lines.specs.Exports.{Exported, IsExporting}
use Rattle.session_lines.proofs.ExportCounts.{told_steps}
use Rattle.session_lines.proofs.ExportLines.{is_line}
use Rattle.session_lines.proofs.ExportSteps.{tells}
use Rattle.session_lines.proofs.exporting.Export.tell.Goals.{in-Ok, in-Err}
use Rattle.session_lines.proofs.exporting.Export.tell.Goals as goal

pub returns-clause-step : goal.returns-clause-step
returns-clause-step c = λ state text entity same is asked e at holds. elim c.match-object_line.branch [
  | in-Ok w ↦ rw w.result-is (
    refl,
    is_line state c.args.types.now c.args.id entity c.args.object.now w.in-Ok.line same holds w.in-Ok.ensures,
    tells state text w.in-Ok.line c.args.types.now _ c.args.id entity c.args.object.now same (ap (λ (p : Exported). p.stage) c.self.view_is ∙ is) (ap (λ (p : Exported). p.asked) c.self.view_is ∙ asked)
        (subst (λ (p : Exported). IsExporting state text p) (sym c.self.view_is) e) at holds w.in-Ok.ensures,
  )
  | in-Err w ↦ rw w.result-is tt
]

pub returns-clause-on : goal.returns-clause-on
returns-clause-on c = elim c.match-object_line.branch [
  | in-Ok w ↦ rw w.result-is tt
  | in-Err w ↦ rw w.result-is tt
]

pub returns-clause-nearer : goal.returns-clause-nearer
returns-clause-nearer c = λ g is asked. elim c.match-object_line.branch [
  | in-Ok w ↦ rw (w.result-is, sym c.self.view_is) (told_steps _ c.args.id g (ap (λ (p : Exported). p.stage) c.self.view_is ∙ is) (ap (λ (p : Exported). p.asked) c.self.view_is ∙ asked))
  | in-Err w ↦ rw w.result-is tt
]
