use Rattle.std.proofs.Common.{[], ap, ◌∙◌, refl, subst, sym}
use Rattle.std.proofs.lemmas.Result.{IfOk-weaker}
use Rattle.session_lines.specs.Exports.{Exported, IsWalking, starts}
use Rattle.session_lines.specs.declared.exporting.Stage.TheVariants as stages
use Rattle.session_lines.proofs.ExportCounts.{begun_steps}
use Rattle.session_lines.proofs.ExportLines.{begins_telling}
use Rattle.session_lines.proofs.exporting.Export.begin_telling.Goals as goal

pub returns-clause-step : goal.returns-clause-step
returns-clause-step c = λ state walking none right w.
    c.tell_next.ensures.step state [] (ap (λ (p : Exported). p.asked) c.self.view_is ∙ none) (record {
      graph = right;
      at = rw (ap (λ (p : Exported). p.asked) c.self.view_is ∙ none) (begins_telling state c.self.inside.left.keys c.self.inside.waiting.items _ right
          (subst (λ (p : Exported). IsWalking state.graph (starts state.graph) p.left []) (sym c.self.view_is) w) c.len.ensures.len);
    })

pub returns-clause-few : goal.returns-clause-few
returns-clause-few c = λ g walking none.
    let asked = ap (λ (p : Exported). p.asked) c.self.view_is ∙ none in
    IfOk-weaker c.tell_next.result _ _ (λ step h. begun_steps c.args.self.now (record { stage = stages.Telling; asked = c.self.inside.asked; left = c.self.inside.left.keys; waiting = []; count = 0 }) _ g walking refl asked
    (ap (λ (p : Exported). p.left) c.self.view_is) h) (c.tell_next.ensures.nearer g asked)
