use Rattle.std.proofs.Common.{◌≡◌, Some, [], ap, ◌∙◌, sym, subst, arith}
use Rattle.std.proofs.lemmas.Grind.{common_steps}
use Rattle.session_lines.specs.Exports.{Exported, IsExporting, IsUnseen}
use Rattle.session_lines.specs.declared.exporting.Stage.{Stage}
use Rattle.session_lines.proofs.ExportSteps.{ends}
use Rattle.session_lines.proofs.exporting.Export.tell_next.Goals as goal

pub returns-in_ok-numbered_line-in-None-clause-step : goal.returns-in_ok-numbered_line-in-None-clause-step
returns-in_ok-numbered_line-in-None-clause-step c =
    let empty : c.self.inside.left.keys ≡ [] = grind (arith, common_steps) in
    λ state text none e. ends state text c.in_ok-numbered_line-in-None.field-0 (record {
      stage = c.self.inside.stage;
      asked = c.self.inside.asked;
      left = c.self.inside.left.keys;
      waiting = c.self.inside.waiting.items;
      count = c.self.inside.count;
    })
    (ap (λ (p : Exported). p.stage) c.self.view_is ∙ c.requires) (ap (λ (p : Exported). p.asked) c.self.view_is ∙ none) empty
    (subst (λ (p : Exported). IsExporting state text p) (sym c.self.view_is) e) c.in_ok-numbered_line-in-None.ensures

pub invariant_of-self : goal.invariant_of-self
invariant_of-self c = subst (λ (s : Stage). IsUnseen s (Some c.in-Some.id) c.pop_first.new.self.keys) (sym (ap (λ (p : Exported). p.stage) c.self.view_is ∙ c.requires)) tt
