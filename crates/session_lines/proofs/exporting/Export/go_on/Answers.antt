use Rattle.std.proofs.Common.{refl, ap, ◌∙◌, sym, subst}
use Rattle.std.proofs.lemmas.Result.{IfOk-weaker}
use Rattle.session_lines.specs.Exports.{Exported, IsExporting}
use Rattle.session_lines.proofs.ExportCounts.{at_most_below, at_most_same}
use Rattle.session_lines.proofs.ExportSteps.{asks_on, due_is_exported}
use Rattle.session_lines.proofs.exporting.Export.go_on.Goals as goal

pub returns-in-Some-clause-step : goal.returns-in-Some-clause-step
returns-in-Some-clause-step c = λ state text none e.
    let there = asks_on state text c.next_waiting.new.waiting.items _ c.in-Some.id c.in-Walking.is (ap (λ (p : Exported). p.asked) c.self.view_is ∙ none) (subst (λ (p : Exported). IsExporting state text p) (sym c.self.view_is) e) c.in-Some.ensures.unseen c.in-Some.ensures.walks in
    (refl, due_is_exported state text _ c.in-Some.id there refl, there)

pub returns-in-None-clause-few : goal.returns-in-None-clause-few
returns-in-None-clause-few c = λ g none.
    let asked = ap (λ (p : Exported). p.asked) c.self.view_is ∙ none in
    IfOk-weaker c.begin_telling.result _ _ (λ step h. at_most_same (record {
      stage = c.self.inside.stage;
      asked = c.self.inside.asked;
      left = c.self.inside.left.keys;
      waiting = c.next_waiting.new.waiting.items;
      count = c.self.inside.count;
    }) c.args.self.now _ g (ap (λ (p : Exported). p.stage) c.self.view_is) (ap (λ (p : Exported). p.asked) c.self.view_is) (ap (λ (p : Exported). p.left) c.self.view_is) h) (c.begin_telling.ensures.few g c.in-Walking.is asked)

pub returns-in-Telling-clause-few : goal.returns-in-Telling-clause-few
returns-in-Telling-clause-few c = λ g none.
    IfOk-weaker c.tell_next.result _ _ (λ step h. at_most_below _ _ h) (c.tell_next.ensures.nearer g none)

pub tell_next-requires : goal.tell_next-requires
tell_next-requires c = sym (ap (λ (p : Exported). p.stage) c.self.view_is) ∙ c.in-Telling.is
