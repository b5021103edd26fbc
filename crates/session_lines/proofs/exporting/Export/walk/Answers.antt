use Rattle.std.proofs.Common.{ap, arith}
use Rattle.std.proofs.lemmas.Result.{IfOk-weaker}
use Rattle.session_lines.specs.Exports.{Exported}
use Rattle.session_lines.proofs.ExportCounts.{looked_steps}
use Rattle.session_lines.proofs.ExportSteps.{looks}
use Rattle.session_lines.proofs.exporting.Export.walk.Goals as goal

pub returns-in-Ok-clause-step : goal.returns-in-Ok-clause-step
returns-in-Ok-clause-step c = λ state text is asked e at.
    let there = looks state text c.args.self.now c.look.new.self c.args.id c.args.entity.now is asked e at c.in-Ok.ensures in
    c.go_on.ensures.step state text there.0 there.1

pub returns-in-Ok-clause-nearer : goal.returns-in-Ok-clause-nearer
returns-in-Ok-clause-nearer c = λ g is fresh there.
    let becomes = c.in-Ok.ensures fresh in
    let less = looked_steps c.args.self.now c.look.new.self c.args.id c.args.entity.now g is fresh there becomes in
    IfOk-weaker c.go_on.result _ _ (λ step h. omega arith) (c.go_on.ensures.few g (ap (λ (p : Exported). p.asked) becomes))
