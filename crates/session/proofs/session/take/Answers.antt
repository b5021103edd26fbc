-- A line is given: all of its turn is due, and no step is counted yet. Nothing is looked up while a line is printed.
use Rattle.std.proofs.Common.{IfOk, subst, sym}
use Rattle.std.proofs.lemmas.Result.{IfOk-weaker}
use Rattle.session_lines.specs.Steps.{steps_left}
use Rattle.session.specs.Dealing.{ComesNearer, MayGive}
use Rattle.session.specs.Sessions.{session_of}
use Rattle.session.specs.declared.session.Given.{Given}
use Rattle.session.specs.declared.session.StepTaken.{StepTaken}
use Rattle.session.proofs.session.take.Goals as goal

pub returns-in-Line-clause-gives : goal.returns-in-Line-clause-gives
returns-in-Line-clause-gives c = λ is_next_type storage due admits may.
    let begins = subst (λ (g : Given). MayGive g (session_of c.args.memory.now c.args.waiting) storage due) c.in-Line.is may in
    c.line_given.ensures.gives is_next_type storage due admits begins.1

pub returns-in-Line-clause-nearer : goal.returns-in-Line-clause-nearer
returns-in-Line-clause-nearer c = λ graph listed.
    subst (λ (g : Given). IfOk c.line_given.result (λ (taken : StepTaken). ComesNearer g (steps_left c.args.waiting graph) (steps_left taken.waiting graph))) (sym c.in-Line.is)
    (IfOk-weaker c.line_given.result _ _ (λ taken fits. tt) c.line_given.ensures.fits)

pub returns-in-Printed-clause-nearer : goal.returns-in-Printed-clause-nearer
returns-in-Printed-clause-nearer c = λ graph listed.
    subst (λ (g : Given). IfOk c.printed.result (λ (taken : StepTaken). ComesNearer g (steps_left c.args.waiting graph) (steps_left taken.waiting graph))) (sym c.in-Printed.is)
    (c.printed.ensures.nearer graph)
