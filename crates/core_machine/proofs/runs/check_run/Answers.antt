use Rattle.std.proofs.Common.{◌≡◌, ◌∙◌, ℕ, ◌≤◌, Bool, Some, Ok, Err, length, inl, refl, sym, ap, arith}
use Rattle.std.specs.Prelude.{slice_get}
use Rattle.std.proofs.lemmas.List.{take_all}
use Rattle.std.proofs.lemmas.Option.{slice_get_read}
use Rattle.core_machine.specs.declared.runs.RunFault.TheVariants.{BadStep}
use Rattle.core_steps.specs.Steps.{IsFirstRefused, run, step}
use Rattle.core_machine.proofs.Refused.{none_refused, one_refused, run_one_more}
use Rattle.core_machine.proofs.runs.check_run.Goals as goal

pub loop-index-preserved : goal.loop-index-preserved
loop-index-preserved c =
    let steps = c.args.steps.now.items in
    let at : slice_get steps c.loop-index.index ≡ Some c.wanted-item.result =
    slice_get_read steps (length steps) c.loop-index.index c.wanted-item.result refl (omega arith) (rw c.deref-wanted-items.ensures.value at c.wanted-item.is) in
    let made : step c.loop-index.core c.wanted-item.result ≡ Some c.step.new.core = c.in_ok-step.ensures.yes (ap (λ (b : Bool). Ok b) c.if-not-branch.false) in
    record {
      leads = run_one_more c.args.start steps c.loop-index.index c.loop-index.core c.step.new.core c.wanted-item.result c.loop-index.invariant.leads at made;
      good = c.step.ensures.good;
      channels = omega arith;
      actors = omega arith;
    }

pub returns-then-not-branch-clause-refused : goal.returns-then-not-branch-clause-refused
returns-then-not-branch-clause-refused c n f =
    let steps = c.args.steps.now.items in
    let at : slice_get steps c.loop-index.index ≡ Some c.wanted-item.result =
    slice_get_read steps (length steps) c.loop-index.index c.wanted-item.result refl (omega arith) (rw c.deref-wanted-items.ensures.value at c.wanted-item.is) in
    let here : IsFirstRefused c.args.start steps c.loop-index.index = record {
      core = c.loop-index.core;
      leads = c.loop-index.invariant.leads;
      bad = c.wanted-item.result;
      at = at;
      refused = c.in_ok-step.ensures.no (ap (λ (b : Bool). Ok b) c.if-not-branch.true);
    } in
    inl (ap (λ (k : ℕ). Err (BadStep k)) (one_refused c.args.start steps c.loop-index.index n here f))

pub returns-clause-refused : goal.returns-clause-refused
returns-clause-refused c n f =
    let steps = c.args.steps.now.items in
    let past : length steps ≤ c.loop-index.index = omega arith in
    let whole : run c.args.start steps ≡ Some c.loop-index.core = ap (run c.args.start) (sym (take_all c.loop-index.index steps past)) ∙ c.loop-index.invariant.leads in
    absurd (none_refused c.args.start steps n c.loop-index.core whole f)
