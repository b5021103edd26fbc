use Rattle.std.proofs.Common.{◌≡◌, ◌∙◌, ℕ, List, ap, sym}
use Rattle.graph_model.specs.Graph.{ids}
use Rattle.core_steps.specs.Core.{Hand}
use Rattle.core_steps.specs.declared.state.CoreChannel.{CoreChannel}
use Rattle.core_steps.specs.declared.state.Phase.{Phase}
use Rattle.core_steps.specs.declared.state.Phase.TheVariants.{Marking, Sweeping}
use Rattle.core_steps.specs.declared.event.Event.TheVariants.{SweepSome}
use Rattle.core_steps.specs.Rows.{channel_step, sweep_some, sweep_from}
use Rattle.core_steps.specs.declared.state.Place.{Place}
use Rattle.core_machine.proofs.sweeping.sweep_some.Goals as goal

-- a channel that was Marking is swept from all its ids
while_marking : (p : Place) (c : CoreChannel) (h : Hand) (xs : List ℕ) (b : ℕ) (left : List ℕ) → c.phase ≡ Marking b → left ≡ ids c.table
    → sweep_from p b left xs c h ≡ channel_step p c h (SweepSome xs)
while_marking p c h xs b left e l = ap (λ (ys : List ℕ). sweep_from p b ys xs c h) l ∙ sym (ap (λ (ph : Phase). sweep_some p ph xs c h) e)

while_sweeping : (p : Place) (c : CoreChannel) (h : Hand) (xs : List ℕ) (b : ℕ) (left now : List ℕ) → c.phase ≡ Sweeping b left → now ≡ left
    → sweep_from p b now xs c h ≡ channel_step p c h (SweepSome xs)
while_sweeping p c h xs b left now e l = ap (λ (ys : List ℕ). sweep_from p b ys xs c h) l ∙ sym (ap (λ (ph : Phase). sweep_some p ph xs c h) e)

pub returns-in_ok-left-in-Marking : goal.returns-in_ok-left-in-Marking
returns-in_ok-left-in-Marking c =
    let e = while_marking c.args.place.now c.args.pair.0 c.args.pair.1 c.args.ids.now c.in-Marking.cycle c.in_ok-left-in-Marking.left c.in-Marking.is c.in_ok-left-in-Marking.ensures in
    rw e at c.sweep_from.ensures

pub returns-in_ok-left-in-Sweeping : goal.returns-in_ok-left-in-Sweeping
returns-in_ok-left-in-Sweeping c =
    let e = while_sweeping c.args.place.now c.args.pair.0 c.args.pair.1 c.args.ids.now c.in-Sweeping.cycle c.in-Sweeping.left c.in_ok-left-in-Sweeping.left c.in-Sweeping.is c.in_ok-left-in-Sweeping.ensures.cases in
    rw e at c.sweep_from-in-Sweeping.ensures
