use Rattle.std.proofs.Common.{◌≡◌, Some, refl, ap, ◌∙◌, subst}
use Rattle.core_steps.specs.declared.event.Event.{Event}
use Rattle.core_steps.specs.declared.event.Event.TheVariants.{StoreBegin}
use Rattle.shards.specs.Plays.{Steps}
use Rattle.shards.proofs.Steps.{choose}
use Rattle.shards.proofs.passes.Held.leave_store.Goals as goal

pub give-requires-clause-event : goal.give-requires-clause-event
give-requires-clause-event g c = let me = c.args.self in
    choose g.C.CoreUnit.told g.C.BackedUnit.backs g.C.BackedUnit.turns me.turn.known me.turn.shard me.turn.was me.unit me.hand (λ e. e ≡ StoreBegin c.args.op.now)
    (λ said. let t = c.requires.event said in (StoreBegin c.args.op.now, refl, t.0, t.1))

pub returns-clause-known : goal.returns-clause-known
returns-clause-known g c = let me = c.args.self in let t = c.give.ensures.event in (
  t.0,
  t.2,
  λ said. let e = t.1 said in
      (e.1 ∙ ap (λ (x : Event). Some x) e.2, subst (Steps me.turn.known me.turn.shard (g.C.CoreUnit.told me.turn.was) (g.C.CoreUnit.told me.unit) me.hand) e.2 (t.3 said e.0 e.1)),
)
