use Rattle.std.proofs.Common.{None, Option, refl, ap, ◌∙◌}
use Rattle.core_steps.specs.declared.event.Event.{Event}
use Rattle.shards.specs.Known.{gave}
use Rattle.shards.proofs.passes.Held.back.Goals as goal

pub give-requires-clause-event : goal.give-requires-clause-event
give-requires-clause-event g c = (None, (refl, λ said. c.requires.same said))

pub returns-clause-known : goal.returns-clause-known
returns-clause-known g c = let me = c.args.self in let t = c.give.ensures.event in t.2 ∙ ap (λ (o : Option Event). gave me.turn.known me.turn.shard (g.C.CoreUnit.told me.turn.was) (g.C.CoreUnit.told me.unit) me.hand o) t.1.0
