use Rattle.std.proofs.Common.{◌≡◌}
use Rattle.core_steps.specs.Events.{kind_of}
use Rattle.shards.proofs.Steps.{choose}
use Rattle.shards.proofs.passes.Held.leave.Goals as goal

pub give-requires-clause-event : goal.give-requires-clause-event
give-requires-clause-event g c = let me = c.args.self in choose g.C.CoreUnit.told g.C.BackedUnit.backs g.C.BackedUnit.turns me.turn.known me.turn.shard me.turn.was me.unit me.hand (λ e. kind_of e ≡ c.args.kind) c.requires.event

pub returns-clause-event : goal.returns-clause-event
returns-clause-event g c = let t = c.give.ensures.event in (t.0, t.2, λ said. let e = t.1 said in (e.0, e.1, e.2, e.3, t.3 said e.0 e.1))
