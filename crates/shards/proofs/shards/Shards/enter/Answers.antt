use Rattle.std.proofs.Common.{ℕ, refl, ap, ◌∙◌, subst}
use Rattle.core_steps.specs.Told.{Told}
use Rattle.shards.specs.Known.{IsLater, Known}
use Rattle.shards.specs.Plays.{Glimpse}
use Rattle.shards.proofs.shards.Shards.enter.Goals as goal

pub loop-init : goal.loop-init
loop-init g c = (tt, tt, refl, (c.args.pass.known.tries, refl))

-- what a pass sees of the core does not hang on how often it tried
seen_before : {C : Type 0} (v w : Known C) (k : ℕ) (t : Told) → IsLater v w → Glimpse w k t → Glimpse v k t
seen_before v w k t later seen =
    let s = subst (λ (z : Known _). Glimpse z k t) later.1 seen in
    record { core = s.core; good = s.good; channels = s.channels; shard = s.shard; hand = s.hand; desk = s.desk }

pub returns-in-Ok-clause-core : goal.returns-in-Ok-clause-core
returns-in-Ok-clause-core g c tells =
    let later = c.loop.invariant.3 in
    seen_before c.args.pass.known c.loop.pass.known c.args.shard (g.C.CoreUnit.told c.in-Ok.held.unit) later (c.in-Ok.ensures.core (ap (λ (z : Known g.row.C.Denot). z.tells) later.1 ∙ tells))
