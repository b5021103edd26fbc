use Rattle.std.proofs.Common.{◌≡◌}
use Rattle.shard_rows.proofs.Passes.{alike_self, alike_turn}
use Rattle.shard_rows.proofs.working.work.Goals as goal

pub loop-turn-init : goal.loop-turn-init
loop-turn-init g c = (c.requires.table, alike_self c.args.pass.known)

pub loop-turn-preserved : goal.loop-turn-preserved
loop-turn-preserved g c = let t = c.enter-held.ensures.taken in (c.act-pass.ensures.table, alike_turn c.args.pass.known c.loop-turn.pass.known t.0 c.enter-held.result.turn.known c.act-pass.result.known _ _ c.loop-turn.invariant.1 t.1 t.2 c.act-pass.ensures.alike)
