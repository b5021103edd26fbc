use Rattle.std.proofs.Common.{arith}
use Rattle.std.proofs.lemmas.Grind.{common_steps}
use Rattle.std.proofs.lemmas.List.FromFn.{map-range_with_len_more}
use Rattle.core_steps.specs.Steps.{start_channel}
use Rattle.core_machine.proofs.starting.start_channels.Goals as goal

pub loop-number-preserved : goal.loop-number-preserved
loop-number-preserved c =
    let more = map-range_with_len_more (start_channel c.args.graph.now c.args.stores c.args.channels) 0 c.loop-number.number c.loop-number.number (omega arith) in
    rw more (grind (arith, common_steps))
