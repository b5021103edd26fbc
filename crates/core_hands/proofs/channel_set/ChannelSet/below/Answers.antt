use Rattle.std.proofs.Common.{◌∙◌, ap, List, ℕ}
use Rattle.graph_model.specs.Ids.{add}
use Rattle.core_hands.proofs.Sets.{add_next}
use Rattle.core_hands.proofs.channel_set.ChannelSet.below.Goals as goal

pub loop-channel-preserved : goal.loop-channel-preserved
loop-channel-preserved c =
    let number = c.loop-channel.channel in
    c.add.ensures ∙ (ap (λ (xs : List ℕ). add number xs) c.loop-channel.invariant ∙ add_next number)
