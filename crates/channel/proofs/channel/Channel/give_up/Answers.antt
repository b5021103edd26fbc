-- Nothing is prepared.
use Rattle.std.proofs.Common.{◌≡◌, None, refl, sym, subst}
use Rattle.channel.proofs.Prepared.{room_for_nothing, sound_given_up}
use Rattle.channel.specs.State.{ChannelState}
use Rattle.channel.proofs.LeftCalls.{left_given_up}
use Rattle.channel.proofs.channel.Channel.give_up.Goals as goal

pub invariant_of-self : goal.invariant_of-self
invariant_of-self g c =
    let none = subst (λ (s : ChannelState g.row.D.Denot). s.tried ≡ None) (sym c.self.view_is) c.requires.untried in
    (sound_given_up g.D.Disk.tells g.D.Disk.reads _ c.self.invariant.0, room_for_nothing _ _ refl, c.self.invariant.2, left_given_up g.D.Disk.tells g.D.Disk.reads g.D.Disk.leaves _ c.self.invariant.0 c.self.invariant.3 none)
