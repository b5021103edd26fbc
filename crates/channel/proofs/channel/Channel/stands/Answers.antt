-- What is read, and each image, has what the channel stands for.
use Rattle.std.proofs.Common.{subst}
use Rattle.store_io.specs.Whole.{EachImage}
use Rattle.channel.specs.Left.{EndsOrTried, HoldsOrTried}
use Rattle.channel.specs.State.{ChannelState}
use Rattle.channel.proofs.Images.{holds_read}
use Rattle.channel.proofs.Left.{each_end, each_left}
use Rattle.channel.proofs.channel.Channel.stands.Goals as goal

pub returns-clause-sound : goal.returns-clause-sound
returns-clause-sound g c = rw (← c.self.view_is) c.self.invariant.0

pub returns-clause-read : goal.returns-clause-read
returns-clause-read g c = rw (← c.self.view_is) (λ told unfailed. holds_read g.D.Disk.reads _ (c.self.invariant.0.on_disk told unfailed))

pub returns-clause-images : goal.returns-clause-images
returns-clause-images g c = λ told.
    subst (λ (s : ChannelState g.row.D.Denot). EachImage (g.D.Disk.leaves s.files.disk) (HoldsOrTried g.D.Disk.reads s)) c.self.view_is
    (each_left g.D.Disk.tells g.D.Disk.reads g.D.Disk.leaves _ c.self.invariant.0 c.self.invariant.3 told)

pub returns-clause-left : goal.returns-clause-left
returns-clause-left g c = rw (← c.self.view_is) c.self.invariant.3

pub returns-clause-ends : goal.returns-clause-ends
returns-clause-ends g c = λ told.
    subst (λ (s : ChannelState g.row.D.Denot). EachImage (g.D.Disk.leaves s.files.disk) (EndsOrTried g.D.Disk.reads s)) c.self.view_is
    (each_end g.D.Disk.tells g.D.Disk.reads g.D.Disk.leaves _ c.self.invariant.0 c.self.invariant.3 told)
