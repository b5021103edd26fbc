-- More room, and another part prepared.
use Rattle.std.proofs.Common.{◌≡◌, ◌≤◌, length, None, Some, sym, subst, rules}
use Rattle.channel.proofs.Prepared.{SameButSpare, room_new, room_still, sound_prepared}
use Rattle.channel.specs.State.{ChannelState}
use Rattle.channel.proofs.LeftCalls.{left_prepared}
use Rattle.channel_files.specs.Chunks.{content_of}
use Rattle.channel.specs.Holding.{holding_in}
use Rattle.channel.proofs.channel.Channel.prepare.Goals as goal

pub invariant_of-self-in_err-prepare : goal.invariant_of-self-in_err-prepare
invariant_of-self-in_err-prepare g c =
    let e = c.prepare.ensures in
    let files = c.prepare.new.self in
    let same : SameButSpare c.self.inside.files files = record { disk = e.disk; log = e.log; state = e.state; sizes = e.sizes; confirmed = e.confirmed } in (
      rw c.reserve.ensures.rows (sound_prepared g.D.Disk.tells g.D.Disk.reads _ files same c.self.inside.prepared c.self.invariant.0),
      rw c.reserve.ensures.rows (room_still _ files same c.self.inside.index.spare c.reserve.new.self.spare c.reserve.ensures.spare e.kept c.self.invariant.1),
      c.self.invariant.2,
      rw c.reserve.ensures.rows (left_prepared g.D.Disk.tells g.D.Disk.reads g.D.Disk.leaves _ files same (c.self.inside.prepared) c.self.invariant.0 c.self.invariant.3 (subst (λ (s : ChannelState g.row.D.Denot). s.tried ≡ None) (sym c.self.view_is) c.requires.untried)),
    )

pub invariant_of-self-2 : goal.invariant_of-self-2
invariant_of-self-2 g c =
    let e = c.prepare.ensures in
    let files = c.prepare.new.self in
    let ready = c.in_ok-ready.ready in
    let same : SameButSpare c.self.inside.files files = record { disk = e.disk; log = e.log; state = e.state; sizes = e.sizes; confirmed = e.confirmed } in
    let fits : length ready ≤ c.reserve.new.self.spare = search rules in (
      rw c.reserve.ensures.rows (sound_prepared g.D.Disk.tells g.D.Disk.reads _ files same (Some ready) c.self.invariant.0),
      rw c.reserve.ensures.rows (room_new _ files same _ c.self.invariant.1 ready c.reserve.new.self.spare fits c.in_ok-prepare.ensures.room),
      c.self.invariant.2,
      rw c.reserve.ensures.rows (left_prepared g.D.Disk.tells g.D.Disk.reads g.D.Disk.leaves _ files same (Some ready) c.self.invariant.0 c.self.invariant.3 (subst (λ (s : ChannelState g.row.D.Denot). s.tried ≡ None) (sym c.self.view_is) c.requires.untried)),
    )

-- ---- what the disk holds

pub returns-in_err-prepare-clause-holding : goal.returns-in_err-prepare-clause-holding
returns-in_err-prepare-clause-holding g c =
    let e = c.prepare.ensures in
    rw (← c.self.view_is) (λ i. holding_in (e.state i) (e.confirmed i) (content_of (g.D.Disk.reads (e.disk i))))

pub returns-clause-holding : goal.returns-clause-holding
returns-clause-holding g c =
    let e = c.prepare.ensures in
    rw (← c.self.view_is) (λ i. holding_in (e.state i) (e.confirmed i) (content_of (g.D.Disk.reads (e.disk i))))
