-- The last part is confirmed.
use Rattle.std.proofs.Common.{◌≡◌, ◌-◌, cond, None, Some, sym, subst}
use Rattle.std.proofs.lemmas.Bool.{eq-eqb}
use Rattle.channel_files.specs.Chunks.{content_of}
use Rattle.channel.specs.Shown.{disk_in}
use Rattle.channel.specs.Core.{last_part}
use Rattle.channel.specs.State.{ChannelState}
use Rattle.channel.proofs.Prepared.{room_confirmed, sound_confirmed}
use Rattle.channel.proofs.LeftCalls.{left_confirmed}
use Rattle.channel.proofs.channel.Channel.confirm.Goals as goal

pub invariant_of-self : goal.invariant_of-self
invariant_of-self g c =
    let number = subst (λ (s : ChannelState g.row.D.Denot). c.args.number ≡ last_part s) (sym c.self.view_is) c.requires.number in (
      rw c.confirm.ensures (sound_confirmed g.D.Disk.tells g.D.Disk.reads _ c.args.number number c.self.invariant.0),
      rw c.confirm.ensures
          (room_confirmed g.D.Disk.tells g.D.Disk.reads _ c.args.number number _ c.self.invariant.1),
      c.self.invariant.2,
      rw c.confirm.ensures (left_confirmed g.D.Disk.tells g.D.Disk.reads g.D.Disk.leaves _ c.args.number number c.self.invariant.0 c.self.invariant.3),
    )

pub returns-clause-holding : goal.returns-clause-holding
returns-clause-holding g c =
    let number = subst (λ (s : ChannelState g.row.D.Denot). c.args.number ≡ last_part s) (sym c.self.view_is) c.requires.number in
    let s = c.self.inside.files.transactions.inventory.state in
    let chunks = content_of (g.D.Disk.reads c.self.inside.files.disk) in
    rw (← c.self.view_is) (rw c.confirm.ensures (λ i. record {
      held = disk_in s.last chunks s.next_id;
      before = cond (eq-eqb c.args.number s.last number i) None (Some (disk_in (s.last - 1) chunks s.next_id_before));
    }))
