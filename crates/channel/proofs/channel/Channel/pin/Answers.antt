use Rattle.std.proofs.Common.{true, Some, refl, sym, ap, ◌∙◌}
use Rattle.entity_index.specs.declared.row.Row.{Row}
use Rattle.channel.specs.State.{ChannelState}
use Rattle.channel.specs.Core.{core_of}
use Rattle.channel.proofs.RowStates.{has_row, invariant_still, pin_event}
use Rattle.channel.proofs.Rest.{fits_pin}
use Rattle.channel.proofs.LeftCalls.{left_row}
use Rattle.channel.proofs.channel.Channel.pin.Goals as goal

pub pin-requires : goal.pin-requires
pin-requires g c = let some = has_row g.D.Disk.reads c.args.self.now c.args.id c.requires.listed in rw (← c.self.view_is) at some

pub invariant_of-self : goal.invariant_of-self
invariant_of-self g c =
    let some = has_row g.D.Disk.reads c.args.self.now c.args.id c.requires.listed in
    let still = invariant_still g.D.Disk.tells g.D.Disk.reads _ c.self.inside.index c.pin.new.self c.args.id (λ (row : Row). record row.state { pinned = true })
    (λ row. fits_pin c.self.inside.phase row true) refl (rw (← c.self.view_is) at some) c.pin.ensures c.self.invariant.0 c.self.invariant.1 in
    (still.0, still.1, c.self.invariant.2, left_row g.D.Disk.tells g.D.Disk.reads g.D.Disk.leaves _ c.self.inside.index c.pin.new.self c.args.id (λ (row : Row). record row.state { pinned = true }) refl (rw (← c.self.view_is) at some) c.pin.ensures c.self.invariant.0 c.self.invariant.3)

pub returns-clause-event : goal.returns-clause-event
returns-clause-event g c = λ part.
    pin_event g.D.Disk.reads c.args.self.now c.args.id c.args.hand.now part c.self.inside.index c.pin.new.self (ap (λ (s : ChannelState _). s.rows) (sym c.self.view_is))
    c.pin.ensures c.requires.idle c.requires.listed c.requires.credit
    ∙ ap (λ (s : ChannelState _). Some (core_of g.D.Disk.reads (record s { rows = c.pin.new.self.contents }), c.args.hand.now)) (sym c.self.view_is)
