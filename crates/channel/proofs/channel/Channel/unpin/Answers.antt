use Rattle.std.proofs.Common.{◌≡◌, false, Some, None, Option, IsSome, refl, sym, ap, ◌∙◌, rules}
use Rattle.std.specs.Prelude.{is_some}
use Rattle.oid_table.specs.Table.{value_at}
use Rattle.entity_index.specs.declared.row.Row.{Row}
use Rattle.channel.specs.State.{ChannelState}
use Rattle.channel.specs.Core.{core_of}
use Rattle.channel.proofs.RowStates.{invariant_still, unpin_event, unpin_none}
use Rattle.channel.proofs.Rest.{fits_pin}
use Rattle.channel.proofs.LeftCalls.{left_row}
use Rattle.channel.proofs.channel.Channel.unpin.Goals as goal

none : (o : Option Row) → is_some o ≡ false → o ≡ None
none None is = refl
none (Some row) is = absurd cc

pub invariant_of-self : goal.invariant_of-self
invariant_of-self g c =
    let some : IsSome (value_at c.self.inside.index c.args.id) = search rules in
    let still = invariant_still g.D.Disk.tells g.D.Disk.reads _ c.self.inside.index c.unpin.new.self c.args.id (λ (row : Row). record row.state { pinned = false })
    (λ row. fits_pin c.self.inside.phase row false) refl some c.unpin.ensures c.self.invariant.0 c.self.invariant.1 in
    (still.0, still.1, c.self.invariant.2, left_row g.D.Disk.tells g.D.Disk.reads g.D.Disk.leaves _ c.self.inside.index c.unpin.new.self c.args.id (λ (row : Row). record row.state { pinned = false }) refl some c.unpin.ensures c.self.invariant.0 c.self.invariant.3)

pub returns-then-is_some-clause-event : goal.returns-then-is_some-clause-event
returns-then-is_some-clause-event g c = λ part.
    let some : IsSome (value_at c.self.inside.index c.args.id) = search rules in
    let rows = ap (λ (s : ChannelState _). s.rows) (sym c.self.view_is) in
    unpin_event g.D.Disk.reads c.args.self.now c.args.id c.args.hand.now part c.self.inside.index c.unpin.new.self rows (rw rows some) c.unpin.ensures
    ∙ ap (λ (s : ChannelState _). Some (core_of g.D.Disk.reads (record s { rows = c.unpin.new.self.contents }), c.args.hand.now)) (sym c.self.view_is)

pub returns-else-is_some-clause-event : goal.returns-else-is_some-clause-event
returns-else-is_some-clause-event g c = λ part.
    let absent : is_some (value_at c.self.inside.index c.args.id) ≡ false = search rules in
    let rows = ap (λ (s : ChannelState _). s.rows) (sym c.self.view_is) in
    unpin_none g.D.Disk.reads c.args.self.now c.args.id c.args.hand.now part (rw rows (none _ absent))
