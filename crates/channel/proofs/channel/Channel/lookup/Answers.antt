-- The row says where the entity stands, and its bytes there are the spelling of the table's.
use Rattle.std.proofs.Common.{◌≡◌, Err, false, Option, sym, ap, ◌∙◌, arith}
use Rattle.std.proofs.lemmas.Bool.{false≢true}
use Rattle.field_bytes.proofs.Laws.{IsBytes}
use Rattle.channel.proofs.OnDisks.{row_within, row_header_there}
use Rattle.channel.proofs.Sounds.{SameFiles, sound_read, room_called, sound_refused, room_refused}
use Rattle.channel.proofs.Lookups.{lists_row, told_gone, told_other, ok_is_not, fault_is_not, changed_is_not, entity_read, spelled_as_read}
use Rattle.channel.proofs.Left.{left_read, left_refused}
use Rattle.std.specs.Prelude.{is_some}
use Rattle.entity_index.specs.declared.row.Row.{Row}
use Rattle.channel.proofs.Turns.{silent, turn_gone}
use Rattle.channel_files.specs.Chunks.{content_of}
use Rattle.channel.specs.Holding.{holding_in}
use Rattle.channel.proofs.channel.Channel.lookup.Goals as goal

-- ---- the channel still holds what it held

pub invariant_of-self : goal.invariant_of-self
invariant_of-self g c =
    let still = λ (e : c.note.new.failed ≡ false). sym c.note.ensures.failed ∙ e in (
      sound_refused _ _ _ c.note.new.ending c.note.new.failed c.self.invariant.0 still,
      room_refused _ c.note.new.ending c.note.new.failed _ c.self.invariant.1 still,
      c.self.invariant.2,
      left_refused _ _ _ _ c.note.new.ending c.note.new.failed c.self.invariant.0 c.self.invariant.3 still,
    )

pub invariant_of-self-then-self : goal.invariant_of-self-then-self
invariant_of-self-then-self g c =
    let new = c.note-then-self.new in
    let still = λ (e : new.failed ≡ false). absurd (false≢true (sym e ∙ c.note-then-self.ensures.failed)) in (
      sound_refused _ _ _ new.ending new.failed c.self.invariant.0 still,
      room_refused _ new.ending new.failed _ c.self.invariant.1 still,
      c.self.invariant.2,
      left_refused _ _ _ _ new.ending new.failed c.self.invariant.0 c.self.invariant.3 still,
    )

pub invariant_of-self-in-Ok : goal.invariant_of-self-in-Ok
invariant_of-self-in-Ok g c =
    let files = c.read_entity.new.self in
    let same : SameFiles c.self.inside.files files = record { transactions = c.read_entity.ensures.transactions; sizes = c.read_entity.ensures.sizes; confirmed = c.read_entity.ensures.confirmed } in
    let still = λ (e : c.self.inside.failed ≡ false). e in (
      sound_read _ _ _ files c.self.inside.ending c.self.inside.failed c.self.invariant.0 same still c.read_entity.ensures.reads,
      room_called _ files _ c.self.inside.ending c.self.inside.failed _ _ c.self.invariant.1 same still,
      c.self.invariant.2,
      left_read _ _ _ _ files c.self.inside.ending c.self.inside.failed c.self.invariant.0 c.self.invariant.3 same still c.read_entity.ensures.reads c.read_entity.ensures.leaves,
    )

pub invariant_of-self-in-Err-Fault : goal.invariant_of-self-in-Err-Fault
invariant_of-self-in-Err-Fault g c =
    let files = c.read_entity.new.self in
    let new = c.note-in-Err-Fault.new in
    let same : SameFiles c.self.inside.files files = record { transactions = c.read_entity.ensures.transactions; sizes = c.read_entity.ensures.sizes; confirmed = c.read_entity.ensures.confirmed } in
    let still = λ (e : new.failed ≡ false). absurd (false≢true (sym e ∙ c.note-in-Err-Fault.ensures.failed)) in (
      sound_read _ _ _ files new.ending new.failed c.self.invariant.0 same still c.read_entity.ensures.reads,
      room_called _ files _ new.ending new.failed _ _ c.self.invariant.1 same still,
      c.self.invariant.2,
      left_read _ _ _ _ files new.ending new.failed c.self.invariant.0 c.self.invariant.3 same still c.read_entity.ensures.reads c.read_entity.ensures.leaves,
    )

pub invariant_of-self-in-Err-Changed : goal.invariant_of-self-in-Err-Changed
invariant_of-self-in-Err-Changed g c =
    let files = c.read_entity.new.self in
    let new = c.note-in-Err-Changed.new in
    let same : SameFiles c.self.inside.files files = record { transactions = c.read_entity.ensures.transactions; sizes = c.read_entity.ensures.sizes; confirmed = c.read_entity.ensures.confirmed } in
    let still = λ (e : new.failed ≡ false). sym c.note-in-Err-Changed.ensures.failed ∙ e in (
      sound_read _ _ _ files new.ending new.failed c.self.invariant.0 same still c.read_entity.ensures.reads,
      room_called _ files _ new.ending new.failed _ _ c.self.invariant.1 same still,
      c.self.invariant.2,
      left_read _ _ _ _ files new.ending new.failed c.self.invariant.0 c.self.invariant.3 same still c.read_entity.ensures.reads c.read_entity.ensures.leaves,
    )

-- ---- what reading asks for

pub read_entity-requires-clause-whole : goal.read_entity-requires-clause-whole
read_entity-requires-clause-whole g c =
    let right = c.self.invariant.0.rows c.args.id c.in-Some.field-0.now (sym c.in-Some.ensures) in
    omega (arith, right.header.4)

pub read_entity-requires-clause-room : goal.read_entity-requires-clause-room
read_entity-requires-clause-room g c =
    let right = c.self.invariant.0.rows c.args.id c.in-Some.field-0.now (sym c.in-Some.ensures) in
    omega (arith, right.header.1, c.requires.room)

pub read_entity-requires-clause-within : goal.read_entity-requires-clause-within
read_entity-requires-clause-within g c = λ told.
    let row = c.in-Some.field-0.now in
    let there = c.self.invariant.0.on_disk told c.if-self.false in
    row_within (g.D.Disk.reads c.self.inside.files.disk) _ c.args.id row there.whole c.self.inside.files.transactions there.of_disk (there.rows c.args.id row (sym c.in-Some.ensures))

pub read_entity-requires-clause-stands : goal.read_entity-requires-clause-stands
read_entity-requires-clause-stands g c = λ told.
    let row = c.in-Some.field-0.now in
    let there = c.self.invariant.0.on_disk told c.if-self.false in
    row_header_there (g.D.Disk.reads c.self.inside.files.disk) _ c.args.id row there.whole (there.rows c.args.id row (sym c.in-Some.ensures))

-- ---- the answer

pub returns-in-Ok-clause-entity : goal.returns-in-Ok-clause-entity
returns-in-Ok-clause-entity g c =
    let row = c.in-Some.field-0.now in
    let reads = g.D.Disk.reads c.self.inside.files.disk in
    let is = sym c.in-Some.ensures in
    let right = c.self.invariant.0.rows c.args.id row is in
    let out = c.read_entity.new.out in
    let fits : IsBytes out = λ i. omega (arith, c.type_inv.out i) in
    rw (← c.self.view_is) (λ told.
    let there = c.self.invariant.0.on_disk told c.if-self.false in
    entity_read reads c.self.inside.index.contents _ c.args.id row is there.whole (there.rows c.args.id row is) right.id_is right.header out fits (c.in-Ok.ensures.entity told))

pub returns-in-Ok-clause-spelled : goal.returns-in-Ok-clause-spelled
returns-in-Ok-clause-spelled g c =
    let row = c.in-Some.field-0.now in
    let right = c.self.invariant.0.rows c.args.id row (sym c.in-Some.ensures) in
    let out = c.read_entity.new.out in
    let fits : IsBytes out = λ i. omega (arith, c.type_inv.out i) in
    spelled_as_read out row.header c.args.id fits (omega (arith, right.header.1, c.requires.room)) (omega (arith, right.header.4)) right.header right.id_is c.in-Ok.ensures.same

pub returns-in-Ok-clause-within : goal.returns-in-Ok-clause-within
returns-in-Ok-clause-within g c =
    let right = c.self.invariant.0.rows c.args.id c.in-Some.field-0.now (sym c.in-Some.ensures) in
    omega (arith, right.header.1, c.requires.room)

-- ---- whether the id is gone

pub returns-in_default-clause-gone : goal.returns-in_default-clause-gone
returns-in_default-clause-gone g c =
    rw (← c.self.view_is)
    (told_gone (g.D.Disk.reads c.self.inside.files.disk) c.self.inside.index.contents c.args.id (Err c.note.result) (sym c.in_default.ensures) (ap (λ f. Err f) c.note.ensures.same))

pub returns-then-self-clause-gone : goal.returns-then-self-clause-gone
returns-then-self-clause-gone g c =
    let reads = g.D.Disk.reads c.self.inside.files.disk in
    let other = fault_is_not c.note-then-self.result c.args.id c.note-then-self.ensures.same in
    rw (← c.self.view_is) (told_other reads c.self.inside.index.contents c.args.id c.in-Some.field-0.now _ (sym c.in-Some.ensures) other)

pub returns-in-Ok-clause-gone : goal.returns-in-Ok-clause-gone
returns-in-Ok-clause-gone g c =
    let reads = g.D.Disk.reads c.self.inside.files.disk in
    let other = ok_is_not c.in-Some.field-0.now.header.length c.args.id in
    rw (← c.self.view_is) (told_other reads c.self.inside.index.contents c.args.id c.in-Some.field-0.now _ (sym c.in-Some.ensures) other)

pub returns-in-Err-Fault-clause-gone : goal.returns-in-Err-Fault-clause-gone
returns-in-Err-Fault-clause-gone g c =
    let reads = g.D.Disk.reads c.self.inside.files.disk in
    let other = fault_is_not c.note-in-Err-Fault.result c.args.id c.note-in-Err-Fault.ensures.same in
    rw (← c.self.view_is) (told_other reads c.self.inside.index.contents c.args.id c.in-Some.field-0.now _ (sym c.in-Some.ensures) other)

pub returns-in-Err-Changed-clause-gone : goal.returns-in-Err-Changed-clause-gone
returns-in-Err-Changed-clause-gone g c =
    let reads = g.D.Disk.reads c.self.inside.files.disk in
    let other = changed_is_not c.note-in-Err-Changed.result c.args.id c.note-in-Err-Changed.ensures.same in
    rw (← c.self.view_is) (told_other reads c.self.inside.index.contents c.args.id c.in-Some.field-0.now _ (sym c.in-Some.ensures) other)

-- ---- the turn

pub returns-in_default-clause-turn : goal.returns-in_default-clause-turn
returns-in_default-clause-turn g c =
    let none = lists_row (g.D.Disk.reads c.self.inside.files.disk) c.self.inside.index.contents c.args.id ∙ ap (λ (o : Option Row). is_some o) (sym c.in_default.ensures) in
    rw (← c.self.view_is) (λ listed.
    turn_gone g.D.Disk.tells g.D.Disk.reads g.D.Disk.faults _ c.note.new.ending c.note.new.failed c.args.id c.self.invariant.0 c.note.ensures.ending c.note.ensures.failed
    (silent g.D.Disk.tells (λ told. false≢true (sym none ∙ listed told))))

-- ---- what the disk holds

pub returns-in-Ok-clause-holding : goal.returns-in-Ok-clause-holding
returns-in-Ok-clause-holding g c =
    let e = c.read_entity.ensures in
    rw (← c.self.view_is) (λ told. λ i. holding_in (e.transactions i).inventory.state (e.confirmed i) (content_of (e.reads told i)))

pub returns-in-Err-Fault-clause-holding : goal.returns-in-Err-Fault-clause-holding
returns-in-Err-Fault-clause-holding g c =
    let e = c.read_entity.ensures in
    rw (← c.self.view_is) (λ told. λ i. holding_in (e.transactions i).inventory.state (e.confirmed i) (content_of (e.reads told i)))

pub returns-in-Err-Changed-clause-holding : goal.returns-in-Err-Changed-clause-holding
returns-in-Err-Changed-clause-holding g c =
    let e = c.read_entity.ensures in
    rw (← c.self.view_is) (λ told. λ i. holding_in (e.transactions i).inventory.state (e.confirmed i) (content_of (e.reads told i)))
