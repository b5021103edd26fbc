-- What stays of the channel, and what is there of its log of types.
use Rattle.std.proofs.Common.{◌≡◌, ℕ, ◌++◌, false, length, take, drop, List, Some, Err, sym, ap, subst, ◌∙◌, arith}
use Rattle.std.proofs.lemmas.Bool.{false≢true}
use Rattle.gated_log.specs.State.{LogState}
use Rattle.core_steps.specs.Told.{TriedType}
use Rattle.channel.specs.Attempts.{tried_of}
use Rattle.channel.proofs.Sounds.{sound_refused, room_refused}
use Rattle.channel.proofs.Typed.{ends_typed, TypeCall, sound_typed, room_typed, core_typed, images_typed, log_at_full, images_at_full, not_kept, stop_typed, synced_log, written_over}
use Rattle.channel.proofs.Left.{left_refused}
use Rattle.channel.proofs.LeftWrites.{ends_now, left_typed}
use Rattle.transactions_file.specs.Transactions.{Transactions}
use Rattle.channel.specs.Holding.{holding_in}
use Rattle.channel.proofs.channel.Channel.keep_type.Goals as goal

-- ---- the channel still holds what it held

pub invariant_of-self : goal.invariant_of-self
invariant_of-self g c =
    let new = c.note.new in
    let still = λ (e : new.failed ≡ false). absurd (false≢true (sym e ∙ c.note.ensures.failed)) in (
      sound_refused _ _ _ new.ending new.failed c.self.invariant.0 still,
      room_refused _ new.ending new.failed _ c.self.invariant.1 still,
      c.self.invariant.2,
      left_refused _ _ _ _ new.ending new.failed c.self.invariant.0 c.self.invariant.3 still,
    )

pub invariant_of-self-in-Ok : goal.invariant_of-self-in-Ok
invariant_of-self-in-Ok g c =
    let self = c.self.inside in
    let ensures = c.keep_record.ensures in
    let new = c.keep_record.new in
    let call : TypeCall g.D.Disk.tells g.D.Disk.reads g.D.Disk.leaves _ new.self c.in-Some.log new.log c.args.text.now c.keep_record.result =
    record { was = c.self.invariant.0; sound = c.if-self.false; types_are = c.in-Some.is; appended = ensures.appended; stays = ensures.stays } in
    let tried = tried_of self.window.items self.tried in
    let on_0 = subst (λ v. v.number ≡ 0) (sym c.self.view_is) c.requires.channel in (
      sound_typed call self.ending self.failed tried on_0 (ap (λ (l : LogState). l.file) c.in-Ok.ensures.ok) (λ told fine. c.in-Ok.ensures.of_log told),
      room_typed call self.ending self.failed tried _ c.self.invariant.1,
      c.self.invariant.2,
      record {
        header = ap (λ (t : Transactions). t.log.header) ensures.stays.transactions ∙ c.self.invariant.3.header;
        tried = λ fine. c.self.invariant.3.tried fine;
        agrees = λ told fine.
            images_typed call self.ending self.failed tried told (c.self.invariant.3.agrees told fine)
            (synced_log new.log (g.D.Disk.reads new.self.disk 1) (g.D.Disk.leaves new.self.disk 1) (c.in-Ok.ensures.appended.synced told) (c.in-Ok.ensures.of_log told));
        images = λ told failed. absurd (false≢true (sym c.if-self.false ∙ failed));
        ends = λ told failed. absurd (false≢true (sym c.if-self.false ∙ failed));
      },
    )

pub invariant_of-self-in-Err-Full : goal.invariant_of-self-in-Err-Full
invariant_of-self-in-Err-Full g c =
    let self = c.self.inside in
    let ensures = c.keep_record.ensures in
    let new = c.keep_record.new in
    let call : TypeCall g.D.Disk.tells g.D.Disk.reads g.D.Disk.leaves _ new.self c.in-Some.log new.log c.args.text.now c.keep_record.result =
    record { was = c.self.invariant.0; sound = c.if-self.false; types_are = c.in-Some.is; appended = ensures.appended; stays = ensures.stays } in
    let noted = c.note-in-Err-Full.new in
    let tried = tried_of self.window.items self.tried in
    let on_0 = subst (λ v. v.number ≡ 0) (sym c.self.view_is) c.requires.channel in
    let err = c.in-Err-Full.ensures.err in
    let full = c.in-Err-Full.is ∙ ap (λ f. Err f) c.in-Err-Full.field-0-is in (
      sound_typed call noted.ending noted.failed tried on_0 (ap (λ (l : LogState). l.file) err) (λ told fine. log_at_full call c.in-Err-Full.number full err told),
      room_typed call noted.ending noted.failed tried _ c.self.invariant.1,
      c.self.invariant.2,
      record {
        header = ap (λ (t : Transactions). t.log.header) ensures.stays.transactions ∙ c.self.invariant.3.header;
        tried = λ fine. c.self.invariant.3.tried c.if-self.false;
        agrees = λ told fine.
            let agrees = c.self.invariant.3.agrees told c.if-self.false in
            images_typed call noted.ending noted.failed tried told agrees (images_at_full call c.in-Err-Full.number full err agrees);
        images = λ told failed. absurd (false≢true (sym c.if-self.false ∙ (sym c.note-in-Err-Full.ensures.failed ∙ failed)));
        ends = λ told failed. absurd (false≢true (sym c.if-self.false ∙ (sym c.note-in-Err-Full.ensures.failed ∙ failed)));
      },
    )

pub put_front-requires : goal.put_front-requires
put_front-requires g c = omega (arith, c.requires.most, c.self.invariant.2, ap length c.deref_mut.ensures.value)

pub invariant_of-self-in-Err-Fault : goal.invariant_of-self-in-Err-Fault
invariant_of-self-in-Err-Fault g c =
    let self = c.self.inside in
    let ensures = c.keep_record.ensures in
    let new = c.keep_record.new in
    let call : TypeCall g.D.Disk.tells g.D.Disk.reads g.D.Disk.leaves _ new.self c.in-Some.log new.log c.args.text.now c.keep_record.result =
    record { was = c.self.invariant.0; sound = c.if-self.false; types_are = c.in-Some.is; appended = ensures.appended; stays = ensures.stays } in
    let noted = c.note-in-Err-Fault.new in
    let is = c.note-in-Err-Fault.ensures.failed in
    let on_0 = subst (λ v. v.number ≡ 0) (sym c.self.view_is) c.requires.channel in
    let file = ap (λ (l : LogState). l.file) c.in-Err-Fault.ensures.err in
    let size = c.put_front.ensures.length in
    let written = written_over self.window.len c.put_front.new.out self.window.items (size ∙ c.deref_mut.ensures.len) in (
      sound_typed call noted.ending noted.failed _ on_0 file (λ told fine. absurd (false≢true (sym fine ∙ is))),
      room_typed call noted.ending noted.failed _ _ c.self.invariant.1,
      ap length written ∙ size ∙ ap length c.deref_mut.ensures.value ∙ c.self.invariant.2,
      record {
        header = ap (λ (t : Transactions). t.log.header) ensures.stays.transactions ∙ c.self.invariant.3.header;
        tried = λ fine. absurd (false≢true (sym fine ∙ is));
        agrees = λ told fine. absurd (false≢true (sym fine ∙ is));
        images = λ told failed.
            let text_is = ap (take (length c.args.text.now)) written ∙ c.put_front.ensures.front in
            rw text_is (left_typed call noted.ending noted.failed told (c.self.invariant.3.agrees told c.if-self.false) (g.met.D.Disk.reads_left new.self.disk 1 told) c.in-Err-Fault.ensures.err);
        ends = λ told failed.
            let text_is = ap (take (length c.args.text.now)) written ∙ c.put_front.ensures.front in
            rw text_is (ends_now call noted.ending noted.failed told (c.self.invariant.3.agrees told c.if-self.false) (g.met.D.Disk.reads_left new.self.disk 1 told) c.in-Err-Fault.ensures.err c.self.invariant.3.header);
      },
    )

-- ---- what it stands for

pub returns-in-Ok-clause-core : goal.returns-in-Ok-clause-core
returns-in-Ok-clause-core g c =
    let self = c.self.inside in
    let ensures = c.keep_record.ensures in
    let new = c.keep_record.new in
    let call : TypeCall g.D.Disk.tells g.D.Disk.reads g.D.Disk.leaves _ new.self c.in-Some.log new.log c.args.text.now c.keep_record.result =
    record { was = c.self.invariant.0; sound = c.if-self.false; types_are = c.in-Some.is; appended = ensures.appended; stays = ensures.stays } in
    rw (← c.self.view_is) (core_typed call self.ending self.failed (tried_of self.window.items self.tried))

pub returns-in-Err-Fault-clause-core : goal.returns-in-Err-Fault-clause-core
returns-in-Err-Fault-clause-core g c =
    let ensures = c.keep_record.ensures in
    let new = c.keep_record.new in
    let call : TypeCall g.D.Disk.tells g.D.Disk.reads g.D.Disk.leaves _ new.self c.in-Some.log new.log c.args.text.now c.keep_record.result =
    record { was = c.self.invariant.0; sound = c.if-self.false; types_are = c.in-Some.is; appended = ensures.appended; stays = ensures.stays } in
    let noted = c.note-in-Err-Fault.new in
    let out = c.put_front.new.out in
    let window = take c.self.inside.window.len (out ++ drop (length out) c.self.inside.window.items) in
    rw (← c.self.view_is) (core_typed call noted.ending noted.failed (Some (TriedType (take (length c.args.text.now) window))))

pub returns-in-Err-Fault-clause-not_kept : goal.returns-in-Err-Fault-clause-not_kept
returns-in-Err-Fault-clause-not_kept g c =
    let ensures = c.keep_record.ensures in
    let new = c.keep_record.new in
    let call : TypeCall g.D.Disk.tells g.D.Disk.reads g.D.Disk.leaves _ new.self c.in-Some.log new.log c.args.text.now c.keep_record.result =
    record { was = c.self.invariant.0; sound = c.if-self.false; types_are = c.in-Some.is; appended = ensures.appended; stays = ensures.stays } in
    rw (← c.self.view_is) (λ told. not_kept call told (c.self.invariant.3.agrees told c.if-self.false) (g.met.D.Disk.reads_left new.self.disk 1 told) c.in-Err-Fault.ensures.err)

-- ---- each image

pub returns-in-Ok-clause-stop : goal.returns-in-Ok-clause-stop
returns-in-Ok-clause-stop g c =
    let ensures = c.keep_record.ensures in
    let new = c.keep_record.new in
    let call : TypeCall g.D.Disk.tells g.D.Disk.reads g.D.Disk.leaves _ new.self c.in-Some.log new.log c.args.text.now c.keep_record.result =
    record { was = c.self.invariant.0; sound = c.if-self.false; types_are = c.in-Some.is; appended = ensures.appended; stays = ensures.stays } in
    rw (← c.self.view_is) (λ told fine. stop_typed call told (c.self.invariant.3.agrees told c.if-self.false))

pub returns-in-Err-Full-clause-stop : goal.returns-in-Err-Full-clause-stop
returns-in-Err-Full-clause-stop g c =
    let ensures = c.keep_record.ensures in
    let new = c.keep_record.new in
    let call : TypeCall g.D.Disk.tells g.D.Disk.reads g.D.Disk.leaves _ new.self c.in-Some.log new.log c.args.text.now c.keep_record.result =
    record { was = c.self.invariant.0; sound = c.if-self.false; types_are = c.in-Some.is; appended = ensures.appended; stays = ensures.stays } in
    rw (← c.self.view_is) (λ told fine. stop_typed call told (c.self.invariant.3.agrees told c.if-self.false))

pub returns-in-Err-Fault-clause-stop : goal.returns-in-Err-Fault-clause-stop
returns-in-Err-Fault-clause-stop g c =
    let ensures = c.keep_record.ensures in
    let new = c.keep_record.new in
    let call : TypeCall g.D.Disk.tells g.D.Disk.reads g.D.Disk.leaves _ new.self c.in-Some.log new.log c.args.text.now c.keep_record.result =
    record { was = c.self.invariant.0; sound = c.if-self.false; types_are = c.in-Some.is; appended = ensures.appended; stays = ensures.stays } in
    rw (← c.self.view_is) (λ told fine. stop_typed call told (c.self.invariant.3.agrees told c.if-self.false))

-- ---- what was tried

pub returns-in-Err-Fault-clause-tried : goal.returns-in-Err-Fault-clause-tried
returns-in-Err-Fault-clause-tried g c = λ fine is.
    let window = c.self.inside.window in
    let written = written_over window.len c.put_front.new.out window.items (c.put_front.ensures.length ∙ c.deref_mut.ensures.len) in
    ap (λ (l : List ℕ). Some (TriedType l)) (ap (take (length c.args.text.now)) written ∙ c.put_front.ensures.front)

pub returns-in-Ok-clause-ends : goal.returns-in-Ok-clause-ends
returns-in-Ok-clause-ends g c =
    let ensures = c.keep_record.ensures in
    let new = c.keep_record.new in
    let call : TypeCall g.D.Disk.tells g.D.Disk.reads g.D.Disk.leaves _ new.self c.in-Some.log new.log c.args.text.now c.keep_record.result =
    record { was = c.self.invariant.0; sound = c.if-self.false; types_are = c.in-Some.is; appended = ensures.appended; stays = ensures.stays } in
    rw (← c.self.view_is) (λ told fine. ends_typed call told (c.self.invariant.3.agrees told c.if-self.false) c.self.invariant.3.header _ (c.self.invariant.0.on_disk told c.if-self.false).right)

pub returns-in-Ok-clause-content : goal.returns-in-Ok-clause-content
returns-in-Ok-clause-content g c = rw (← c.self.view_is) c.keep_record.ensures.stays.content

pub returns-in-Err-Full-clause-ends : goal.returns-in-Err-Full-clause-ends
returns-in-Err-Full-clause-ends g c =
    let ensures = c.keep_record.ensures in
    let new = c.keep_record.new in
    let call : TypeCall g.D.Disk.tells g.D.Disk.reads g.D.Disk.leaves _ new.self c.in-Some.log new.log c.args.text.now c.keep_record.result =
    record { was = c.self.invariant.0; sound = c.if-self.false; types_are = c.in-Some.is; appended = ensures.appended; stays = ensures.stays } in
    rw (← c.self.view_is) (λ told fine. ends_typed call told (c.self.invariant.3.agrees told c.if-self.false) c.self.invariant.3.header _ (c.self.invariant.0.on_disk told c.if-self.false).right)

pub returns-in-Err-Full-clause-content : goal.returns-in-Err-Full-clause-content
returns-in-Err-Full-clause-content g c = rw (← c.self.view_is) c.keep_record.ensures.stays.content

pub returns-in-Err-Fault-clause-ends : goal.returns-in-Err-Fault-clause-ends
returns-in-Err-Fault-clause-ends g c =
    let ensures = c.keep_record.ensures in
    let new = c.keep_record.new in
    let call : TypeCall g.D.Disk.tells g.D.Disk.reads g.D.Disk.leaves _ new.self c.in-Some.log new.log c.args.text.now c.keep_record.result =
    record { was = c.self.invariant.0; sound = c.if-self.false; types_are = c.in-Some.is; appended = ensures.appended; stays = ensures.stays } in
    rw (← c.self.view_is) (λ told fine. ends_typed call told (c.self.invariant.3.agrees told c.if-self.false) c.self.invariant.3.header _ (c.self.invariant.0.on_disk told c.if-self.false).right)

pub returns-in-Err-Fault-clause-content : goal.returns-in-Err-Fault-clause-content
returns-in-Err-Fault-clause-content g c = rw (← c.self.view_is) c.keep_record.ensures.stays.content

-- ---- what the disk holds

pub returns-in-Ok-clause-holding : goal.returns-in-Ok-clause-holding
returns-in-Ok-clause-holding g c =
    let stays = c.keep_record.ensures.stays in
    rw (← c.self.view_is) (λ told. λ i. holding_in (stays.transactions i).inventory.state (stays.confirmed i) (stays.content told i))

pub returns-in-Err-Full-clause-holding : goal.returns-in-Err-Full-clause-holding
returns-in-Err-Full-clause-holding g c =
    let stays = c.keep_record.ensures.stays in
    rw (← c.self.view_is) (λ told. λ i. holding_in (stays.transactions i).inventory.state (stays.confirmed i) (stays.content told i))

pub returns-in-Err-Fault-clause-holding : goal.returns-in-Err-Fault-clause-holding
returns-in-Err-Fault-clause-holding g c =
    let stays = c.keep_record.ensures.stays in
    rw (← c.self.view_is) (λ told. λ i. holding_in (stays.transactions i).inventory.state (stays.confirmed i) (stays.content told i))
