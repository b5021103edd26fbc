use Rattle.std.proofs.Common.{inl, inr, ℕ, List, [], refl, ap, subst, sym, arith}
use Rattle.store_io.specs.Whole.{EachImage}
use Rattle.transactions_file.specs.Files.{length_in, set_length}
use Rattle.transactions_file.specs.Inventory.{State}
use Rattle.channel_files.specs.Chunks.{Range, ranges_of, content_of}
use Rattle.channel_files.specs.Shows.{Shows}
use Rattle.channel_files.specs.Images.{AgreesBelow}
use Rattle.channel_files.proofs.Appended.{no_newest}
use Rattle.channel_files.proofs.Changes.{one_chunk}
use Rattle.channel_files.proofs.Within.{all_fit, zero_set}
use Rattle.channel_files.proofs.LiveFiles.{live_resized}
use Rattle.channel_files.proofs.store.store_nothing.Goals as goal
use Rattle.gated_log.specs.Log.{payloads_of}

pub append_entry-requires-clause-long : goal.append_entry-requires-clause-long
append_entry-requires-clause-long g c told f =
    let t = c.args.transactions.now in
    let d = c.requires.of_disk told in
    let fit = all_fit (payloads_of (g.D.Disk.reads c.args.disk.now 0)) t.inventory.state d.kept.inventory in
    omega (arith, d.long f, ap (λ (l : List (ℕ × ℕ)). length_in l f) (zero_set t.inventory.state 0 0 fit.sound refl))

pub returns-in_err-append_entry-clause-shows : goal.returns-in_err-append_entry-clause-shows
returns-in_err-append_entry-clause-shows g c told each image left =
    let t = c.args.transactions.now in
    let d = c.requires.of_disk told in
    let fit = all_fit (payloads_of (g.D.Disk.reads c.args.disk.now 0)) t.inventory.state d.kept.inventory in
    let more : EachImage (g.D.Disk.leaves c.args.disk.now) (AgreesBelow (set_length t.inventory.state.files 0 0) (g.D.Disk.reads c.args.disk.now)) =
    λ image left. subst (λ (l : List (ℕ × ℕ)). AgreesBelow l (g.D.Disk.reads c.args.disk.now) image) (sym (zero_set t.inventory.state 0 0 fit.sound refl)) (each image left).agrees in
    let r : Range = record { number = c.args.number; file = 0; at = 0; length = 0 } in
    let one = one_chunk (g.D.Disk.reads c.args.disk.now) (ranges_of (payloads_of (g.D.Disk.reads c.args.disk.now 0))) r [] (content_of (g.D.Disk.reads c.args.disk.now)) refl refl in
    elim (c.append_entry.ensures.shows told each more image left) [
      | inl s ↦ inl (no_newest s)
      | inr s ↦ inr (subst (λ chunks. Shows t.log.header c.args.number c.args.next_id c.args.number t.inventory.state.next_id chunks image) one s)
    ]

pub returns-clause-shows : goal.returns-clause-shows
returns-clause-shows g c told each image left =
    let t = c.args.transactions.now in
    let d = c.requires.of_disk told in
    let fit = all_fit (payloads_of (g.D.Disk.reads c.args.disk.now 0)) t.inventory.state d.kept.inventory in
    let more : EachImage (g.D.Disk.leaves c.args.disk.now) (AgreesBelow (set_length t.inventory.state.files 0 0) (g.D.Disk.reads c.args.disk.now)) =
    λ image left. subst (λ (l : List (ℕ × ℕ)). AgreesBelow l (g.D.Disk.reads c.args.disk.now) image) (sym (zero_set t.inventory.state 0 0 fit.sound refl)) (each image left).agrees in
    let r : Range = record { number = c.args.number; file = 0; at = 0; length = 0 } in
    let one = one_chunk (g.D.Disk.reads c.args.disk.now) (ranges_of (payloads_of (g.D.Disk.reads c.args.disk.now 0))) r [] (content_of (g.D.Disk.reads c.args.disk.now)) refl refl in
    elim (c.append_entry.ensures.shows told each more image left) [
      | inl s ↦ inl (no_newest s)
      | inr s ↦ inr (subst (λ chunks. Shows t.log.header c.args.number c.args.next_id c.args.number t.inventory.state.next_id chunks image) one s)
    ]

pub returns-clause-as_read : goal.returns-clause-as_read
returns-clause-as_read g c told each =
    let t = c.args.transactions.now in
    let d = c.requires.of_disk told in
    let fit = all_fit (payloads_of (g.D.Disk.reads c.args.disk.now 0)) t.inventory.state d.kept.inventory in
    let more : EachImage (g.D.Disk.leaves c.args.disk.now) (AgreesBelow (set_length t.inventory.state.files 0 0) (g.D.Disk.reads c.args.disk.now)) =
    λ image left. subst (λ (l : List (ℕ × ℕ)). AgreesBelow l (g.D.Disk.reads c.args.disk.now) image) (sym (zero_set t.inventory.state 0 0 fit.sound refl)) (each image left).agrees in
    c.in_ok-append_entry.ensures.as_read told each more

pub returns-clause-live : goal.returns-clause-live
returns-clause-live g c =
    live_resized c.append_entry.new.transactions.inventory.state c.args.transactions.now.inventory.state.files 0 0 (ap (λ (s : State). s.files) c.in_ok-append_entry.ensures.state)
