use Rattle.std.proofs.Common.{inl, inr, ◌+◌, [], ◌∷◌, ◌++◌, ap, arith}
use Rattle.store_io.specs.Whole.{EachImage}
use Rattle.transactions_file.specs.Inventory.{State}
use Rattle.transactions_file.proofs.Lengths.{length_push}
use Rattle.channel_files.specs.Images.{AgreesBelow}
use Rattle.channel_files.proofs.Appended.{each_shows, no_newest}
use Rattle.channel_files.proofs.Changes.{agrees_less}
use Rattle.channel_files.proofs.LiveFiles.{live_created}
use Rattle.channel_files.proofs.head.create_head.Goals as goal

pub append_entry-requires-clause-long : goal.append_entry-requires-clause-long
append_entry-requires-clause-long g c told f =
    let files = c.args.transactions.now.inventory.state.files in
    omega (arith, length_push files (c.last_created-file.result + 1) f, (c.requires.of_disk told).long f)

pub returns-then-length-gt-FULL-clause-shows : goal.returns-then-length-gt-FULL-clause-shows
returns-then-length-gt-FULL-clause-shows g c told = each_shows c.args.transactions.now (g.D.Disk.reads c.args.disk.now) (g.D.Disk.leaves c.args.disk.now) (c.requires.of_disk told)

pub returns-then-file-clause-shows : goal.returns-then-file-clause-shows
returns-then-file-clause-shows g c told = each_shows c.args.transactions.now (g.D.Disk.reads c.args.disk.now) (g.D.Disk.leaves c.args.disk.now) (c.requires.of_disk told)

pub returns-in_err-append_entry-clause-shows : goal.returns-in_err-append_entry-clause-shows
returns-in_err-append_entry-clause-shows g c told each image left =
    let files = c.args.transactions.now.inventory.state.files in
    let file = c.last_created-file.result + 1 in
    let more : EachImage (g.D.Disk.leaves c.args.disk.now) (AgreesBelow (files ++ (file, 0) ∷ []) (g.D.Disk.reads c.args.disk.now)) =
    λ image left. agrees_less files (files ++ (file, 0) ∷ []) (g.D.Disk.reads c.args.disk.now) image (λ f. omega (arith, length_push files file f)) (each image left).agrees in
    elim (c.append_entry.ensures.shows told each more image left) [ inl s ↦ no_newest s | inr s ↦ no_newest s ]

pub returns-clause-shows : goal.returns-clause-shows
returns-clause-shows g c told each image left =
    let files = c.args.transactions.now.inventory.state.files in
    let file = c.last_created-file.result + 1 in
    let more : EachImage (g.D.Disk.leaves c.args.disk.now) (AgreesBelow (files ++ (file, 0) ∷ []) (g.D.Disk.reads c.args.disk.now)) =
    λ image left. agrees_less files (files ++ (file, 0) ∷ []) (g.D.Disk.reads c.args.disk.now) image (λ f. omega (arith, length_push files file f)) (each image left).agrees in
    elim (c.append_entry.ensures.shows told each more image left) [ inl s ↦ no_newest s | inr s ↦ no_newest s ]

pub returns-clause-as_read : goal.returns-clause-as_read
returns-clause-as_read g c told each =
    let files = c.args.transactions.now.inventory.state.files in
    let file = c.last_created-file.result + 1 in
    let more : EachImage (g.D.Disk.leaves c.args.disk.now) (AgreesBelow (files ++ (file, 0) ∷ []) (g.D.Disk.reads c.args.disk.now)) =
    λ image left. agrees_less files (files ++ (file, 0) ∷ []) (g.D.Disk.reads c.args.disk.now) image (λ f. omega (arith, length_push files file f)) (each image left).agrees in
    c.in_ok-append_entry.ensures.as_read told each more

pub returns-clause-live : goal.returns-clause-live
returns-clause-live g c =
    let s = c.args.transactions.now.inventory.state in
    live_created c.append_entry.new.transactions.inventory.state s.files (c.last_created-file.result + 1) (ap (λ (s : State). s.files) c.in_ok-append_entry.ensures.state)
