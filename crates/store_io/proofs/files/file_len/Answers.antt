-- The length of one file among the others.
use Rattle.std.proofs.Common.{◌≡◌, length, ap, ◌∙◌, sym, rules}
use Rattle.store_io.proofs.FilesChanged.{absent_reads}
use Rattle.store_io.proofs.FileCalls.{found_at}
use Rattle.store_io.proofs.files.file_len.Goals as goal

pub returns-in-Some : goal.returns-in-Some
returns-in-Some c =
    let at = c.in-Some.ensures.some in
    let m = found_at c.args.files.now c.args.file c.in-Some.place c.index-files-place.result at.0 at.1 c.index-files-place.is in
    let long : c.len.result ≡ length c.index-files-place.result.bytes.items = search rules in
    long ∙ sym (ap length m.reads)

pub returns-in-None : goal.returns-in-None
returns-in-None c = sym (ap length (absent_reads c.args.files.now c.args.file c.in-None.ensures.none))
