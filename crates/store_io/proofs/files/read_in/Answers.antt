-- A read of one file among the others.
use Rattle.std.proofs.Common.{length, take, drop, ap, ◌∙◌, sym, arith}
use Rattle.store_io.specs.declared.mem_file.MemFile.{MemFile}
use Rattle.store_io.proofs.FilesChanged.{absent_reads}
use Rattle.store_io.proofs.FileCalls.{found_at, nothing_read}
use Rattle.store_io.proofs.files.read_in.Goals as goal

pub copy_part-requires : goal.copy_part-requires
copy_part-requires c =
    let at = c.in-Some.ensures.some in
    let m = found_at c.args.files.now c.args.file c.in-Some.place c.index-files-place.result at.0 at.1 c.index-files-place.is in
    let here = c.deref.ensures.value ∙ ap (λ (m : MemFile). m.bytes.items) (sym c.index-files-place.is) ∙ sym m.reads in
    omega (arith, c.requires, ap length here)

pub returns-in-Some : goal.returns-in-Some
returns-in-Some c =
    let at = c.in-Some.ensures.some in
    let m = found_at c.args.files.now c.args.file c.in-Some.place c.index-files-place.result at.0 at.1 c.index-files-place.is in
    let here = c.deref.ensures.value ∙ ap (λ (m : MemFile). m.bytes.items) (sym c.index-files-place.is) ∙ sym m.reads in
    c.copy_part.ensures ∙ ap (λ l. take (length c.args.buf.now) (drop c.args.at l)) here

pub returns-in-None : goal.returns-in-None
returns-in-None c = nothing_read c.args.buf.now c.args.at _ (absent_reads c.args.files.now c.args.file c.in-None.ensures.none) c.requires
