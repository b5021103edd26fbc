-- A write to one file, seen among the others.
use Rattle.std.proofs.Common.{◌≡◌, ◌≤◌, length, ap, ◌∙◌, sym, arith}
use lib.ListN.{set}
use Rattle.store_io.specs.Files.{reads_of}
use Rattle.store_io.proofs.FilesChanged.{changed}
use Rattle.store_io.proofs.FileCalls.{found_at, synced_stays, torn_same, write_stop_of, written_after}
use Rattle.store_io.proofs.files.write_in.Goals as goal

pub returns-in_err-place-clause-stop : goal.returns-in_err-place-clause-stop
returns-in_err-place-clause-stop c = λ image left. (image, sym (λ i. c.find_or_make.ensures.leaves i c.args.file image) ∙ left, torn_same _ _ image)

pub returns-in_err-place-clause-others : goal.returns-in_err-place-clause-others
returns-in_err-place-clause-others c = record { reads = λ f ne. (λ i. c.find_or_make.ensures.reads i f); leaves = λ f ne. (λ i. c.find_or_make.ensures.leaves i f) }

pub write-requires : goal.write-requires
write-requires c =
    let at = c.in_ok-place.ensures.place in
    let m = found_at c.find_or_make.new.files.items c.args.file c.in_ok-place.place c.index_mut.result.now at.0 at.1 c.index_mut.ensures.value in
    let same : reads_of c.find_or_make.new.files.items c.args.file ≡ reads_of c.args.files.now.items c.args.file = λ i. c.find_or_make.ensures.reads i c.args.file in
    omega (arith, c.requires, ap length same, ap length m.reads)

pub returns-clause-written : goal.returns-clause-written
returns-clause-written c =
    let at = c.in_ok-place.ensures.place in
    let files = c.find_or_make.new.files.items in
    let m = found_at files c.args.file c.in_ok-place.place c.index_mut.result.now at.0 at.1 c.index_mut.ensures.value in
    let m' = changed files c.args.file c.in_ok-place.place c.write.new.self at.0 at.1 (c.write.ensures.number ∙ m.number) in
    let same : reads_of files c.args.file ≡ reads_of c.args.files.now.items c.args.file = λ i. c.find_or_make.ensures.reads i c.args.file in
    written_after c.write.result c.args.at c.args.bytes.now _ _ _ _ (sym m.reads ∙ same) m'.reads c.write.ensures.bytes

pub returns-clause-stop : goal.returns-clause-stop
returns-clause-stop c =
    let at = c.in_ok-place.ensures.place in
    let files = c.find_or_make.new.files.items in
    let m = found_at files c.args.file c.in_ok-place.place c.index_mut.result.now at.0 at.1 c.index_mut.ensures.value in
    let m' = changed files c.args.file c.in_ok-place.place c.write.new.self at.0 at.1 (c.write.ensures.number ∙ m.number) in
    let same : reads_of files c.args.file ≡ reads_of c.args.files.now.items c.args.file = λ i. c.find_or_make.ensures.reads i c.args.file in
    let within : c.args.at ≤ length c.index_mut.result.now.bytes.items = omega (arith, c.requires, ap length same, ap length m.reads) in
    let stop = write_stop_of files (set files c.in_ok-place.place c.write.new.self) c.args.file c.index_mut.result.now c.write.new.self m m' c.write.result c.args.at (length c.args.bytes.now) within c.write.ensures.least c.write.ensures.kept c.write.ensures.same_kept in
    λ image left. let from = stop image left in (from.0, sym (λ i. c.find_or_make.ensures.leaves i c.args.file from.0) ∙ from.1, from.2)

pub returns-clause-others : goal.returns-clause-others
returns-clause-others c =
    let at = c.in_ok-place.ensures.place in
    let files = c.find_or_make.new.files.items in
    let m = found_at files c.args.file c.in_ok-place.place c.index_mut.result.now at.0 at.1 c.index_mut.ensures.value in
    let m' = changed files c.args.file c.in_ok-place.place c.write.new.self at.0 at.1 (c.write.ensures.number ∙ m.number) in
    record {
      reads = λ f ne. m'.other_reads f ne ∙ (λ i. c.find_or_make.ensures.reads i f);
      leaves = λ f ne. m'.other_leaves f ne ∙ (λ i. c.find_or_make.ensures.leaves i f);
    }

pub returns-clause-synced : goal.returns-clause-synced
returns-clause-synced c =
    let at = c.in_ok-place.ensures.place in
    let files = c.find_or_make.new.files.items in
    let m = found_at files c.args.file c.in_ok-place.place c.index_mut.result.now at.0 at.1 c.index_mut.ensures.value in
    let m' = changed files c.args.file c.in_ok-place.place c.write.new.self at.0 at.1 (c.write.ensures.number ∙ m.number) in
    synced_stays files (set files c.in_ok-place.place c.write.new.self) c.args.file c.index_mut.result.now c.write.new.self m m' c.write.ensures.synced ∙ c.find_or_make.ensures.synced
