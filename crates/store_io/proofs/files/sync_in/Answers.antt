-- A sync of one file, seen among the others.
use Rattle.std.proofs.Common.{◌≡◌, ◌<◌, length, ap, ◌∙◌, sym, subst, arith}
use lib.ListN.{set}
use Rattle.store_io.specs.Files.{place_of}
use Rattle.store_io.proofs.FilesChanged.{changed, absent_reads, absent_leaves, absent_synced, all_same}
use Rattle.store_io.proofs.FileCalls.{found_at, sync_only_of, sync_stop_of, sync_nothing, synced_not, synced_now, unsynced_of}
use Rattle.store_io.proofs.files.sync_in.Goals as goal

pub returns-in-Some-clause-durable : goal.returns-in-Some-clause-durable
returns-in-Some-clause-durable c =
    let files = c.args.files.now.items in
    let at = c.in-Some.ensures.some in
    let place = subst (λ l. c.in-Some.place ≡ place_of l c.args.file) c.deref.ensures.value at.0 in
    let within : c.in-Some.place < length files = omega (arith, at.1, ap length c.deref.ensures.value) in
    let m = found_at files c.args.file c.in-Some.place c.index_mut.result.now place within c.index_mut.ensures.value in
    let m' = changed files c.args.file c.in-Some.place c.sync.new.self place within (c.sync.ensures.number ∙ m.number) in
    sync_only_of files (set files c.in-Some.place c.sync.new.self) c.args.file c.index_mut.result.now c.sync.new.self m m' c.sync.result c.sync.ensures.kept c.sync.ensures.least

pub returns-in-Some-clause-reads : goal.returns-in-Some-clause-reads
returns-in-Some-clause-reads c =
    let files = c.args.files.now.items in
    let at = c.in-Some.ensures.some in
    let place = subst (λ l. c.in-Some.place ≡ place_of l c.args.file) c.deref.ensures.value at.0 in
    let within : c.in-Some.place < length files = omega (arith, at.1, ap length c.deref.ensures.value) in
    let m = found_at files c.args.file c.in-Some.place c.index_mut.result.now place within c.index_mut.ensures.value in
    let m' = changed files c.args.file c.in-Some.place c.sync.new.self place within (c.sync.ensures.number ∙ m.number) in
    all_same _ _ c.args.file m'.other_reads (m'.reads ∙ c.sync.ensures.bytes ∙ sym m.reads)

pub returns-in-Some-clause-unsynced : goal.returns-in-Some-clause-unsynced
returns-in-Some-clause-unsynced c =
    let files = c.args.files.now.items in
    let at = c.in-Some.ensures.some in
    let place = subst (λ l. c.in-Some.place ≡ place_of l c.args.file) c.deref.ensures.value at.0 in
    let within : c.in-Some.place < length files = omega (arith, at.1, ap length c.deref.ensures.value) in
    let m = found_at files c.args.file c.in-Some.place c.index_mut.result.now place within c.index_mut.ensures.value in
    let m' = changed files c.args.file c.in-Some.place c.sync.new.self place within (c.sync.ensures.number ∙ m.number) in
    unsynced_of files (set files c.in-Some.place c.sync.new.self) c.args.file c.index_mut.result.now c.sync.new.self m m' c.sync.result c.sync.ensures.same_kept c.sync.ensures.same_least

pub returns-in-Some-clause-stop : goal.returns-in-Some-clause-stop
returns-in-Some-clause-stop c =
    let files = c.args.files.now.items in
    let at = c.in-Some.ensures.some in
    let place = subst (λ l. c.in-Some.place ≡ place_of l c.args.file) c.deref.ensures.value at.0 in
    let within : c.in-Some.place < length files = omega (arith, at.1, ap length c.deref.ensures.value) in
    let m = found_at files c.args.file c.in-Some.place c.index_mut.result.now place within c.index_mut.ensures.value in
    let m' = changed files c.args.file c.in-Some.place c.sync.new.self place within (c.sync.ensures.number ∙ m.number) in
    sync_stop_of files (set files c.in-Some.place c.sync.new.self) c.args.file c.index_mut.result.now c.sync.new.self m m' c.sync.result c.sync.ensures.kept c.sync.ensures.least c.sync.ensures.same_kept c.sync.ensures.same_least

pub returns-in-Some-clause-others : goal.returns-in-Some-clause-others
returns-in-Some-clause-others c =
    let files = c.args.files.now.items in
    let at = c.in-Some.ensures.some in
    let place = subst (λ l. c.in-Some.place ≡ place_of l c.args.file) c.deref.ensures.value at.0 in
    let within : c.in-Some.place < length files = omega (arith, at.1, ap length c.deref.ensures.value) in
    let m = found_at files c.args.file c.in-Some.place c.index_mut.result.now place within c.index_mut.ensures.value in
    let m' = changed files c.args.file c.in-Some.place c.sync.new.self place within (c.sync.ensures.number ∙ m.number) in
    record { reads = m'.other_reads; leaves = m'.other_leaves }

pub returns-in-None-clause-durable : goal.returns-in-None-clause-durable
returns-in-None-clause-durable c =
    let absent = subst (λ l. place_of l c.args.file ≡ length l) c.deref.ensures.value c.in-None.ensures.none in
    sync_nothing c.args.files.now.items c.args.file (absent_reads c.args.files.now.items c.args.file absent) (absent_leaves c.args.files.now.items c.args.file absent)

pub returns-in-Some-clause-synced : goal.returns-in-Some-clause-synced
returns-in-Some-clause-synced c =
    let files = c.args.files.now.items in
    let at = c.in-Some.ensures.some in
    let place = subst (λ l. c.in-Some.place ≡ place_of l c.args.file) c.deref.ensures.value at.0 in
    let within : c.in-Some.place < length files = omega (arith, at.1, ap length c.deref.ensures.value) in
    let m = found_at files c.args.file c.in-Some.place c.index_mut.result.now place within c.index_mut.ensures.value in
    let m' = changed files c.args.file c.in-Some.place c.sync.new.self place within (c.sync.ensures.number ∙ m.number) in
    synced_now files (set files c.in-Some.place c.sync.new.self) c.args.file c.index_mut.result.now c.sync.new.self m m' c.sync.result c.sync.ensures.synced

pub returns-in-Some-clause-not_synced : goal.returns-in-Some-clause-not_synced
returns-in-Some-clause-not_synced c =
    let files = c.args.files.now.items in
    let at = c.in-Some.ensures.some in
    let place = subst (λ l. c.in-Some.place ≡ place_of l c.args.file) c.deref.ensures.value at.0 in
    let within : c.in-Some.place < length files = omega (arith, at.1, ap length c.deref.ensures.value) in
    let m = found_at files c.args.file c.in-Some.place c.index_mut.result.now place within c.index_mut.ensures.value in
    let m' = changed files c.args.file c.in-Some.place c.sync.new.self place within (c.sync.ensures.number ∙ m.number) in
    synced_not files (set files c.in-Some.place c.sync.new.self) c.args.file c.index_mut.result.now c.sync.new.self m m' c.sync.result c.sync.ensures.same_synced

pub returns-in-Some-clause-others_synced : goal.returns-in-Some-clause-others_synced
returns-in-Some-clause-others_synced c =
    let files = c.args.files.now.items in
    let at = c.in-Some.ensures.some in
    let place = subst (λ l. c.in-Some.place ≡ place_of l c.args.file) c.deref.ensures.value at.0 in
    let within : c.in-Some.place < length files = omega (arith, at.1, ap length c.deref.ensures.value) in
    let m = found_at files c.args.file c.in-Some.place c.index_mut.result.now place within c.index_mut.ensures.value in
    let m' = changed files c.args.file c.in-Some.place c.sync.new.self place within (c.sync.ensures.number ∙ m.number) in
    m'.other_synced

pub returns-in-None-clause-synced : goal.returns-in-None-clause-synced
returns-in-None-clause-synced c =
    let absent = subst (λ l. place_of l c.args.file ≡ length l) c.deref.ensures.value c.in-None.ensures.none in
    absent_synced c.args.files.now.items c.args.file absent ∙ sym (absent_reads c.args.files.now.items c.args.file absent)
