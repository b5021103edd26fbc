-- A cut of one file, seen among the others.
use Rattle.std.proofs.Common.{◌≡◌, ◌<◌, length, take, ap, ◌∙◌, sym, subst, arith}
use lib.ListN.{set}
use Rattle.store_io.specs.Files.{place_of}
use Rattle.store_io.proofs.FilesChanged.{changed, absent_reads}
use Rattle.store_io.proofs.FileCalls.{found_at, cut_stop, cut_nothing, synced_stays}
use Rattle.store_io.proofs.files.cut_in.Goals as goal

pub cut-requires : goal.cut-requires
cut-requires c =
    let files = c.args.files.now.items in
    let at = c.in-Some.ensures.some in
    let place = subst (λ l. c.in-Some.place ≡ place_of l c.args.file) c.deref.ensures.value at.0 in
    let m = found_at files c.args.file c.in-Some.place c.index_mut.result.now place (omega (arith, at.1, ap length c.deref.ensures.value)) c.index_mut.ensures.value in
    omega (arith, c.requires, ap length m.reads)

pub returns-in-Some-clause-cut : goal.returns-in-Some-clause-cut
returns-in-Some-clause-cut c =
    let files = c.args.files.now.items in
    let at = c.in-Some.ensures.some in
    let place = subst (λ l. c.in-Some.place ≡ place_of l c.args.file) c.deref.ensures.value at.0 in
    let within : c.in-Some.place < length files = omega (arith, at.1, ap length c.deref.ensures.value) in
    let m = found_at files c.args.file c.in-Some.place c.index_mut.result.now place within c.index_mut.ensures.value in
    let m' = changed files c.args.file c.in-Some.place c.cut.new.self place within (c.cut.ensures.number ∙ m.number) in
    m'.reads ∙ c.cut.ensures.bytes ∙ ap (λ l. take c.args.len l) (sym m.reads)

pub returns-in-Some-clause-stop : goal.returns-in-Some-clause-stop
returns-in-Some-clause-stop c =
    let files = c.args.files.now.items in
    let at = c.in-Some.ensures.some in
    let place = subst (λ l. c.in-Some.place ≡ place_of l c.args.file) c.deref.ensures.value at.0 in
    let within : c.in-Some.place < length files = omega (arith, at.1, ap length c.deref.ensures.value) in
    let m = found_at files c.args.file c.in-Some.place c.index_mut.result.now place within c.index_mut.ensures.value in
    let m' = changed files c.args.file c.in-Some.place c.cut.new.self place within (c.cut.ensures.number ∙ m.number) in
    cut_stop files (set files c.in-Some.place c.cut.new.self) c.args.file c.index_mut.result.now c.cut.new.self m m' c.args.len c.cut.ensures.kept c.cut.ensures.least

pub returns-in-Some-clause-others : goal.returns-in-Some-clause-others
returns-in-Some-clause-others c =
    let files = c.args.files.now.items in
    let at = c.in-Some.ensures.some in
    let place = subst (λ l. c.in-Some.place ≡ place_of l c.args.file) c.deref.ensures.value at.0 in
    let within : c.in-Some.place < length files = omega (arith, at.1, ap length c.deref.ensures.value) in
    let m = found_at files c.args.file c.in-Some.place c.index_mut.result.now place within c.index_mut.ensures.value in
    let m' = changed files c.args.file c.in-Some.place c.cut.new.self place within (c.cut.ensures.number ∙ m.number) in
    record { reads = m'.other_reads; leaves = m'.other_leaves }

pub returns-in-None-clause-cut : goal.returns-in-None-clause-cut
returns-in-None-clause-cut c = cut_nothing c.args.len _ c.requires (absent_reads c.args.files.now.items c.args.file (subst (λ l. place_of l c.args.file ≡ length l) c.deref.ensures.value c.in-None.ensures.none))

pub returns-in-Some-clause-synced : goal.returns-in-Some-clause-synced
returns-in-Some-clause-synced c =
    let files = c.args.files.now.items in
    let at = c.in-Some.ensures.some in
    let place = subst (λ l. c.in-Some.place ≡ place_of l c.args.file) c.deref.ensures.value at.0 in
    let within : c.in-Some.place < length files = omega (arith, at.1, ap length c.deref.ensures.value) in
    let m = found_at files c.args.file c.in-Some.place c.index_mut.result.now place within c.index_mut.ensures.value in
    let m' = changed files c.args.file c.in-Some.place c.cut.new.self place within (c.cut.ensures.number ∙ m.number) in
    synced_stays files (set files c.in-Some.place c.cut.new.self) c.args.file c.index_mut.result.now c.cut.new.self m m' c.cut.ensures.synced
