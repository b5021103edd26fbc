-- A new empty file changes nothing that is read or left.
use Rattle.std.proofs.Common.{◌≡◌, ◌++◌, ◌∷◌, [], length, ap, ◌∙◌, subst, arith, rules}
use Rattle.std.proofs.lemmas.List.{length_push}
use Rattle.store_io.specs.Files.{place_of, reads_of, leaves_of}
use Rattle.store_io.specs.Restart.{synced_of}
use Rattle.store_io.proofs.FilesChanged.{push_reads, push_leaves, push_place, push_synced}
use Rattle.store_io.proofs.files.find_or_make.Goals as goal

pub returns-in_ok-push-in-None-clause-place : goal.returns-in_ok-push-in-None-clause-place
returns-in_ok-push-in-None-clause-place c =
    let files = c.args.files.now.items in
    let file = c.args.file in
    let more : c.push.new.self.items ≡ files ++ c.new.result ∷ [] = search rules in
    let absent = subst (λ l. place_of l file ≡ length l) c.deref.ensures.value c.in-None.ensures.none in
    let place = ap (λ l. place_of l file) more ∙ push_place files c.new.result file c.new.ensures.number absent in
    let long : c.len.result ≡ length c.push.new.self.items = search rules in
    let longer = ap length more ∙ length_push files c.new.result in
    (omega (arith, place, long, longer), omega (arith, long, longer))

pub returns-in_ok-push-in-None-clause-reads : goal.returns-in_ok-push-in-None-clause-reads
returns-in_ok-push-in-None-clause-reads c =
    let files = c.args.files.now.items in
    let more : c.push.new.self.items ≡ files ++ c.new.result ∷ [] = search rules in
    ap reads_of more ∙ push_reads files c.new.result c.new.ensures.bytes

pub returns-in_ok-push-in-None-clause-leaves : goal.returns-in_ok-push-in-None-clause-leaves
returns-in_ok-push-in-None-clause-leaves c =
    let files = c.args.files.now.items in
    let more : c.push.new.self.items ≡ files ++ c.new.result ∷ [] = search rules in
    ap leaves_of more ∙ push_leaves files c.new.result c.new.ensures.kept c.new.ensures.least

pub returns-in_ok-push-in-None-clause-synced : goal.returns-in_ok-push-in-None-clause-synced
returns-in_ok-push-in-None-clause-synced c =
    let files = c.args.files.now.items in
    let more : c.push.new.self.items ≡ files ++ c.new.result ∷ [] = search rules in
    ap synced_of more ∙ push_synced files c.new.result c.new.ensures.synced
