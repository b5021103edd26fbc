-- A header and a gate that is not open are an empty log.
use Rattle.std.proofs.Common.{◌≡◌, [], ◌∷◌, ◌++◌, length, ap, subst, sym, ◌∙◌, rules}
use Rattle.gated_log.specs.Log.{length_of, IsLogOf}
use Rattle.gated_log.proofs.Payloads.{fresh, fresh_log, log_payloads}
use Rattle.gated_log.proofs.finish.begin_file.Goals as goal

pub returns-clause-of_disk : goal.returns-clause-of_disk
returns-clause-of_disk g c told =
    let file = c.args.file in
    let header = c.args.header in
    let eight : length header ≡ 8 = search rules in
    let now = g.D.Disk.reads c.sync.new.self file in
    let w = c.in_ok-write.ensures.written told in
    let same : now ≡ g.D.Disk.reads c.write.new.self file = λ i. c.sync.ensures.reads told i file in
    let parts : now ≡ header ++ 0 ∷ [] = same ∙ fresh header _ (g.D.Disk.reads c.args.disk.now file) _ eight (ap (λ l. l ++ 0 ∷ []) c.copy_from_slice.ensures.after) (c.requires.short told) w in
    let log = fresh_log header now eight parts in
    let none = log_payloads header [] now log in
    record {
      is = subst (λ ps. IsLogOf header ps now) (sym none) log;
      long = sym (ap length_of none);
      count = sym (ap length none);
    }
