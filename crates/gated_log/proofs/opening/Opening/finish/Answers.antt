-- The opening stands behind the last record, at a gate that is not open.
use Rattle.std.proofs.Common.{◌+◌, ◌<◌, ◌++◌, ℕ, List, IsTrue, length, drop, get_or, ap, subst, sym, ◌∙◌, arith}
use Rattle.std.proofs.lemmas.List.{drop_more}
use Rattle.gated_log.specs.Log.{length_of, records, IsLogOf}
use Rattle.gated_log.specs.Reading.{IsReading}
use Rattle.gated_log.specs.State.{OpeningState}
use Rattle.gated_log.proofs.Payloads.{log_payloads, length-records}
use Rattle.gated_log.proofs.Records.{of_at}
use Rattle.gated_log.proofs.opening.Opening.finish.Goals as goal

pub returns-clause-of_disk : goal.returns-clause-of_disk
returns-clause-of_disk g c told =
    let o = c.self.inside in
    let bytes = g.D.Disk.reads c.args.disk.now o.file in
    let log = subst (λ (v : OpeningState). IsReading v (g.D.Disk.reads c.args.disk.now v.file)) (sym c.self.view_is) (c.requires.reading told) in
    let ended = subst (λ (v : OpeningState). IsTrue v.ended) (sym c.self.view_is) c.requires.ended in
    let long : 9 < length bytes = omega (arith, log.len, c.if-self-le9.false) in
    let within : o.at < length bytes = omega (arith, log.len, c.self.invariant.1, c.if-self-le9.false) in
    let is : IsLogOf o.header log.passed bytes = record {
      gate = get_or bytes o.at 0;
      rest = drop (o.at + 1) bytes;
      closed = log.closed ended long;
      eight = log.eight;
      all_sized = log.all_sized;
      split = log.split long ∙ ap (λ (l : List ℕ). o.header ++ (records log.passed ++ l)) (drop_more bytes o.at 0 within);
    } in
    let all = log_payloads o.header log.passed bytes is in
    of_at _ _ _ (ap (λ (v : OpeningState). g.D.Disk.reads c.args.disk.now v.file) (sym c.self.view_is)) (record {
      is = subst (λ ps. IsLogOf o.header ps bytes) (sym all) is;
      long = omega (arith, log.place, length-records log.passed, ap length_of all);
      count = omega (arith, log.number, ap length all);
    })
