use Rattle.std.proofs.Common.{sym}
use Rattle.session_model.specs.Answer.{gathered_records}
use Rattle.session_lines.specs.Limits.{most_bytes}
use Rattle.storer.specs.Gathered.{gathered_ids}
use Rattle.session.proofs.BigStores.{big_alone}
use Rattle.session.proofs.storing.gather_named.Goals as goal

pub returns-in-Err-EntityTooBig : goal.returns-in-Err-EntityTooBig
returns-in-Err-EntityTooBig c =
    let is = c.args.memory.now.registry.instances in
    record {
      start = c.in-Some.start;
      named = sym c.in-Some.ensures.found;
      big = big_alone most_bytes (gathered_records is (gathered_ids c.args.gathering is c.in-Some.start)) c.in-Err-EntityTooBig.field-0 _ _ c.in-Err-EntityTooBig.field-0-is c.in-Err-EntityTooBig.ensures.fault;
    }
