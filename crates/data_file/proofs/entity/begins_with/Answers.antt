use Rattle.std.proofs.Common.{sym, ◌∙◌, take}
use Rattle.data_file.specs.Headers.{BeginsWith}
use Rattle.data_file.proofs.HeaderFacts.{same_header, begins_same, test_same, same_tested}
use Rattle.data_file.proofs.entity.begins_with.Goals as goal

pub returns-in-Some-clause-yes : goal.returns-in-Some-clause-yes
returns-in-Some-clause-yes c tested =
    let e = c.in-Some.ensures in
    let found : BeginsWith (take 32 c.args.bytes.now) c.in-Some.found = record { length = e.length; type_id = e.type_id; id = e.id; count = e.count } in
    begins_same _ c.in-Some.found c.args.header (same_tested c.in-Some.found c.args.header (sym c.eq.ensures ∙ tested)) found

pub returns-in-Some-clause-no : goal.returns-in-Some-clause-no
returns-in-Some-clause-no c begins =
    let e = c.in-Some.ensures in
    let found : BeginsWith (take 32 c.args.bytes.now) c.in-Some.found = record { length = e.length; type_id = e.type_id; id = e.id; count = e.count } in
    c.eq.ensures ∙ test_same c.in-Some.found c.args.header (same_header _ c.in-Some.found c.args.header found begins)
