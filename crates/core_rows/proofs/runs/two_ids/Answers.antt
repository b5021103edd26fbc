use Rattle.std.proofs.Common.{arith}
use Rattle.std.proofs.lemmas.Grind.{common_steps}
use Rattle.core_rows.proofs.StartGraphs.{two_start}
use Rattle.core_rows.proofs.runs.two_ids.Goals as goal

pub returns : goal.returns
returns c = two_start c.new-records.result (grind (arith, common_steps))
