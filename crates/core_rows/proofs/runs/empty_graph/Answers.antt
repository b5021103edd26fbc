use Rattle.std.proofs.Common.{◌∙◌}
use Rattle.core_rows.proofs.StartGraphs.{empty_starts}
use Rattle.core_rows.proofs.runs.empty_graph.Goals as goal

pub returns : goal.returns
returns c = empty_starts c.new-2.result (c.new-2.ensures ∙ c.new.ensures.items)
