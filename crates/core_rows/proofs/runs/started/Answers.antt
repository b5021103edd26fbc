use Rattle.core_rows.proofs.StartGraphs.{good_started}
use Rattle.core_rows.proofs.runs.started.Goals as goal

pub returns-clause-good : goal.returns-clause-good
returns-clause-good c = good_started c.args.graph.now c.args.next_id c.args.number c.args.actors c.start.result c.requires.graph c.start.ensures
