-- Between two lines.
use Rattle.store_rows.specs.Ready.{IsReady}
use Rattle.store_rows.proofs.answering.asked.Given as goal

abbrev pub invariant-loop-index : goal.invariant-loop-index
invariant-loop-index l = IsReady l.session
