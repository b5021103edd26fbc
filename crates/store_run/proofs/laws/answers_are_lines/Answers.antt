-- Each clause is a lemma.
use Rattle.store_run.proofs.AnswerLines.{stored_lines, stored_whole, turn_ends}
use Rattle.store_run.proofs.laws.answers_are_lines.Goals as goal

pub returns-clause-ends : goal.returns-clause-ends
returns-clause-ends c = turn_ends

pub returns-clause-stored : goal.returns-clause-stored
returns-clause-stored c = stored_whole

pub returns-clause-parts : goal.returns-clause-parts
returns-clause-parts c = stored_lines
