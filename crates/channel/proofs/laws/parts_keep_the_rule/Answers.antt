-- Each clause is a lemma.
use Rattle.channel.proofs.PartShows.{over, right_with_part}
use Rattle.channel.proofs.laws.parts_keep_the_rule.Goals as goal

pub returns-clause-rule : goal.returns-clause-rule
returns-clause-rule c = right_with_part

pub returns-clause-table : goal.returns-clause-table
returns-clause-table c m next part_next = over m
