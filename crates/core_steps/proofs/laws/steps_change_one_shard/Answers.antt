-- Each clause is a lemma.
use Rattle.core_steps.proofs.Shards.{other_hands, other_shards, step_book, step_is, step_lengths, step_made}
use Rattle.core_steps.proofs.laws.steps_change_one_shard.Goals as goal

pub returns-clause-made : goal.returns-clause-made
returns-clause-made c = step_made

pub returns-clause-makes : goal.returns-clause-makes
returns-clause-makes c = step_is

pub returns-clause-shards : goal.returns-clause-shards
returns-clause-shards c = other_shards

pub returns-clause-hands : goal.returns-clause-hands
returns-clause-hands c = other_hands

pub returns-clause-lengths : goal.returns-clause-lengths
returns-clause-lengths c = step_lengths

pub returns-clause-book : goal.returns-clause-book
returns-clause-book c = step_book
