-- The clause is a lemma.
use Rattle.lazy_refs.proofs.Tabled.{by_the_table}
use Rattle.lazy_refs.proofs.laws.conversions_are_by_the_table.Goals as goal

pub returns : goal.returns
returns c = by_the_table
