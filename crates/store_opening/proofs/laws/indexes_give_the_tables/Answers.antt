-- Each index gives the table of its channel.
use Rattle.store_opening.proofs.TablesGiven.{rows_are_there, tables_given}
use Rattle.store_opening.proofs.laws.indexes_give_the_tables.Goals as goal

pub returns-clause-there : goal.returns-clause-there
returns-clause-there c = rows_are_there

pub returns-clause-tables : goal.returns-clause-tables
returns-clause-tables c = tables_given
