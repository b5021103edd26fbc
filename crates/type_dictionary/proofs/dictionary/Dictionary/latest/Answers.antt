-- The latest record of a name has the name.
use Rattle.type_dictionary.proofs.LatestOnes.{latest_from-named}
use Rattle.type_dictionary.proofs.dictionary.Dictionary.latest.Goals as goal

pub returns-clause-named : goal.returns-clause-named
returns-clause-named c = latest_from-named c.args.self.now c.args.name.now c.latest_record.result c.latest_record.ensures
