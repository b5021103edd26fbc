-- A text that is no record is not the next one.
use Rattle.type_dictionary.proofs.RecordLists.{spells_no_record}
use Rattle.type_dictionary.proofs.dictionary.Dictionary.read_record.Goals as goal

pub returns-in-Err-At-clause-fault : goal.returns-in-Err-At-clause-fault
returns-in-Err-At-clause-fault c =
    let stands = rw c.in-Err-At.field-0-is at c.in-Err-At.ensures.fault in
    spells_no_record c.args.self.now c.args.text.now stands.0
