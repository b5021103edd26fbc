-- A text that spells a record is the next one where the record may follow, and only there.
use Rattle.std.proofs.Common.{◌≡◌, true}
use Rattle.type_dictionary.proofs.RecordLists.{not_next}
use Rattle.type_dictionary.proofs.dictionary.Dictionary.next_record.Goals as goal

pub returns-then-not-branch-clause-fault : goal.returns-then-not-branch-clause-fault
returns-then-not-branch-clause-fault c =
    not_next c.args.self.now c.args.text.now c.in_ok-id.id c.in_ok-id.desc c.in_ok-id.ensures.found c.in_ok-id.ensures.spelled
    (λ may. let yes : c.in_ok-may_follow.field-0 ≡ true = c.in_ok-may_follow.ensures.1 may in absurd cc)
