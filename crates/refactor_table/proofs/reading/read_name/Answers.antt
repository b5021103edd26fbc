use Rattle.std.proofs.Common.{◌≡◌, Ok, Err, [], sym, ap, ◌∙◌}
use Rattle.refactor_table.specs.Names.{IsRefName, name_text}
use Rattle.refactor_table.specs.Reading.{ref_name_at}
use Rattle.type_desc.proofs.Readers.{longest_beginning, whole_is_spelled, stuck_within, stuck_spells_nothing, ok_is}
use Rattle.refactor_table.proofs.NameReading.{IsReader-ref_name, ref_name_again}
use Rattle.refactor_table.proofs.reading.read_name.Goals as goal

stuck : (c : goal.In-Err-Stuck) → ref_name_at c.args.word.now ≡ Err c.in-Err-Stuck.left
stuck c = rw c.in-Err-Stuck.field-0-is at c.in-Err-Stuck.ensures

pub overflow_sub-result : goal.overflow_sub-result
overflow_sub-result c = stuck_within name_text IsRefName ref_name_at IsReader-ref_name c.args.word.now c.in-Err-Stuck.left (stuck c)

pub returns-in-Ok-clause-found : goal.returns-in-Ok-clause-found
returns-in-Ok-clause-found c = whole_is_spelled name_text IsRefName ref_name_at IsReader-ref_name c.args.word.now c.in-Ok.found c.in-Ok.ensures

pub returns-in-Ok-clause-only : goal.returns-in-Ok-clause-only
returns-in-Ok-clause-only c = λ r is spelled.
    let again : ref_name_at c.args.word.now ≡ Ok (r, []) = ap ref_name_at spelled ∙ ref_name_again r is in
    let same = ok_is _ _ (sym c.in-Ok.ensures ∙ again) in
    ap (λ p. p.0) same

pub returns-in-Err-Stuck-clause-only : goal.returns-in-Err-Stuck-clause-only
returns-in-Err-Stuck-clause-only c = λ r is spelled.
    absurd (stuck_spells_nothing name_text IsRefName ref_name_at ref_name_again c.args.word.now c.in-Err-Stuck.left (stuck c) (r, is, spelled))

pub returns-in-Err-Stuck-clause-fault : goal.returns-in-Err-Stuck-clause-fault
returns-in-Err-Stuck-clause-fault c = (
  stuck_spells_nothing name_text IsRefName ref_name_at ref_name_again c.args.word.now c.in-Err-Stuck.left (stuck c),
  longest_beginning name_text IsRefName ref_name_at IsReader-ref_name ref_name_again c.args.word.now c.in-Err-Stuck.left (stuck c),
)
