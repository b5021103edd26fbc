use Rattle.std.proofs.Common.{◌≡◌, ◌∙◌, true, sym}
use Rattle.session_lines.proofs.TypeLines.{judged_given, no_room}
use Rattle.session_lines.proofs.TypeWords.{none_repeated, some_repeated}
use Rattle.session_lines.proofs.declaring.judged_type.Goals as goal

pub returns-then-not-branch : goal.returns-then-not-branch
returns-then-not-branch c = record {
  other = sym c.is_root_type.ensures ∙ c.if-is_root_type.false;
  twice = some_repeated c.args.desc.now.members (λ own. let yes : c.in_ok-have_no_repeat.field-0 ≡ true = c.in_ok-have_no_repeat.ensures.1 own in absurd cc);
}

pub returns-in-Ok : goal.returns-in-Ok
returns-in-Ok c = judged_given c.args.memory.now.types c.args.desc.now c.in-Ok.declared
    (record { other = sym c.is_root_type.ensures ∙ c.if-is_root_type.false; once = none_repeated c.args.desc.now.members (c.in_ok-have_no_repeat.ensures.0 c.if-not-branch.false) })
    c.in-Ok.ensures.answer c.in-Ok.ensures.recordable

pub returns-in-Err-TooManyTypes : goal.returns-in-Err-TooManyTypes
returns-in-Err-TooManyTypes c = no_room c.args.memory.now.types c.args.desc.now c.in-Err-TooManyTypes.field-0
    (record { other = sym c.is_root_type.ensures ∙ c.if-is_root_type.false; once = none_repeated c.args.desc.now.members (c.in_ok-have_no_repeat.ensures.0 c.if-not-branch.false) })
    c.in-Err-TooManyTypes.field-0-is c.in-Err-TooManyTypes.ensures.fault
