use Rattle.std.proofs.Common.{◌≡◌, ◌∙◌, ap, sym, arith, Err}
use Rattle.std.proofs.lemmas.Bool.{eqb-true}
use Rattle.type_desc.specs.Reading.{name_at}
use Rattle.type_desc.specs.declared.desc.NameKind.TheVariants as names
use Rattle.script_text.proofs.GivenValues.{some_bytes, target_read, no_target-stuck, no_target-rest}
use Rattle.script_text.proofs.given.target_in.Goals as goal

pub returns-then-not-is_empty : goal.returns-then-not-is_empty
returns-then-not-is_empty c =
    let text_is = c.as_bytes.ensures.value ∙ c.as_str.ensures in
    let read = ap (name_at names.OfMember) (sym text_is) ∙ c.in-Ok.ensures.read in
    let some = some_bytes c.in-Ok.behind.now (sym c.is_empty.ensures ∙ c.if-not-is_empty.true) in
    no_target-rest c.args.rest.now c.in-Ok.word.now c.in-Ok.behind.now read (omega (arith, some))

pub returns-in_ok-from_word-in-Ok : goal.returns-in_ok-from_word-in-Ok
returns-in_ok-from_word-in-Ok c =
    let text_is = c.as_bytes.ensures.value ∙ c.as_str.ensures in
    let read = ap (name_at names.OfMember) (sym text_is) ∙ c.in-Ok.ensures.read in
    target_read c.args.rest.now c.in-Ok.word.now c.in-Ok.behind.now _ read (eqb-true _ _ (sym c.is_empty.ensures ∙ c.if-not-is_empty.false)) c.in_ok-from_word-in-Ok.ensures

pub returns-in-Err-Stuck : goal.returns-in-Err-Stuck
returns-in-Err-Stuck c =
    let text_is = c.as_bytes.ensures.value ∙ c.as_str.ensures in
    let stuck : name_at names.OfMember c.as_bytes.result.now ≡ Err c.in-Err-Stuck.field-0-0 = rw c.in-Err-Stuck.field-0-is at c.in-Err-Stuck.ensures.read in
    no_target-stuck c.args.rest.now c.in-Err-Stuck.field-0-0 (ap (name_at names.OfMember) (sym text_is) ∙ stuck)
