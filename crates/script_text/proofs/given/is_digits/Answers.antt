use Rattle.std.proofs.Common.{◌∙◌, sym}
use Rattle.script_text.proofs.GivenValues.{digits_from, digits_all, some_bytes}
use Rattle.script_text.proofs.given.is_digits.Goals as goal

pub returns-then-not-is_empty : goal.returns-then-not-is_empty
returns-then-not-is_empty c =
    let bytes = c.args.bytes.now in (
      λ all. digits_from bytes (some_bytes bytes (sym c.is_empty.ensures ∙ c.if-not-is_empty.true)) (sym c.all_digits.ensures ∙ all),
      λ are. c.all_digits.ensures ∙ (digits_all bytes are).1,
    )
