use Rattle.std.proofs.Common.{sym, arith}
use Rattle.field_bytes.proofs.Laws.{IsBytes}
use Rattle.entity_form.proofs.Spellings.{one_more_read}
use Rattle.entity_form.proofs.spelling.numbers_in.Goals as goal

pub loop-number-preserved : goal.loop-number-preserved
loop-number-preserved c =
    let fits : IsBytes c.args.bytes.now = λ i. omega (arith, c.type_inv.bytes i) in
    rw c.in_ok-push.ensures.items
    (one_more_read c.args.bytes.now c.loop-number.numbers.items c.loop-number.place c.in-Some.number fits c.loop-number.invariant (sym c.in-Some.ensures))
