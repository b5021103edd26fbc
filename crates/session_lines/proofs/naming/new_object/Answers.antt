use Rattle.std.proofs.Common.{sym}
use Rattle.session_lines.proofs.Picked.{full_judged, new_judged, no_type_judged}
use Rattle.session_lines.proofs.naming.new_object.Goals as goal

pub returns-in_default-clause-judged : goal.returns-in_default-clause-judged
returns-in_default-clause-judged c = λ storage state stands. no_type_judged c.args.memory.now storage state c.args.name.now c.args.type_name.now stands c.in_ok-may_make.ensures (sym c.in_default.ensures.value)

pub returns-then-memory-ge-ID_LIMIT-clause-judged : goal.returns-then-memory-ge-ID_LIMIT-clause-judged
returns-then-memory-ge-ID_LIMIT-clause-judged c = λ storage state stands.
    full_judged c.args.memory.now storage state c.args.name.now c.args.type_name.now c.in-Some.type_id stands c.in_ok-may_make.ensures (sym c.in-Some.ensures.value) c.if-memory-ge-ID_LIMIT.true

pub returns-clause-judged : goal.returns-clause-judged
returns-clause-judged c = λ storage state stands.
    new_judged c.args.memory.now storage state c.args.name.now c.args.type_name.now c.in-Some.type_id c.fresh_object.result stands c.in_ok-may_make.ensures (sym c.in-Some.ensures.value) c.if-memory-ge-ID_LIMIT.false c.fresh_object.ensures.fresh
