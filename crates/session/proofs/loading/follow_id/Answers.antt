use Rattle.std.proofs.Common.{arith}
use Rattle.std.proofs.lemmas.Bool.{ne_eqb}
use Rattle.std.proofs.lemmas.Result.{err_from_is_err_and}
use Rattle.session.proofs.FollowLines.{missing_judged, no_target_judged, not_free_judged, other_kind_judged, target_judged}
use Rattle.session.proofs.loading.follow_id.Goals as goal

pub returns-in_err-place-clause-judged : goal.returns-in_err-place-clause-judged
returns-in_err-place-clause-judged c = λ storage state at started.
    let p = err_from_is_err_and c.from_residual.result c.from_residual.ensures.1 in
    rw (p.1, p.2) (missing_judged c.args.memory.now storage state c.args.name.now c.args.member.now c.args.new.now c.in_err-place.field-0.0 at started c.in_err-place.ensures)

pub returns-in_default-clause-judged : goal.returns-in_default-clause-judged
returns-in_default-clause-judged c = λ storage state at started.
    other_kind_judged c.args.memory.now storage state c.args.name.now c.args.member.now c.args.new.now c.in_ok-place.place.id c.in_ok-place.place.index _ at c.in_ok-place.ensures c.in_default.ensures

pub returns-in_err-may_bind-clause-judged : goal.returns-in_err-may_bind-clause-judged
returns-in_err-may_bind-clause-judged c = λ storage state at started.
    let p = err_from_is_err_and c.from_residual-in_err-may_bind.result c.from_residual-in_err-may_bind.ensures.1 in
    rw (p.1, p.2) (not_free_judged c.args.memory.now storage state c.args.name.now c.args.member.now c.args.new.now c.in_ok-place.place.id c.in_ok-place.place.index _ c.in-Some.id
    c.in_err-may_bind.field-0.0 at c.in_ok-place.ensures c.in-Some.ensures c.in_err-may_bind.ensures)

pub returns-in-0-clause-judged : goal.returns-in-0-clause-judged
returns-in-0-clause-judged c = λ storage state at started.
    no_target_judged c.args.memory.now storage state c.args.name.now c.args.member.now c.args.new.now c.in_ok-place.place.id c.in_ok-place.place.index _ at c.in_ok-place.ensures
    (rw c.in-0.is at c.in-Some.ensures) c.in_ok-may_bind.ensures

pub returns-in_default-id-clause-judged : goal.returns-in_default-id-clause-judged
returns-in_default-id-clause-judged c = λ storage state at started.
    target_judged c.args.memory.now storage state c.args.name.now c.args.member.now c.args.new.now c.in_ok-place.place.id c.in_ok-place.place.index _ c.in-Some.id at c.in_ok-place.ensures c.in-Some.ensures
    c.in_ok-may_bind.ensures (ne_eqb c.in-Some.id 0 (λ none. omega arith))
