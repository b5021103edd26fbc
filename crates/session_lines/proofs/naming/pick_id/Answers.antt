use Rattle.std.proofs.Common.{subst, ◌<◌, ℕ}
use Rattle.session_lines.proofs.Picked.{pick_judged}
use Rattle.session_lines.proofs.naming.pick_id.Goals as goal

pub returns-clause-judged : goal.returns-clause-judged
returns-clause-judged c = λ storage state stands started.
    pick_judged c.args.memory.now storage state c.args.name.now c.args.member.now c.args.new.now c.args.index.now c.in-Some-below.at c.in_ok-place.place.id c.in_ok-place.place.index _ c.in-Some.ids.now c.target_at.result stands
    c.in_ok-place.ensures c.in-Some.ensures c.in-Some-below.ensures.found.0 (subst (λ (n : ℕ). c.in-Some-below.at < n) c.len.ensures c.in-Some-below.ensures.found.1) c.in_ok-may_bind.ensures
    (rw c.as_slice.ensures at c.target_at.ensures)
