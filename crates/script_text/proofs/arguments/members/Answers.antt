use Rattle.std.proofs.Common.{◌≡◌, ◌++◌, ◌∷◌, [], ap, sym, ◌∙◌, arith, rules, drop, ◌-◌}
use Rattle.std.proofs.lemmas.List.{take_rest}
use Rattle.std.proofs.lemmas.Result.{err_from_is_err_and}
use Rattle.script_text.specs.Arguments.{member_at, members_at}
use Rattle.script_text.proofs.MemberLoops.{goes_on, stops, ends_there, ends_full, no_front}
use Rattle.script_text.proofs.arguments.members.Goals.{else-spaces-test, then-spaces-test+in_default, then-spaces-test+in_default-2}
use Rattle.script_text.proofs.arguments.members.Goals as goal

pub spaces-init : goal.spaces-init
spaces-init c = rw c.new-members.ensures.items (no_front (members_at 1024 c.args.bytes.now))

pub returns-in_err-next : goal.returns-in_err-next
returns-in_err-next c =
    let p = err_from_is_err_and c.from_residual.result c.from_residual.ensures.1 in
    let rest_is = ap member_at (sym (take_rest c.spaces.rest.now 1)) in
    rw (p.1, p.2) (stops c.in_err-next.field-0.0 c.spaces.members.items c.spaces.counter c.spaces.rest.now (members_at 1024 c.args.bytes.now)
    c.spaces-test.true c.in-32.len_at_least (search rules) (rw rest_is c.in_err-next.ensures) c.spaces.invariant)

pub spaces-preserved : goal.spaces-preserved
spaces-preserved c =
    let m = c.in_ok-next.next in
    let pushed : c.push.new.self.items ≡ c.spaces.members.items ++ m ∷ [] = c.in_ok-push.ensures.items in
    let read : member_at (drop 1 c.spaces.rest.now) ≡ _ = ap member_at (sym (take_rest c.spaces.rest.now 1)) ∙ c.in_ok-next.ensures in
    rw pushed (goes_on c.spaces.members.items c.spaces.counter c.spaces.rest.now m c.in_ok-next.after.now (members_at 1024 c.args.bytes.now)
    c.spaces-test.true c.in-32.len_at_least (search rules) read c.spaces.invariant)

pub returns : goal.returns
returns c =
    let total = members_at 1024 c.args.bytes.now in
    rw c.new.ensures (elim c.spaces-test.branch [
      | else-spaces-test w ↦ ends_full c.spaces.members.items c.spaces.counter c.spaces.rest.now total w.spaces-test.false c.spaces.invariant
      | then-spaces-test+in_default w ↦ ends_there c.spaces.members.items (1024 - c.spaces.counter) c.spaces.rest.now total (λ h. absurd (omega arith)) c.spaces.invariant
      | then-spaces-test+in_default-2 w ↦ ends_there c.spaces.members.items (1024 - c.spaces.counter) c.spaces.rest.now total (λ h. search rules) c.spaces.invariant
    ])
