use Rattle.std.proofs.Common.{◌≡◌, ◌++◌, ◌∷◌, [], ap, sym, ◌∙◌, arith, rules, drop, ◌-◌}
use Rattle.std.proofs.lemmas.List.{take_rest}
use Rattle.std.proofs.lemmas.Result.{err_from_is_err_and}
use Rattle.type_desc.specs.Reading.{member_at, more_at, with_front}
use Rattle.type_desc.proofs.MemberLists.{goes_on, stops, ends_there, ends_full}
use Rattle.type_desc.proofs.reading.more_members.Goals.{else-commas-test, then-commas-test+in_default, then-commas-test+in_default-2}
use Rattle.type_desc.proofs.reading.more_members.Goals as goal

pub returns-in_err-next : goal.returns-in_err-next
returns-in_err-next c =
    let p = err_from_is_err_and c.from_residual-in_err-next.result c.from_residual-in_err-next.ensures.1 in
    let rest_is = ap member_at (sym (take_rest c.commas.rest.now 1)) in
    rw (p.1, p.2) (stops c.in_err-next.field-0.0 c.commas.members.items c.commas.counter c.commas.rest.now (with_front (c.args.first ∷ []) (more_at 1023 c.args.bytes.now))
    c.commas-test.true c.in-44.len_at_least (search rules) (rw rest_is c.in_err-next.ensures) c.commas.invariant)

pub commas-preserved : goal.commas-preserved
commas-preserved c =
    let m = c.in_ok-next.next in
    let pushed : c.push-in-commas.new.self.items ≡ c.commas.members.items ++ m ∷ [] = c.in_ok-push-2.ensures.items in
    let read : member_at (drop 1 c.commas.rest.now) ≡ _ = ap member_at (sym (take_rest c.commas.rest.now 1)) ∙ c.in_ok-next.ensures in
    rw pushed (goes_on c.commas.members.items c.commas.counter c.commas.rest.now m c.in_ok-next.after.now (with_front (c.args.first ∷ []) (more_at 1023 c.args.bytes.now))
    c.commas-test.true c.in-44.len_at_least (search rules) read c.commas.invariant)

pub returns : goal.returns
returns c =
    let total = with_front (c.args.first ∷ []) (more_at 1023 c.args.bytes.now) in
    rw c.new.ensures (elim c.commas-test.branch [
      | else-commas-test w ↦ ends_full c.commas.members.items c.commas.counter c.commas.rest.now total w.commas-test.false c.commas.invariant
      | then-commas-test+in_default w ↦ ends_there c.commas.members.items (1024 - c.commas.counter) c.commas.rest.now total (λ h. absurd (omega arith)) c.commas.invariant
      | then-commas-test+in_default-2 w ↦ ends_there c.commas.members.items (1024 - c.commas.counter) c.commas.rest.now total (λ h. search rules) c.commas.invariant
    ])
