use Rattle.std.proofs.Common.{◌≡◌, ℕ, ◌++◌, ◌∷◌, [], ◌+◌, ◌<◌, length, Err, ap, ◌∙◌, arith, rules}
use Rattle.entity_form.proofs.ValueReading.{goes_on, stops, is_whole, is_left_over}
use Rattle.entity_form.proofs.reading.values.Goals as goal

pub returns-in-Err-Unreadable : goal.returns-in-Err-Unreadable
returns-in-Err-Unreadable c =
    let unreadable = rw c.in-Err-Unreadable.field-0-is at c.in-Err-Unreadable.ensures in
    stops c.loop-i.values.items c.args.members.now c.loop-i.i c.index-members-i.result c.loop-i.refs_left.now c.loop-i.plain_left.now _
    c.loop-i-test.true c.index-members-i.is unreadable c.loop-i.invariant

pub loop-i-preserved : goal.loop-i-preserved
loop-i-preserved c =
    let v = c.in-Ok.value in
    let pushed : c.push.new.self.items ≡ c.loop-i.values.items ++ v ∷ [] = c.in_ok-push-in-Ok.ensures.items in
    rw pushed (goes_on c.loop-i.values.items c.args.members.now c.loop-i.i c.index-members-i.result c.loop-i.refs_left.now c.loop-i.plain_left.now
    v c.in-Ok.refs_after.now c.in-Ok.plain_after.now _ c.loop-i-test.true c.index-members-i.is c.in-Ok.ensures c.loop-i.invariant)

pub returns-then-not-is_used_up : goal.returns-then-not-is_used_up
returns-then-not-is_used_up c =
    let left : 0 < length c.loop-i.refs_left.now + length c.loop-i.plain_left.now = search rules in
    let at_end : c.loop-i.i ≡ length c.args.members.now = omega arith in
    is_left_over c.loop-i.values.items c.args.members.now c.loop-i.i c.loop-i.refs_left.now c.loop-i.plain_left.now _ c.loop-i-test.false left c.loop-i.invariant
    ∙ ap (λ (n : ℕ). Err n) at_end

pub returns : goal.returns
returns c =
    let used : length c.loop-i.refs_left.now + length c.loop-i.plain_left.now ≡ 0 = search rules in
    rw c.new.ensures
    (is_whole c.loop-i.values.items c.args.members.now c.loop-i.i c.loop-i.refs_left.now c.loop-i.plain_left.now _
    c.loop-i-test.false (omega arith) (omega arith) c.loop-i.invariant)
