use Rattle.std.proofs.Common.{◌≡◌, ◌++◌, ◌∷◌, []}
use Rattle.std.proofs.lemmas.List.{take_rest}
use Rattle.script_text.proofs.GivenValues.{bytes_go_on}
use Rattle.script_text.proofs.given.bytes_in.Goals as goal

pub loop-left-preserved : goal.loop-left-preserved
loop-left-preserved c =
    let pushed : c.push.new.self.items ≡ c.loop-left.bytes.items ++ c.in-Some.byte ∷ [] = c.in_ok-push.ensures.items in
    rw (pushed, take_rest c.loop-left.left.now 2) (bytes_go_on c.loop-left.bytes.items c.loop-left.left.now c.args.rest.now c.in-Some.byte c.in-len2-up.len_at_least c.in-Some.ensures c.loop-left.invariant)
