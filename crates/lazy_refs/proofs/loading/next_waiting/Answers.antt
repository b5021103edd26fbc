use Rattle.std.proofs.Common.{◌≡◌, true, false, [], sym, ◌∙◌, arith}
use Rattle.std.proofs.lemmas.Grind.{common_steps}
use Rattle.object_registry.proofs.Numbers.{contains-has}
use Rattle.lazy_refs.proofs.Waiting.{all_left, last_done, last_fresh, none_left}
use Rattle.lazy_refs.proofs.loading.next_waiting.Goals as goal

pub loop-id-init : goal.loop-id-init
loop-id-init c = all_left c.args.done.now.keys c.args.waiting.now.items

pub loop-id-preserved : goal.loop-id-preserved
loop-id-preserved c =
    let there : c.contains.result ≡ true = grind (arith, common_steps) in
    last_done c.args.done.now.keys c.args.waiting.now.items c.pop.new.self.items c.in-Some.id (rw c.in-Some.ensures.items at c.loop-id.invariant)
    (sym (contains-has c.in-Some.id c.args.done.now.keys) ∙ sym c.contains.ensures ∙ there)

pub returns-then-not-contains : goal.returns-then-not-contains
returns-then-not-contains c =
    let absent : c.contains.result ≡ false = grind (arith, common_steps) in
    last_fresh c.args.done.now.keys c.args.waiting.now.items c.pop.new.self.items c.in-Some.id (rw c.in-Some.ensures.items at c.loop-id.invariant)
    (sym (contains-has c.in-Some.id c.args.done.now.keys) ∙ sym c.contains.ensures ∙ absent)

pub returns : goal.returns
returns c =
    let none : c.loop-id.waiting.items ≡ [] = grind (arith, common_steps) in
    none_left c.args.done.now.keys c.args.waiting.now.items (rw none at c.loop-id.invariant)
