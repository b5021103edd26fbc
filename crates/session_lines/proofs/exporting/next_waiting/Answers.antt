use Rattle.std.proofs.Common.{◌≡◌, true, false, [], sym, ◌∙◌, arith}
use Rattle.std.proofs.lemmas.Grind.{common_steps}
use Rattle.object_registry.proofs.Numbers.{contains-has}
use Rattle.session_lines.proofs.ExportWalks.{walked_before}
use Rattle.session_lines.proofs.exporting.next_waiting.Goals as goal

pub loop-id-init : goal.loop-id-init
loop-id-init c = λ g starts w. w

pub loop-id-preserved : goal.loop-id-preserved
loop-id-preserved c =
    let there : c.contains.result ≡ true = grind (arith, common_steps) in
    λ g starts w. walked_before g starts c.args.seen.now.keys c.pop.new.self.items c.in-Some.id
    (sym (contains-has c.in-Some.id c.args.seen.now.keys) ∙ sym c.contains.ensures ∙ there) (rw c.in-Some.ensures.items at (c.loop-id.invariant g starts w))

pub returns-then-not-contains-clause-unseen : goal.returns-then-not-contains-clause-unseen
returns-then-not-contains-clause-unseen c =
    let absent : c.contains.result ≡ false = grind (arith, common_steps) in
    sym (contains-has c.in-Some.id c.args.seen.now.keys) ∙ sym c.contains.ensures ∙ absent

pub returns-then-not-contains-clause-walks : goal.returns-then-not-contains-clause-walks
returns-then-not-contains-clause-walks c =
    λ g starts w. rw c.in-Some.ensures.items at (c.loop-id.invariant g starts w)

pub returns-clause-walks : goal.returns-clause-walks
returns-clause-walks c =
    let none : c.loop-id.waiting.items ≡ [] = grind (arith, common_steps) in
    λ g starts w. rw none at (c.loop-id.invariant g starts w)
