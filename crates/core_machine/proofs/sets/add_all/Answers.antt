use Rattle.std.proofs.Common.{◌≡◌, ◌∙◌, ℕ, List, ◌++◌, ◌∷◌, [], ◌-◌, sym, ap, take, get_or, arith}
use Rattle.std.proofs.lemmas.Grind.{common_steps}
use Rattle.graph_model.specs.Ids.{add_all}
use Rattle.core_machine.proofs.IdLists.{add_all_last}
use Rattle.core_machine.proofs.sets.add_all.Goals as goal

pub loop-left-preserved : goal.loop-left-preserved
loop-left-preserved c = let i = c.loop-left.invariant in
    let ids = c.as_slice-ids.result.now in
    let at = c.loop-left.left - 1 in
    let last : take c.loop-left.left ids ≡ take at ids ++ get_or ids at 0 ∷ [] = grind (arith, common_steps) in
    (omega arith, rw c.in_ok-add.ensures.ok (sym (add_all_last (take at ids) (get_or ids at 0) c.loop-left.set) ∙ (ap (λ (xs : List ℕ). add_all xs c.loop-left.set) (sym last) ∙ i.1)))
