use Rattle.std.proofs.Common.{◌≡◌, ◌∙◌, ℕ, true, false, nat_eq, ◌||◌, List, ◌++◌, ◌∷◌, [], sym, ap, arith}
use Rattle.std.proofs.lemmas.Grind.{common_steps}
use Rattle.core_steps.specs.Rows.{has_part}
use Rattle.core_machine.proofs.IdLists.{chosen_more}
use Rattle.core_machine.proofs.storing.store_channels.Goals as goal
use Rattle.core_machine.proofs.storing.store_channels.Goals.{then-is_on+in_ok-push, else-is_on}

pub loop-channel-preserved : goal.loop-channel-preserved
loop-channel-preserved c =
    let p = λ (j : ℕ). nat_eq c.args.format 1 || has_part c.args.channels c.args.records.now j in
    let more = chosen_more p c.loop-channel.channel in
    let test = rw c.as_slice.ensures at c.is_on.ensures in
    elim c.if-is_on.branch [
      | then-is_on+in_ok-push w ↦
          let yes : p c.loop-channel.channel ≡ true = sym test ∙ w.if-is_on.true in
          let last : c.if-is_on.found.items ≡ c.loop-channel.found.items ++ c.loop-channel.channel ∷ [] = grind (arith, common_steps) in
          last ∙ (ap (λ (xs : List ℕ). xs ++ c.loop-channel.channel ∷ []) c.loop-channel.invariant ∙ sym (rw yes at more))
      | else-is_on w ↦
          let no : p c.loop-channel.channel ≡ false = sym test ∙ w.if-is_on.false in
          let same : c.if-is_on.found.items ≡ c.loop-channel.found.items ++ [] = grind (arith, common_steps) in
          same ∙ (ap (λ (xs : List ℕ). xs ++ []) c.loop-channel.invariant ∙ sym (rw no at more))
    ]
