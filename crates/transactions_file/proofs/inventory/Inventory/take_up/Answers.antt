use Rattle.std.proofs.lemmas.Grind.{common_steps}
use Rattle.std.proofs.Common.{arith, ◌≡◌, true, ap, sym, subst, ◌∙◌}
use Rattle.transactions_file.specs.Inventory.{State, allowed, after, IsSound}
use Rattle.transactions_file.specs.Kept.{state_of}
use Rattle.transactions_file.proofs.Sound.{above_all, sound_after}
use Rattle.transactions_file.proofs.inventory.Inventory.take_up.Goals.{in-Creation, in-Store, in-Transfer, in-Truncation, in-Deletion}
use Rattle.transactions_file.proofs.inventory.Inventory.take_up.Goals as goal

pub push-requires-clause-above : goal.push-requires-clause-above
push-requires-clause-above c =
    let allow = subst (λ (s : State). allowed s c.args.entry.now ≡ true) (sym (ap (λ h. h.state) c.self.view_is)) c.requires.allowed in
    above_all (state_of c.self.inside) c.in-Creation.file c.self.invariant (ap (allowed (state_of c.self.inside)) (sym c.in-Creation.is) ∙ allow)

pub invariant_of-self : goal.invariant_of-self
invariant_of-self c =
    let allow = subst (λ (s : State). allowed s c.args.entry.now ≡ true) (sym (ap (λ h. h.state) c.self.view_is)) c.requires.allowed in
    let sound = sound_after (state_of c.self.inside) c.args.entry.now c.self.invariant allow in
    elim c.match-entry.branch [ in-Creation w ↦ subst IsSound (grind (arith, common_steps)) sound | in-Store w ↦ subst IsSound (grind (arith, common_steps)) sound | in-Transfer w ↦ subst IsSound (grind (arith, common_steps)) sound | in-Truncation w ↦ subst IsSound (grind (arith, common_steps)) sound | in-Deletion w ↦ subst IsSound (grind (arith, common_steps)) sound ]
