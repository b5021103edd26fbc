use Rattle.std.proofs.Common.{◌≡◌, ◌<◌, ◌-◌, ℕ, false, zero, suc, List, [], ◌∷◌, length, ap, refl, arith, ◌∙◌}
use Rattle.std.specs.Prelude.{nat_eq}
use Rattle.std.specs.List.{remove}
use Rattle.std.proofs.lemmas.Bool.Decides.{nat_tests}
use Rattle.session_model.specs.Answer.{without_at}
use Rattle.object_registry.proofs.members.take.Goals as goal

removed : (xs : List ℕ) (i : ℕ) → i < length xs → remove xs i ≡ without_at xs i
removed [] i l = absurd (omega arith)
removed (x ∷ xs) zero l = refl
removed (x ∷ xs) (suc i) l =
    let other : nat_eq (suc i) 0 ≡ false = grind (arith, nat_tests) in
    let before : suc i - 1 ≡ i = omega arith in
    rw (other, before) (ap (λ (ys : List ℕ). x ∷ ys) (removed xs i (omega arith)))

pub returns : goal.returns
returns c =
    let items : c.into_vec-items.result.items ≡ c.args.ids.now = cc in
    c.new-3.ensures ∙ (c.remove.ensures.items ∙ (ap (λ (xs : List ℕ). remove xs c.args.at) items ∙ removed c.args.ids.now c.args.at c.requires))
