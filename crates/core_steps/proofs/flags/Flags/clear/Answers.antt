use Rattle.std.proofs.Common.{◌≡◌, Bool, false, List, [], ◌∷◌, length, replicate, refl, ap, arith}
use Rattle.std.proofs.lemmas.Grind.{common_steps}
use Rattle.core_steps.specs.Rows.{all_clear}
use Rattle.core_steps.proofs.flags.Flags.clear.Goals as goal

all_clear-replicate : (fs : List Bool) → all_clear fs ≡ replicate (length fs) false
all_clear-replicate [] = refl
all_clear-replicate (f ∷ fs) = ap (λ (gs : List Bool). false ∷ gs) (all_clear-replicate fs)

pub returns : goal.returns
returns c =
    let filled : c.fill.new.self ≡ replicate (length c.self.inside.items.items) false = rw c.as_mut_slice.ensures.value at c.fill.ensures.after (λ y e. e) in
    rw (← c.self.view_is, all_clear-replicate c.self.inside.items.items, filled) (grind (arith, common_steps))
