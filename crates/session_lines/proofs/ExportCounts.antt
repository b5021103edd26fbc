-- How the steps of an export come to an end.
use Rattle.std.proofs.Common.{◌≡◌, ◌≤◌, ◌<◌, ◌+◌, ◌*◌, ℕ, suc, Bool, true, false, List, [], ◌∷◌, Option, Some, None, length, refl, ap, ◌∙◌, subst, arith}
use Rattle.graph_model.specs.Ids.{has, insert}
use Rattle.graph_model.specs.Graph.{Graph, lists}
use Rattle.graph_model.specs.declared.entity.Entity.{Entity}
use Rattle.graph_model.proofs.IdSets.{length_insert}
use Rattle.session_lines.specs.Exports.{Exported, begun, due, looked}
use Rattle.session_lines.specs.Steps.{export_steps, stage_steps, unseen}
use Rattle.session_lines.specs.declared.exporting.Stage.{Stage}
use Rattle.session_lines.specs.declared.exporting.Stage.TheVariants as stages
use Rattle.session_lines.proofs.Unseen.{unseen_less}

-- while telling, by what is due and left
pub telling_steps : (p : Exported) (g : Graph) → p.stage ≡ stages.Telling → export_steps p g ≡ 3 * length p.left + 2 * length (due p.asked) + 2
telling_steps p g is = ap (λ (s : Stage). stage_steps s p g) is

pub walking_steps : (p : Exported) (g : Graph) → p.stage ≡ stages.Walking → export_steps p g ≡ 4 * unseen p.left g + 3 * length p.left + 1
walking_steps p g is = ap (λ (s : Stage). stage_steps s p g) is

-- an id that is looked at brings the end nearer
pub looked_steps : (p new : Exported) (id : ℕ) (entity : Entity) (g : Graph) → p.stage ≡ stages.Walking → has id p.left ≡ false → lists g id ≡ true → new ≡ looked id entity p → export_steps new g < export_steps p g
looked_steps p new id entity g is fresh there becomes =
    let a : export_steps new g ≡ 4 * unseen (insert id p.left) g + 3 * length (insert id p.left) + 1 = ap (λ (q : Exported). export_steps q g) becomes ∙ walking_steps (looked id entity p) g is in
    let b = walking_steps p g is in
    let c = length_insert id p.left in
    let d = unseen_less id p.left g there fresh in
    omega arith

-- the telling begins with no more steps than the walk had left
pub begun_steps : (p q : Exported) (n : ℕ) (g : Graph) → p.stage ≡ stages.Walking → q.stage ≡ stages.Telling → q.asked ≡ None → q.left ≡ p.left → n < export_steps q g → n ≤ export_steps p g
begun_steps p q n g walking telling none left h =
    let a = walking_steps p g walking in
    let b : export_steps q g ≡ 3 * length q.left + 2 * 0 + 2 = telling_steps q g telling ∙ ap (λ (o : Option ℕ). 3 * length q.left + 2 * length (due o) + 2) none in
    let c = ap (λ (xs : List ℕ). length xs) left in
    omega arith

-- a line that is told brings it nearer
pub told_steps : (p : Exported) (id : ℕ) (g : Graph) → p.stage ≡ stages.Telling → p.asked ≡ Some id → export_steps (record p { asked = None }) g + 1 < export_steps p g
told_steps p id g is asked =
    let a = telling_steps p g is in
    let b : export_steps (record p { asked = None }) g ≡ 3 * length p.left + 2 * 0 + 2 = telling_steps (record p { asked = None }) g is in
    let c = ap (λ (o : Option ℕ). length (due o)) asked in
    omega arith

-- an export has a step left
pub some_steps : (p : Exported) (g : Graph) → 0 < export_steps p g
some_steps p g = by p.stage refl
  where
    by : (s : Stage) → p.stage ≡ s → 0 < export_steps p g
    by stages.Walking is = let a = walking_steps p g is in omega arith
    by stages.Telling is = let a = telling_steps p g is in omega arith

-- the steps count no waiting id
same_steps : (p q : Exported) (g : Graph) → p.stage ≡ q.stage → p.asked ≡ q.asked → p.left ≡ q.left → export_steps p g ≡ export_steps q g
same_steps p q g stage asked left = ap (λ (s : Stage). stage_steps s p g) stage ∙ by q.stage
  where
    by : (s : Stage) → stage_steps s p g ≡ stage_steps s q g
    by stages.Walking = ap (λ (xs : List ℕ). 4 * unseen xs g + 3 * length xs + 1) left
    by stages.Telling = ap (λ (xs : List ℕ). 3 * length xs + 2 * length (due p.asked) + 2) left ∙ ap (λ (o : Option ℕ). 3 * length q.left + 2 * length (due o) + 2) asked

pub at_most_same : (p q : Exported) (n : ℕ) (g : Graph) → p.stage ≡ q.stage → p.asked ≡ q.asked → p.left ≡ q.left → n ≤ export_steps p g → n ≤ export_steps q g
at_most_same p q n g stage asked left h = subst (λ (m : ℕ). n ≤ m) (same_steps p q g stage asked left) h

pub at_most_below : (n m : ℕ) → n < m → n ≤ m
at_most_below n m h = omega arith

unseen_all : (g : Graph) → unseen [] g ≡ length g
unseen_all [] = refl
unseen_all (r ∷ g) = ap suc (unseen_all g)

pub few_at_first : (rooted : Bool) (p : Exported) (n m : ℕ) (g : Graph) → p ≡ begun rooted → n ≡ m → m ≤ export_steps p g → n ≤ 4 * length g + 1
few_at_first rooted p n m g begins same few =
    let a : export_steps p g ≡ 4 * unseen [] g + 3 * 0 + 1 = ap (λ (q : Exported). export_steps q g) begins in
    let b = unseen_all g in
    omega arith
