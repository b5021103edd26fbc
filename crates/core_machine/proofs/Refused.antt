-- The first step that is refused, and how far a run goes.
use Rattle.std.proofs.Common.{◌≡◌, ℕ, zero, suc, ◌+◌, ◌<◌, ◌≤◌, List, [], ◌∷◌, ◌++◌, length, take, Option, Some, None, refl, sym, ap, ◌∙◌, arith, true, false}
use Rattle.std.proofs.lemmas.Grind.{common_steps}
use Rattle.std.proofs.lemmas.Bool.{ltb-true, ltb-false}
use Rattle.std.proofs.Math.Seq.{take-length}
use Rattle.std.specs.Prelude.{slice_get, nat_lt}
use Rattle.core_steps.specs.Core.{Core}
use Rattle.core_steps.specs.declared.event.Step.{Step}
use Rattle.core_steps.specs.Steps.{IsFirstRefused, run, step, then_run}
use Rattle.core_steps.proofs.Actors.{run_then}
use Rattle.core_steps.proofs.Glue.{none_runs}
use Rattle.core_steps.proofs.Lists.{got}

-- no run goes past a step that is refused
pub none_past : (c : Core) (ss : List Step) (n m : ℕ) (b d : Core) (s : Step) → run c (take n ss) ≡ Some b → slice_get ss n ≡ Some s → step b s ≡ None
    → n < m → run c (take m ss) ≡ Some d → ⊥
none_past c [] n m b d s leads at refused below e = cc
none_past c (r ∷ ss) n zero b d s leads at refused below e = absurd (omega arith)
none_past c (r ∷ ss) zero (suc m) b d s leads at refused below e =
    let here : c ≡ b = cc in let same : r ≡ s = cc in
    let none : step c r ≡ None = ap (λ (x : Core). step x r) here ∙ (ap (λ (t : Step). step b t) same ∙ refused) in
    none_runs (take m ss) d (sym (ap (λ (o : Option Core). then_run o (take m ss)) none) ∙ e)
none_past c (r ∷ ss) (suc n) (suc m) b d s leads at refused below e =
    (elim (step c r) as (λ o. then_run o (take n ss) ≡ Some b → then_run o (take m ss) ≡ Some d → ⊥) [
      | None ↦ λ l e. none_runs (take n ss) b l
      | Some q ↦ λ l e. none_past q ss n m b d s l at refused (omega arith) e
    ]) leads e

-- one step at most is the first that is refused
not_after : (c : Core) (ss : List Step) (n m : ℕ) → IsFirstRefused c ss n → IsFirstRefused c ss m → m ≤ n
not_after c ss n m f g = (elim (nat_lt n m) as (λ b. nat_lt n m ≡ b → m ≤ n) [
  | true ↦ λ e. absurd (none_past c ss n m f.core g.core f.bad f.leads f.at f.refused (ltb-true n m e) g.leads)
  | false ↦ λ e. ltb-false n m e
]) refl

pub one_refused : (c : Core) (ss : List Step) (n m : ℕ) → IsFirstRefused c ss n → IsFirstRefused c ss m → n ≡ m
one_refused c ss n m f g = let below = not_after c ss n m f g in let above = not_after c ss m n g f in omega arith

-- a run to the end has no step that is refused
pub none_refused : (c : Core) (ss : List Step) (n : ℕ) (d : Core) → run c ss ≡ Some d → IsFirstRefused c ss n → ⊥
none_refused c ss n d e f = let within = (got ss n f.bad f.bad f.at).0 in
    none_past c ss n (length ss) f.core d f.bad f.leads f.at f.refused within (ap (run c) (take-length ss) ∙ e)

-- a run of one step more
pub run_one_more : (c : Core) (ss : List Step) (n : ℕ) (b d : Core) (s : Step) → run c (take n ss) ≡ Some b → slice_get ss n ≡ Some s → step b s ≡ Some d
    → run c (take (n + 1) ss) ≡ Some d
run_one_more c ss n b d s leads at made = let t = got ss n s s at in
    let more : take (n + 1) ss ≡ take n ss ++ s ∷ [] = grind (arith, common_steps) in
    ap (run c) more ∙ run_then (Some c) (take n ss) s b d leads made
