-- The first units are the parts of a start.
use Rattle.std.proofs.Common.{◌≡◌, ℕ, zero, suc, Some, None, List, [], ◌∷◌, map, refl, sym, ap, ◌∙◌, subst, inl, lit≤, lit<, Result, IfOk}
use Rattle.std.specs.Prelude.{slice_get}
use Rattle.std.proofs.lemmas.Result.{IfOk-weaker}
use Rattle.graph_model.specs.Graph.{Graph}
use Rattle.core_steps.specs.Core.{Core}
use Rattle.core_steps.specs.Good.{IsGood}
use Rattle.core_steps.specs.Steps.{IsStartGraph, part_at, start}
use Rattle.core_steps.proofs.Starts.{good_start}
use Rattle.shards.specs.Known.{start_in}
use Rattle.shards.specs.Making.{AreStart, IsFresh}
use Rattle.shard_rows.specs.declared.units.MemoryUnit.{MemoryUnit}
use Rattle.shard_rows.specs.declared.units.MemoryUnit.TheVariants.{Channel, Monitor}
use Rattle.shard_rows.specs.Units.{first_units, told_of}

pub all_fresh : (u : MemoryUnit) → IsFresh (told_of u)
all_fresh (Channel c l) = record { failed = refl; sound = refl }
all_fresh (Monitor m l) = record { failed = refl; sound = refl }

backs : Core → List MemoryUnit → Type 0
backs _ _ = Unit {0}

here : (a b : MemoryUnit) → Some a ≡ Some b → a ≡ b
here a b e = cc

parts : (k : ℕ) (u : MemoryUnit) → slice_get first_units k ≡ Some u → (told_of u).part ≡ part_at (start_in (map told_of first_units) 1024) k
parts zero u e = ap (λ (x : MemoryUnit). (told_of x).part) (sym (here _ u e))
parts (suc zero) u e = ap (λ (x : MemoryUnit). (told_of x).part) (sym (here _ u e))
parts (suc (suc zero)) u e = ap (λ (x : MemoryUnit). (told_of x).part) (sym (here _ u e))
parts (suc (suc (suc k))) u e = cc

pub first_start : AreStart told_of (λ _ _. Unit {0}) first_units 1024
first_start = record {
  graph = record { ordered = refl; next_high = lit≤ tt; good_ids = λ x e. cc; exact = inl refl };
  parts = parts;
  backed = tt;
}

-- the start of the empty graph is good
pub good_started : {E : Type 0} (g : Graph) (actors : ℕ) (r : Result Core E) → g ≡ [] → IfOk r (λ core. core ≡ start g 1024 0 2 actors 1) → IfOk r (λ core. IsGood core)
good_started g actors r none e = IfOk-weaker r (λ core. core ≡ start g 1024 0 2 actors 1) (λ core. IsGood core)
    (λ core is. subst IsGood (sym is) (good_start g 1024 0 2 actors 1 (lit< tt) (subst (λ (h : Graph). IsStartGraph h 1024) (sym none) first_start.graph))) e
