-- What the units of new shards are.
use Rattle.std.specs.Prelude.{◌≡◌, ℕ, false, List, map, Some, slice_get}
use Rattle.core_steps.specs.declared.unit.Ending.TheVariants.{Sound}
use Rattle.core_steps.specs.Core.{Core}
use Rattle.core_steps.specs.Steps.{IsStartGraph, part_at}
use Rattle.core_steps.specs.Told.{Told}
use Rattle.shards.specs.Known.{graph_in, start_in}

-- the unit has not failed, and ended in no way
pub record IsFresh (t : Told) : Type 0 where
  pub failed : t.failed ≡ false
  pub sound : t.ending ≡ Sound

-- the units are the parts of a start: that of the graph in their tables with this next id
pub record AreStart {C : Type 0} (told : C → Told) (backs : Core → List C → Type 0) (units : List C) (next_id : ℕ) : Type 0 where
  pub graph : IsStartGraph (graph_in (map told units)) next_id
  pub parts : (k : ℕ) (u : C) → slice_get units k ≡ Some u → (told u).part ≡ part_at (start_in (map told units) next_id) k
  pub backed : backs (start_in (map told units) next_id) units
