-- The edges of an instance in the graph of the instances.
use Rattle.std.proofs.Common.{◌≡◌, ℕ, List, [], ◌∷◌, Option, Some, None, refl}
use Rattle.graph_model.specs.Graph.{edges_of, entity_of}
use Rattle.session_model.specs.Instances.{Instance, Instances, graph_of, instance_at}
use Rattle.object_registry.specs.References.{without_none}
use Rattle.object_registry.proofs.Numbers.{Below, Same, Above, compared}

-- the edges of the id that the instance has, none where there is no instance
abbrev pub edges_at : (Instance → List ℕ) → Option Instance → List ℕ
edges_at edges None = []
edges_at edges (Some i) = without_none (edges i)

pub edges_of-instance : (edges : Instance → List ℕ) (is : Instances) (x : ℕ) → edges_of (entity_of (graph_of edges is) x) ≡ edges_at edges (instance_at is x)
edges_of-instance edges [] x = refl
edges_of-instance edges (h ∷ is) x = elim (compared x h.id) [
  | Below l c a b d f ↦ rw (d, f) (edges_of-instance edges is x)
  | Same l c a b d f ↦ rw (d, f) refl
  | Above l c a b d f ↦ rw (d, f) (edges_of-instance edges is x)
]
