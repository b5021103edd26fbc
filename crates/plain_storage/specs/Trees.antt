-- The entries of a search tree of entities, as a graph.
use Rattle.std.specs.Prelude.{ℕ, List, map}
use Rattle.graph_model.specs.Graph.{Graph}
use Rattle.graph_model.specs.declared.entity.Entity.{Entity}

abbrev pub graph_of : List (ℕ × Entity) → Graph
graph_of entries = map (λ e. record { id = e.0; entity = e.1 }) entries
