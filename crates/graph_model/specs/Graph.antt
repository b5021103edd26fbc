-- Entities, stores and graphs: edges, the graph after stores, walks and what they reach.
use Rattle.std.specs.Prelude.{◌≡◌, ℕ, ◌+◌, ◌*◌, Bool, true, cond, not, nat_eq, nat_lt, is_some, Option, Some, None, List, [], ◌∷◌, map, length}
use Rattle.std.specs.List.{filter}
use Rattle.graph_model.specs.Ids.{has}
use Rattle.graph_model.specs.declared.entity.Entity.{Entity}
use Rattle.graph_model.specs.declared.entity.Record.{Record}
use Rattle.graph_model.specs.declared.entity.StoreOp.{StoreOp}

-- the edges of an entity are its references other than 0
abbrev pub edges : Entity → List ℕ
edges e = filter (λ (x : ℕ). not (nat_eq x 0)) e.refs

-- how many bytes an entity takes: 32, 8 for each reference, and its plain bytes
abbrev pub entity_size : Entity → ℕ
entity_size e = 32 + 8 * length e.refs + length e.plain

-- a finite map from ids to entities: records by rising id
abbrev pub Graph : Type 0
Graph = List Record

-- what the graph has under an id
abbrev pub entity_of : Graph → ℕ → Option Entity
entity_of [] x = None
entity_of (r ∷ g) x = cond (nat_eq x r.id) (Some r.entity) (entity_of g x)

-- the graph has the id
abbrev pub lists : Graph → ℕ → Bool
lists g x = is_some (entity_of g x)

abbrev pub ids : Graph → List ℕ
ids g = map (λ (r : Record). r.id) g

-- the record in its place, in the stead of the one of the same id
abbrev pub put : Record → Graph → Graph
put r [] = r ∷ []
put r (s ∷ g) = cond (nat_eq r.id s.id) (r ∷ g) (cond (nat_lt s.id r.id) (s ∷ put r g) (r ∷ s ∷ g))

abbrev pub put_all : List Record → Graph → Graph
put_all [] g = g
put_all (r ∷ rs) g = put r (put_all rs g)

abbrev pub without : ℕ → Graph → Graph
without x g = filter (λ (r : Record). not (nat_eq r.id x)) g

-- the graph after stores: each is put over what was there before it
abbrev pub after : Graph → List StoreOp → Graph
after g [] = g
after g (op ∷ ops) = after (put_all op.records g) ops

-- the first where there is one, else the second
abbrev pub or_else : Option Entity → Option Entity → Option Entity
or_else None b = b
or_else (Some e) b = Some e

-- the entity of the last store that lists the id
abbrev pub last_stored : List StoreOp → ℕ → Option Entity
last_stored [] x = None
last_stored (op ∷ ops) x = or_else (last_stored ops x) (entity_of op.records x)

abbrev pub edges_of : Option Entity → List ℕ
edges_of None = []
edges_of (Some e) = edges e

-- y is an edge of the graph's entity of x
abbrev pub has_edge : Graph → ℕ → ℕ → Bool
has_edge g x y = has y (edges_of (entity_of g x))

-- from x each next id is an edge of the graph's entity of the one before
abbrev pub IsWalk : Graph → ℕ → List ℕ → Type 0
IsWalk g x [] = Unit {0}
IsWalk g x (y ∷ ys) = (has_edge g x y ≡ true) × IsWalk g y ys

-- the last id of a walk from x
abbrev pub end_of : ℕ → List ℕ → ℕ
end_of x [] = x
end_of x (y ∷ ys) = end_of y ys

-- x is the last id of a walk that begins at a start; a start is one itself
pub record IsReached (g : Graph) (starts : List ℕ) (x : ℕ) : Type 0 where
  pub from : ℕ
  pub is_start : has from starts ≡ true
  pub path : List ℕ
  pub walks : IsWalk g from path
  pub ends : end_of from path ≡ x
