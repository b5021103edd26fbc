-- Stores that may be made, and ids that may be held.
use Rattle.std.specs.Prelude.{ℕ, ◌+◌, ◌^◌, Bool, not, ◌&&◌, ◌||◌, nat_eq, nat_le, nat_lt, List, [], ◌∷◌}
use Rattle.std.specs.List.{list_all, list_any}
use Rattle.graph_model.specs.Ids.{has, rises}
use Rattle.graph_model.specs.Limits.{entity_limit, first_id, id_limit, store_limit}
use Rattle.graph_model.specs.declared.entity.Record.{Record}
use Rattle.graph_model.specs.declared.entity.StoreOp.{StoreOp}
use Rattle.graph_model.specs.Graph.{Graph, edges, entity_size, lists, ids, has_edge}

-- x is 1, the root, or from 1024 to below next
abbrev pub is_good_id : ℕ → ℕ → Bool
is_good_id next x = nat_eq x 1 || (nat_le first_id x && nat_lt x next)

-- x is held or is the root
abbrev pub is_held_or_root : List ℕ → ℕ → Bool
is_held_or_root held x = has x held || nat_eq x 1

-- y is an edge of the graph's entity of x, where x is held or the root
abbrev pub is_old_edge : Graph → List ℕ → ℕ → ℕ → Bool
is_old_edge g held x y = is_held_or_root held x && has_edge g x y

-- an edge from x that a store may have: to an id that it lists too, or that is held, or to which x had an edge before
abbrev pub is_good_edge : Graph → List ℕ → StoreOp → ℕ → ℕ → Bool
is_good_edge g held op x y = lists op.records y || (has y held || is_old_edge g held x y)

-- a record that a store may list: a good id, held or the root where the graph has it already; good edges; a type; at most 1 MiB
abbrev pub is_good_record : Graph → List ℕ → StoreOp → Record → Bool
is_good_record g held op r = is_good_id op.next_id r.id
    && ((not (lists g r.id) || is_held_or_root held r.id)
    && (list_all (is_good_edge g held op r.id) (edges r.entity)
    && (nat_le 1 r.entity.type_id && nat_le (entity_size r.entity) entity_limit)))

-- how many bytes the entities take together
abbrev pub total_size : List Record → ℕ
total_size [] = 0
total_size (r ∷ rs) = entity_size r.entity + total_size rs

-- a store that may be made in a graph by the held ids, where the next id was `next`:
-- the next id does not fall and is at most 2^48; the ids rise; the entities take at most 16 MiB; each record is good
abbrev pub is_valid_store : Graph → List ℕ → ℕ → StoreOp → Bool
is_valid_store g held next op = nat_le next op.next_id
    && (nat_le op.next_id id_limit
    && (rises (ids op.records)
    && (nat_le (total_size op.records) store_limit
    && list_all (is_good_record g held op) op.records)))

-- some of the ids has an edge to y
abbrev pub any_edge : Graph → List ℕ → ℕ → Bool
any_edge g xs y = list_any (λ (x : ℕ). has_edge g x y) xs

-- x is held already, or is an edge of the graph's entity of the root or of a held id, or is the root
abbrev pub may_hold : Graph → List ℕ → ℕ → Bool
may_hold g held x = has x held || (any_edge g (1 ∷ held) x || nat_eq x 1)

-- the next id behind these stores, from that before them
abbrev pub next_after : ℕ → List StoreOp → ℕ
next_after next [] = next
next_after next (op ∷ ops) = next_after op.next_id ops
