-- What is loaded with an id: what the walks over the stored entities reach, and no object that is in memory already.
use Rattle.std.proofs.Common.{◌≡◌, ℕ, Bool, true, false, cond, not, List, [], ◌∷◌, map, Option, Some, None, option_map, ◌⊎◌, inl, inr, refl, sym, ap, ◌∙◌, subst}
use Rattle.std.specs.Prelude.{nat_eq}
use Rattle.std.specs.List.{filter, list_all}
use Rattle.std.proofs.lemmas.Bool.{eq-eqb, eqb-true, not-true, not_from_false, or_cases, or_left}
use Rattle.graph_model.specs.Ids.{has}
use Rattle.graph_model.specs.Graph.{Graph, edges, edges_of, entity_of, has_edge}
use Rattle.graph_model.specs.declared.entity.Entity.{Entity}
use Rattle.graph_model.specs.declared.entity.Record.{Record}
use Rattle.graph_model.proofs.Graphs.{entity_of_filter, reached_stay}
use Rattle.type_desc.specs.declared.desc.TypeDesc.{TypeDesc}
use Rattle.refactor_table.specs.declared.name.Pair.{Pair}
use Rattle.session_model.specs.Instances.{Instances, has_instance, reached}
use Rattle.session_model.specs.Loading.{Converted, Loaded, NoType, WrongKind, closure_of, conversion, eager_refs, loading_graph}
use Rattle.session_model.specs.WellFormed.{IsWellFormed}
use Rattle.session_model.specs.Sound.{AreTypes, IsRightGraph, spares_root}
use Rattle.session_model.proofs.Converting.{conversion_right}
use Rattle.session_model.proofs.IdLists.{sifted, sifts}
use Rattle.session_model.proofs.Naming.{eager_are_refs}
use Rattle.session_model.proofs.Reached.{reached-closed, reached-start, reached-walks}

-- ---- the graph that loading walks

entity_of_mapped : (make : Entity → Entity) (g : Graph) (y : ℕ) → entity_of (map (λ (r : Record). record { id = r.id; entity = make r.entity }) g) y ≡ option_map make (entity_of g y)
entity_of_mapped make [] y = refl
entity_of_mapped make (r ∷ g) y = by (nat_eq y r.id) (entity_of_mapped make g y)
  where
    by : (b : Bool) → entity_of (map (λ (r : Record). record { id = r.id; entity = make r.entity }) g) y ≡ option_map make (entity_of g y)
        → cond b (Some (make r.entity)) (entity_of (map (λ (r : Record). record { id = r.id; entity = make r.entity }) g) y) ≡ option_map make (cond b (Some r.entity) (entity_of g y))
    by true ih = refl
    by false ih = ih

-- an entity's references to ids without an instance
abbrev open_refs : List TypeDesc → List Pair → Instances → Entity → Entity
open_refs types pairs hs e = record { type_id = e.type_id; refs = filter (λ id. not (has_instance hs id)) (eager_refs (conversion types pairs e)); plain = [] }

pub loading_edge : (types : List TypeDesc) (pairs : List Pair) (hs : Instances) (g : Graph) (y z : ℕ) (e : Entity) → entity_of g y ≡ Some e
    → has z (eager_refs (conversion types pairs e)) ≡ true → nat_eq z 0 ≡ false → has_instance hs z ≡ false → has_edge (loading_graph types pairs hs g) y z ≡ true
loading_edge types pairs hs g y z e at named other absent =
    ap (λ (o : Option Entity). has z (edges_of o)) (entity_of_mapped (open_refs types pairs hs) g y ∙ ap (option_map (open_refs types pairs hs)) at)
    ∙ sifts (λ (w : ℕ). not (nat_eq w 0)) (filter (λ id. not (has_instance hs id)) (eager_refs (conversion types pairs e))) z (not_from_false (nat_eq z 0) other)
    (sifts (λ id. not (has_instance hs id)) (eager_refs (conversion types pairs e)) z (not_from_false (has_instance hs z) absent) named)

-- where an edge of that graph is from
pub record IsLoadingEdge (types : List TypeDesc) (pairs : List Pair) (hs : Instances) (g : Graph) (y z : ℕ) : Type 0 where
  pub entity : Entity
  pub at : entity_of g y ≡ Some entity
  pub named : has z (eager_refs (conversion types pairs entity)) ≡ true
  pub other : nat_eq z 0 ≡ false
  pub absent : has_instance hs z ≡ false

pub loading_edge_from : (types : List TypeDesc) (pairs : List Pair) (hs : Instances) (g : Graph) (y z : ℕ) → has_edge (loading_graph types pairs hs g) y z ≡ true → IsLoadingEdge types pairs hs g y z
loading_edge_from types pairs hs g y z edge = by (entity_of g y) refl (sym (ap (λ (o : Option Entity). has z (edges_of o)) (entity_of_mapped (open_refs types pairs hs) g y)) ∙ edge)
  where
    by : (o : Option Entity) → entity_of g y ≡ o → has z (edges_of (option_map (open_refs types pairs hs) (entity_of g y))) ≡ true → IsLoadingEdge types pairs hs g y z
    by None e h = let none : false ≡ true = sym (ap (λ (o : Option Entity). has z (edges_of (option_map (open_refs types pairs hs) o))) e) ∙ h in absurd cc
    by (Some entity) e h =
        let now : has z (edges (open_refs types pairs hs entity)) ≡ true = sym (ap (λ (o : Option Entity). has z (edges_of (option_map (open_refs types pairs hs) o))) e) ∙ h in
        let t = sifted (λ (w : ℕ). not (nat_eq w 0)) (filter (λ id. not (has_instance hs id)) (eager_refs (conversion types pairs entity))) z now in
        let u = sifted (λ id. not (has_instance hs id)) (eager_refs (conversion types pairs entity)) z t.1 in
        record { entity = entity; at = e; named = u.1; other = not-true (nat_eq z 0) t.0; absent = not-true (has_instance hs z) u.0 }

-- what is loaded from an entity names only what the entity names
pub conversion_names : (types : List TypeDesc) (pairs : List Pair) (x : ℕ) (entity : Entity) → AreTypes types → list_all spares_root pairs ≡ true → IsWellFormed types x entity
    → (y : ℕ) → has y (eager_refs (conversion types pairs entity)) ≡ true → (y ≡ 0) ⊎ (has y (edges entity) ≡ true)
conversion_names types pairs x entity are spares form y h = by (conversion types pairs entity) refl h
  where
    by : (c : Converted) → conversion types pairs entity ≡ c → has y (eager_refs c) ≡ true → (y ≡ 0) ⊎ (has y (edges entity) ≡ true)
    by (Loaded object) e h = (conversion_right types pairs x entity object are spares form e).names y (eager_are_refs object.values y h)
    by NoType e h = absurd cc
    by WrongKind e h = absurd cc

-- so each edge there is one of the graph
pub loading_edge_is : (types : List TypeDesc) (pairs : List Pair) (hs : Instances) (next : ℕ) (g : Graph) (y z : ℕ) → AreTypes types → list_all spares_root pairs ≡ true → IsRightGraph types next g
    → has_edge (loading_graph types pairs hs g) y z ≡ true → has_edge g y z ≡ true
loading_edge_is types pairs hs next g y z are spares right edge =
    let l = loading_edge_from types pairs hs g y z edge in
    ap (λ (o : Option Entity). has z (edges_of o)) l.at ∙ by l.entity (conversion_names types pairs y l.entity are spares (right.forms y l.entity l.at) z l.named) l.other
  where
    by : (entity : Entity) → (z ≡ 0) ⊎ (has z (edges entity) ≡ true) → nat_eq z 0 ≡ false → has z (edges entity) ≡ true
    by entity (inl nothing) other = let t = eq-eqb z 0 nothing in absurd cc
    by entity (inr named) other = named

-- ---- the closure

-- the ids that loading reaches
abbrev pub loaded_ids : List TypeDesc → List Pair → Instances → Graph → ℕ → List ℕ
loaded_ids types pairs hs g id = reached (loading_graph types pairs hs g) (id ∷ [])

pub start_loaded : (types : List TypeDesc) (pairs : List Pair) (hs : Instances) (g : Graph) (id : ℕ) → has id (loaded_ids types pairs hs g id) ≡ true
start_loaded types pairs hs g id = reached-start (loading_graph types pairs hs g) (id ∷ []) id (or_left (nat_eq id id) false (eq-eqb id id refl))

pub record IsInClosure (types : List TypeDesc) (pairs : List Pair) (hs : Instances) (g : Graph) (id y : ℕ) (e : Entity) : Type 0 where
  pub within : has y (loaded_ids types pairs hs g id) ≡ true
  pub at : entity_of g y ≡ Some e

pub in_closure : (types : List TypeDesc) (pairs : List Pair) (hs : Instances) (g : Graph) (id y : ℕ) (e : Entity) → entity_of (closure_of types pairs hs g id) y ≡ Some e → IsInClosure types pairs hs g id y e
in_closure types pairs hs g id y e is = by (has y (loaded_ids types pairs hs g id)) refl (sym (entity_of_filter (λ (z : ℕ). has z (loaded_ids types pairs hs g id)) g y) ∙ is)
  where
    by : (b : Bool) → has y (loaded_ids types pairs hs g id) ≡ b → cond b (entity_of g y) None ≡ Some e → IsInClosure types pairs hs g id y e
    by true f at = record { within = f; at = at }
    by false f at = absurd cc

pub closure_has : (types : List TypeDesc) (pairs : List Pair) (hs : Instances) (g : Graph) (id y : ℕ) → has y (loaded_ids types pairs hs g id) ≡ true → entity_of (closure_of types pairs hs g id) y ≡ entity_of g y
closure_has types pairs hs g id y within = entity_of_filter (λ (z : ℕ). has z (loaded_ids types pairs hs g id)) g y ∙ ap (λ (b : Bool). cond b (entity_of g y) None) within

-- no id with an instance is reached from one without
pub loaded_is_absent : (types : List TypeDesc) (pairs : List Pair) (hs : Instances) (g : Graph) (id y : ℕ) → has_instance hs id ≡ false → has y (loaded_ids types pairs hs g id) ≡ true → has_instance hs y ≡ false
loaded_is_absent types pairs hs g id y absent within = reached_stay (loading_graph types pairs hs g) (id ∷ []) (λ (z : ℕ). has_instance hs z ≡ false) begin
    (λ w z before edge. (loading_edge_from types pairs hs g w z edge).absent) y (reached-walks (loading_graph types pairs hs g) (id ∷ []) y within)
  where
    begin : (z : ℕ) → has z (id ∷ []) ≡ true → has_instance hs z ≡ false
    begin z h = elim (or_cases (nat_eq z id) false h) [
      | inl same ↦ subst (λ (w : ℕ). has_instance hs w ≡ false) (sym (eqb-true z id same)) absent
      | inr none ↦ absurd cc
    ]

-- loading goes on along each edge of its graph
pub loaded_on : (types : List TypeDesc) (pairs : List Pair) (hs : Instances) (g : Graph) (id y z : ℕ) → has y (loaded_ids types pairs hs g id) ≡ true → has_edge (loading_graph types pairs hs g) y z ≡ true
    → has z (loaded_ids types pairs hs g id) ≡ true
loaded_on types pairs hs g id y z = reached-closed (loading_graph types pairs hs g) (id ∷ []) y z
