-- The walk of an export: what is looked at, and that it ends with what the root reaches.
use Rattle.std.proofs.Common.{◌≡◌, ℕ, Bool, true, false, cond, ◌||◌, List, [], ◌∷◌, ◌++◌, Option, Some, None, inl, inr, refl, sym, ap, ◌∙◌, subst}
use Rattle.std.specs.Prelude.{nat_eq, is_some}
use Rattle.std.proofs.lemmas.Bool.{or_cases, eqb-true}
use Rattle.graph_model.specs.Ids.{has, insert, rises}
use Rattle.graph_model.specs.Graph.{Graph, IsReached, edges, edges_of, entity_of, has_edge, ids, lists}
use Rattle.graph_model.specs.declared.entity.Entity.{Entity}
use Rattle.graph_model.proofs.Walks.{IsSearch, search_begins, search_ends, looked_before, looks_now}
use Rattle.graph_model.proofs.Graphs.{entity_of_filter, has_ids, reached_stay}
use Rattle.graph_model.proofs.Rising.{filter_ids, rises_filter}
use Rattle.session_model.specs.Instances.{reached}
use Rattle.session_model.specs.Answer.{State}
use Rattle.session_model.specs.Sound.{IsRightGraph}
use Rattle.session_model.proofs.IdLists.{edge_is_listed}
use Rattle.session_model.proofs.Reached.{reached-walks, walks-reached}
use Rattle.session_model.proofs.SameIds.{same_answer, same_rising}
use Rattle.session_lines.specs.Exports.{IsWalking, due, reached_from_root, root_of, starts}

searches : (g : Graph) (from seen open_ids : List ℕ) → IsWalking g from seen open_ids → IsSearch g from seen open_ids
searches g from seen open_ids w = record { starts_known = w.starts_known; edges_known = w.edges_known; is_reached = w.is_reached; order = w.order }

walks : (g : Graph) (from seen open_ids : List ℕ) → IsSearch g from seen open_ids → IsWalking g from seen open_ids
walks g from seen open_ids s = record { starts_known = s.starts_known; edges_known = s.edges_known; is_reached = s.is_reached; order = s.order }

pub walk_begins : (g : Graph) (from : List ℕ) → IsWalking g from [] from
walk_begins g from = walks g from [] from (search_begins g from)

-- the last open id was looked at before
pub walked_before : (g : Graph) (from seen open_ids : List ℕ) (x : ℕ) → has x seen ≡ true → IsWalking g from seen (open_ids ++ x ∷ []) → IsWalking g from seen open_ids
walked_before g from seen open_ids x h w = walks g from seen open_ids (looked_before g from seen open_ids x h (searches g from seen (open_ids ++ x ∷ []) w))

-- the last open id is looked at now
pub walks_now : (g : Graph) (from seen open_ids : List ℕ) (x : ℕ) (entity : Entity) → has x seen ≡ false → entity_of g x ≡ Some entity → IsWalking g from seen (open_ids ++ x ∷ [])
    → IsWalking g from (insert x seen) (open_ids ++ edges entity)
walks_now g from seen open_ids x entity n at w = subst (λ (o : Option Entity). IsWalking g from (insert x seen) (open_ids ++ edges_of o)) at
    (walks g from (insert x seen) (open_ids ++ edges_of (entity_of g x)) (looks_now g from seen open_ids x n (searches g from seen (open_ids ++ x ∷ []) w)))

-- ---- the end

only_one : (y : ℕ) → has y (1 ∷ []) ≡ true → y ≡ 1
only_one y h = elim (or_cases (nat_eq y 1) false h) [ inl same ↦ eqb-true y 1 same | inr never ↦ absurd cc ]

-- what walks from the root reach is in a whole graph
from_root : (state : State) → IsRightGraph state.types state.next_id state.graph → (b : Bool) → lists state.graph 1 ≡ b → (x : ℕ) → IsReached state.graph (due (root_of b)) x
    → IsReached state.graph (1 ∷ []) x × (lists state.graph x ≡ true)
from_root state right true at x r = (
  r,
  reached_stay state.graph (1 ∷ []) (λ (y : ℕ). lists state.graph y ≡ true)
      (λ y h. subst (λ (z : ℕ). lists state.graph z ≡ true) (sym (only_one y h)) at) (λ y z h e. right.whole y z h e) x r,
)
from_root state right false at x r = let never = r.is_start in absurd cc

-- without a root nothing that is in the graph is reached
to_root : (g : Graph) (b : Bool) → lists g 1 ≡ b → (x : ℕ) → IsReached g (1 ∷ []) x → lists g x ≡ true → IsReached g (due (root_of b)) x
to_root g true at x r l = r
to_root g false at x r l =
    let is_one : x ≡ 1 = reached_stay g (1 ∷ []) (λ (y : ℕ). y ≡ 1) only_one (λ y z e k. absurd (no_edge y z e k)) x r in
    let there : lists g 1 ≡ true = subst (λ (y : ℕ). lists g y ≡ true) is_one l in
    let never : false ≡ true = sym at ∙ there in
    absurd cc
  where
    no_edge : (y z : ℕ) → y ≡ 1 → has_edge g y z ≡ true → ⊥
    no_edge y z e k = let never : false ≡ true = sym at ∙ edge_is_listed g 1 z (subst (λ (w : ℕ). has_edge g w z ≡ true) e k) in absurd cc

-- a reached id of the graph is exported
pub is_exported : (state : State) (x : ℕ) → IsReached state.graph (1 ∷ []) x → lists state.graph x ≡ true → lists (reached_from_root state) x ≡ true
is_exported state x r l = ap (λ (o : Option Entity). is_some o) (entity_of_filter (λ (y : ℕ). has y (reached state.graph (1 ∷ []))) state.graph x)
    ∙ (ap (λ (b : Bool). is_some (cond b (entity_of state.graph x) None)) (walks-reached state.graph (1 ∷ []) x r) ∙ l)

-- an open id is exported
pub open_is_exported : (state : State) (seen open_ids : List ℕ) (x : ℕ) → IsRightGraph state.types state.next_id state.graph → IsWalking state.graph (starts state.graph) seen open_ids
    → (has x seen || has x open_ids) ≡ true → lists (reached_from_root state) x ≡ true
open_is_exported state seen open_ids x right w h = let t = from_root state right (lists state.graph 1) refl x (w.is_reached x h) in is_exported state x t.0 t.1

pub records_rise : (state : State) → IsRightGraph state.types state.next_id state.graph → rises (ids (reached_from_root state)) ≡ true
records_rise state right = ap (λ (xs : List ℕ). rises xs) (filter_ids (λ (x : ℕ). has x (reached state.graph (1 ∷ []))) state.graph)
    ∙ rises_filter (λ (x : ℕ). has x (reached state.graph (1 ∷ []))) (ids state.graph) right.order

-- where nothing is open, the ids of the exported records were looked at, and no others
pub all_reached : (state : State) (seen : List ℕ) → IsRightGraph state.types state.next_id state.graph → IsWalking state.graph (starts state.graph) seen [] → seen ≡ ids (reached_from_root state)
all_reached state seen right w = same_rising seen (ids (reached_from_root state)) w.order (records_rise state right) (λ x. same_answer (has x seen) (has x (ids (reached_from_root state))) (there x) (back x))
  where
    ends : (x : ℕ) → (has x seen ≡ true → IsReached state.graph (starts state.graph) x) × (IsReached state.graph (starts state.graph) x → has x seen ≡ true)
    ends = search_ends state.graph (starts state.graph) seen (searches state.graph (starts state.graph) seen [] w)

    there : (x : ℕ) → has x seen ≡ true → has x (ids (reached_from_root state)) ≡ true
    there x h = let t = from_root state right (lists state.graph 1) refl x ((ends x).0 h) in has_ids (reached_from_root state) x ∙ is_exported state x t.0 t.1

    by : (x : ℕ) (b : Bool) → has x (reached state.graph (1 ∷ [])) ≡ b → is_some (cond b (entity_of state.graph x) None) ≡ true → has x seen ≡ true
    by x true e l = (ends x).1 (to_root state.graph (lists state.graph 1) refl x (reached-walks state.graph (1 ∷ []) x e) l)
    by x false e l = absurd cc

    back : (x : ℕ) → has x (ids (reached_from_root state)) ≡ true → has x seen ≡ true
    back x h = by x (has x (reached state.graph (1 ∷ []))) refl
        (sym (ap (λ (o : Option Entity). is_some o) (entity_of_filter (λ (y : ℕ). has y (reached state.graph (1 ∷ []))) state.graph x)) ∙ (sym (has_ids (reached_from_root state) x) ∙ h))
