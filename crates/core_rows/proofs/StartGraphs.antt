-- Two graphs to start from: the empty one, and the root with an edge to id 1024.
use Rattle.std.proofs.Common.{◌≡◌, ◌⊎◌, ℕ, true, false, cond, List, [], ◌∷◌, Some, None, Result, IfOk, refl, sym, subst, inl, inr, ⊎_elim, lit≤, lit<}
use Rattle.std.specs.Prelude.{nat_eq, is_some}
use Rattle.std.proofs.lemmas.Bool.{eqb-true, or_cases}
use Rattle.std.proofs.lemmas.Result.{IfOk-weaker}
use Rattle.graph_model.specs.declared.entity.Record.{Record}
use Rattle.graph_model.specs.Ids.{has}
use Rattle.graph_model.specs.Graph.{Graph, IsReached, IsWalk, end_of, entity_of, has_edge, lists}
use Rattle.graph_model.specs.Stores.{is_good_id}
use Rattle.core_steps.specs.Core.{Core}
use Rattle.core_steps.specs.Good.{IsGood}
use Rattle.core_steps.specs.Steps.{IsStartGraph, start}
use Rattle.core_steps.proofs.Starts.{good_start}

pub good_started : {E : Type 0} (g : Graph) (next_id number actors : ℕ) (r : Result Core E) → IsStartGraph g next_id
    → IfOk r (λ core. core ≡ start g next_id number 2 actors 1) → IfOk r (λ core. IsGood core)
good_started g next_id number actors r may e = IfOk-weaker r (λ core. core ≡ start g next_id number 2 actors 1) (λ core. IsGood core)
    (λ core is. subst IsGood (sym is) (good_start g next_id number 2 actors 1 (lit< tt) may)) e

pub empty_starts : (g : Graph) → g ≡ [] → IsStartGraph g 1024
empty_starts g none = subst (λ (h : Graph). IsStartGraph h 1024) (sym none) record { ordered = refl; next_high = lit≤ tt; good_ids = λ x e. cc; exact = inl refl }

abbrev pub node : ℕ → List ℕ → Record
node x refs = record { id = x; entity = record { type_id = 16; refs = refs; plain = [] } }

abbrev pub two : Graph
two = node 1 (1024 ∷ []) ∷ node 1024 [] ∷ []

id_of_two : (x : ℕ) → lists two x ≡ true → (x ≡ 1) ⊎ (x ≡ 1024)
id_of_two x = (elim (nat_eq x 1) as (λ b. nat_eq x 1 ≡ b
    → is_some (cond b (Some (node 1 (1024 ∷ [])).entity) (entity_of (node 1024 [] ∷ []) x)) ≡ true → (x ≡ 1) ⊎ (x ≡ 1024)) [
      | true ↦ λ e t. inl (eqb-true x 1 e)
      | false ↦ λ e. (elim (nat_eq x 1024) as (λ b. nat_eq x 1024 ≡ b → is_some (cond b (Some (node 1024 []).entity) None) ≡ true → (x ≡ 1) ⊎ (x ≡ 1024)) [
        | true ↦ λ f t. inr (eqb-true x 1024 f)
        | false ↦ λ f t. cc
      ]) refl
    ]) refl

one_of : (x y : ℕ) → has x (y ∷ []) ≡ true → x ≡ y
one_of x y t = ⊎_elim (λ e. eqb-true x y e) (λ e. cc) (or_cases (nat_eq x y) false t)

-- an edge in the graph leads to its second id
leads_to : (x y : ℕ) → lists two x ≡ true → has_edge two x y ≡ true → y ≡ 1024
leads_to x y t h = ⊎_elim (λ e. one_of y 1024 (subst (λ (z : ℕ). has_edge two z y ≡ true) e h))
    (λ e. let none : false ≡ true = subst (λ (z : ℕ). has_edge two z y ≡ true) e h in cc) (id_of_two x t)

walk_stays : (x : ℕ) (path : List ℕ) → lists two x ≡ true → IsWalk two x path → lists two (end_of x path) ≡ true
walk_stays x [] t w = t
walk_stays x (y ∷ ys) t w = walk_stays y ys (subst (λ (z : ℕ). lists two z ≡ true) (sym (leads_to x y t w.0)) refl) w.1

reached_listed : (x : ℕ) → IsReached two (1 ∷ []) x → lists two x ≡ true
reached_listed x r = let here : lists two r.from ≡ true = subst (λ (z : ℕ). lists two z ≡ true) (sym (one_of r.from 1 r.is_start)) refl in
    subst (λ (z : ℕ). lists two z ≡ true) r.ends (walk_stays r.from r.path here r.walks)

listed_reached : (x : ℕ) → lists two x ≡ true → IsReached two (1 ∷ []) x
listed_reached x t = ⊎_elim (λ e. record { from = 1; is_start = refl; path = []; walks = tt; ends = sym e })
    (λ e. record { from = 1; is_start = refl; path = 1024 ∷ []; walks = (refl, tt); ends = sym e }) (id_of_two x t)

pub two_start : (g : Graph) → g ≡ two → IsStartGraph g 1025
two_start g is = subst (λ (h : Graph). IsStartGraph h 1025) (sym is) record {
  ordered = refl;
  next_high = lit≤ tt;
  good_ids = λ x t. ⊎_elim (λ e. subst (λ (z : ℕ). is_good_id 1025 z ≡ true) (sym e) refl) (λ e. subst (λ (z : ℕ). is_good_id 1025 z ≡ true) (sym e) refl) (id_of_two x t);
  exact = inr (λ x. (listed_reached x, reached_listed x));
}
