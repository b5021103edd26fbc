-- The entities of a graph, one by one.
use Rattle.std.proofs.Common.{◌≡◌, ℕ, Bool, true, false, cond, not, ◌&&◌, ◌||◌, List, [], ◌∷◌, Option, Some, None, refl, sym, ap, ◌∙◌, subst}
use Rattle.std.specs.Prelude.{nat_eq}
use Rattle.std.specs.List.{AllByRecursion, filter, list_all}
use Rattle.std.proofs.lemmas.Bool.{and_from, and_parts, eqb-true, eq-eqb, or_left, or_right}
use Rattle.graph_model.specs.Graph.{Graph, edges, edges_of, entity_of, has_edge, lists}
use Rattle.graph_model.specs.Ids.{has}
use Rattle.graph_model.specs.declared.entity.Entity.{Entity}
use Rattle.type_desc.specs.declared.desc.TypeDesc.{TypeDesc}
use Rattle.plain_storage.specs.Held.{IsSoundGraph}
use Rattle.plain_storage.specs.Reading.{IsSoundEntity}
use Rattle.plain_storage.specs.Trees.{graph_of}
use Rattle.plain_storage.proofs.TreeEntries.{Entries}

abbrev named : List ℕ → List ℕ
named refs = filter (λ (x : ℕ). not (nat_eq x 0)) refs

abbrev is_there : Graph → ℕ → Bool
is_there g x = nat_eq x 0 || lists g x

-- each reference is none or there: so is each edge
pub edges_there : (g : Graph) (refs : List ℕ) → list_all (λ x. nat_eq x 0 || lists g x) refs ≡ true → (y : ℕ) → has y (named refs) ≡ true → lists g y ≡ true
edges_there g [] all y h = absurd cc
edges_there g (r ∷ refs) all y h =
    let t = and_parts (is_there g r) (list_all (λ x. nat_eq x 0 || lists g x) refs) all in
    let ih = edges_there g refs t.1 y in
    (elim (nat_eq r 0) as (λ b. (b || lists g r) ≡ true → has y (cond (not b) (r ∷ named refs) (named refs)) ≡ true → lists g y ≡ true) [
      | true ↦ λ e i. ih i
      | false ↦ λ e i. (elim (nat_eq y r) as (λ b. nat_eq y r ≡ b → (b || has y (named refs)) ≡ true → lists g y ≡ true) [
        | true ↦ λ s j. subst (λ (z : ℕ). lists g z ≡ true) (sym (eqb-true y r s)) e
        | false ↦ λ s j. ih j
      ]) refl i
    ]) t.0 h

-- each edge is there: so each reference is none or there
pub refs_there : (g : Graph) (refs : List ℕ) → ((y : ℕ) → has y (named refs) ≡ true → lists g y ≡ true) → list_all (λ x. nat_eq x 0 || lists g x) refs ≡ true
refs_there g [] there = refl
refs_there g (r ∷ refs) there =
    let ih = refs_there g refs in
    (elim (nat_eq r 0) as (λ b. ((y : ℕ) → has y (cond (not b) (r ∷ named refs) (named refs)) ≡ true → lists g y ≡ true) → ((b || lists g r) && list_all (λ x. nat_eq x 0 || lists g x) refs) ≡ true) [
      | true ↦ λ h. ih h
      | false ↦ λ h. and_from (lists g r) (list_all (λ x. nat_eq x 0 || lists g x) refs)
          (h r (or_left (nat_eq r r) (has r (named refs)) (eq-eqb r r refl))) (ih (λ y i. h y (or_right (nat_eq y r) (has y (named refs)) i)))
    ]) there

abbrev pub AllSound : List TypeDesc → Graph → Entries → Type 0
AllSound types g es = AllByRecursion (λ e. IsSoundEntity types g e.0 e.1) es

found_sound : (types : List TypeDesc) (g : Graph) (es : Entries) → AllSound types g es → (x : ℕ) (entity : Entity) → entity_of (graph_of es) x ≡ Some entity → IsSoundEntity types g x entity
found_sound types g [] all x entity found = absurd cc
found_sound types g (e ∷ es) all x entity found =
    (elim (nat_eq x e.0) as (λ b. nat_eq x e.0 ≡ b → cond b (Some e.1) (entity_of (graph_of es) x) ≡ Some entity → IsSoundEntity types g x entity) [
      | true ↦ λ s f. let same : e.1 ≡ entity = cc in
          subst (λ (z : ℕ). IsSoundEntity types g z entity) (sym (eqb-true x e.0 s)) (subst (λ (v : Entity). IsSoundEntity types g e.0 v) same all.0)
      | false ↦ λ s f. found_sound types g es all.1 x entity f
    ]) refl found

edge_of : (g : Graph) (x y : ℕ) → has_edge g x y ≡ true → (entity : Entity) × (entity_of g x ≡ Some entity) × (has y (edges entity) ≡ true)
edge_of g x y h = (elim (entity_of g x) as (λ o. entity_of g x ≡ o → has y (edges_of o) ≡ true → (entity : Entity) × (entity_of g x ≡ Some entity) × (has y (edges entity) ≡ true)) [
  | None ↦ λ e i. absurd cc
  | Some entity ↦ λ e i. (entity, e, i)
]) refl h

-- a graph whose entries are sound is sound
pub all_sound : (types : List TypeDesc) (g : Graph) (es : Entries) → graph_of es ≡ g → AllSound types g es → IsSoundGraph types g
all_sound types g es is all =
    let each : (x : ℕ) (entity : Entity) → entity_of g x ≡ Some entity → IsSoundEntity types g x entity = λ x entity found.
    found_sound types g es all x entity (ap (λ (h : Graph). entity_of h x) is ∙ found) in
    record {
      forms = λ x entity found. (each x entity found).form;
      whole = λ x y h. let e = edge_of g x y h in (each x e.0 e.1).whole y e.2;
    }

-- an entity of a sound graph is sound
pub sound_entity : (types : List TypeDesc) (g : Graph) (x : ℕ) (entity : Entity) → entity_of g x ≡ Some entity → IsSoundGraph types g → IsSoundEntity types g x entity
sound_entity types g x entity found sound = record {
  form = sound.forms x entity found;
  whole = λ y h. sound.whole x y (ap (λ (o : Option Entity). has y (edges_of o)) found ∙ h);
}
