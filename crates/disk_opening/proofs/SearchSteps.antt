-- What a search over the tables keeps, and why it ends.
use Rattle.std.proofs.Common.{◌≡◌, ◌≢◌, ◌⊎◌, ℕ, ◌+◌, ◌-◌, ◌*◌, ◌^◌, ◌<◌, ◌≤◌, Bool, true, false, cond, not, filter, List, [], ◌∷◌, ◌++◌, length, Option, Some, None, refl, sym, ap, ◌∙◌, subst, ⊎_elim, arith, length-append}
use Rattle.std.specs.Prelude.{is_some, nat_eq}
use Rattle.std.proofs.lemmas.Bool.{eq-eqb, eqb-true, or_cases, or_left, or_right}
use Rattle.graph_model.specs.Ids.{has, insert}
use Rattle.graph_model.specs.Graph.{Graph, edges_of, entity_size, ids}
use Rattle.graph_model.specs.declared.entity.Entity.{Entity}
use Rattle.graph_model.proofs.IdSets.{has_append, has_insert, length_insert}
use Rattle.entity_index.specs.declared.row.Row.{Row}
use Rattle.type_desc.specs.declared.desc.TypeDesc.{TypeDesc}
use Rattle.channel.specs.Images.{Image}
use Rattle.recovery.specs.Reach.{IsFromRoot, IsRestricted, Tables}
use Rattle.recovery.specs.Searching.{IsSearched}
use Rattle.recovery.specs.Stored.{HasKnownForm}
use Rattle.disk_opening.specs.RowTables.{Rows, entity_of_row, row_of, tables_in}
use Rattle.disk_opening.specs.SearchFaults.{IsFaultOf, IsReachedFault, IsSearchedWhole}
use Rattle.disk_opening.specs.declared.entities.SearchFault.{SearchFault}
use Rattle.disk_opening.specs.declared.entities.SearchFault.TheVariants.{NoMemory, Fault, Missing, NoType, Form, Changed}

-- each entity that was looked at has its form
abbrev pub HaveForms : List TypeDesc → Tables → List ℕ → Type 0
HaveForms types tables looked = (x : ℕ) (e : Entity) → has x looked ≡ true → tables x ≡ Some e → HasKnownForm types x e

none_some : {A : Type 0} {o : Option A} {a : A} → o ≡ None → o ≡ Some a → ⊥
none_some n s = cc

same_some : {A : Type 0} {a b : A} → ◌≡◌ {A = Option A} (Some a) (Some b) → a ≡ b
same_some e = cc

pub forms_on : (types : List TypeDesc) (tables : Tables) (looked : List ℕ) (x : ℕ) (e : Entity) → tables x ≡ Some e → HasKnownForm types x e → HaveForms types tables looked → HaveForms types tables (insert x looked)
forms_on types tables looked x e is form so y d has_y there = ⊎_elim
    (λ same. let at : y ≡ x = eqb-true y x same in
    subst (λ (z : ℕ). HasKnownForm types z d) (sym at) (subst (HasKnownForm types x) (same_some (sym is ∙ sym (ap tables at) ∙ there)) form))
    (λ old. so y d old there)
    (or_cases (nat_eq y x) (has y looked) (sym (has_insert y x looked) ∙ has_y))

pub none_looked : (types : List TypeDesc) (tables : Tables) (looked : List ℕ) → looked ≡ [] → HaveForms types tables looked
none_looked types tables looked none x e has_x is = absurd (no (ap (has x) none) has_x)
  where
    no : {b : Bool} → b ≡ false → b ≡ true → ⊥
    no f t = cc

-- with nothing open
pub search_whole : (types : List TypeDesc) (tables : Tables) (looked : List ℕ) → IsSearched tables looked [] → HaveForms types tables looked
    → ((x : ℕ) → IsFromRoot tables x → (has x looked ≡ true) ⊎ ((x ≡ 1) × (tables 1 ≡ None))) → (graph : Graph) × (ids graph ≡ looked) × IsRestricted tables graph → IsSearchedWhole types tables looked
search_whole types tables looked s forms found g = record {
  graph = g.0;
  ids_are = g.1;
  restricted = g.2;
  whole = λ x r other. ⊎_elim (λ l. s.there x l) (λ n. absurd (other n.0)) (found x r);
  forms = λ x e r is. ⊎_elim (λ l. forms x e l is) (λ n. absurd (none_some n.1 (sym (ap tables n.0) ∙ is))) (found x r);
}

-- an open id is reached
pub open_reached : (tables : Tables) (looked front : List ℕ) (x : ℕ) → IsSearched tables looked (front ++ x ∷ []) → IsFromRoot tables x
open_reached tables looked front x s = s.reached x (or_right (has x looked) (has x (front ++ x ∷ [])) (has_append x front (x ∷ []) ∙ or_right (has x front) (has x (x ∷ [])) (or_left (nat_eq x x) false (eq-eqb x x refl))))

some_open : (front : List ℕ) (x : ℕ) → front ++ x ∷ [] ≡ [] → ⊥
some_open [] x is = cc
some_open (y ∷ front) x is = cc

no_row : (image : Image) (o : Option Row) → entity_of_row image o ≡ None → is_some o ≡ false
no_row image None is = refl
no_row image (Some row) is = absurd cc

-- an id that is open and not there is not the root's
pub not_root : (images : List Image) (indexes : List Rows) (front : List ℕ) (x : ℕ) → (is_some (row_of indexes 1) ≡ false → front ++ x ∷ [] ≡ []) → tables_in images indexes x ≡ None → x ≢ 1
not_root images indexes front x root none one =
    some_open front x (root (no_row _ (row_of indexes 1) (sym (ap (tables_in images indexes) one) ∙ none)))

-- while an id is open there is a root
pub root_there : (indexes : List Rows) (front : List ℕ) (x : ℕ) (others : List ℕ) → (is_some (row_of indexes 1) ≡ false → front ++ x ∷ [] ≡ []) → is_some (row_of indexes 1) ≡ false → others ≡ []
root_there indexes front x others root none = absurd (some_open front x (root none))

-- the first open ids
pub search_starts : (images : List Image) (indexes : List Rows) (looked open_ids : List ℕ) → looked ≡ [] → (is_some (row_of indexes 1) ≡ true → open_ids ≡ 1 ∷ []) → (is_some (row_of indexes 1) ≡ false → open_ids ≡ [])
    → ((tables : Tables) → IsSearched tables [] (1 ∷ [])) → ((tables : Tables) → tables 1 ≡ None → IsSearched tables [] []) → IsSearched (tables_in images indexes) looked open_ids
search_starts images indexes looked open_ids empty some none begins nothing =
    let tables = tables_in images indexes in
    subst (λ (l : List ℕ). IsSearched tables l open_ids) (sym empty) (by (row_of indexes 1) refl)
  where
    by : (o : Option Row) → row_of indexes 1 ≡ o → IsSearched (tables_in images indexes) [] open_ids
    by None is = subst (IsSearched (tables_in images indexes) []) (sym (none (ap (λ (o : Option Row). is_some o) is)))
        (nothing (tables_in images indexes) (ap (entity_of_row _) is))
    by (Some row) is = subst (IsSearched (tables_in images indexes) []) (sym (some (ap (λ (o : Option Row). is_some o) is))) (begins (tables_in images indexes))

-- HOW FAR IT IS

fewer : (refs : List ℕ) → length (filter (λ (x : ℕ). not (nat_eq x 0)) refs) ≤ length refs
fewer [] = omega arith
fewer (y ∷ ys) = let less = fewer ys in elim (not (nat_eq y 0)) as (λ b. length (cond b (y ∷ filter (λ (x : ℕ). not (nat_eq x 0)) ys) (filter (λ (x : ℕ). not (nat_eq x 0)) ys)) ≤ length (y ∷ ys)) [ true ↦ omega arith | false ↦ omega arith ]

few_edges : (e : Entity) → entity_size e ≤ 1048576 → length (edges_of (Some e)) ≤ 131072
few_edges e size = let less = fewer e.refs in omega arith

pub left_to_do : List ℕ → List ℕ → ℕ
left_to_do looked open_ids = (2 ^ 64 - length looked) * 131073 + length open_ids

pub less_known : (looked looked' before front : List ℕ) (x : ℕ) → looked' ≡ looked → before ≡ front ++ x ∷ [] → left_to_do looked' front < left_to_do looked before
unfolding left_to_do
less_known looked looked' before front x same popped = let n = ap (λ (l : List ℕ). length l) same in let m = ap (λ (l : List ℕ). length l) popped in omega (arith, length-append front (x ∷ []))

pub less_new : (looked looked' before front after : List ℕ) (x : ℕ) (e : Entity) → length looked < 2 ^ 63 → looked' ≡ insert x looked → before ≡ front ++ x ∷ [] → after ≡ front ++ edges_of (Some e) → entity_size e ≤ 1048576
    → left_to_do looked' after < left_to_do looked before
unfolding left_to_do
less_new looked looked' before front after x e few new popped pushed size =
    let n = ap (λ (l : List ℕ). length l) new in
    let m = ap (λ (l : List ℕ). length l) popped in
    let k = ap (λ (l : List ℕ). length l) pushed in
    omega (arith, n, m, k, length_insert x looked, length-append front (x ∷ []), length-append front (edges_of (Some e)), few_edges e size)

-- what is wrong with an open id is wrong with one that is reached
pub reached_fault : (types : List TypeDesc) (images : List Image) (indexes : List Rows) (looked front : List ℕ) (x : ℕ) (f : SearchFault) → IsSearched (tables_in images indexes) looked (front ++ x ∷ [])
    → (is_some (row_of indexes 1) ≡ false → front ++ x ∷ [] ≡ []) → IsFaultOf types (tables_in images indexes) x f → IsReachedFault (tables_in images indexes) f
reached_fault types images indexes looked front x NoMemory s root is = tt
reached_fault types images indexes looked front x Fault s root is = tt
reached_fault types images indexes looked front x (Missing y) s root is =
    (subst (IsFromRoot (tables_in images indexes)) (sym is.0) (open_reached (tables_in images indexes) looked front x s), λ one. not_root images indexes front x root is.1 (sym is.0 ∙ one))
reached_fault types images indexes looked front x (NoType y) s root is = subst (IsFromRoot (tables_in images indexes)) (sym is.0) (open_reached (tables_in images indexes) looked front x s)
reached_fault types images indexes looked front x (Form y) s root is = subst (IsFromRoot (tables_in images indexes)) (sym is.0) (open_reached (tables_in images indexes) looked front x s)
reached_fault types images indexes looked front x (Changed y) s root is = tt
