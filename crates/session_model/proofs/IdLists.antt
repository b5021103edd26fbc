-- Tests over lists of ids and over records by rising id.
use Rattle.std.proofs.Common.{◌≡◌, ℕ, ◌+◌, ◌<◌, Bool, true, false, cond, ◌&&◌, ◌||◌, List, [], ◌∷◌, sum_by, Option, Some, None, refl, sym, ap, ◌∙◌, subst, arith}
use Rattle.std.specs.Prelude.{nat_eq, is_some}
use Rattle.std.specs.List.{filter, list_all, list_any}
use Rattle.std.proofs.lemmas.Bool.{and_from, and_parts, eqb-true, eq-eqb, ne_eqb, or_left, or_right, or_parts}
use Rattle.std.proofs.lemmas.List.Sums.{sum_by-cons}
use Rattle.graph_model.specs.Ids.{has, rises}
use Rattle.graph_model.specs.Graph.{Graph, entity_of, edges_of, entity_size, has_edge, ids, lists}
use Rattle.graph_model.specs.Stores.{total_size}
use Rattle.graph_model.specs.declared.entity.Entity.{Entity}
use Rattle.graph_model.specs.declared.entity.Record.{Record}
use Rattle.graph_model.proofs.Graphs.{has_ids}
use Rattle.session_model.proofs.SameIds.{above_first, rises-tail}

pub has_filter : (test : ℕ → Bool) (xs : List ℕ) (x : ℕ) → has x (filter test xs) ≡ (test x && has x xs)
has_filter test [] x = by (test x)
  where
    by : (b : Bool) → false ≡ (b && false)
    by true = refl
    by false = refl
has_filter test (y ∷ xs) x = by (nat_eq x y) (test y) (test x) refl refl refl (has_filter test xs x)
  where
    by : (s t u : Bool) → nat_eq x y ≡ s → test y ≡ t → test x ≡ u → has x (filter test xs) ≡ (test x && has x xs)
        → has x (cond t (y ∷ filter test xs) (filter test xs)) ≡ (u && (s || has x xs))
    by true true true e f g ih = or_left (nat_eq x y) (has x (filter test xs)) e
    by true true false e f g ih = let same : test x ≡ test y = ap test (eqb-true x y e) in absurd cc
    by true false true e f g ih = let same : test x ≡ test y = ap test (eqb-true x y e) in absurd cc
    by true false false e f g ih = ih ∙ ap (λ (b : Bool). b && has x xs) g
    by false true u e f g ih = ap (λ (b : Bool). b || has x (filter test xs)) e ∙ (ih ∙ ap (λ (b : Bool). b && has x xs) g)
    by false false u e f g ih = ih ∙ ap (λ (b : Bool). b && has x xs) g

-- what is in a list that was sifted passes the test and was there
pub sifted : (test : ℕ → Bool) (xs : List ℕ) (x : ℕ) → has x (filter test xs) ≡ true → (test x ≡ true) × (has x xs ≡ true)
sifted test xs x h = and_parts (test x) (has x xs) (sym (has_filter test xs x) ∙ h)

pub sifts : (test : ℕ → Bool) (xs : List ℕ) (x : ℕ) → test x ≡ true → has x xs ≡ true → has x (filter test xs) ≡ true
sifts test xs x t h = has_filter test xs x ∙ and_from (test x) (has x xs) t h

pub each_passes : (test : ℕ → Bool) (xs : List ℕ) → ((x : ℕ) → has x xs ≡ true → test x ≡ true) → list_all test xs ≡ true
each_passes test [] all = refl
each_passes test (x ∷ xs) all = and_from (test x) (list_all test xs) (all x (or_left (nat_eq x x) (has x xs) (eq-eqb x x refl)))
    (each_passes test xs (λ y h. all y (or_right (nat_eq y x) (has y xs) h)))

-- ---- records

-- an id with an edge is in the graph
pub edge_is_listed : (g : Graph) (x y : ℕ) → has_edge g x y ≡ true → lists g x ≡ true
edge_is_listed g x y = elim (entity_of g x) as (λ o. has y (edges_of o) ≡ true → is_some o ≡ true) [ None ↦ λ e. absurd cc | Some entity ↦ λ e. refl ]

pub each_record_passes : (test : Record → Bool) (rs : List Record) → rises (ids rs) ≡ true
    → ((x : ℕ) (e : Entity) → entity_of rs x ≡ Some e → test (record { id = x; entity = e }) ≡ true) → list_all test rs ≡ true
each_record_passes test [] r all = refl
each_record_passes test (s ∷ rs) r all = and_from (test s) (list_all test rs)
    (all s.id s.entity (ap (λ (b : Bool). cond b (Some s.entity) (entity_of rs s.id)) (eq-eqb s.id s.id refl)))
    (each_record_passes test rs (rises-tail s.id (ids rs) r) (λ x e h. all x e (behind x e h)))
  where
    behind : (x : ℕ) (e : Entity) → entity_of rs x ≡ Some e → cond (nat_eq x s.id) (Some s.entity) (entity_of rs x) ≡ Some e
    behind x e h =
        let there : has x (ids rs) ≡ true = has_ids rs x ∙ ap (λ (o : Option Entity). is_some o) h in
        let above : s.id < x = above_first s.id x (ids rs) r there in
        let other : nat_eq x s.id ≡ false = ne_eqb x s.id (λ q. absurd (omega arith)) in
        ap (λ (b : Bool). cond b (Some s.entity) (entity_of rs x)) other ∙ h

pub no_record_passes : (test : Record → Bool) (rs : List Record) (x : ℕ) (e : Entity) → list_any test rs ≡ false → entity_of rs x ≡ Some e → test (record { id = x; entity = e }) ≡ false
no_record_passes test [] x e none is = absurd cc
no_record_passes test (s ∷ rs) x e none is = by (nat_eq x s.id) refl is (λ later. no_record_passes test rs x e parts.1 later)
  where
    parts : (test s ≡ false) × (list_any test rs ≡ false)
    parts = or_parts (test s) (list_any test rs) none

    by : (b : Bool) → nat_eq x s.id ≡ b → cond b (Some s.entity) (entity_of rs x) ≡ Some e → (entity_of rs x ≡ Some e → test (record { id = x; entity = e }) ≡ false)
        → test (record { id = x; entity = e }) ≡ false
    by true f is later = let same : x ≡ s.id = eqb-true x s.id f in let ent : s.entity ≡ e = cc in
        subst (λ (j : ℕ). test (record { id = j; entity = e }) ≡ false) (sym same) (subst (λ (d : Entity). test (record { id = s.id; entity = d }) ≡ false) ent parts.0)
    by false f is later = later is

pub total_is_sum : (rs : List Record) → total_size rs ≡ sum_by (λ (r : Record). entity_size r.entity) rs
total_is_sum [] = refl
total_is_sum (r ∷ rs) = let size : Record → ℕ = λ (r : Record). entity_size r.entity in
    ap (λ (n : ℕ). entity_size r.entity + n) (total_is_sum rs) ∙ sym (sum_by-cons size r rs)
