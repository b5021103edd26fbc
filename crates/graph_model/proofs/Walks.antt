-- The search for what walks reach: what it keeps at each step, and why it ends.
use Rattle.std.proofs.Common.{◌≡◌, ℕ, ◌+◌, ◌≤◌, ◌<◌, Bool, true, false, cond, not, ◌||◌, List, [], ◌∷◌, ◌++◌, length, length-append, Some, refl, sym, ◌∙◌, subst, arith}
use Rattle.std.specs.Prelude.{nat_eq}
use Rattle.std.specs.List.{filter}
use Rattle.std.proofs.lemmas.Bool.{eqb-true, eq-eqb, or_left, or_right}
use Rattle.graph_model.specs.Ids.{has, insert, rises}
use Rattle.graph_model.specs.Graph.{Graph, entity_of, edges_of, has_edge, IsReached}
use Rattle.graph_model.proofs.IdSets.{has_insert, has_append}
use Rattle.graph_model.proofs.Graphs.{reached_on, reached_start, reached_stay}
use Rattle.graph_model.proofs.Places.{nat_eq-swap}
use Rattle.graph_model.proofs.Rising.{rises_insert}

-- THE SEARCH

-- x is known to be reached: its edges were looked at, or it is still open
abbrev pub is_known : List ℕ → List ℕ → ℕ → Bool
is_known reached open_ids x = has x reached || has x open_ids

-- every start is known; every edge of what was looked at is known; what is known is reached
pub record IsSearch (g : Graph) (starts reached open_ids : List ℕ) : Type 0 where
  pub starts_known : (x : ℕ) → has x starts ≡ true → is_known reached open_ids x ≡ true
  pub edges_known : (x y : ℕ) → has x reached ≡ true → has_edge g x y ≡ true → is_known reached open_ids y ≡ true
  pub is_reached : (x : ℕ) → is_known reached open_ids x ≡ true → IsReached g starts x
  pub order : rises reached ≡ true

pub search_begins : (g : Graph) (starts : List ℕ) → IsSearch g starts [] starts
search_begins g starts = record { starts_known = λ x e. e; edges_known = λ x y e h. cc; is_reached = λ x e. reached_start g starts x e; order = refl }

-- with nothing open, exactly what is reached was looked at
pub search_ends : (g : Graph) (starts reached : List ℕ) → IsSearch g starts reached [] → (x : ℕ) → (has x reached ≡ true → IsReached g starts x) × (IsReached g starts x → has x reached ≡ true)
search_ends g starts reached s x = (λ e. s.is_reached x (or_left (has x reached) false e), λ r. reached_stay g starts (λ (y : ℕ). has y reached ≡ true) (λ y e. closed y (s.starts_known y e)) (λ y z e h. closed z (s.edges_known y z e h)) x r)
  where
    closed : (y : ℕ) → (has y reached || false) ≡ true → has y reached ≡ true
    closed y = elim (has y reached) as (λ b. (b || false) ≡ true → b ≡ true) [ true ↦ λ e. refl | false ↦ λ e. e ]

-- THE STEPS: the last open id was looked at before, or is looked at now

known_before : (reached open_ids : List ℕ) (x y : ℕ) → has x reached ≡ true → is_known reached (open_ids ++ x ∷ []) y ≡ is_known reached open_ids y
known_before reached open_ids x y e = rw (has_append y open_ids (x ∷ [])) (by (nat_eq y x) refl)
  where
    or_no : (p q : Bool) → (p || (q || (false || false))) ≡ (p || q)
    or_no true q = refl
    or_no false true = refl
    or_no false false = refl

    by : (b : Bool) → nat_eq y x ≡ b → (has y reached || (has y open_ids || (b || false))) ≡ (has y reached || has y open_ids)
    by true f = let same : has y reached ≡ true = subst (λ (z : ℕ). has z reached ≡ true) (sym (eqb-true y x f)) e in rw same refl
    by false f = or_no (has y reached) (has y open_ids)

known_now : (reached open_ids es : List ℕ) (x y : ℕ) → is_known (insert x reached) (open_ids ++ es) y ≡ (is_known reached (open_ids ++ x ∷ []) y || has y es)
known_now reached open_ids es x y = rw (has_insert y x reached, has_append y open_ids es, has_append y open_ids (x ∷ [])) (moved (nat_eq y x) (has y reached) (has y open_ids) (has y es))
  where
    moved : (a p q r : Bool) → ((a || p) || (q || r)) ≡ ((p || (q || (a || false))) || r)
    moved true true q r = refl
    moved true false true r = refl
    moved true false false r = refl
    moved false true q r = refl
    moved false false true r = refl
    moved false false false r = refl

pub looked_before : (g : Graph) (starts reached open_ids : List ℕ) (x : ℕ) → has x reached ≡ true → IsSearch g starts reached (open_ids ++ x ∷ []) → IsSearch g starts reached open_ids
looked_before g starts reached open_ids x e s = record {
  starts_known = λ y h. sym (known_before reached open_ids x y e) ∙ s.starts_known y h;
  edges_known = λ y z h k. sym (known_before reached open_ids x z e) ∙ s.edges_known y z h k;
  is_reached = λ y h. s.is_reached y (known_before reached open_ids x y e ∙ h);
  order = s.order;
}

pub looks_now : (g : Graph) (starts reached open_ids : List ℕ) (x : ℕ) → has x reached ≡ false → IsSearch g starts reached (open_ids ++ x ∷ []) → IsSearch g starts (insert x reached) (open_ids ++ edges_of (entity_of g x))
looks_now g starts reached open_ids x n s = record {
  starts_known = λ y h. known_now reached open_ids es x y ∙ or_left (is_known reached (open_ids ++ x ∷ []) y) (has y es) (s.starts_known y h);
  edges_known = λ y z h k. known_now reached open_ids es x z ∙ edge_known y z (sym (has_insert y x reached) ∙ h) k;
  is_reached = λ y h. known_reached y (sym (known_now reached open_ids es x y) ∙ h);
  order = rises_insert x reached n s.order;
}
  where
    es : List ℕ
    es = edges_of (entity_of g x)

    edge_known : (y z : ℕ) → (nat_eq y x || has y reached) ≡ true → has_edge g y z ≡ true → (is_known reached (open_ids ++ x ∷ []) z || has z es) ≡ true
    edge_known y z h k = by (nat_eq y x) refl h
      where
        by : (b : Bool) → nat_eq y x ≡ b → (b || has y reached) ≡ true → (is_known reached (open_ids ++ x ∷ []) z || has z es) ≡ true
        by true f h = or_right (is_known reached (open_ids ++ x ∷ []) z) (has z es) (subst (λ (w : ℕ). has_edge g w z ≡ true) (eqb-true y x f) k)
        by false f h = or_left (is_known reached (open_ids ++ x ∷ []) z) (has z es) (s.edges_known y z h k)

    x_known : is_known reached (open_ids ++ x ∷ []) x ≡ true
    x_known = rw (has_append x open_ids (x ∷ []), eq-eqb x x refl) (or_right (has x reached) (has x open_ids || true) (or_right (has x open_ids) true refl))

    known_reached : (y : ℕ) → (is_known reached (open_ids ++ x ∷ []) y || has y es) ≡ true → IsReached g starts y
    known_reached y h = by (is_known reached (open_ids ++ x ∷ []) y) refl h
      where
        by : (b : Bool) → is_known reached (open_ids ++ x ∷ []) y ≡ b → (b || has y es) ≡ true → IsReached g starts y
        by true f h = s.is_reached y f
        by false f h = reached_on g starts x y (s.is_reached x x_known) h

-- WHY IT ENDS

-- the references of the records that were not looked at
abbrev pub references_left : Graph → List ℕ → ℕ
references_left [] reached = 0
references_left (r ∷ g) reached = cond (has r.id reached) 0 (length r.entity.refs) + references_left g reached

left_less : (g : Graph) (reached : List ℕ) (x : ℕ) → references_left g (insert x reached) ≤ references_left g reached
left_less [] reached x = omega arith
left_less (r ∷ g) reached x = let ih = left_less g reached x in let n : ℕ = length r.entity.refs in rw (has_insert r.id x reached) (by ih (nat_eq r.id x) (has r.id reached) n)
  where
    by : {a b : ℕ} → a ≤ b → (p q : Bool) (n : ℕ) → cond (p || q) 0 n + a ≤ cond q 0 n + b
    by h true true n = omega arith
    by h true false n = omega arith
    by h false true n = omega arith
    by h false false n = omega arith

edges_within : (refs : List ℕ) → length (filter (λ (x : ℕ). not (nat_eq x 0)) refs) ≤ length refs
edges_within [] = omega arith
edges_within (y ∷ ys) = let ih = edges_within ys in elim (not (nat_eq y 0)) as (λ b. length (cond b (y ∷ filter (λ (x : ℕ). not (nat_eq x 0)) ys) (filter (λ (x : ℕ). not (nat_eq x 0)) ys)) ≤ length (y ∷ ys)) [ true ↦ omega arith | false ↦ omega arith ]

pub fewer_left : (g : Graph) (reached : List ℕ) (x : ℕ) → has x reached ≡ false → references_left g (insert x reached) + length (edges_of (entity_of g x)) ≤ references_left g reached
fewer_left [] reached x n = omega arith
fewer_left (r ∷ g) reached x n = let ih = fewer_left g reached x n in rw (has_insert r.id x reached, nat_eq-swap x r.id) (by ih (nat_eq r.id x) refl)
  where
    more : (c a l b : ℕ) → a + l ≤ b → c + a + l ≤ c + b
    more c a l b h = omega arith

    by : references_left g (insert x reached) + length (edges_of (entity_of g x)) ≤ references_left g reached → (b : Bool) → nat_eq r.id x ≡ b → cond (b || has r.id reached) 0 (length r.entity.refs) + references_left g (insert x reached) + length (edges_of (cond b (Some r.entity) (entity_of g x))) ≤ cond (has r.id reached) 0 (length r.entity.refs) + references_left g reached
    by ih true e = let new : has r.id reached ≡ false = subst (λ (y : ℕ). has y reached ≡ false) (sym (eqb-true r.id x e)) n in let less = left_less g reached x in let few = edges_within r.entity.refs in rw new (omega arith)
    by ih false e = more (cond (has r.id reached) 0 (length r.entity.refs)) (references_left g (insert x reached)) (length (edges_of (entity_of g x))) (references_left g reached) ih

-- the last open id, x, was looked at
pub record LooksAt (g : Graph) (reached open_ids : List ℕ) (x : ℕ) (reached' open_ids' : List ℕ) : Type 0 where
  pub known : has x reached ≡ true → (reached' ≡ reached) × (open_ids' ≡ open_ids)
  pub new : has x reached ≡ false → (reached' ≡ insert x reached) × (open_ids' ≡ open_ids ++ edges_of (entity_of g x))

pub search_keeps : (g : Graph) (starts reached open_ids : List ℕ) (x : ℕ) (reached' open_ids' : List ℕ) → LooksAt g reached open_ids x reached' open_ids' → IsSearch g starts reached (open_ids ++ x ∷ []) → IsSearch g starts reached' open_ids'
search_keeps g starts reached open_ids x reached' open_ids' l s = by (has x reached) refl
  where
    by : (b : Bool) → has x reached ≡ b → IsSearch g starts reached' open_ids'
    by true e = let to = l.known e in rw (to.0, to.1) (looked_before g starts reached open_ids x e s)
    by false e = let to = l.new e in rw (to.0, to.1) (looks_now g starts reached open_ids x e s)

pub search_shrinks : (g : Graph) (reached open_ids : List ℕ) (x : ℕ) (reached' open_ids' : List ℕ) → LooksAt g reached open_ids x reached' open_ids' → references_left g reached' + length open_ids' < references_left g reached + length (open_ids ++ x ∷ [])
search_shrinks g reached open_ids x reached' open_ids' l = by (has x reached) refl
  where
    by : (b : Bool) → has x reached ≡ b → references_left g reached' + length open_ids' < references_left g reached + length (open_ids ++ x ∷ [])
    by true e = let to = l.known e in rw (to.0, to.1, length-append) (omega arith)
    by false e = let to = l.new e in let fewer = fewer_left g reached x e in rw (to.0, to.1, length-append open_ids (x ∷ []), length-append open_ids (edges_of (entity_of g x))) (omega arith)
