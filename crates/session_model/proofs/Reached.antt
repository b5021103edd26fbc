-- What the model's steps reach: exactly the ids that walks from the starts end at, by rising id.
use Rattle.std.proofs.Common.{◌≡◌, ℕ, zero, suc, ◌+◌, ◌≤◌, ◌<◌, Bool, true, false, cond, ◌||◌, List, [], ◌∷◌, length, Some, None, ◌⊎◌, inl, inr, refl, sym, ◌∙◌, subst, arith}
use Rattle.std.specs.Prelude.{nat_eq, is_some}
use Rattle.std.specs.List.{flat_map}
use Rattle.std.proofs.lemmas.Bool.{cases_lt, eqb-true, eq-eqb, or_cases, or_left, or_right}
use Rattle.graph_model.specs.Ids.{has, add_all, rises}
use Rattle.graph_model.specs.Graph.{Graph, entity_of, edges_of, lists, has_edge, IsReached}
use Rattle.graph_model.proofs.IdSets.{has_append, has_add_all}
use Rattle.graph_model.proofs.Graphs.{reached_on, reached_start, reached_stay}
use Rattle.graph_model.proofs.Rising.{rises_add_all}
use Rattle.session_model.specs.Instances.{reached_in, reached}
use Rattle.session_model.proofs.SameIds.{same_rising, same_answer}

-- ---- one step

-- the edges of these ids
abbrev pub edges_from : Graph → List ℕ → List ℕ
edges_from g ids = flat_map (λ id. edges_of (entity_of g id)) ids

-- these ids and their edges
abbrev pub stepped : Graph → List ℕ → List ℕ
stepped g ids = add_all (edges_from g ids) ids

-- each edge of these ids is one of them
abbrev pub IsClosed : Graph → List ℕ → Type 0
IsClosed g ids = (x y : ℕ) → has x ids ≡ true → has_edge g x y ≡ true → has y ids ≡ true

edge_from : (g : Graph) (ids : List ℕ) (x y : ℕ) → has x ids ≡ true → has_edge g x y ≡ true → has y (edges_from g ids) ≡ true
edge_from g [] x y h e = absurd cc
edge_from g (z ∷ ids) x y h e = has_append y (edges_of (entity_of g z)) (edges_from g ids) ∙ (elim (or_cases (nat_eq x z) (has x ids) h) [
  | inl same ↦ or_left (has_edge g z y) (has y (edges_from g ids)) (subst (λ (w : ℕ). has_edge g w y ≡ true) (eqb-true x z same) e)
  | inr there ↦ or_right (has_edge g z y) (has y (edges_from g ids)) (edge_from g ids x y there e)
])

edge_of_some : (g : Graph) (ids : List ℕ) (y : ℕ) → has y (edges_from g ids) ≡ true → (x : ℕ) × (has x ids ≡ true) × (has_edge g x y ≡ true)
edge_of_some g [] y h = absurd cc
edge_of_some g (z ∷ ids) y h = elim (or_cases (has_edge g z y) (has y (edges_from g ids)) (sym (has_append y (edges_of (entity_of g z)) (edges_from g ids)) ∙ h)) [
  | inl here ↦ (z, or_left (nat_eq z z) (has z ids) (eq-eqb z z refl), here)
  | inr later ↦ let t = edge_of_some g ids y later in (t.0, or_right (nat_eq t.0 z) (has t.0 ids) t.1, t.2)
]

step_keeps : (g : Graph) (ids : List ℕ) (x : ℕ) → has x ids ≡ true → has x (stepped g ids) ≡ true
step_keeps g ids x h = has_add_all x (edges_from g ids) ids ∙ or_right (has x (edges_from g ids)) (has x ids) h

step_adds : (g : Graph) (ids : List ℕ) (x y : ℕ) → has x ids ≡ true → has_edge g x y ≡ true → has y (stepped g ids) ≡ true
step_adds g ids x y h e = has_add_all y (edges_from g ids) ids ∙ or_left (has y (edges_from g ids)) (has y ids) (edge_from g ids x y h e)

step_has : (g : Graph) (ids : List ℕ) (x : ℕ) → has x (stepped g ids) ≡ true → (has x (edges_from g ids) ≡ true) ⊎ (has x ids ≡ true)
step_has g ids x h = or_cases (has x (edges_from g ids)) (has x ids) (sym (has_add_all x (edges_from g ids) ids) ∙ h)

-- ---- what is reached in steps is reached by walks

steps_reach : (n : ℕ) (g : Graph) (starts ids : List ℕ) → ((x : ℕ) → has x ids ≡ true → IsReached g starts x) → (x : ℕ) → has x (reached_in n g ids) ≡ true → IsReached g starts x
steps_reach zero g starts ids from x h = from x h
steps_reach (suc n) g starts ids from x h = steps_reach n g starts (stepped g ids) (λ y k. elim (step_has g ids y k) [
  | inl new ↦ let t = edge_of_some g ids y new in reached_on g starts t.0 y (from t.0 t.1) t.2
  | inr old ↦ from y old
]) x h

steps_keep : (n : ℕ) (g : Graph) (ids : List ℕ) (x : ℕ) → has x ids ≡ true → has x (reached_in n g ids) ≡ true
steps_keep zero g ids x h = h
steps_keep (suc n) g ids x h = steps_keep n g (stepped g ids) x (step_keeps g ids x h)

-- ---- so many steps close the ids

-- how many records of the graph have none of the ids
abbrev pub left_out : Graph → List ℕ → ℕ
left_out [] ids = 0
left_out (r ∷ g) ids = cond (has r.id ids) 0 1 + left_out g ids

left_out_within : (g : Graph) (ids : List ℕ) → left_out g ids ≤ length g
left_out_within [] ids = omega arith
left_out_within (r ∷ g) ids = let ih = left_out_within g ids in one (has r.id ids) ih
  where
    one : (b : Bool) → left_out g ids ≤ length g → cond b 0 1 + left_out g ids ≤ suc (length g)
    one true h = omega arith
    one false h = omega arith

less_left_out : (g : Graph) (ids more : List ℕ) → ((x : ℕ) → has x ids ≡ true → has x more ≡ true) → left_out g more ≤ left_out g ids
less_left_out [] ids more grow = omega arith
less_left_out (r ∷ g) ids more grow = by (has r.id ids) (has r.id more) (grow r.id) (less_left_out g ids more grow)
  where
    by : (b c : Bool) → (b ≡ true → c ≡ true) → left_out g more ≤ left_out g ids → cond c 0 1 + left_out g more ≤ cond b 0 1 + left_out g ids
    by true true h l = omega arith
    by true false h l = let t : false ≡ true = h refl in absurd cc
    by false true h l = omega arith
    by false false h l = omega arith

-- where as many are left out, no id of the graph is new
none_new : (g : Graph) (ids more : List ℕ) → ((x : ℕ) → has x ids ≡ true → has x more ≡ true) → left_out g ids ≤ left_out g more
    → (x : ℕ) → lists g x ≡ true → has x more ≡ true → has x ids ≡ true
none_new [] ids more grow as_many x l h = absurd cc
none_new (r ∷ g) ids more grow as_many x l h = by (nat_eq x r.id) refl l (λ m. none_new g ids more grow both.0 x m h)
  where
    rest : (b c : Bool) → (b ≡ true → c ≡ true) → left_out g more ≤ left_out g ids → cond b 0 1 + left_out g ids ≤ cond c 0 1 + left_out g more
        → (left_out g ids ≤ left_out g more) × (c ≡ true → b ≡ true)
    rest true true k m a = (omega arith, λ e. refl)
    rest true false k m a = let t : false ≡ true = k refl in absurd cc
    rest false true k m a = absurd (omega arith)
    rest false false k m a = (omega arith, λ e. e)

    both : (left_out g ids ≤ left_out g more) × (has r.id more ≡ true → has r.id ids ≡ true)
    both = rest (has r.id ids) (has r.id more) (grow r.id) (less_left_out g ids more grow) as_many

    by : (b : Bool) → nat_eq x r.id ≡ b → is_some (cond b (Some r.entity) (entity_of g x)) ≡ true → (lists g x ≡ true → has x ids ≡ true) → has x ids ≡ true
    by true e m later = let same = eqb-true x r.id e in subst (λ (y : ℕ). has y ids ≡ true) (sym same) (both.1 (subst (λ (y : ℕ). has y more ≡ true) same h))
    by false e m later = later m

-- an id with an edge is in the graph
edge_listed : (g : Graph) (x y : ℕ) → has_edge g x y ≡ true → lists g x ≡ true
edge_listed g x y = elim (entity_of g x) as (λ o. has y (edges_of o) ≡ true → is_some o ≡ true) [ None ↦ λ e. absurd cc | Some entity ↦ λ e. refl ]

closed_once_none_new : (g : Graph) (ids : List ℕ) → left_out g ids ≤ left_out g (stepped g ids) → IsClosed g (stepped g ids)
closed_once_none_new g ids as_many x y h e =
    step_adds g ids x y (none_new g ids (stepped g ids) (step_keeps g ids) as_many x (edge_listed g x y e) h) e

step_stays_closed : (g : Graph) (ids : List ℕ) → IsClosed g ids → IsClosed g (stepped g ids)
step_stays_closed g ids closed x y h e = elim (step_has g ids x h) [
  | inl new ↦ let t = edge_of_some g ids x new in step_keeps g ids y (closed x y (closed t.0 x t.1 t.2) e)
  | inr old ↦ step_keeps g ids y (closed x y old e)
]

stays_closed : (n : ℕ) (g : Graph) (ids : List ℕ) → IsClosed g ids → IsClosed g (reached_in n g ids)
stays_closed zero g ids closed = closed
stays_closed (suc n) g ids closed = stays_closed n g (stepped g ids) (step_stays_closed g ids closed)

closes : (n : ℕ) (g : Graph) (ids : List ℕ) → left_out g ids < n → IsClosed g (reached_in n g ids)
closes zero g ids few = absurd (omega arith)
closes (suc n) g ids few = elim (cases_lt (left_out g (stepped g ids)) (left_out g ids)) [
  | inl fewer ↦ closes n g (stepped g ids) (omega arith)
  | inr as_many ↦ stays_closed n g (stepped g ids) (closed_once_none_new g ids as_many)
]

-- where all are left out, none of the ids has an edge
all_left_out : (g : Graph) (ids : List ℕ) → length g ≤ left_out g ids → (x : ℕ) → lists g x ≡ true → has x ids ≡ false
all_left_out [] ids all x l = absurd cc
all_left_out (r ∷ g) ids all x l = by (nat_eq x r.id) refl l (all_left_out g ids both.0 x)
  where
    rest : (b : Bool) → left_out g ids ≤ length g → suc (length g) ≤ cond b 0 1 + left_out g ids → (length g ≤ left_out g ids) × (b ≡ false)
    rest true m a = absurd (omega arith)
    rest false m a = (omega arith, refl)

    both : (length g ≤ left_out g ids) × (has r.id ids ≡ false)
    both = rest (has r.id ids) (left_out_within g ids) all

    by : (b : Bool) → nat_eq x r.id ≡ b → is_some (cond b (Some r.entity) (entity_of g x)) ≡ true → (lists g x ≡ true → has x ids ≡ false) → has x ids ≡ false
    by true e m later = subst (λ (y : ℕ). has y ids ≡ false) (sym (eqb-true x r.id e)) both.1
    by false e m later = later m

closed_from_the_first : (g : Graph) (ids : List ℕ) → length g ≤ left_out g ids → IsClosed g ids
closed_from_the_first g ids all x y h e = let none = all_left_out g ids all x (edge_listed g x y e) in absurd cc

pub reached-closed : (g : Graph) (starts : List ℕ) → IsClosed g (reached g starts)
reached-closed g starts = elim (cases_lt (left_out g (add_all starts [])) (length g)) [
  | inl few ↦ closes (length g) g (add_all starts []) few
  | inr all ↦ stays_closed (length g) g (add_all starts []) (closed_from_the_first g (add_all starts []) all)
]

-- ---- what is reached

start_has : (starts : List ℕ) (x : ℕ) → has x (add_all starts []) ≡ has x starts
start_has starts x = has_add_all x starts [] ∙ or_none (has x starts)
  where
    or_none : (b : Bool) → (b || false) ≡ b
    or_none true = refl
    or_none false = refl

-- what is reached is the end of a walk
pub reached-walks : (g : Graph) (starts : List ℕ) (x : ℕ) → has x (reached g starts) ≡ true → IsReached g starts x
reached-walks g starts = steps_reach (length g) g starts (add_all starts []) (λ x h. reached_start g starts x (sym (start_has starts x) ∙ h))

pub reached-start : (g : Graph) (starts : List ℕ) (x : ℕ) → has x starts ≡ true → has x (reached g starts) ≡ true
reached-start g starts x h = steps_keep (length g) g (add_all starts []) x (start_has starts x ∙ h)

-- and the end of each walk is reached
pub walks-reached : (g : Graph) (starts : List ℕ) (x : ℕ) → IsReached g starts x → has x (reached g starts) ≡ true
walks-reached g starts = reached_stay g starts (λ (x : ℕ). has x (reached g starts) ≡ true) (reached-start g starts) (reached-closed g starts)

steps_rise : (n : ℕ) (g : Graph) (ids : List ℕ) → rises ids ≡ true → rises (reached_in n g ids) ≡ true
steps_rise zero g ids r = r
steps_rise (suc n) g ids r = steps_rise n g (stepped g ids) (rises_add_all (edges_from g ids) ids r)

pub reached-rises : (g : Graph) (starts : List ℕ) → rises (reached g starts) ≡ true
reached-rises g starts = steps_rise (length g) g (add_all starts []) (rises_add_all starts [] refl)

-- starts that are the same ids reach the same
pub reached-same_starts : (g : Graph) (xs ys : List ℕ) → ((x : ℕ) → has x xs ≡ has x ys) → reached g xs ≡ reached g ys
reached-same_starts g xs ys same = same_rising (reached g xs) (reached g ys) (reached-rises g xs) (reached-rises g ys) (λ x. same_answer (has x (reached g xs)) (has x (reached g ys))
    (λ h. walks-reached g ys x (from xs ys same x (reached-walks g xs x h))) (λ h. walks-reached g xs x (from ys xs (λ y. sym (same y)) x (reached-walks g ys x h))))
  where
    from : (us vs : List ℕ) → ((x : ℕ) → has x us ≡ has x vs) → (x : ℕ) → IsReached g us x → IsReached g vs x
    from us vs same x r = record { from = r.from; is_start = sym (same r.from) ∙ r.is_start; path = r.path; walks = r.walks; ends = r.ends }
