-- Loaded objects in outward order, and the objects of ids among them.
use Rattle.std.proofs.Common.{◌≡◌, ℕ, Bool, true, false, cond, List, [], ◌∷◌, ◌++◌, Option, Some, None, ◌⊎◌, inl, inr, refl, sym, ap, ◌∙◌, subst}
use Rattle.std.specs.Prelude.{nat_eq}
use Rattle.std.proofs.lemmas.Bool.{or_cases, or_left, or_right, eq-eqb}
use Rattle.std.specs.Option.{option_or}
use Rattle.graph_model.specs.Ids.{has}
use Rattle.graph_model.specs.Graph.{Graph, has_edge}
use Rattle.graph_model.proofs.IdSets.{has_append}
use Rattle.entity_form.specs.declared.value.Object.{Object}
use Rattle.lazy_refs.specs.Steps.{EachNamed, IsNamedIn, IsOutward}
use Rattle.lazy_refs.specs.Walks.{loaded_ids, object_at}

pub or_none : {A : Type 0} (a : Option A) → option_or a None ≡ a
or_none None = refl
or_none (Some x) = refl

pub object_at-append : (ps qs : List (ℕ × Object)) (x : ℕ) → object_at (ps ++ qs) x ≡ option_or (object_at ps x) (object_at qs x)
object_at-append [] qs x = refl
object_at-append (p ∷ ps) qs x = by (nat_eq x p.0) (object_at-append ps qs x)
  where
    by : (b : Bool) → object_at (ps ++ qs) x ≡ option_or (object_at ps x) (object_at qs x) → cond b (Some p.1) (object_at (ps ++ qs) x) ≡ option_or (cond b (Some p.1) (object_at ps x)) (object_at qs x)
    by true h = refl
    by false h = h

pub loaded_ids-append : (ps qs : List (ℕ × Object)) → loaded_ids (ps ++ qs) ≡ loaded_ids ps ++ loaded_ids qs
loaded_ids-append [] qs = refl
loaded_ids-append (p ∷ ps) qs = ap (λ (xs : List ℕ). p.0 ∷ xs) (loaded_ids-append ps qs)

-- ---- one more

pub named_more : (g : Graph) (before more : List ℕ) (y : ℕ) → IsNamedIn g before y → IsNamedIn g (before ++ more) y
named_more g before more y n = (n.0, has_append n.0 before more ∙ or_left (has n.0 before) (has n.0 more) n.1, n.2)

-- a is named by one of those before, or of the list
pub record IsNamedByOneOf (g : Graph) (before ys : List ℕ) (a : ℕ) : Type 0 where
  pub by : ℕ
  pub there : (has by before ≡ true) ⊎ (has by ys ≡ true)
  pub edge : has_edge g by a ≡ true

each_more : (g : Graph) (before ys : List ℕ) (a : ℕ) → EachNamed g before ys → IsNamedByOneOf g before ys a → EachNamed g before (ys ++ a ∷ [])
each_more g before [] a each n = (elim n.there as (λ _. IsNamedIn g before a) [ inl h ↦ (n.by, h, n.edge) | inr h ↦ absurd (let never : false ≡ true = h in cc) ], tt)
each_more g before (y ∷ ys) a each n = (each.0, each_more g (y ∷ before) ys a each.1 (record { by = n.by; there = moved n.there; edge = n.edge }))
  where
    moved : (has n.by before ≡ true) ⊎ (has n.by (y ∷ ys) ≡ true) → (has n.by (y ∷ before) ≡ true) ⊎ (has n.by ys ≡ true)
    moved (inl h) = inl (or_right (nat_eq n.by y) (has n.by before) h)
    moved (inr h) = elim (or_cases (nat_eq n.by y) (has n.by ys) h) [ inl same ↦ inl (or_left (nat_eq n.by y) (has n.by before) same) | inr there ↦ inr there ]

-- a new id that is the start or is named stands at the end
pub outward_more : (g : Graph) (start : ℕ) (ps : List (ℕ × Object)) (a : ℕ) (o : Object) → object_at ps a ≡ None
    → (loaded_ids ps ≡ []) ⊎ IsOutward g start (loaded_ids ps) → (a ≡ start) ⊎ IsNamedIn g (loaded_ids ps) a → IsOutward g start (loaded_ids ps ++ a ∷ [])
outward_more g start [] a o new before (inl same) = (same, tt)
outward_more g start [] a o new before (inr n) = absurd (let never : false ≡ true = n.1 in cc)
outward_more g start (p ∷ ps) a o new (inl e) n = absurd cc
outward_more g start (p ∷ ps) a o new (inr out) (inl same) =
    absurd (let here : nat_eq a p.0 ≡ true = eq-eqb a p.0 (same ∙ sym out.0) in let some : cond true (Some p.1) (object_at ps a) ≡ None = subst (λ (b : Bool). cond b (Some p.1) (object_at ps a) ≡ None) here new in cc)
outward_more g start (p ∷ ps) a o new (inr out) (inr n) = (out.0, each_more g (p.0 ∷ []) (loaded_ids ps) a out.1 (record { by = n.0; there = split (or_cases (nat_eq n.0 p.0) (has n.0 (loaded_ids ps)) n.1); edge = n.2 }))
  where
    split : (nat_eq n.0 p.0 ≡ true) ⊎ (has n.0 (loaded_ids ps) ≡ true) → (has n.0 (p.0 ∷ []) ≡ true) ⊎ (has n.0 (loaded_ids ps) ≡ true)
    split (inl same) = inl (or_left (nat_eq n.0 p.0) false same)
    split (inr later) = inr later
