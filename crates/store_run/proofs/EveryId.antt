-- A graph that lists every id of 64 bits: the steps of a line are counted over it, so that they end whatever is looked up.
use Rattle.std.proofs.Common.{◌≡◌, ◌<◌, ◌≤◌, ◌^◌, ℕ, zero, suc, Bool, true, false, cond, List, [], ◌∷◌, Option, Some, None, inl, inr, refl, sym, subst, arith}
use Rattle.std.specs.Prelude.{nat_eq, is_some}
use Rattle.std.proofs.lemmas.Bool.{cases_lt, eqb-false}
use Rattle.graph_model.specs.Graph.{Graph, entity_of, lists}
use Rattle.graph_model.specs.declared.ask.Ask.TheVariants as asks
use Rattle.graph_model.specs.declared.entity.Entity.{Entity}
use Rattle.session.specs.Fitting.{LooksUp}
use Rattle.session.specs.declared.session.SessionStep.{SessionStep as Step}
use Rattle.session.specs.declared.session.SessionStep.TheVariants as step
use Rattle.session_lines.specs.Broken.{looked_up}
use Rattle.session_lines.specs.Steps.{IsListed}
use Rattle.session_lines.specs.declared.outcome.Waiting.{Waiting}

pub no_entity : Entity
no_entity = record { type_id = 0; refs = []; plain = [] }

-- the ids below n
pub ids_below : ℕ → Graph
ids_below zero = []
ids_below (suc n) = record { id = n; entity = no_entity } ∷ ids_below n

lists_below : (n x : ℕ) → x < n → lists (ids_below n) x ≡ true
unfolding ids_below
lists_below zero x less = absurd (omega arith)
lists_below (suc n) x less = by (nat_eq x n) refl (λ h. lists_below n x h)
  where
    by : (b : Bool) → nat_eq x n ≡ b → (x < n → lists (ids_below n) x ≡ true) → is_some (cond b (Some no_entity) (entity_of (ids_below n) x)) ≡ true
    by true e below = refl
    by false e below = elim (cases_lt x n) [ inl h ↦ below h | inr h ↦ let same : x ≡ n = omega arith in absurd (eqb-false x n e same) ]

unfoldable pub every_id : Graph
every_id = ids_below (2 ^ 64)

every_listed : (x : ℕ) → x < 2 ^ 64 → lists every_id x ≡ true
unfolding every_id
every_listed x small = lists_below (2 ^ 64) x small

none_listed : (o : Option ℕ) → o ≡ None → IsListed o every_id
none_listed o none = subst (λ (p : Option ℕ). IsListed p every_id) (sym none) tt

-- what a session looks up is listed
pub looked_up_listed : (next : Step) (waiting : Waiting) → LooksUp next waiting → IsListed (looked_up waiting) every_id
looked_up_listed (step.Ask (asks.Look x)) waiting looks = subst (λ (o : Option ℕ). IsListed o every_id) (sym looks.0) (every_listed x looks.1)
looked_up_listed (step.Ask _) waiting looks = none_listed (looked_up waiting) looks
looked_up_listed (step.Print line) waiting looks = none_listed (looked_up waiting) looks
looked_up_listed step.Done waiting looks = none_listed (looked_up waiting) looks
looked_up_listed (step.Broken id) waiting looks = none_listed (looked_up waiting) looks
