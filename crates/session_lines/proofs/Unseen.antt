-- What was not looked at yet.
use Rattle.std.proofs.Common.{◌≡◌, ◌≤◌, ◌<◌, ◌+◌, ℕ, Bool, true, false, cond, not, ◌||◌, List, [], ◌∷◌, length, refl, sym, ap, ◌∙◌, arith}
use Rattle.std.specs.Prelude.{nat_eq, is_some, Some}
use Rattle.std.specs.List.{filter}
use Rattle.std.proofs.lemmas.Bool.{eqb-true, or_left}
use Rattle.graph_model.specs.Ids.{has, insert}
use Rattle.graph_model.specs.Graph.{Graph, entity_of, lists}
use Rattle.graph_model.specs.declared.entity.Record.{Record}
use Rattle.graph_model.proofs.IdSets.{has_insert}
use Rattle.graph_model.proofs.Places.{nat_eq-swap}
use Rattle.session_lines.specs.Steps.{unseen}

-- one record more
counts : (r : Record) (seen : List ℕ) (g : Graph) → unseen seen (r ∷ g) ≡ cond (has r.id seen) 0 1 + unseen seen g
counts r seen g = by (has r.id seen)
  where
    by : (b : Bool) → length (cond (not b) (r ∷ filter (λ (s : Record). not (has s.id seen)) g) (filter (λ (s : Record). not (has s.id seen)) g)) ≡ cond b 0 1 + unseen seen g
    by true = omega arith
    by false = omega arith

-- what is looked at more leaves no more
fewer : (a b : Bool) → cond (a || b) 0 1 ≤ cond b 0 1
fewer true true = omega arith
fewer true false = omega arith
fewer false b = omega arith

pub unseen_no_more : (x : ℕ) (seen : List ℕ) (g : Graph) → unseen (insert x seen) g ≤ unseen seen g
unseen_no_more x seen [] = omega arith
unseen_no_more x seen (r ∷ g) =
    let ih = unseen_no_more x seen g in
    let one : cond (has r.id (insert x seen)) 0 1 ≤ cond (has r.id seen) 0 1 = rw (has_insert r.id x seen) (fewer (nat_eq r.id x) (has r.id seen)) in
    let a = counts r (insert x seen) g in
    let b = counts r seen g in
    omega arith

-- an id of the graph that is looked at leaves one less at least
pub unseen_less : (x : ℕ) (seen : List ℕ) (g : Graph) → lists g x ≡ true → has x seen ≡ false → unseen (insert x seen) g < unseen seen g
unseen_less x seen [] there new = absurd cc
unseen_less x seen (r ∷ g) there new = by (nat_eq x r.id) refl (λ t. unseen_less x seen g t new) there
  where
    by : (b : Bool) → nat_eq x r.id ≡ b → (lists g x ≡ true → unseen (insert x seen) g < unseen seen g) → is_some (cond b (Some r.entity) (entity_of g x)) ≡ true
        → unseen (insert x seen) (r ∷ g) < unseen seen (r ∷ g)
    by true e ih t =
        let same : has r.id seen ≡ false = ap (λ (y : ℕ). has y seen) (sym (eqb-true x r.id e)) ∙ new in
        let seen_now : has r.id (insert x seen) ≡ true = has_insert r.id x seen ∙ or_left (nat_eq r.id x) (has r.id seen) (nat_eq-swap r.id x ∙ e) in
        let a : unseen (insert x seen) (r ∷ g) ≡ 0 + unseen (insert x seen) g = counts r (insert x seen) g ∙ ap (λ (d : Bool). cond d 0 1 + unseen (insert x seen) g) seen_now in
        let b : unseen seen (r ∷ g) ≡ 1 + unseen seen g = counts r seen g ∙ ap (λ (d : Bool). cond d 0 1 + unseen seen g) same in
        let c = unseen_no_more x seen g in
        omega arith
    by false e ih t =
        let same : has r.id (insert x seen) ≡ has r.id seen = has_insert r.id x seen ∙ ap (λ (d : Bool). d || has r.id seen) (nat_eq-swap r.id x ∙ e) in
        let a : unseen (insert x seen) (r ∷ g) ≡ cond (has r.id seen) 0 1 + unseen (insert x seen) g = counts r (insert x seen) g ∙ ap (λ (d : Bool). cond d 0 1 + unseen (insert x seen) g) same in
        let b = counts r seen g in
        let c = ih t in
        omega arith
