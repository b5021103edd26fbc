-- The ids of a store by channel.
use Rattle.std.proofs.Common.{◌≡◌, ℕ, ◌+◌, ◌<◌, Bool, true, false, cond, ◌&&◌, ◌||◌, List, [], ◌∷◌, refl, sym, ap, ◌∙◌}
use Rattle.std.specs.Prelude.{nat_eq, nat_lt}
use Rattle.std.specs.List.{filter}
use Rattle.std.proofs.lemmas.Bool.{and_parts, eqb-true, lt-ltb}
use Rattle.graph_model.specs.Ids.{has}
use Rattle.graph_model.specs.Graph.{ids}
use Rattle.graph_model.specs.declared.entity.Record.{Record}
use Rattle.graph_model.proofs.Rising.{filter_ids}
use Rattle.core_steps.specs.Core.{home, is_home}
use Rattle.core_steps.proofs.Lists.{home_below}
use Rattle.storage_alone.specs.Storing.{part_for}
use Rattle.storage_alone.proofs.Opened.{lt_more}

tested : (test : ℕ → Bool) (x y : ℕ) → nat_eq x y ≡ true → test y ≡ test x
tested test x y e = ap test (sym (eqb-true x y e))

kept_one : (same here a t : Bool) → (same ≡ true → here ≡ t) → cond here (same || (a && t)) (a && t) ≡ ((same || a) && t)
kept_one true true true true e = refl
kept_one true true false true e = refl
kept_one true false a false e = and_false a
  where
    and_false : (b : Bool) → (b && false) ≡ false
    and_false true = refl
    and_false false = refl
kept_one true true a false e = absurd (true_false (e refl))
  where
    true_false : true ≡ false → ⊥
    true_false q = cc
kept_one true false a true e = absurd (false_true (e refl))
  where
    false_true : false ≡ true → ⊥
    false_true q = cc
kept_one false true a t e = refl
kept_one false false a t e = refl

-- an id is in what is left of a list where it is there and meets the test
has_filter : (test : ℕ → Bool) (x : ℕ) (xs : List ℕ) → has x (filter test xs) ≡ (has x xs && test x)
has_filter test x [] = refl
has_filter test x (y ∷ xs) =
    let rest = has_filter test x xs in
    (elim (test y) as (λ b. has x (cond b (y ∷ filter test xs) (filter test xs)) ≡ cond b (nat_eq x y || has x (filter test xs)) (has x (filter test xs))) [
      | true ↦ refl
      | false ↦ refl
    ])
    ∙ ap (λ (b : Bool). cond (test y) (nat_eq x y || b) b) rest
    ∙ kept_one (nat_eq x y) (test y) (has x xs) (test x) (tested test x y)

pub part_ids : (n : ℕ) (records : List Record) (k x : ℕ) → has x (ids (part_for n records k)) ≡ (has x (ids records) && is_home n k x)
part_ids n records k x = ap (has x) (filter_ids (is_home n k) records) ∙ has_filter (is_home n k) x (ids records)

-- they belong to the channel
pub part_home : (n : ℕ) (records : List Record) (k x : ℕ) → has x (ids (part_for n records k)) ≡ true → home n x ≡ k
part_home n records k x h = eqb-true (home n x) k (and_parts (has x (ids records)) (is_home n k x) (sym (part_ids n records k x) ∙ h)).1

gathered : (a same below h : Bool) → ((a && same) || ((a && below) || h)) ≡ ((a && (same || below)) || h)
gathered true true below h = refl
gathered true false below h = refl
gathered false same below h = refl

-- what is held once the channels below k have their part
pub held_below : (n : ℕ) (records : List Record) (k x : ℕ) (first : List ℕ) → Bool
held_below n records k x first = (has x (ids records) && nat_lt (home n x) k) || has x first

pub held_next : (n : ℕ) (records : List Record) (k : ℕ) (first before now : List ℕ) → ((x : ℕ) → has x before ≡ ((has x (ids records) && nat_lt (home n x) k) || has x first))
    → ((x : ℕ) → has x now ≡ (has x (ids (part_for n records k)) || has x before)) → (x : ℕ) → has x now ≡ ((has x (ids records) && nat_lt (home n x) (k + 1)) || has x first)
held_next n records k first before now was is x =
    is x ∙ ap (λ (b : Bool). has x (ids (part_for n records k)) || b) (was x)
    ∙ ap (λ (b : Bool). b || ((has x (ids records) && nat_lt (home n x) k) || has x first)) (part_ids n records k x)
    ∙ gathered (has x (ids records)) (is_home n k x) (nat_lt (home n x) k) (has x first)
    ∙ ap (λ (b : Bool). (has x (ids records) && b) || has x first) (sym (lt_more (home n x) k))

whole_and : (b : Bool) → (b && true) ≡ b
whole_and true = refl
whole_and false = refl

pub held_at_last : (n : ℕ) (records : List Record) (first now : List ℕ) → 0 < n → ((x : ℕ) → has x now ≡ ((has x (ids records) && nat_lt (home n x) n) || has x first))
    → (x : ℕ) → has x now ≡ (has x (ids records) || has x first)
held_at_last n records first now some is x =
    is x ∙ ap (λ (b : Bool). (has x (ids records) && b) || has x first) (lt-ltb (home n x) n (home_below n x some))
    ∙ ap (λ (b : Bool). b || has x first) (whole_and (has x (ids records)))
