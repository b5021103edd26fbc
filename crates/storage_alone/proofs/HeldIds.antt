-- The held ids of a good core, once the pins of one channel have changed.
use Rattle.std.proofs.Common.{◌≡◌, ◌≢◌, ℕ, ◌<◌, Bool, true, false, not, ◌&&◌, ◌||◌, List, [], ◌∷◌, length, set, refl, sym, ap, subst, ◌∙◌, inl, inr, arith, cond, ⊎_elim}
use Rattle.std.specs.Prelude.{nat_eq, nat_lt}
use Rattle.std.proofs.lemmas.Bool.{and_parts, cases_Bool, cases_eq, eq-eqb, eqb-true, ltb-true, ne_eqb, or_cases}
use Rattle.std.proofs.lemmas.List.{get_or-set_same, get_or-set_other, length-set}
use Rattle.graph_model.specs.Ids.{add, add_all, has, remove, rises, rises_from}
use Rattle.graph_model.proofs.IdSets.{has_add, has_add_all, has_other}
use Rattle.core_steps.specs.declared.state.CoreChannel.{CoreChannel}
use Rattle.core_steps.specs.Core.{Core, channel_at, held, home, no_channel}
use Rattle.core_steps.specs.Good.{IsGood, channel_of}
use Rattle.core_steps.proofs.Lists.{held_on, pin_is_held}

-- ---- an id is held where its own channel has it pinned

same_bool : (a b : Bool) → (a ≡ true → b ≡ true) → (b ≡ true → a ≡ true) → a ≡ b
same_bool true b to from = sym (to refl)
same_bool false true to from = from refl
same_bool false false to from = refl

pub held_at_home : (c : Core) (x : ℕ) → IsGood c → has x (held c.channels) ≡ has x (channel_of c x).pins
held_at_home c x good = same_bool (has x (held c.channels)) (has x (channel_of c x).pins)
    (λ h. let t = held_on c.channels x h in
    subst (λ (k : ℕ). has x (channel_at c.channels k).pins ≡ true) (sym (good.sound.content.pins_home t.0 x t.1 t.2)) t.2)
    (λ h. pin_is_held c.channels (home (length c.channels) x) x h)

-- ---- the channel of an id changes its pins

-- channel k of the one core has become y in the other
pub record ChangedAt (c d : Core) (k : ℕ) (y : CoreChannel) : Type 0 where
  pub good : IsGood c
  pub good_then : IsGood d
  pub channels : d.channels ≡ set c.channels k y
  pub within : k < length c.channels

module _ (c d : Core) (k : ℕ) (y : CoreChannel) (changed : ChangedAt c d k y) where
  many : length d.channels ≡ length c.channels
  many = ap (λ (cs : List CoreChannel). length cs) changed.channels ∙ length-set c.channels k y

  here : (x : ℕ) → home (length c.channels) x ≡ k → has x (held d.channels) ≡ has x y.pins
  here x e =
      held_at_home d x changed.good_then
      ∙ ap (λ (n : ℕ). has x (channel_at d.channels (home n x)).pins) many
      ∙ ap (λ (j : ℕ). has x (channel_at d.channels j).pins) e
      ∙ ap (λ (cs : List CoreChannel). has x (channel_at cs k).pins) changed.channels
      ∙ ap (λ (z : CoreChannel). has x z.pins) (get_or-set_same c.channels k y no_channel changed.within)

  here_before : (x : ℕ) → home (length c.channels) x ≡ k → has x (held c.channels) ≡ has x (channel_at c.channels k).pins
  here_before x e = held_at_home c x changed.good ∙ ap (λ (j : ℕ). has x (channel_at c.channels j).pins) e

  elsewhere : (x : ℕ) → home (length c.channels) x ≢ k → has x (held d.channels) ≡ has x (held c.channels)
  elsewhere x n =
      held_at_home d x changed.good_then
      ∙ ap (λ (m : ℕ). has x (channel_at d.channels (home m x)).pins) many
      ∙ ap (λ (cs : List CoreChannel). has x (channel_at cs (home (length c.channels) x)).pins) changed.channels
      ∙ ap (λ (z : CoreChannel). has x z.pins) (get_or-set_other c.channels k (home (length c.channels) x) y no_channel n)
      ∙ sym (held_at_home c x changed.good)

  apart : (x id : ℕ) → home (length c.channels) x ≢ k → home (length c.channels) id ≡ k → nat_eq x id ≡ false
  apart x id n e = ne_eqb x id (λ same. n (ap (home (length c.channels)) same ∙ e))

  -- an id is held too
  pub held_added : (id : ℕ) → home (length c.channels) id ≡ k → y.pins ≡ add id (channel_at c.channels k).pins
      → (x : ℕ) → has x (held d.channels) ≡ (nat_eq x id || has x (held c.channels))
  held_added id at pins x = elim (cases_eq (home (length c.channels) x) k) [
    | inl e ↦ here x e ∙ ap (has x) pins ∙ has_add x id (channel_at c.channels k).pins ∙ ap (λ (b : Bool). nat_eq x id || b) (sym (here_before x e))
    | inr n ↦ elsewhere x n ∙ ap (λ (b : Bool). b || has x (held c.channels)) (sym (apart x id n at))
  ]

  -- an id is held no longer
  pub held_removed : (id : ℕ) → home (length c.channels) id ≡ k → y.pins ≡ remove id (channel_at c.channels k).pins → has id y.pins ≡ false
      → (x : ℕ) → has x (held d.channels) ≡ (has x (held c.channels) && not (nat_eq x id))
  held_removed id at pins gone x = elim (cases_eq x id) [
    | inl e ↦
        here x (ap (home (length c.channels)) e ∙ at) ∙ ap (λ (z : ℕ). has z y.pins) e ∙ gone
        ∙ sym (ap (λ (b : Bool). has x (held c.channels) && not b) (eq-eqb x id e) ∙ and_false (has x (held c.channels)))
    | inr n ↦ unchanged x (ne_eqb x id n) ∙ sym (ap (λ (b : Bool). has x (held c.channels) && not b) (ne_eqb x id n) ∙ and_true (has x (held c.channels)))
  ]
    where
      and_false : (b : Bool) → (b && false) ≡ false
      and_false true = refl
      and_false false = refl

      and_true : (b : Bool) → (b && true) ≡ b
      and_true true = refl
      and_true false = refl

      unchanged : (z : ℕ) → nat_eq z id ≡ false → has z (held d.channels) ≡ has z (held c.channels)
      unchanged z other = elim (cases_eq (home (length c.channels) z) k) [
        | inl e ↦ here z e ∙ ap (has z) pins ∙ has_other z id (channel_at c.channels k).pins other ∙ sym (here_before z e)
        | inr n ↦ elsewhere z n
      ]

-- ---- a set has an id no longer that was removed

above : (x z : ℕ) (ys : List ℕ) → rises_from x ys ≡ true → has z ys ≡ true → x < z
above x z [] r h = cc
above x z (y ∷ ys) r h = let t = and_parts (nat_lt x y) (rises_from y ys) r in let low = ltb-true x y t.0 in
    ⊎_elim (λ e. let same = eqb-true z y e in omega arith) (λ m. let w = above y z ys t.1 m in omega arith) (or_cases (nat_eq z y) (has z ys) h)

rises_behind : (x : ℕ) (ys : List ℕ) → rises_from x ys ≡ true → rises ys ≡ true
rises_behind x [] r = refl
rises_behind x (y ∷ ys) r = (and_parts (nat_lt x y) (rises_from y ys) r).1

pub removed_gone : (x : ℕ) (ys : List ℕ) → rises ys ≡ true → has x (remove x ys) ≡ false
removed_gone x [] r = refl
removed_gone x (y ∷ ys) r = by (removed_gone x ys (rises_behind y ys r)) (nat_eq x y) refl
  where
    by : has x (remove x ys) ≡ false → (b : Bool) → nat_eq x y ≡ b → has x (cond b ys (y ∷ remove x ys)) ≡ false
    by gone true e = let same = eqb-true x y e in
        ⊎_elim (λ h. let low = above y x ys r h in absurd (omega arith)) (λ n. n) (cases_Bool (has x ys))
    by gone false e = ap (λ (b : Bool). b || has x (remove x ys)) e ∙ gone

-- ---- a channel gains its part of a store

module _ (c d : Core) (k : ℕ) (y : CoreChannel) (changed : ChangedAt c d k y) where
  -- the ids of the part are held too
  pub held_stored : (xs : List ℕ) → ((x : ℕ) → has x xs ≡ true → home (length c.channels) x ≡ k) → y.pins ≡ add_all xs (channel_at c.channels k).pins
      → (x : ℕ) → has x (held d.channels) ≡ (has x xs || has x (held c.channels))
  held_stored xs own pins x = elim (cases_eq (home (length c.channels) x) k) [
    | inl e ↦ here c d k y changed x e ∙ ap (has x) pins ∙ has_add_all x xs (channel_at c.channels k).pins ∙ ap (λ (b : Bool). has x xs || b) (sym (here_before c d k y changed x e))
    | inr n ↦ elsewhere c d k y changed x n ∙ ap (λ (b : Bool). b || has x (held c.channels)) (sym (⊎_elim (λ h. absurd (n (own x h))) (λ f. f) (cases_Bool (has x xs))))
  ]
