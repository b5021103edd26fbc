-- What lists of channels and hands have after one of them changed, and their sums.
use Rattle.std.proofs.Common.{◌≡◌, ◌⊎◌, ℕ, zero, suc, ◌+◌, ◌<◌, Bool, true, false, List, [], ◌∷◌, ◌++◌, length, set, get_or, Option, Some, None, refl, sym, ap, ◌∙◌, subst, arith, inl, inr, ⊎_elim, filter, eqb-true, cond, nat_eq}
use Rattle.std.specs.Prelude.{slice_get, nat_eq}
use Rattle.std.proofs.lemmas.Bool.{or_cases, or_left, or_right, eqb-true}
use Rattle.graph_model.specs.Ids.{has}
use Rattle.graph_model.proofs.IdSets.{has_append}
use Rattle.core_steps.specs.Core.{CoreChannel, Hand, channel_at, hand_at, held, new_hand, home}
use Rattle.core_steps.specs.Good.{greys, weight, weights}
use Rattle.core_steps.specs.Rows.{each_of, given}
use Rattle.std.specs.List.{filter}

module _ {A : Type 0} where
  -- what holds of each, and of the new one, holds of each after the change
  pub each_set : (P : ℕ → A → Type 0) (l : List A) (k : ℕ) (y d : A) → P k y → ((j : ℕ) → P j (get_or l j d)) → (j : ℕ) → P j (get_or (set l k y) j d)
  each_set P [] k y d here all j = all j
  each_set P (x ∷ xs) zero y d here all zero = here
  each_set P (x ∷ xs) zero y d here all (suc j) = all (suc j)
  each_set P (x ∷ xs) (suc k) y d here all zero = all zero
  each_set P (x ∷ xs) (suc k) y d here all (suc j) = each_set (λ (i : ℕ). P (suc i)) xs k y d here (λ i. all (suc i)) j

  -- the same of a relation between what was and what is
  pub both_set : (R : ℕ → A → A → Type 0) (l : List A) (k : ℕ) (y d : A) → R k (get_or l k d) y → ((j : ℕ) → R j (get_or l j d) (get_or l j d)) → (j : ℕ)
      → R j (get_or l j d) (get_or (set l k y) j d)
  both_set R [] k y d here all j = all j
  both_set R (x ∷ xs) zero y d here all zero = here
  both_set R (x ∷ xs) zero y d here all (suc j) = all (suc j)
  both_set R (x ∷ xs) (suc k) y d here all zero = all zero
  both_set R (x ∷ xs) (suc k) y d here all (suc j) = both_set (λ (i : ℕ). R (suc i)) xs k y d here (λ i. all (suc i)) j

  pub got : (l : List A) (k : ℕ) (x d : A) → slice_get l k ≡ Some x → (k < length l) × (get_or l k d ≡ x)
  got [] k x d e = cc
  got (z ∷ l) zero x d e = (omega arith, cc)
  got (z ∷ l) (suc k) x d e = let h = got l k x d e in (omega arith, h.1)

  pub not_got : (l : List A) (k : ℕ) (x : A) → k ≡ length l → slice_get l k ≡ Some x → ⊥
  not_got [] k x n e = cc
  not_got (z ∷ l) zero x n e = absurd (omega arith)
  not_got (z ∷ l) (suc k) x n e = not_got l k x (omega arith) e

  pub given_is : (b : Bool) (x y : A) → given b x ≡ Some y → (b ≡ true) × (x ≡ y)
  given_is true x y e = (refl, cc)
  given_is false x y e = cc

  -- what each id taken keeps, all of them keep
  pub each_of_keeps : (P : A → Type 0) (f : ℕ → A → Option A) → ((x : ℕ) (a b : A) → P a → f x a ≡ Some b → P b) → (xs : List ℕ) (a b : A) → P a
      → each_of f xs (Some a) ≡ Some b → P b
  each_of_keeps P f keeps [] a b p e = let same : a ≡ b = cc in subst P same p
  each_of_keeps P f keeps (x ∷ xs) a b p e = (elim (f x a) as (λ o. f x a ≡ o → each_of f xs o ≡ Some b → P b) [
    | None ↦ λ is e. absurd (none_left xs e)
    | Some a' ↦ λ is e. each_of_keeps P f keeps xs a' b (keeps x a a' p is) e
  ]) refl e
    where
      none_left : (xs : List ℕ) → each_of f xs None ≡ Some b → ⊥
      none_left [] e = cc
      none_left (y ∷ ys) e = cc

pub greys_set : (l : List CoreChannel) (k : ℕ) (y : CoreChannel) → k < length l → greys (set l k y) + length (channel_at l k).grey ≡ greys l + length y.grey
greys_set [] k y h = absurd (omega arith)
greys_set (z ∷ l) zero y h = omega arith
greys_set (z ∷ l) (suc k) y h = let e = greys_set l k y (omega arith) in omega arith

pub weights_set : (l : List Hand) (a : ℕ) (y : Hand) → a < length l → weights (set l a y) + weight (hand_at l a) ≡ weights l + weight y
weights_set [] k y h = absurd (omega arith)
weights_set (z ∷ l) zero y h = omega arith
weights_set (z ∷ l) (suc k) y h = let e = weights_set l k y (omega arith) in omega arith

pub pin_is_held : (l : List CoreChannel) (k x : ℕ) → has x (channel_at l k).pins ≡ true → has x (held l) ≡ true
pin_is_held [] k x e = e
pin_is_held (c ∷ l) zero x e = has_append x c.pins (held l) ∙ or_left (has x c.pins) (has x (held l)) e
pin_is_held (c ∷ l) (suc k) x e = has_append x c.pins (held l) ∙ or_right (has x c.pins) (has x (held l)) (pin_is_held l k x e)

-- what is held after a change was held or is pinned on the changed one
pub held_set : (l : List CoreChannel) (k : ℕ) (y : CoreChannel) (x : ℕ) → has x (held (set l k y)) ≡ true → (has x y.pins ≡ true) ⊎ (has x (held l) ≡ true)
held_set [] k y x e = inr e
held_set (c ∷ l) zero y x e = ⊎_elim (λ h. inl h) (λ h. inr (has_append x c.pins (held l) ∙ or_right (has x c.pins) (has x (held l)) h))
    (or_cases (has x y.pins) (has x (held l)) (sym (has_append x y.pins (held l)) ∙ e))
held_set (c ∷ l) (suc k) y x e = ⊎_elim (λ h. inr (has_append x c.pins (held l) ∙ or_left (has x c.pins) (has x (held l)) h))
    (λ h. ⊎_elim (λ g. inl g) (λ g. inr (has_append x c.pins (held l) ∙ or_right (has x c.pins) (has x (held l)) g)) (held_set l k y x h))
    (or_cases (has x c.pins) (has x (held (set l k y))) (sym (has_append x c.pins (held (set l k y))) ∙ e))

-- what is held is pinned on some channel
pub held_on : (l : List CoreChannel) (x : ℕ) → has x (held l) ≡ true → (k : ℕ) × (k < length l) × (has x (channel_at l k).pins ≡ true)
held_on [] x e = cc
held_on (c ∷ l) x e = ⊎_elim (λ h. (0, omega arith, h)) (λ h. let t = held_on l x h in (suc t.0, omega arith, t.2))
    (or_cases (has x c.pins) (has x (held l)) (sym (has_append x c.pins (held l)) ∙ e))

pub hand_at_end : (l : List Hand) (a : ℕ) → hand_at (l ++ new_hand ∷ []) a ≡ hand_at l a
hand_at_end [] zero = refl
hand_at_end [] (suc a) = refl
hand_at_end (h ∷ l) zero = refl
hand_at_end (h ∷ l) (suc a) = hand_at_end l a

pub weights_end : (l : List Hand) → weights (l ++ new_hand ∷ []) ≡ weights l
weights_end [] = refl
weights_end (h ∷ l) = ap (λ (n : ℕ). weight h + n) (weights_end l)

-- the held ids stay where a channel's pins do
pub held_same : (l : List CoreChannel) (k : ℕ) (y : CoreChannel) → y.pins ≡ (channel_at l k).pins → held (set l k y) ≡ held l
held_same [] k y e = refl
held_same (x ∷ l) zero y e = ap (λ (ps : List ℕ). ps ++ held l) e
held_same (x ∷ l) (suc k) y e = ap (λ (ps : List ℕ). x.pins ++ ps) (held_same l k y e)

-- an id belongs to a channel
pub home_below : (n x : ℕ) → 0 < n → home n x < n
home_below n x b = omega arith

pub filter_keeps : (test : ℕ → Bool) (xs : List ℕ) (i : ℕ) → test i ≡ true → has i xs ≡ true → has i (filter test xs) ≡ true
filter_keeps test [] i t e = e
filter_keeps test (x ∷ xs) i t e = ⊎_elim
    (λ s. let same = eqb-true i x s in let t' : test x ≡ true = subst (λ (j : ℕ). test j ≡ true) same t in
    ap (λ (b : Bool). has i (cond b (x ∷ filter test xs) (filter test xs))) t' ∙ or_left (nat_eq i x) (has i (filter test xs)) s)
    (λ s. let h = filter_keeps test xs i t s in
    elim (test x) as (λ b. has i (cond b (x ∷ filter test xs) (filter test xs)) ≡ true) [
      | true ↦ or_right (nat_eq i x)
          (has i (filter test xs)) h
      | false ↦ h
    ])
    (or_cases (nat_eq i x) (has i xs) e)

pub not_both : {b : Bool} → b ≡ false → b ≡ true → ⊥
not_both f t = cc
