-- The first channel apart is one alone.
use Rattle.std.proofs.Common.{◌≡◌, ℕ, ◌<◌, ◌≤◌, ◌↔◌, inl, inr, List, Some, Result, Err, take, length, get_or, length-take, slice_get, All, arith, sym, ap, subst, ◌∙◌, refl}
use Rattle.std.specs.List.{AllWithin, HoldsAt}
use Rattle.std.proofs.lemmas.List.Elements.{All-contains}
use Rattle.std.proofs.lemmas.List.{get_or-take}
use Rattle.std.proofs.lemmas.Option.{slice_get-get_or, slice_get_within, get_or_from_slice_get}
use Rattle.std.proofs.lemmas.Bool.{cases_order}
use Rattle.std.proofs.lemmas.Grind.{common_steps}
use Rattle.store_agreement.specs.declared.agreement.Last.{Last}
use Rattle.store_agreement.specs.declared.agreement.Disagree.{Disagree}
use Rattle.store_agreement.specs.Agreement.{IsLeast, Agrees, IsFirstApart, numbers_of}

pub least_is_one : (m n : ℕ) (numbers : List ℕ) → IsLeast m numbers → IsLeast n numbers → m ≡ n
least_is_one m n numbers h k =
    let a : m ≤ n = All-contains (λ x. m ≤ x) numbers n h.at_most k.one in
    let b : n ≤ m = All-contains (λ x. n ≤ x) numbers m k.at_most h.one in
    omega arith

-- what holds below a place holds of each element in front of it, and the other way round
pub front_from_within : {X : Type 0} (P : X → Type 0) (xs : List X) (i : ℕ) → AllWithin P xs 0 i → All P (take i xs)
front_from_within P xs i h = grind (arith, common_steps)

pub within_from_front : {X : Type 0} (P : X → Type 0) (xs : List X) (i : ℕ) → i ≤ length xs → All P (take i xs) → AllWithin P xs 0 i
within_from_front P xs i le h = λ k d low lt.
    let here : k < length (take i xs) = simp length-take (omega arith) in
    subst P (get_or-take i xs k d lt) (h k d here)

-- two places that are each the first without P are one
pub first_is_one : {X : Type 0} (P : X → Type 0) (xs : List X) (i j : ℕ) (x y : X) →
    AllWithin P xs 0 i → slice_get xs i ≡ Some x → (P x → ⊥) → AllWithin P xs 0 j → slice_get xs j ≡ Some y → (P y → ⊥) → i ≡ j
first_is_one P xs i j x y bi ti ni bj tj nj =
    let at_i : get_or xs i x ≡ x = get_or_from_slice_get xs i x x ti in
    let at_j : get_or xs j y ≡ y = get_or_from_slice_get xs j y y tj in
    elim (cases_order i j) [
      | inl e ↦ e
      | inr (inl lt) ↦ absurd (ni (subst P at_i (bj i x (omega arith) lt)))
      | inr (inr lt) ↦ absurd (nj (subst P at_j (bi j y (omega arith) lt)))
    ]

pub first_apart_is : (m i : ℕ) (lasts : List Last) (l : Last) → IsLeast m (numbers_of lasts) → i < length lasts → AllWithin (Agrees m) lasts 0 i → HoldsAt (λ last. ¬ Agrees m last) lasts i →
    IsFirstApart (record { channel = i; number = (get_or lasts i l).number }) lasts
first_apart_is m i lasts l least lt before apart = record {
  m = m;
  last = get_or lasts i l;
  least = least;
  before = front_from_within (Agrees m) lasts i before;
  there = slice_get-get_or lasts i l lt;
  apart = apart l;
  number = refl;
}

same_disagree : (d f : Disagree) → d.channel ≡ f.channel → d.number ≡ f.number → d ≡ f
same_disagree d f channel number =
    let at : ℕ → Disagree = λ c. record { channel = c; number = d.number } in
    let with_number : ℕ → Disagree = λ n. record { channel = f.channel; number = n } in
    ap at channel ∙ ap with_number number

pub first_apart_is_one : (d f : Disagree) (lasts : List Last) → IsFirstApart d lasts → IsFirstApart f lasts → d ≡ f
first_apart_is_one d f lasts h k =
    let least : h.m ≡ k.m = least_is_one h.m k.m (numbers_of lasts) h.least k.least in
    let before : All (Agrees k.m) (take d.channel lasts) = subst (λ m. All (Agrees m) (take d.channel lasts)) least h.before in
    let apart : ¬ Agrees k.m h.last = subst (λ m. ¬ Agrees m h.last) least h.apart in
    let in_front : d.channel < length lasts = slice_get_within lasts d.channel h.last h.there in
    let in_front_2 : f.channel < length lasts = slice_get_within lasts f.channel k.last k.there in
    let channel : d.channel ≡ f.channel = first_is_one (Agrees k.m) lasts d.channel f.channel h.last k.last
    (within_from_front (Agrees k.m) lasts d.channel (omega arith) before) h.there apart
    (within_from_front (Agrees k.m) lasts f.channel (omega arith) k.before) k.there k.apart in
    let last : h.last ≡ k.last = cc in
    let number : d.number ≡ f.number = sym h.number ∙ ap (λ (l : Last). l.number) last ∙ k.number in
    same_disagree d f channel number

same_refusal : (d f : Disagree) → ◌≡◌ {A = Result ℕ Disagree} (Err d) (Err f) → d ≡ f
same_refusal d f e = cc

-- a refusal that names the first channel apart is the only one there is
pub refusal_is_exact : (m i : ℕ) (lasts : List Last) (l : Last) → IsLeast m (numbers_of lasts) → i < length lasts → AllWithin (Agrees m) lasts 0 i → HoldsAt (λ last. ¬ Agrees m last) lasts i →
    (d : Disagree) → ◌≡◌ {A = Result ℕ Disagree} (Err (record { channel = i; number = (get_or lasts i l).number })) (Err d) ↔ IsFirstApart d lasts
refusal_is_exact m i lasts l least within before apart d =
    let first : Disagree = record { channel = i; number = (get_or lasts i l).number } in
    let is : IsFirstApart first lasts = first_apart_is m i lasts l least within before apart in
    (λ e. subst (λ f. IsFirstApart f lasts) (same_refusal first d e) is, λ h. ap Err (first_apart_is_one first d lasts is h))
