-- Waiting ids that are looked at from the end.
use Rattle.std.proofs.Common.{◌≡◌, ℕ, true, false, ◌||◌, List, [], ◌∷◌, ◌++◌, inl, inr, sym, ◌∙◌, subst}
use Rattle.std.specs.Prelude.{nat_eq}
use Rattle.std.proofs.lemmas.Bool.{or_cases, or_left, or_right, eqb-true}
use Rattle.graph_model.specs.Ids.{has}
use Rattle.graph_model.proofs.IdSets.{has_append}
use Rattle.lazy_refs.specs.Walks.{AreKnown, IsNext}

-- of the first list, what is not done is left, and nothing else
pub record IsLeft (done first left : List ℕ) : Type 0 where
  pub known : (x : ℕ) → has x first ≡ true → (has x done || has x left) ≡ true
  pub within : (x : ℕ) → has x left ≡ true → has x first ≡ true

pub all_left : (done first : List ℕ) → IsLeft done first first
all_left done first = record { known = λ x h. or_right (has x done) (has x first) h; within = λ x h. h }

in_front : (front back : List ℕ) (x : ℕ) → has x front ≡ true → has x (front ++ back) ≡ true
in_front front back x h = has_append x front back ∙ or_left (has x front) (has x back) h

-- the last one is done
pub last_done : (done first front : List ℕ) (id : ℕ) → IsLeft done first (front ++ id ∷ []) → has id done ≡ true → IsLeft done first front
last_done done first front id l is = record {
  known = λ x h. elim (or_cases (has x done) (has x (front ++ id ∷ [])) (l.known x h)) [
    | inl old ↦ or_left (has x done) (has x front) old
    | inr new ↦ elim (or_cases (has x front) (has x (id ∷ [])) (sym (has_append x front (id ∷ [])) ∙ new)) [
      | inl there ↦ or_right (has x done) (has x front) there
      | inr last ↦ or_left (has x done) (has x front) (one x last)
    ]
  ];
  within = λ x h. l.within x (in_front front (id ∷ []) x h);
}
  where
    one : (x : ℕ) → has x (id ∷ []) ≡ true → has x done ≡ true
    one x h = elim (or_cases (nat_eq x id) false h) [
      | inl same ↦ subst (λ (y : ℕ). has y done ≡ true) (sym (eqb-true x id same)) is
      | inr never ↦ absurd cc
    ]

pub last_fresh : (done first front : List ℕ) (id : ℕ) → IsLeft done first (front ++ id ∷ []) → has id done ≡ false → IsNext done first front id
last_fresh done first front id l is = record { fresh = is; known = l.known; within = l.within }

pub none_left : (done first : List ℕ) → IsLeft done first [] → AreKnown done first
none_left done first l x h = elim (or_cases (has x done) false (l.known x h)) [
  | inl there ↦ there
  | inr never ↦ absurd cc
]
