-- What a search among slots has shown once it has passed some places.
use Rattle.std.proofs.Common.{◌≡◌, ◌≢◌, ℕ, ◌+◌, ◌<◌, ◌⊎◌, inl, inr, List, length, Some, slice_get, sym, subst, arith, set, length-set}
use Rattle.std.proofs.lemmas.Option.{slice_get_within}
use Rattle.std.proofs.lemmas.Bool.{cases_lt, cases_eq}
use Rattle.oid_table.specs.declared.slot.Slot.{Slot}
use Rattle.oid_table.specs.declared.slot.Slot.TheVariants.{Empty, Full}
use Rattle.oid_table.specs.Distances.{distance, home_of, next_place}
use Rattle.oid_table.specs.Slots.{Holds, Lacks, IsPassed, HasEmpty}
use Rattle.oid_table.specs.Sound.{ComesBefore, IsReached}
use Rattle.oid_table.specs.Sound.{IsFree}
use Rattle.oid_table.proofs.SlotLemmas.{not_empty, one_key, Holds-within, Holds-before_set, IsPassed-after_set, filled_key}
use Rattle.oid_table.proofs.DistanceLemmas.{distance-lt, distance-injective, distance-next_place, home_of-lt}

module _ {V : Type 0} where
  -- the distance of a place from the home of a key
  abbrev away : List (Slot V) → ℕ → ℕ → ℕ
  away slots key place = distance (length slots) (home_of (length slots) key) place

  -- the place is one of the first, this one, or a later one
  order : (slots : List (Slot V)) (key a b : ℕ) → a < length slots → b < length slots → ComesBefore slots key a b ⊎ ((a ≡ b) ⊎ ComesBefore slots key b a)
  order slots key a b a_in b_in =
      elim (cases_lt (away slots key a) (away slots key b)) [
        | inl before ↦ inl before
        | inr not_before ↦ elim (cases_lt (away slots key b) (away slots key a)) [
          | inl after ↦ inr (inr after)
          | inr not_after ↦ inr (inl (distance-injective (length slots) (home_of (length slots) key) a b (home_of-lt (length slots) key (omega arith)) a_in b_in (omega arith)))
        ]
      ]

  -- a key is nowhere, where the search for it ends at an empty place
  pub Lacks-from_empty : (slots : List (Slot V)) (place key : ℕ) → IsReached slots → slice_get slots place ≡ Some Empty
      → ((x : ℕ) → x < length slots → ComesBefore slots key x place → IsPassed slots x key) → Lacks slots key
  Lacks-from_empty slots place key reached empty passed at held =
      let at_in = slice_get_within slots at _ held.full in
      let place_in = slice_get_within slots place _ empty in
      elim (order slots key at place at_in place_in) [
        | inl before ↦ let other = passed at at_in before in other.differs (one_key slots at _ _ other.held held)
        | inr (inl same) ↦ not_empty slots place key empty (subst (λ p. Holds slots p key) same held)
        | inr (inr after) ↦ let other = reached at key place held place_in after in not_empty slots place _ empty other.held
      ]

  module _ (slots : List (Slot V)) (place key other : ℕ) (inside : place < length slots) (held : Holds slots place other) (differs : other ≢ key)
      (passed : (x : ℕ) → x < length slots → ComesBefore slots key x place → IsPassed slots x key) where
    -- the place is not the last one of the search, where there is an empty one
    pub goes_on : HasEmpty slots → away slots key place + 1 < length slots
    goes_on some_empty =
        let empty_in = slice_get_within slots some_empty.place _ some_empty.empty in
        let near = distance-lt (length slots) (home_of (length slots) key) some_empty.place (home_of-lt (length slots) key (omega arith)) empty_in in
        elim (order slots key some_empty.place place empty_in inside) [
          | inl before ↦ absurd (not_empty slots some_empty.place _ some_empty.empty (passed some_empty.place empty_in before).held)
          | inr (inl same) ↦ absurd (not_empty slots some_empty.place _ some_empty.empty (subst (λ p. Holds slots p other) (sym same) held))
          | inr (inr after) ↦ omega arith
        ]

    -- with one place more
    pub passed_more : HasEmpty slots → (x : ℕ) → x < length slots → ComesBefore slots key x (next_place (length slots) place) → IsPassed slots x key
    passed_more some_empty x x_in before =
        let further = distance-next_place (length slots) (home_of (length slots) key) place (home_of-lt (length slots) key (omega arith)) inside (goes_on some_empty) in
        elim (order slots key x place x_in inside) [
          | inl earlier ↦ passed x x_in earlier
          | inr (inl same) ↦ subst (λ p. IsPassed slots p key) (sym same) (record { other = other; held = held; differs = differs })
          | inr (inr later) ↦ absurd (omega arith)
        ]

  -- the order of two places is the same with as many slots
  pub ComesBefore-same : (slots others : List (Slot V)) (key a b : ℕ) → length others ≡ length slots → ComesBefore others key a b → ComesBefore slots key a b
  ComesBefore-same slots others key a b same before =
      subst (λ n. distance n (home_of n key) a < distance n (home_of n key) b) same before

  -- no key stands at two places
  pub unique : (slots : List (Slot V)) (key a b : ℕ) → IsReached slots → Holds slots a key → Holds slots b key → a ≡ b
  unique slots key a b reached at_a at_b =
      elim (order slots key a b (Holds-within slots a key at_a) (Holds-within slots b key at_b)) [
        | inl before ↦ let other = reached b key a at_b (Holds-within slots a key at_a) before in absurd (other.differs (one_key slots a _ _ other.held at_a))
        | inr (inl same) ↦ same
        | inr (inr after) ↦ let other = reached a key b at_a (Holds-within slots b key at_b) after in absurd (other.differs (one_key slots b _ _ other.held at_b))
      ]

  -- a new key where the search for it ends
  pub IsReached-fill : (slots : List (Slot V)) (place key : ℕ) (value : V) → IsReached slots → IsFree slots place key → IsReached (set slots place (Full key value))
  IsReached-fill slots place key value reached free at k x held x_in before =
      let same = length-set slots place (Full key value) in
      let inside = slice_get_within slots place _ free.empty in
      let before' = ComesBefore-same slots _ k x at same before in
      let x_in' : x < length slots = subst (λ n. x < n) same x_in in
      let passed : IsPassed slots x k =
      elim (cases_eq at place) [
        | inl here ↦
            let is_key = filled_key slots place key value k inside (subst (λ p. Holds (set slots place (Full key value)) p k) here held) in
            subst (λ q. IsPassed slots x q) (sym is_key) (free.passed x x_in' (subst (λ q. ComesBefore slots q x place) is_key (subst (λ p. ComesBefore slots k x p) here before')))
        | inr elsewhere ↦ reached at k x (Holds-before_set slots place _ at k elsewhere held) x_in' before'
      ] in
      IsPassed-after_set slots place _ x k (λ here. not_empty slots place _ free.empty (subst (λ p. Holds slots p passed.other) here passed.held)) passed
