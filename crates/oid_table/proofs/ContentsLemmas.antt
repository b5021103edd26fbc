-- The map that slots hold, after a change of one slot.
use Rattle.std.proofs.Common.{◌≡◌, ◌≢◌, ℕ, zero, suc, inl, inr, List, [], ◌∷◌, set, Some, None, slice_get, refl, sym, ap, ◌∙◌}
use Rattle.std.specs.Ordering.{nat_cmp}
use Rattle.std.specs.FinMap.{get, insert, empty, get-empty}
use Rattle.std.proofs.lemmas.Bool.{cases_eq}
use Rattle.oid_table.specs.declared.slot.Slot.{Slot}
use Rattle.oid_table.specs.declared.slot.Slot.TheVariants.{Empty, Full}
use Rattle.oid_table.specs.Slots.{Holds, Lacks, contents_of}
use Rattle.oid_table.specs.MapLaws.{get-insert_same, get-insert_other, insert-insert_other}

module _ {V : Type 0} where
  -- the rest of the slots lacks what all lack
  Lacks-rest : (s : Slot V) (rest : List (Slot V)) (key : ℕ) → Lacks (s ∷ rest) key → Lacks rest key
  Lacks-rest s rest key lacks place held = lacks (suc place) (record { value = held.value; full = held.full })

  pub get-lacks : (slots : List (Slot V)) (key : ℕ) → Lacks slots key → get (contents_of slots) key ≡ None
  get-lacks [] key lacks = get-empty nat_cmp key
  get-lacks (Empty ∷ rest) key lacks = get-lacks rest key (Lacks-rest _ rest key lacks)
  get-lacks (Full k v ∷ rest) key lacks =
      get-insert_other (contents_of rest) k v key (λ same. lacks 0 (record { value = v; full = ap (λ q. Some (Full q v)) (sym same) }))
      ∙ get-lacks rest key (Lacks-rest _ rest key lacks)

  -- a key that stands somewhere is in the map
  pub get-holds : (slots : List (Slot V)) (place key : ℕ) → Holds slots place key → get (contents_of slots) key ≢ None
  get-holds [] place key held absent = let full = held.full in cc
  get-holds (Empty ∷ rest) zero key held absent = let full = held.full in cc
  get-holds (Empty ∷ rest) (suc place) key held absent = get-holds rest place key (record { value = held.value; full = held.full }) absent
  get-holds (Full k v ∷ rest) zero key held absent = let full = held.full in let had = get-insert_same (contents_of rest) k v in cc
  get-holds (Full k v ∷ rest) (suc place) key held absent =
      elim (cases_eq key k) [
        | inl same ↦ let had = get-insert_same (contents_of rest) k v in cc
        | inr differs ↦ get-holds rest place key (record { value = held.value; full = held.full }) (sym (get-insert_other (contents_of rest) k v key differs) ∙ absent)
      ]

  pub Lacks-from_get : (slots : List (Slot V)) (key : ℕ) → get (contents_of slots) key ≡ None → Lacks slots key
  Lacks-from_get slots key absent place held = get-holds slots place key held absent

  -- a key that stands nowhere is put into an empty slot
  pub contents_of-set_new : (slots : List (Slot V)) (place key : ℕ) (value : V) → slice_get slots place ≡ Some Empty → Lacks slots key → contents_of (set slots place (Full key value)) ≡ insert (contents_of slots) key value
  contents_of-set_new [] place key value empty lacks = cc
  contents_of-set_new (Empty ∷ rest) zero key value empty lacks = refl
  contents_of-set_new (Full k v ∷ rest) zero key value empty lacks = cc
  contents_of-set_new (Empty ∷ rest) (suc place) key value empty lacks = contents_of-set_new rest place key value empty (Lacks-rest _ rest key lacks)
  contents_of-set_new (Full k v ∷ rest) (suc place) key value empty lacks =
      ap (λ m. insert m k v) (contents_of-set_new rest place key value empty (Lacks-rest _ rest key lacks))
      ∙ sym (insert-insert_other (contents_of rest) k v key value (λ same. lacks 0 (record { value = v; full = ap (λ q. Some (Full q v)) same })))

  -- a key that is taken from its slot and put back into the map
  pub insert-contents_of_taken : (slots : List (Slot V)) (place key : ℕ) (value : V) → slice_get slots place ≡ Some (Full key value) → Lacks (set slots place Empty) key
      → insert (contents_of (set slots place Empty)) key value ≡ contents_of slots
  insert-contents_of_taken [] place key value full lacks = cc
  insert-contents_of_taken (Empty ∷ rest) zero key value full lacks = cc
  insert-contents_of_taken (Full k v ∷ rest) zero key value full lacks = cc
  insert-contents_of_taken (Empty ∷ rest) (suc place) key value full lacks = insert-contents_of_taken rest place key value full (Lacks-rest _ (set rest place Empty) key lacks)
  insert-contents_of_taken (Full k v ∷ rest) (suc place) key value full lacks =
      insert-insert_other (contents_of (set rest place Empty)) k v key value (λ same. lacks 0 (record { value = v; full = ap (λ q. Some (Full q v)) same }))
      ∙ ap (λ m. insert m k v) (insert-contents_of_taken rest place key value full (Lacks-rest _ (set rest place Empty) key lacks))
