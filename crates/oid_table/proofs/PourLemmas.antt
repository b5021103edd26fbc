-- How the keys of old slots go into new ones, the last slot first.
use Rattle.std.proofs.Common.{◌≡◌, ◌≢◌, ℕ, zero, suc, ◌+◌, ◌<◌, List, [], ◌∷◌, ◌++◌, length, replicate, None, cond, count_by, refl, sym, ap, subst, ◌∙◌, arith, append_assoc, append-nil}
use Rattle.std.proofs.lemmas.List.Sums.{sum_by-append, sum_by-cons}
use Rattle.std.specs.FinMap.{get, insert}
use Rattle.oid_table.specs.declared.slot.Slot.{Slot}
use Rattle.oid_table.specs.declared.slot.Slot.TheVariants.{Empty, Full}
use Rattle.oid_table.specs.MapLaws.{get-insert_other}
use Rattle.oid_table.specs.Slots.{Holds, HasEmpty, contents_of, is_full}
use Rattle.oid_table.specs.Sound.{IsReached}
use Rattle.oid_table.proofs.SlotLemmas.{Holds-within, HasEmpty-from_count}
use Rattle.oid_table.proofs.ContentsLemmas.{get-lacks}
use Rattle.oid_table.proofs.ReachLemmas.{unique}

-- no empty slot counts as full
count-blank : (V : Type 0) (n : ℕ) → count_by (is_full {V = V}) (replicate n Empty) ≡ 0
count-blank V zero = refl
count-blank V (suc n) =
    let none = count-blank V n in
    let sum = sum_by-cons (λ (s : Slot V). cond {A = ℕ} (is_full s) 1 0) Empty (replicate n Empty) in
    omega arith

module _ {V : Type 0} where
  -- the new slots hold what the old ones held, but for those that are left
  pub record IsPoured (all rest slots : List (Slot V)) : Type 0 where
    pub reached : IsReached slots
    pub poured : contents_of (rest ++ slots) ≡ contents_of all
    pub counted : count_by is_full slots + count_by is_full rest ≡ count_by is_full all
    pub part : (place key : ℕ) → Holds rest place key → Holds all place key
    pub apart : (place key : ℕ) → Holds rest place key → get (contents_of slots) key ≡ None

  -- lists in front of slots that hold the same
  contents_of-append : (rest xs ys : List (Slot V)) → contents_of xs ≡ contents_of ys → contents_of (rest ++ xs) ≡ contents_of (rest ++ ys)
  contents_of-append [] xs ys same = same
  contents_of-append (Empty ∷ rest) xs ys same = contents_of-append rest xs ys same
  contents_of-append (Full k v ∷ rest) xs ys same = ap (λ m. insert m k v) (contents_of-append rest xs ys same)

  contents_of-blank : (n : ℕ) → contents_of (replicate {A = Slot V} n Empty) ≡ contents_of []
  contents_of-blank zero = refl
  contents_of-blank (suc n) = contents_of-blank n

  blank_holds_nothing : (n place key : ℕ) → Holds (replicate {A = Slot V} n Empty) place key → ⊥
  blank_holds_nothing zero place key held = let full = held.full in cc
  blank_holds_nothing (suc n) zero key held = let full = held.full in cc
  blank_holds_nothing (suc n) (suc place) key held = blank_holds_nothing n place key (record { value = held.value; full = held.full })

  Holds-front : (rest more : List (Slot V)) (place key : ℕ) → Holds rest place key → Holds (rest ++ more) place key
  Holds-front [] more place key held = let full = held.full in absurd cc
  Holds-front (s ∷ rest) more zero key held = record { value = held.value; full = held.full }
  Holds-front (s ∷ rest) more (suc place) key held =
      let later = Holds-front rest more place key (record { value = held.value; full = held.full }) in
      record { value = later.value; full = later.full }

  Holds-last : (rest : List (Slot V)) (key : ℕ) (value : V) → Holds (rest ++ Full key value ∷ []) (length rest) key
  Holds-last [] key value = record { value = value; full = refl }
  Holds-last (s ∷ rest) key value = let later = Holds-last rest key value in record { value = later.value; full = later.full }

  pub IsPoured-start : (all slots : List (Slot V)) → slots ≡ replicate (length slots) Empty → IsPoured all all slots
  IsPoured-start all slots blank =
      let nothing : (place key : ℕ) → Holds slots place key → ⊥ = subst (λ xs. (place key : ℕ) → Holds xs place key → ⊥) (sym blank) (blank_holds_nothing (length slots)) in
      let none : count_by is_full slots ≡ 0 = ap (count_by is_full) blank ∙ count-blank V (length slots) in
      record {
        reached = λ place key x held. absurd (nothing place key held);
        poured = contents_of-append all slots [] (ap contents_of blank ∙ contents_of-blank (length slots)) ∙ ap contents_of (append-nil all);
        counted = omega arith;
        part = λ place key held. held;
        apart = λ place key held. get-lacks slots key (λ at there. nothing at key there);
      }

  module _ (all rest slots : List (Slot V)) where
    pub IsPoured-empty : IsPoured all (rest ++ Empty ∷ []) slots → IsPoured all rest slots
    IsPoured-empty p =
        let sum = sum_by-append (λ (s : Slot V). cond {A = ℕ} (is_full s) 1 0) rest (Empty ∷ []) in
        record {
          reached = p.reached;
          poured = contents_of-append rest slots (Empty ∷ slots) refl ∙ ap contents_of (sym (append_assoc rest (Empty ∷ []) slots)) ∙ p.poured;
          counted = let counted = p.counted in omega arith;
          part = λ place key held. p.part place key (Holds-front rest _ place key held);
          apart = λ place key held. p.apart place key (Holds-front rest _ place key held);
        }

    module _ (key : ℕ) (value : V) (p : IsPoured all (rest ++ Full key value ∷ []) slots) where
      pub is_new : get (contents_of slots) key ≡ None
      is_new = p.apart (length rest) key (Holds-last rest key value)

      counts : count_by is_full (rest ++ Full key value ∷ []) ≡ count_by is_full rest + 1
      counts = sum_by-append (λ (s : Slot V). cond {A = ℕ} (is_full s) 1 0) rest (Full key value ∷ []) ∙ omega arith

      pub has_room : count_by is_full all < length slots → HasEmpty slots
      has_room fewer = let counted = p.counted in let one = counts in HasEmpty-from_count slots (omega arith)

      pub IsPoured-full : IsReached all → (after : List (Slot V)) → IsReached after → contents_of after ≡ insert (contents_of slots) key value
          → count_by is_full after ≡ count_by is_full slots + 1 → IsPoured all rest after
      IsPoured-full all_reached after after_reached put one_more =
          let one = counts in
          record {
            reached = after_reached;
            poured = contents_of-append rest after (Full key value ∷ slots) put ∙ ap contents_of (sym (append_assoc rest (Full key value ∷ []) slots)) ∙ p.poured;
            counted = let counted = p.counted in omega arith;
            part = λ place k held. p.part place k (Holds-front rest _ place k held);
            apart = λ place k held.
                let last = p.part (length rest) key (Holds-last rest key value) in
                let there = p.part place k (Holds-front rest _ place k held) in
                let before = Holds-within rest place k held in
                let differs : k ≢ key = λ same. let at = unique all key place (length rest) all_reached (subst (λ q. Holds all place q) same there) last in omega arith in
                ap (λ m. get m k) put ∙ get-insert_other (contents_of slots) key value k differs ∙ p.apart place k (Holds-front rest _ place k held);
          }
