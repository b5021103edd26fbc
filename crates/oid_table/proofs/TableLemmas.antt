-- How each call of a table keeps its slots sound, and what it shows of them.
use Rattle.std.proofs.Common.{◌≡◌, ◌≢◌, ℕ, zero, suc, ◌+◌, ◌-◌, ◌/◌, ◌<◌, ◌≤◌, List, [], ◌∷◌, ◌++◌, false, take, map, length, set, Option, Some, None, IsSome, Result, Ok, Err, slice_get, get_or, cond, count_by, inl, inr, refl, sym, ap, subst, ◌∙◌, arith, length-set}
use Rattle.std.specs.Prelude.{slice_index_or, IfSome, IfNone, is_some, ok_or, option_map}
use Rattle.std.specs.Result.{result_ok}
use Rattle.std.proofs.Common.{true≢false}
use Rattle.std.proofs.lemmas.Bool.{cases_eq, cases_lt}
use Rattle.std.proofs.lemmas.List.{length-map, get_or-map, set-set}
use Rattle.std.proofs.lemmas.List.Sums.{sum_by-set}
use Rattle.std.proofs.lemmas.Option.{slice_get_within, get_or_from_slice_get}
use Rattle.std.proofs.Math.Seq.{map-set_same, take-append_seam}
use Rattle.std.specs.Ordering.{nat_cmp}
use Rattle.std.specs.FinMap.{FinMap, get, insert, remove, len, empty, get-empty, empty_of_len}
use Rattle.oid_table.specs.declared.slot.Slot.{Slot}
use Rattle.oid_table.specs.declared.slot.Slot.TheVariants.{Empty, Full}
use Rattle.oid_table.specs.MapLaws.{get-insert_same, get-insert_other, insert-insert_same, remove-insert_new, len-insert_new, len-insert_old, len-remove_old}
use Rattle.oid_table.specs.Slots.{key_of, entry_of, Holds, Lacks, HasEmpty, HasOtherEmpty, contents_of, is_full}
use Rattle.oid_table.specs.Sound.{IsReached, IsReachedBut, IsFree, IsSearched, IsSound}
use Rattle.oid_table.specs.Table.{Table, IsPlaced, KeepsPlaces}
use Rattle.oid_table.proofs.SlotLemmas.{not_empty, one_key, Holds-within, Holds-before_set, Holds-after_set, IsPassed-after_set, filled_key, slice_get-set_same, slice_get-set_other, lacks_taken, count-fill, count-empty, HasEmpty-from_count}
use Rattle.oid_table.proofs.ReachLemmas.{unique, IsReached-fill, ComesBefore-same}
use Rattle.oid_table.proofs.ContentsLemmas.{get-lacks, contents_of-set_new, insert-contents_of_taken}

-- what is so of a value that is shown is so of the value as it is shown
IfSome-from_map : {A B : Type 0} (f : A → B) (P : B → Type 0) (r : Option A) → IfSome (option_map f r) P → IfSome r (λ a. P (f a))
IfSome-from_map f P (Some a) holds = holds
IfSome-from_map f P None holds = tt

-- the value that a `?` took out of an option
some_from_ok : {A E : Type 0} (o : Option A) (e : E) (x : A) → Ok x ≡ ok_or o e → o ≡ Some x
some_from_ok (Some y) e x is = cc
some_from_ok None e x is = cc

pub IfSome-from_ok : {A E : Type 0} (P : A → Type 0) (o : Option A) (e : E) (x : A) → Ok x ≡ ok_or o e → IfSome o P → P x
IfSome-from_ok P o e x is holds = rw (some_from_ok o e x is) at holds

-- slots that are written back whole
pub written_back : {A : Type 0} (n : ℕ) (xs ys : List A) → length xs ≡ n → take n (xs ++ ys) ≡ xs
written_back n xs ys same = subst (λ m. take m (xs ++ ys) ≡ xs) same (take-append_seam xs ys)

module _ {V : Type 0} where
  -- the keys that the places show
  pub key_at-holds : (slots : List (Slot V)) (place key : ℕ) → Holds slots place key → slice_index_or (map key_of slots) place None ≡ Some key
  key_at-holds slots place key held =
      get_or-map key_of slots place Empty None (Holds-within slots place key held) ∙ ap key_of (get_or_from_slice_get slots place _ Empty held.full)

  pub Holds-from_key_at : (slots : List (Slot V)) (place key : ℕ) → slice_index_or (map key_of slots) place None ≡ Some key → Holds slots place key
  Holds-from_key_at [] place key shown = cc
  Holds-from_key_at (Empty ∷ rest) zero key shown = cc
  Holds-from_key_at (Full k v ∷ rest) zero key shown = record { value = v; full = let same : k ≡ key = cc in ap (λ q. Some (Full q v)) same }
  Holds-from_key_at (s ∷ rest) (suc place) key shown = let later = Holds-from_key_at rest place key shown in record { value = later.value; full = later.full }

  -- a place that shows a key is full
  pub full_at : (slots : List (Slot V)) (place : ℕ) → IsSome (slice_index_or (map key_of slots) place None) → (key : ℕ) × Holds slots place key
  full_at [] place shown = absurd (true≢false (sym shown))
  full_at (Empty ∷ rest) zero shown = absurd (true≢false (sym shown))
  full_at (Full k v ∷ rest) zero shown = (k, record { value = v; full = refl })
  full_at (s ∷ rest) (suc place) shown = let later = full_at rest place shown in (later.0, record { value = later.1.value; full = later.1.full })

  -- a key of the map stands somewhere
  pub stands : (slots : List (Slot V)) (key : ℕ) → get (contents_of slots) key ≢ None → (place : ℕ) × Holds slots place key
  stands [] key present = absurd (present (get-empty nat_cmp key))
  stands (Empty ∷ rest) key present = let later = stands rest key present in (suc later.0, record { value = later.1.value; full = later.1.full })
  stands (Full k v ∷ rest) key present =
      elim (cases_eq key k) [
        | inl same ↦ (0, record { value = v; full = ap (λ q. Some (Full q v)) (sym same) })
        | inr differs ↦
            let later = stands rest key (λ none. present (get-insert_other (contents_of rest) k v key differs ∙ none)) in
            (suc later.0, record { value = later.1.value; full = later.1.full })
      ]

  module _ (slots : List (Slot V)) (reached : IsReached slots) (place key : ℕ) (value : V) (full : slice_get slots place ≡ Some (Full key value)) where
    held_here : Holds slots place key
    held_here = record { value = value; full = full }

    pub lacks_once_taken : Lacks (set slots place Empty) key
    lacks_once_taken = lacks_taken slots place key value (slice_get_within slots place _ full) full (λ at held. unique slots key at place reached held held_here)

    pub taken_and_back : insert (contents_of (set slots place Empty)) key value ≡ contents_of slots
    taken_and_back = insert-contents_of_taken slots place key value full lacks_once_taken

    -- the map has the value that stands at a key's place
    pub get-full : get (contents_of slots) key ≡ Some value
    get-full = ap (λ m. get m key) (sym taken_and_back) ∙ get-insert_same (contents_of (set slots place Empty)) key value

    pub contents_of-taken : contents_of (set slots place Empty) ≡ remove (contents_of slots) key
    contents_of-taken =
        let m = contents_of (set slots place Empty) in
        sym (ap (λ n. remove n key) (sym taken_and_back) ∙ remove-insert_new m key value (get-lacks (set slots place Empty) key lacks_once_taken))

    -- the key is given another value
    pub contents_of-rewrite : (other : V) → contents_of (set slots place (Full key other)) ≡ insert (contents_of slots) key other
    contents_of-rewrite other =
        let taken = set slots place Empty in
        let empty = slice_get-set_same slots place Empty (slice_get_within slots place _ full) in
        ap contents_of (sym (set-set slots place Empty (Full key other)))
        ∙ contents_of-set_new taken place key other empty lacks_once_taken
        ∙ sym (ap (λ m. insert m key other) (sym taken_and_back) ∙ insert-insert_same (contents_of taken) key value other)

    Holds-before_rewrite : (other : V) (at k : ℕ) → Holds (set slots place (Full key other)) at k → Holds slots at k
    Holds-before_rewrite other at k held =
        elim (cases_eq at place) [
          | inl here ↦
              let is_key = filled_key slots place key other k (slice_get_within slots place _ full) (subst (λ p. Holds (set slots place (Full key other)) p k) here held) in
              subst (λ p. Holds slots p k) (sym here) (subst (λ q. Holds slots place q) (sym is_key) held_here)
          | inr elsewhere ↦ Holds-before_set slots place _ at k elsewhere held
        ]

    Holds-after_rewrite : (other : V) (at k : ℕ) → Holds slots at k → Holds (set slots place (Full key other)) at k
    Holds-after_rewrite other at k held =
        elim (cases_eq at place) [
          | inl here ↦
              let is_key = one_key slots place k key (subst (λ p. Holds slots p k) here held) held_here in
              let written = slice_get-set_same slots place (Full key other) (slice_get_within slots place _ full) in
              subst (λ p. Holds (set slots place (Full key other)) p k) (sym here) (record { value = other; full = written ∙ ap (λ q. Some (Full q other)) (sym is_key) })
          | inr elsewhere ↦ Holds-after_set slots place _ at k elsewhere held
        ]

    count-rewrite : (other : V) → count_by is_full (set slots place (Full key other)) ≡ count_by is_full slots
    count-rewrite other =
        let counted = sum_by-set (λ (s : Slot V). cond {A = ℕ} (is_full s) 1 0) slots place (Full key other) Empty (slice_get_within slots place _ full) in
        let before : cond {A = ℕ} (is_full (get_or slots place Empty)) 1 0 ≡ 1 = ap (λ (s : Slot V). cond {A = ℕ} (is_full s) 1 0) (get_or_from_slice_get slots place (Full key value) Empty full) in
        omega arith

    pub IsSound-rewrite : (other : V) (kept spare : ℕ) → IsSound slots kept spare → IsSound (set slots place (Full key other)) kept spare
    IsSound-rewrite other kept spare sound =
        let same = length-set slots place (Full key other) in
        record {
          reached = λ at k x held x_in before.
              let passed = reached at k x (Holds-before_rewrite other at k held) (subst (λ n. x < n) same x_in) (ComesBefore-same slots _ k x at same before) in
              record { other = passed.other; held = Holds-after_rewrite other x passed.other passed.held; differs = passed.differs };
          counted = count-rewrite other ∙ sound.counted;
          sized = ap len (contents_of-rewrite other) ∙ len-insert_old (contents_of slots) key value other get-full ∙ sound.sized;
          room = subst (λ n. kept + spare ≤ n - 1) (sym same) sound.room;
        }

    pub keys-rewrite : (other : V) → map key_of (set slots place (Full key other)) ≡ map key_of slots
    keys-rewrite other = map-set_same key_of slots place (Full key other) Empty (sym (ap key_of (get_or_from_slice_get slots place _ Empty full)))

  module _ (slots : List (Slot V)) (kept spare : ℕ) (sound : IsSound slots kept spare) where
    -- a table that has places has an empty one
    pub HasEmpty-sound : 0 < length slots → HasEmpty slots
    HasEmpty-sound some = let counted = sound.counted in let room = sound.room in HasEmpty-from_count slots (omega arith)

    -- a new key goes where the search for it ends
    pub IsSound-fill : (place key : ℕ) (value : V) → IsFree slots place key → Lacks slots key → 0 < spare → IsSound (set slots place (Full key value)) (kept + 1) (spare - 1)
    IsSound-fill place key value free lacks some =
        let same = length-set slots place (Full key value) in
        let room = sound.room in
        record {
          reached = IsReached-fill slots place key value sound.reached free;
          counted = count-fill slots place key value free.empty ∙ ap (λ n. n + 1) sound.counted;
          sized = ap len (contents_of-set_new slots place key value free.empty lacks) ∙ len-insert_new (contents_of slots) key value (get-lacks slots key lacks) ∙ ap (λ n. n + 1) sound.sized;
          room = omega arith;
        }

  -- tables with the same parts are one table
  pub same_table : (m n : FinMap nat_cmp V) (keys others : List (Option ℕ)) (spare : ℕ) → m ≡ n → keys ≡ others
      → ◌≡◌ {A = Table V} (record { contents = m; keys = keys; spare = spare }) (record { contents = n; keys = others; spare = spare })
  same_table m n keys others spare same_map same_keys = λ i. record { contents = same_map i; keys = same_keys i; spare = spare }

  module _ (slots : List (Slot V)) (key : ℕ) where
    -- what a search says of the key's place
    pub found_place : (r : Result ℕ ℕ) → IsSearched slots key r → IfSome (result_ok r) (λ place. slice_index_or (map key_of slots) place None ≡ Some key)
    found_place (Ok place) held = key_at-holds slots place key held
    found_place (Err place) free = tt

    pub absent_place : (r : Result ℕ ℕ) → IsSearched slots key r → IfNone (result_ok r) (get (contents_of slots) key ≡ None)
    absent_place (Ok place) held = tt
    absent_place (Err place) free = get-lacks slots key free.1

  -- each key of the map stands at one place
  pub IsPlaced-view : (slots : List (Slot V)) (spare : ℕ) → IsReached slots → IsPlaced (record { contents = contents_of slots; keys = map key_of slots; spare = spare })
  IsPlaced-view slots spare reached = record {
    stands = λ key present.
        let found = stands slots key (λ none. true≢false (sym present ∙ ap is_some none)) in
        (found.0, subst (λ n. found.0 < n) (sym (length-map slots key_of)) (Holds-within slots found.0 key found.1), key_at-holds slots found.0 key found.1);
    once = λ key p q at_p at_q. unique slots key p q reached (Holds-from_key_at slots p key at_p) (Holds-from_key_at slots q key at_q);
    listed = λ key place shown. let held = Holds-from_key_at slots place key shown in ap is_some (get-full slots reached place key held.value held.full);
  }

  -- the entry of a place
  pub entry_value : (slots : List (Slot V)) (place : ℕ) (s : Slot V) → IsReached slots → slice_get slots place ≡ Some s → IfSome (entry_of s) (λ entry. get (contents_of slots) entry.0 ≡ Some entry.1)
  entry_value slots place Empty reached at = tt
  entry_value slots place (Full key value) reached at = get-full slots reached place key value at

  -- what was read at a place is in the map
  pub read_entry : (slots : List (Slot V)) (place : ℕ) (s : Slot V) {A : Type 0} (show : A → ℕ × V) (r : Option A) → IsReached slots → slice_get slots place ≡ Some s
      → option_map show r ≡ entry_of s → IfSome r (λ entry. get (contents_of slots) (show entry).0 ≡ Some (show entry).1)
  read_entry slots place s show r reached at shown =
      let P : ℕ × V → Type 0 = λ e. get (contents_of slots) e.0 ≡ Some e.1 in
      IfSome-from_map show P r (rw shown (entry_value slots place s reached at))

  -- a table with no key has no value
  pub get-none : (m : FinMap nat_cmp V) (key : ℕ) → len m ≡ 0 → get m key ≡ None
  get-none m key none = ap (λ n. get n key) (empty_of_len m none) ∙ get-empty nat_cmp key

  module _ (slots : List (Slot V)) (kept spare : ℕ) (sound : IsSound slots kept spare) where
    -- a table that has the key, or room for it, has places
    pub some_places : (key : ℕ) → (is_some (get (contents_of slots) key) ≡ false → 0 < spare) → 0 < length slots
    some_places key room_if_new =
        elim (cases_lt 0 (length slots)) [
          | inl some ↦ some
          | inr none ↦
              let room = sound.room in
              let nothing : len (contents_of slots) ≡ 0 = sound.sized ∙ omega arith in
              let more = room_if_new (ap is_some (get-none (contents_of slots) key nothing)) in
              absurd (omega arith)
        ]

    module _ (place key : ℕ) (value : V) (full : slice_get slots place ≡ Some (Full key value)) where
      pub gap_is_empty : slice_get (set slots place Empty) place ≡ Some Empty
      gap_is_empty = slice_get-set_same slots place Empty (slice_get_within slots place _ full)

      -- a search may come by the place of a key that was taken
      pub IsReachedBut-take : IsReachedBut place (set slots place Empty)
      IsReachedBut-take at k x held x_in before =
          let same = length-set slots place Empty in
          let elsewhere : at ≢ place = λ here. not_empty (set slots place Empty) place k gap_is_empty (subst (λ p. Holds (set slots place Empty) p k) here held) in
          let passed = sound.reached at k x (Holds-before_set slots place Empty at k elsewhere held) (subst (λ n. x < n) same x_in) (ComesBefore-same slots _ k x at same before) in
          elim (cases_eq x place) [
            | inl here ↦ inl here
            | inr other ↦ inr (IsPassed-after_set slots place Empty x k other passed)
          ]

      pub HasOtherEmpty-take : HasOtherEmpty (set slots place Empty) place
      HasOtherEmpty-take =
          let within = slice_get_within slots place _ full in
          let some = HasEmpty-sound slots kept spare sound (omega arith) in
          let other : some.place ≢ place = λ here. let empty = some.empty in let at_place = ap (slice_get slots) here in cc in
          record { place = some.place; empty = slice_get-set_other slots place Empty some.place other ∙ some.empty; other = other }

      -- the slots once the gap is closed
      pub IsSound-take : (after : List (Slot V)) → IsReached after → contents_of after ≡ contents_of (set slots place Empty)
          → count_by is_full after ≡ count_by is_full (set slots place Empty) → length after ≡ length slots → IsSound after (kept - 1) (spare + 1)
      IsSound-take after reached contents count same =
          let fewer = count-empty slots place key value full in
          let counted = sound.counted in
          let room = sound.room in
          record {
            reached = reached;
            counted = omega arith;
            sized = ap len (contents ∙ contents_of-taken slots sound.reached place key value full)
                ∙ len-remove_old (contents_of slots) key value (get-full slots sound.reached place key value full) ∙ ap (λ n. n - 1) sound.sized;
            room = omega arith;
          }

  -- places before and after a value is replaced, and before and after a new key
  pub KeepsPlaces-same : (old new : Table V) → new.keys ≡ old.keys → KeepsPlaces old new
  KeepsPlaces-same old new same = record { count = ap length same; stays = λ key place shown. ap (λ ks. slice_index_or ks place None) same ∙ shown }

  pub KeepsPlaces-fill : (slots : List (Slot V)) (place key : ℕ) (value : V) (m n : FinMap nat_cmp V) (spare spare' : ℕ) → slice_get slots place ≡ Some Empty
      → KeepsPlaces (record { contents = m; keys = map key_of slots; spare = spare }) (record { contents = n; keys = map key_of (set slots place (Full key value)); spare = spare' })
  KeepsPlaces-fill slots place key value m n spare spare' empty = record {
    count = length-map (set slots place (Full key value)) key_of ∙ length-set slots place (Full key value) ∙ sym (length-map slots key_of);
    stays = λ k at shown.
        let held = Holds-from_key_at slots at k shown in
        let other : at ≢ place = λ here. not_empty slots place k empty (subst (λ p. Holds slots p k) here held) in
        key_at-holds (set slots place (Full key value)) at k (Holds-after_set slots place _ at k other held);
  }

  -- the slots after a refill
  pub IsSound-refill : (slots after : List (Slot V)) (kept spare places : ℕ) → IsSound slots kept spare → IsReached after → contents_of after ≡ contents_of slots → count_by is_full after ≡ count_by is_full slots
      → length after ≡ places → 8 ≤ places → kept ≤ places - places / 4 → IsSound after kept (places - places / 4 - kept)
  IsSound-refill slots after kept spare places sound reached contents count same several enough = record {
    reached = reached;
    counted = count ∙ sound.counted;
    sized = ap len contents ∙ sound.sized;
    room = omega arith;
  }
