-- What a look-up by id finds once a pair was put in, taken out or moved to the front.
use Rattle.std.proofs.Common.{◌≡◌, ◌≢◌, ℕ, suc, ◌+◌, ◌-◌, ◌<◌, ◌≤◌, true, false, cond, List, [], ◌∷◌, length, take, Option, Some, None, Result, Ok, Err, IfSome, IfNone, OnOk, nat_eq, refl, sym, ap, subst, ◌∙◌, arith, inl, inr}
use Rattle.std.specs.List.{AllByRecursion, IsDistinct}
use Rattle.std.specs.Map.{keys_of, lookup_entry, remove_entry}
use Rattle.std.specs.Option.{option_map_or}
use Rattle.std.specs.Prelude.{slice_get}
use Rattle.std.proofs.lemmas.Bool.{cases_eq, cases_Bool}
use Rattle.std.proofs.lemmas.Bool.Decides.{nat_tests}
use Rattle.std.proofs.lemmas.List.{take_all}
use Rattle.lru.specs.LruCache.{LruCache, last_entry, lru_cache, promoted, put_entries}
use Rattle.entity_cache.specs.Contents.{AllStay, OthersStay, found_at, most_entries}

-- tests of ids
same_id : (id : ℕ) → nat_eq id id ≡ true
same_id id = grind (arith, nat_tests)

other_id : (id other : ℕ) → other ≢ id → nat_eq other id ≡ false
other_id id other differs = grind (arith, nat_tests)

is_id : (id key : ℕ) → nat_eq id key ≡ true → key ≡ id
is_id id key e = grind (arith, nat_tests)

module _ {C : Type 0} where
  -- a pair in front
  pub found_front : (contents : List (ℕ × C)) (id : ℕ) (content : C) → found_at ((id, content) ∷ contents) id ≡ Some content
  found_front contents id content = ap (λ b. cond b (Some content) (found_at contents id)) (same_id id)

  pub others_front : (contents : List (ℕ × C)) (id : ℕ) (content : C) → OthersStay id contents ((id, content) ∷ contents)
  others_front contents id content other differs = ap (λ b. cond b (Some content) (found_at contents other)) (other_id id other differs)

  -- other ids than the one that was taken out
  pub others_removed : (contents : List (ℕ × C)) (id : ℕ) → OthersStay id contents (remove_entry (nat_eq id) contents)
  others_removed [] id other differs = refl
  others_removed (e ∷ es) id other differs = elim (cases_Bool (nat_eq id e.0)) [
    | inl here ↦
        let miss : nat_eq other e.0 ≡ false = other_id e.0 other (λ same. differs (same ∙ is_id id e.0 here)) in
        rw (here, miss) refl
    | inr there ↦ rw there (ap (λ o. cond (nat_eq other e.0) (Some e.1) o) (others_removed es id other differs))
  ]

  lacks : (contents : List (ℕ × C)) (id : ℕ) → AllByRecursion (λ key. nat_eq id key ≡ false) (keys_of contents) → found_at contents id ≡ None
  lacks [] id none = refl
  lacks (e ∷ es) id none = rw none.0 (lacks es id none.1)

  -- the id itself, where each id stands once
  pub gone_removed : (contents : List (ℕ × C)) (id : ℕ) → IsDistinct nat_eq (keys_of contents) → found_at (remove_entry (nat_eq id) contents) id ≡ None
  unfolding IsDistinct
  gone_removed [] id once = refl
  gone_removed (e ∷ es) id once = elim (cases_Bool (nat_eq id e.0)) [
    | inl here ↦ rw here (lacks es id (subst (λ k. AllByRecursion (λ key. nat_eq k key ≡ false) (keys_of es)) (is_id id e.0 here) once.0))
    | inr there ↦ rw (there, there) (gone_removed es id once.1)
  ]

  -- what is found stands under its id
  entry_of : (contents : List (ℕ × C)) (id : ℕ) (e : ℕ × C) → lookup_entry (nat_eq id) contents ≡ Some e → (e.0 ≡ id) × (found_at contents id ≡ Some e.1)
  entry_of [] id e is = absurd cc
  entry_of (f ∷ fs) id e is = elim (cases_Bool (nat_eq id f.0)) [
    | inl here ↦
        let same : Some f ≡ Some e = rw here at is in
        let one : f ≡ e = cc in
        (sym (ap (λ p. p.0) one) ∙ is_id id f.0 here, rw here (ap (λ (p : ℕ × C). Some p.1) one))
    | inr there ↦ rw there (entry_of fs id e (rw there at is))
  ]

  -- a pair that moves to the front
  pub all_promoted : (contents : List (ℕ × C)) (id : ℕ) → AllStay contents (promoted (nat_eq id) contents)
  all_promoted contents id other = go (lookup_entry (nat_eq id) contents) refl
    where
      go : (o : Option (ℕ × C)) → lookup_entry (nat_eq id) contents ≡ o
          → found_at (option_map_or (λ e. e ∷ remove_entry (nat_eq id) contents) o contents) other ≡ found_at contents other
      go None is = refl
      go (Some e) is =
          let entry = entry_of contents id e is in
          elim (cases_eq other id) [
            | inl same ↦
                let own : nat_eq other e.0 ≡ true = subst (λ k. nat_eq other k ≡ true) (same ∙ sym entry.0) (same_id other) in
                rw own (sym entry.1 ∙ ap (found_at contents) (sym same))
            | inr differs ↦
                let miss : nat_eq other e.0 ≡ false = other_id e.0 other (λ same. differs (same ∙ entry.0)) in
                rw miss (others_removed contents id other differs)
          ]

  -- ---- the last pair

  -- behind the first of several pairs it is the last of the others
  last_behind : (f g e : ℕ × C) (es : List (ℕ × C)) → last_entry (f ∷ g ∷ es) ≡ Some e → last_entry (g ∷ es) ≡ Some e
  last_behind f g e es last =
      let place : length (f ∷ g ∷ es) - 1 ≡ suc (length (g ∷ es) - 1) = omega arith in
      subst (λ k. slice_get (f ∷ g ∷ es) k ≡ Some e) place last

  front_behind : (f g : ℕ × C) (es : List (ℕ × C)) → take (length (f ∷ g ∷ es) - 1) (f ∷ g ∷ es) ≡ f ∷ take (length (g ∷ es) - 1) (g ∷ es)
  front_behind f g es = let place : length (f ∷ g ∷ es) - 1 ≡ suc (length (g ∷ es) - 1) = omega arith in ap (λ k. take k (f ∷ g ∷ es)) place

  -- a later pair has another id
  apart : (f e : ℕ × C) (es : List (ℕ × C)) → AllByRecursion (λ key. nat_eq f.0 key ≡ false) (keys_of es) → found_at es e.0 ≡ Some e.1 → nat_eq e.0 f.0 ≡ false
  apart f e es once found = elim (cases_Bool (nat_eq e.0 f.0)) [
    | inl here ↦
        let none : found_at es e.0 ≡ None = subst (λ k. found_at es k ≡ None) (is_id e.0 f.0 here) (lacks es f.0 once) in
        absurd cc
    | inr there ↦ there
  ]

  pub last_found : (contents : List (ℕ × C)) (e : ℕ × C) → IsDistinct nat_eq (keys_of contents) → last_entry contents ≡ Some e → found_at contents e.0 ≡ Some e.1
  unfolding IsDistinct
  last_found [] e once last = absurd cc
  last_found (f ∷ []) e once last =
      let one : f ≡ e = cc in
      subst (λ (p : ℕ × C). found_at (p ∷ []) e.0 ≡ Some e.1) (sym one) (found_front [] e.0 e.1)
  last_found (f ∷ g ∷ es) e once last =
      let found = last_found (g ∷ es) e once.1 (last_behind f g e es last) in
      ap (λ b. cond b (Some f.1) (found_at (g ∷ es) e.0)) (apart f e (g ∷ es) once.0 found) ∙ found

  pub last_gone : (contents : List (ℕ × C)) (e : ℕ × C) → IsDistinct nat_eq (keys_of contents) → last_entry contents ≡ Some e
      → found_at (take (length contents - 1) contents) e.0 ≡ None
  unfolding IsDistinct
  last_gone [] e once last = absurd cc
  last_gone (f ∷ []) e once last = refl
  last_gone (f ∷ g ∷ es) e once last =
      let found = last_found (g ∷ es) e once.1 (last_behind f g e es last) in
      ap (λ xs. found_at xs e.0) (front_behind f g es)
      ∙ ap (λ b. cond b (Some f.1) (found_at (take (length (g ∷ es) - 1) (g ∷ es)) e.0)) (apart f e (g ∷ es) once.0 found)
      ∙ last_gone (g ∷ es) e once.1 (last_behind f g e es last)

  pub last_others : (contents : List (ℕ × C)) (e : ℕ × C) → last_entry contents ≡ Some e → OthersStay e.0 contents (take (length contents - 1) contents)
  last_others [] e last other differs = absurd cc
  last_others (f ∷ []) e last other differs =
      let one : f ≡ e = cc in
      let miss : nat_eq other f.0 ≡ false = other_id f.0 other (λ same. differs (same ∙ ap (λ p. p.0) one)) in
      sym (ap (λ b. cond b (Some f.1) None) miss)
  last_others (f ∷ g ∷ es) e last other differs =
      ap (λ xs. found_at xs other) (front_behind f g es)
      ∙ ap (cond (nat_eq other f.0) (Some f.1)) (last_others (g ∷ es) e (last_behind f g e es last) other differs)

  pub last_none : (contents : List (ℕ × C)) → last_entry contents ≡ None → contents ≡ []
  last_none [] none = refl
  last_none (f ∷ []) none = absurd cc
  last_none (f ∷ g ∷ es) none =
      let place : length (f ∷ g ∷ es) - 1 ≡ suc (length (g ∷ es) - 1) = omega arith in
      let rest : g ∷ es ≡ [] = last_none (g ∷ es) (subst (λ k. slice_get (f ∷ g ∷ es) k ≡ None) place none) in
      absurd cc

  -- ---- lengths, and a new pair

  length_removed : (contents : List (ℕ × C)) (id : ℕ) (e : ℕ × C) → lookup_entry (nat_eq id) contents ≡ Some e → suc (length (remove_entry (nat_eq id) contents)) ≡ length contents
  length_removed [] id e is = absurd cc
  length_removed (f ∷ fs) id e is = elim (cases_Bool (nat_eq id f.0)) [
    | inl here ↦ rw here refl
    | inr there ↦ rw there (ap suc (length_removed fs id e (rw there at is)))
  ]

  pub removed_fewer : (contents : List (ℕ × C)) (id : ℕ) (content : C) → found_at contents id ≡ Some content → length (remove_entry (nat_eq id) contents) + 1 ≡ length contents
  removed_fewer [] id content is = absurd cc
  removed_fewer (f ∷ fs) id content is = elim (cases_Bool (nat_eq id f.0)) [
    | inl here ↦ rw here (omega arith)
    | inr there ↦ rw there (let rest = removed_fewer fs id content (rw there at is) in omega arith)
  ]

  pub removed_none : (contents : List (ℕ × C)) (id : ℕ) → found_at contents id ≡ None → remove_entry (nat_eq id) contents ≡ contents
  removed_none [] id none = refl
  removed_none (f ∷ fs) id none = elim (cases_Bool (nat_eq id f.0)) [
    | inl here ↦ let some : Some f.1 ≡ None = rw here at none in absurd cc
    | inr there ↦ rw there (ap (λ es. f ∷ es) (removed_none fs id (rw there at none)))
  ]

  pub without_front : (contents : List (ℕ × C)) (id : ℕ) (content : C) → remove_entry (nat_eq id) ((id, content) ∷ contents) ≡ contents
  without_front contents id content = rw (same_id id) refl

  pub without_fewer : (contents : List (ℕ × C)) (id : ℕ) → length (remove_entry (nat_eq id) contents) ≤ length contents
  without_fewer [] id = omega arith
  without_fewer (f ∷ fs) id = elim (cases_Bool (nat_eq id f.0)) [
    | inl here ↦ rw here (omega arith)
    | inr there ↦ rw there (let rest = without_fewer fs id in omega arith)
  ]

  pub length_promoted : (contents : List (ℕ × C)) (id : ℕ) → length (promoted (nat_eq id) contents) ≡ length contents
  length_promoted contents id = go (lookup_entry (nat_eq id) contents) refl
    where
      go : (o : Option (ℕ × C)) → lookup_entry (nat_eq id) contents ≡ o → length (option_map_or (λ e. e ∷ remove_entry (nat_eq id) contents) o contents) ≡ length contents
      go None is = refl
      go (Some e) is = length_removed contents id e is

  no_entry : (contents : List (ℕ × C)) (id : ℕ) → found_at contents id ≡ None → lookup_entry (nat_eq id) contents ≡ None
  no_entry [] id none = refl
  no_entry (f ∷ fs) id none = elim (cases_Bool (nat_eq id f.0)) [
    | inl here ↦ let some : Some f.1 ≡ None = rw here at none in absurd cc
    | inr there ↦ rw there (no_entry fs id (rw there at none))
  ]

  -- a pair of a new id goes to the front, where there is room
  pub put_new : (cache after : LruCache ℕ C) (now : List (ℕ × C)) (id : ℕ) (content : C) → cache.entries ≡ now → cache.cap ≡ most_entries → found_at now id ≡ None
      → length now < most_entries → after ≡ lru_cache (put_entries nat_eq cache id content) cache.cap → after.entries ≡ (id, content) ∷ now
  put_new cache after now id content view capacity none room is =
      let absent = no_entry cache.entries id (ap (λ xs. found_at xs id) view ∙ none) in
      ap (λ (c : LruCache ℕ C). c.entries) is
      ∙ ap (λ o. option_map_or (λ e. (e.0, content) ∷ remove_entry (nat_eq id) cache.entries) o ((id, content) ∷ take (cache.cap - 1) cache.entries)) absent
      ∙ ap (λ xs. (id, content) ∷ xs) (take_all (cache.cap - 1) cache.entries (omega (arith, ap length view, capacity, room)) ∙ view)

-- what holds of the value that is there
pub if_there : {A : Type 0} (o : Option A) (P : A → Type 0) → ((x : A) → o ≡ Some x → P x) → IfSome o P
if_there None P all = tt
if_there (Some x) P all = all x refl

pub if_absent : {A : Type 0} (o : Option A) (P : Type 0) → (o ≡ None → P) → IfNone o P
if_absent None P all = all refl
if_absent (Some x) P all = tt

pub either : {A : Type 0} (o : Option A) (P : Type 0) → ((x : A) → o ≡ Some x → P) → (o ≡ None → P) → P
either None P some none = none refl
either (Some x) P some none = some x refl

pub on_ok : {A E : Type 0} (r : Result A E) (P : Type 0) → P → OnOk r P
on_ok (Ok x) P holds = holds
on_ok (Err e) P holds = tt

pub on_err : {A E : Type 0} (r : Result A E) (e : E) (P : Type 0) → r ≡ Err e → OnOk r P
on_err (Ok x) e P is = absurd cc
on_err (Err f) e P is = tt
