-- A live file is as long as its last chunk says: its length in the inventory is 0, or the end of one of the chunks.
use Rattle.std.proofs.Common.{inl, inr, ◌≡◌, ◌≢◌, ◌⊎◌, ℕ, ◌+◌, ◌-◌, ◌==◌, not, Bool, true, false, cond, List, [], ◌∷◌, ◌++◌, length, take, Option, Some, None, Result, Ok, Err, refl, sym, ◌∙◌, ap, subst, arith}
use Rattle.std.specs.List.{filter}
use Rattle.std.proofs.lemmas.Bool.{and_parts, cases_Bool, cond-false, cond-true, eq-eqb, eqb-true}
use Rattle.std.proofs.lemmas.List.{length_push, take_at}
use Rattle.std.proofs.lemmas.List.Folds.{fold_along}
use Rattle.tx_entry.specs.declared.entry.Entry.{Entry}
use Rattle.tx_entry.specs.declared.entry.Entry.TheVariants.{Creation, Store, Transfer, Truncation, Deletion}
use Rattle.tx_entry.specs.declared.entry.BadEntry.{BadEntry}
use Rattle.tx_entry.specs.Entries.{entry_of}
use Rattle.transactions_file.specs.Files.{is_live, length_in, set_length, without}
use Rattle.transactions_file.specs.Inventory.{IsSound, State, add, after, allowed, inventory_of, is_store_at, may_stand, start, step}
use Rattle.transactions_file.proofs.Lengths.{dead_length, length_set, length_set_other, length_without, live_set, live_without, length_push as length_create}
use Rattle.transactions_file.proofs.Sound.{sound_after}
use Rattle.channel_files.specs.Chunks.{Range, ranges_after, ranges_of, ranges_step, ranges_with, stands_elsewhere}
use Rattle.channel_files.proofs.Within.{IsBehind, by_file, store_behind, store_nowhere, zero_set}

-- one of the chunks ends there
abbrev pub HasRangeTo : (f n : ℕ) → List Range → Type 0
HasRangeTo f n [] = ⊥
HasRangeTo f n (r ∷ ranges) = ((r.file ≡ f) × (r.at + r.length ≡ n)) ⊎ HasRangeTo f n ranges

abbrev pub HasEnd : List Range → (f n : ℕ) → Type 0
HasEnd ranges f n = (n ≡ 0) ⊎ HasRangeTo f n ranges

to_more : (f n : ℕ) (ranges more : List Range) → HasRangeTo f n ranges → HasRangeTo f n (ranges ++ more)
to_more f n [] more is = absurd is
to_more f n (r ∷ ranges) more (inl is) = inl is
to_more f n (r ∷ ranges) more (inr is) = inr (to_more f n ranges more is)

to_last : (ranges : List Range) (r : Range) → HasRangeTo r.file (r.at + r.length) (ranges ++ r ∷ [])
to_last [] r = inl (refl, refl)
to_last (q ∷ ranges) r = inr (to_last ranges r)

end_more : (f n : ℕ) (ranges more : List Range) → HasEnd ranges f n → HasEnd (ranges ++ more) f n
end_more f n ranges more (inl is) = inl is
end_more f n ranges more (inr is) = inr (to_more f n ranges more is)

one_or_not : (f n : ℕ) (r : Range) (ranges : List Range) (b : Bool) → HasRangeTo f n ranges → HasRangeTo f n (cond b (r ∷ ranges) ranges)
one_or_not f n r ranges true is = inr is
one_or_not f n r ranges false is = is

apart : (f file : ℕ) → f ≢ file → not (f == file) ≡ true
apart f file ne = elim (cases_Bool (f == file)) [
  | inl is ↦ absurd (ne (eqb-true f file is))
  | inr other ↦ ap not other
]

to_without : (file f n : ℕ) → f ≢ file → (ranges : List Range) → HasRangeTo f n ranges → HasRangeTo f n (filter (stands_elsewhere file) ranges)
to_without file f n ne [] is = absurd is
to_without file f n ne (r ∷ ranges) (inl is) =
    let rest = filter (stands_elsewhere file) ranges in
    let stays : stands_elsewhere file r ≡ true = apart r.file file (λ e. ne (sym is.0 ∙ e)) in
    subst (HasRangeTo f n) (sym (cond-true (stands_elsewhere file r) (r ∷ rest) rest stays)) (inl is)
to_without file f n ne (r ∷ ranges) (inr is) = one_or_not f n r (filter (stands_elsewhere file) ranges) (stands_elsewhere file r) (to_without file f n ne ranges is)

-- WHAT A LOG KEEPS

-- without the last store it is so too
pub record EndsUndone (s : State) (ranges : List Range) (file at : ℕ) : Type 0 where
  pub front : List Range
  pub last : Range
  pub split : ranges ≡ front ++ last ∷ []
  pub ends : (f : ℕ) → HasEnd front f (length_in (set_length s.files file at) f)

abbrev pub UndoneEnds : State → List Range → Option Entry → Type 0
UndoneEnds s ranges (Some (Store n file at len next_id)) = EndsUndone s ranges file at
UndoneEnds s ranges (Some (Creation file)) = Unit {0}
UndoneEnds s ranges (Some (Transfer source file at len)) = Unit {0}
UndoneEnds s ranges (Some (Truncation file n d)) = Unit {0}
UndoneEnds s ranges (Some (Deletion file)) = Unit {0}
UndoneEnds s ranges None = Unit {0}

pub record Ends (s : State) (ranges : List Range) : Type 0 where
  pub sound : IsSound s
  pub ends : (f : ℕ) → HasEnd ranges f (length_in s.files f)
  pub undone : UndoneEnds s ranges s.entry

abbrev pub EndsIfSome : Option State → List Range → Type 0
EndsIfSome None ranges = Unit {0}
EndsIfSome (Some s) ranges = Ends s ranges

-- a chunk behind the head
module _ (s : State) (ranges : List Range) (r : Range) (ends : (f : ℕ) → HasEnd ranges f (length_in s.files f)) (here : IsBehind s r.file r.at) where
  abbrev n : ℕ
  n = r.at + r.length

  ends_added : (f : ℕ) → HasEnd (ranges ++ r ∷ []) f (length_in (set_length s.files r.file n) f)
  ends_added = by_file (λ f. HasEnd (ranges ++ r ∷ []) f (length_in (set_length s.files r.file n) f)) r.file
      (subst (HasEnd (ranges ++ r ∷ []) r.file) (sym (length_set s.files r.file n here.live)) (inr (to_last ranges r)))
      (λ f ne. subst (HasEnd (ranges ++ r ∷ []) f) (sym (length_set_other s.files r.file n f ne)) (end_more f (length_in s.files f) ranges (r ∷ []) (ends f)))

  ends_back : (f : ℕ) → HasEnd ranges f (length_in (set_length (set_length s.files r.file n) r.file r.at) f)
  ends_back = by_file (λ f. HasEnd ranges f (length_in (set_length (set_length s.files r.file n) r.file r.at) f)) r.file
      (subst (HasEnd ranges r.file) (sym (length_set (set_length s.files r.file n) r.file r.at (live_set s.files r.file n r.file ∙ here.live) ∙ here.end)) (ends r.file))
      (λ f ne. subst (HasEnd ranges f) (sym (length_set_other (set_length s.files r.file n) r.file r.at f ne ∙ length_set_other s.files r.file n f ne)) (ends f))

behind : (s : State) (file at len most : ℕ) → may_stand s file at len most ≡ true → IsBehind s file at
behind s file at len most is =
    let first = and_parts (file == s.created) _ is in
    let second = and_parts (is_live s.files file) _ first.1 in
    let third = and_parts (at == length_in s.files file) _ second.1 in
    record { head = eqb-true file s.created first.0; live = second.0; end = eqb-true at (length_in s.files file) third.0 }

ends_store : (s : State) (ranges : List Range) (r : Range) (next_id : ℕ) → Ends s ranges → r.length ≢ 0 → (allow : allowed s (Store r.number r.file r.at r.length next_id) ≡ true)
    → Ends (after s (Store r.number r.file r.at r.length next_id)) (ranges ++ r ∷ [])
ends_store s ranges r next_id is some allow =
    let here = store_behind s r.number r.file r.at r.length next_id some allow in
    record {
      sound = sound_after s (Store r.number r.file r.at r.length next_id) is.sound allow;
      ends = ends_added s ranges r is.ends here;
      undone = record { front = ranges; last = r; split = refl; ends = ends_back s ranges r is.ends here };
    }

ends_nothing : (s : State) (ranges : List Range) (r : Range) (next_id : ℕ) → Ends s ranges → r.length ≡ 0 → (allow : allowed s (Store r.number r.file r.at r.length next_id) ≡ true)
    → Ends (after s (Store r.number r.file r.at r.length next_id)) (ranges ++ r ∷ [])
ends_nothing s ranges r next_id is none allow =
    let zeros = store_nowhere s r.number r.file r.at r.length next_id none allow in
    let same : (n : ℕ) → set_length s.files r.file n ≡ s.files = λ n. zero_set s r.file n is.sound zeros.0 in
    record {
      sound = sound_after s (Store r.number r.file r.at r.length next_id) is.sound allow;
      ends = λ f. subst (λ (l : List (ℕ × ℕ)). HasEnd (ranges ++ r ∷ []) f (length_in l f)) (sym (same (r.at + r.length))) (end_more f (length_in s.files f) ranges (r ∷ []) (is.ends f));
      undone = record {
        front = ranges;
        last = r;
        split = refl;
        ends = λ f. subst (λ (l : List (ℕ × ℕ)). HasEnd ranges f (length_in (set_length l r.file r.at) f)) (sym (same (r.at + r.length)))
            (subst (λ (l : List (ℕ × ℕ)). HasEnd ranges f (length_in l f)) (sym (same r.at)) (is.ends f));
      };
    }

-- a Truncation takes the last store back
undo_ends : (s : State) (ranges : List Range) (o : Option Entry) (file n d : ℕ) → is_store_at o file n d ≡ true → UndoneEnds s ranges o
    → (g : ℕ) → HasEnd (take (length ranges - 1) ranges) g (length_in (set_length s.files file n) g)
undo_ends s ranges (Some (Store number f at len next_id)) file n d is u g =
    let same = and_parts (f == file) (at == n) (and_parts (number == d) _ is).1 in
    let front : take (length ranges - 1) ranges ≡ u.front =
    ap (λ (l : List Range). take (length l - 1) l) u.split ∙ take_at u.front (u.last ∷ []) (length (u.front ++ u.last ∷ []) - 1) (omega (arith, length_push u.front u.last)) in
    subst (λ (l : List Range). HasEnd l g (length_in (set_length s.files file n) g)) (sym front)
    (subst (λ (k : ℕ). HasEnd u.front g (length_in (set_length s.files k n) g)) (eqb-true f file same.0) (subst (λ (k : ℕ). HasEnd u.front g (length_in (set_length s.files f k) g)) (eqb-true at n same.1) (u.ends g)))
undo_ends s ranges (Some (Creation f)) file n d is u g = absurd cc
undo_ends s ranges (Some (Transfer source f at len)) file n d is u g = absurd cc
undo_ends s ranges (Some (Truncation f m e)) file n d is u g = absurd cc
undo_ends s ranges (Some (Deletion f)) file n d is u g = absurd cc
undo_ends s ranges None file n d is u g = absurd cc

-- a file that is no longer live has no length
ends_without : (s : State) (ranges : List Range) (file : ℕ) → ((f : ℕ) → HasEnd ranges f (length_in s.files f)) → (f : ℕ) → HasEnd (filter (stands_elsewhere file) ranges) f (length_in (without s.files file) f)
ends_without s ranges file ends = by_file (λ f. HasEnd (filter (stands_elsewhere file) ranges) f (length_in (without s.files file) f)) file
    (inl (dead_length (without s.files file) file (live_without s.files file)))
    (λ f ne. subst (HasEnd (filter (stands_elsewhere file) ranges) f) (sym (length_without s.files file f ne)) (by f ne (ends f)))
  where
    by : (f : ℕ) → f ≢ file → HasEnd ranges f (length_in s.files f) → HasEnd (filter (stands_elsewhere file) ranges) f (length_in s.files f)
    by f ne (inl none) = inl none
    by f ne (inr is) = inr (to_without file f (length_in s.files f) ne ranges is)

ends_step : (s : State) (ranges : List Range) (e : Entry) → Ends s ranges → allowed s e ≡ true → Ends (after s e) (ranges_after ranges e)
ends_step s ranges (Creation file) is allow = record {
  sound = sound_after s (Creation file) is.sound allow;
  ends = λ f. subst (HasEnd ranges f) (sym (length_create s.files file f)) (is.ends f);
  undone = tt;
}
ends_step s ranges (Store number file at len next_id) is allow =
    let r : Range = record { number = number; file = file; at = at; length = len } in
    elim (cases_Bool (len == 0)) [
      | inl none ↦ ends_nothing s ranges r next_id is (eqb-true len 0 none) allow
      | inr some ↦ ends_store s ranges r next_id is (λ e. absurd (grind (arith, eq-eqb len 0 e, some))) allow
    ]
ends_step s ranges (Transfer source file at len) is allow =
    let here = behind s file at len 1048576 (and_parts (not (source == file)) _ (and_parts (is_live s.files source) _ allow).1).1 in
    let r : Range = record { number = 0; file = file; at = at; length = len } in
    record { sound = sound_after s (Transfer source file at len) is.sound allow; ends = ends_added s ranges r is.ends here; undone = tt }
ends_step s ranges (Truncation file n d) is allow =
    record { sound = sound_after s (Truncation file n d) is.sound allow; ends = undo_ends s ranges s.entry file n d allow is.undone; undone = tt }
ends_step s ranges (Deletion file) is allow = record { sound = sound_after s (Deletion file) is.sound allow; ends = ends_without s ranges file is.ends; undone = tt }

add_ends : (s : State) (ranges : List Range) (r : Result Entry BadEntry) → Ends s ranges → EndsIfSome (add s r) (ranges_with ranges r)
add_ends s ranges (Err bad) is = tt
add_ends s ranges (Ok e) is = elim (cases_Bool (allowed s e)) [
  | inl allow ↦ subst (λ o. EndsIfSome o (ranges_after ranges e)) (sym (cond-true (allowed s e) (Some (after s e)) None allow)) (ends_step s ranges e is allow)
  | inr refuse ↦ subst (λ o. EndsIfSome o (ranges_after ranges e)) (sym (cond-false (allowed s e) (Some (after s e)) None refuse)) tt
]

one_step : (o : Option State) (ranges : List Range) (payload : List ℕ) → EndsIfSome o ranges → EndsIfSome (step o payload) (ranges_step ranges payload)
one_step None ranges payload is = tt
one_step (Some s) ranges payload is = add_ends s ranges (entry_of payload) is

-- in every log that has an inventory
pub all_end : (payloads : List (List ℕ)) (s : State) → inventory_of payloads ≡ Some s → Ends s (ranges_of payloads)
all_end payloads s is =
    subst (λ o. EndsIfSome o (ranges_of payloads)) is
    (fold_along step ranges_step EndsIfSome one_step (Some start) [] payloads
    (record { sound = record { first = omega arith; created = omega arith; rising = omega arith; last = omega arith; last_before = omega arith }; ends = λ f. inl refl; undone = tt }))
