-- Each chunk of a log lies in its live file, below the length that the inventory has, and its number is at most that of the last store.
use Rattle.std.proofs.Common.{inl, inr, ◌≡◌, ◌≢◌, ℕ, ◌+◌, ◌-◌, ◌≤◌, ◌<◌, ◌==◌, nat_le, ◌^◌, not, if◌then◌else◌, Bool, true, false, ◌&&◌, List, [], ◌∷◌, ◌++◌, length, take, Option, Some, None, Result, Ok, Err, refl, sym, ◌∙◌, ap, subst, arith}
use Rattle.std.specs.List.{filter}
use Rattle.std.proofs.lemmas.Bool.{and_parts, eqb-true, eq-eqb, ne_eqb, cases_Bool, cases_lt, true≢false, cond-true, cond-false}
use Rattle.std.proofs.lemmas.List.{take_at, length_push}
use Rattle.std.proofs.lemmas.List.Folds.{fold_along}
use Rattle.tx_entry.specs.declared.entry.Entry.{Entry}
use Rattle.tx_entry.specs.declared.entry.Entry.TheVariants.{Creation, Store, Transfer, Truncation, Deletion}
use Rattle.tx_entry.specs.declared.entry.BadEntry.{BadEntry}
use Rattle.tx_entry.specs.Entries.{entry_of}
use Rattle.transactions_file.specs.Files.{is_live, length_in, set_length, without}
use Rattle.transactions_file.specs.Inventory.{State, start, step, add, after, allowed, may_stand, is_store_at, inventory_of, IsSound}
use Rattle.transactions_file.proofs.Lengths.{dead_set, length_set, length_set_other, length_without, live_set, length_push as length_create}
use Rattle.transactions_file.proofs.Rising.{dead_below, dead_above}
use Rattle.transactions_file.proofs.Sound.{sound_after}
use Rattle.channel_files.specs.Chunks.{Range, ranges_after, ranges_with, ranges_step, ranges_of, stands_elsewhere}

-- what holds of one file and of all others
pub by_file : (P : ℕ → Type 0) (file : ℕ) → P file → ((f : ℕ) → f ≢ file → P f) → (f : ℕ) → P f
by_file P file here others f = elim (cases_Bool (f == file)) [
  | inl is ↦ subst P (sym (eqb-true f file is)) here
  | inr other ↦ others f (λ e. absurd (grind (arith, eq-eqb f file e, other)))
]

abbrev pub AllWithin : List (ℕ × ℕ) → ℕ → List Range → Type 0
AllWithin files last [] = Unit {0}
AllWithin files last (r ∷ ranges) = (r.at + r.length ≤ length_in files r.file) × ((r.number ≤ last) × AllWithin files last ranges)

-- no file that lies in these ranges became shorter, and the last number no less
pub grown : (old new : List (ℕ × ℕ)) (last more : ℕ) (ranges : List Range) → ((f : ℕ) → length_in old f ≤ length_in new f) → last ≤ more → AllWithin old last ranges → AllWithin new more ranges
grown old new last more [] longer le all = tt
grown old new last more (r ∷ ranges) longer le all = (omega (arith, all.0, longer r.file), (omega (arith, all.1.0, le), grown old new last more ranges longer le all.1.1))

pub within_push : (files : List (ℕ × ℕ)) (last : ℕ) (ranges : List Range) (r : Range) → AllWithin files last ranges → r.at + r.length ≤ length_in files r.file → r.number ≤ last
    → AllWithin files last (ranges ++ r ∷ [])
within_push files last [] r all here le = (here, (le, tt))
within_push files last (q ∷ ranges) r all here le = (all.0, (all.1.0, within_push files last ranges r all.1.1 here le))

-- one range more in front, or not
with_or_not : (b : Bool) (files : List (ℕ × ℕ)) (last : ℕ) (r : Range) (ranges : List Range) → (b ≡ true → r.at + r.length ≤ length_in files r.file) → r.number ≤ last → AllWithin files last ranges
    → AllWithin files last (if b then r ∷ ranges else ranges)
with_or_not true files last r ranges fits le all = (fits refl, (le, all))
with_or_not false files last r ranges fits le all = all

differs : (f g : ℕ) → not (f == g) ≡ true → f ≢ g
differs f g is e = absurd (grind (arith, eq-eqb f g e, is))

-- the ranges of a file that is no longer live are left out
within_without : (files : List (ℕ × ℕ)) (last : ℕ) (ranges : List Range) (file : ℕ) → AllWithin files last ranges → AllWithin (without files file) last (filter (stands_elsewhere file) ranges)
within_without files last [] file all = tt
within_without files last (r ∷ ranges) file all =
    with_or_not (stands_elsewhere file r) (without files file) last r (filter (stands_elsewhere file) ranges)
    (λ is. omega (arith, all.0, length_without files file r.file (differs r.file file is))) all.1.0 (within_without files last ranges file all.1.1)

-- what a Truncation of the last entry gives back
pub record UndoneStore (s : State) (ranges : List Range) (file at : ℕ) : Type 0 where
  pub front : List Range
  pub last : Range
  pub split : ranges ≡ front ++ last ∷ []
  pub within : AllWithin (set_length s.files file at) s.last_before front
  pub less : (f : ℕ) → length_in (set_length s.files file at) f ≤ length_in s.files f
  pub number : last.number ≡ s.last
  pub next : s.last ≡ s.last_before + 1

abbrev pub Undone : State → List Range → Option Entry → Type 0
Undone s ranges (Some (Store n file at len next_id)) = UndoneStore s ranges file at
Undone s ranges (Some (Creation file)) = Unit {0}
Undone s ranges (Some (Transfer source file at len)) = Unit {0}
Undone s ranges (Some (Truncation file n d)) = Unit {0}
Undone s ranges (Some (Deletion file)) = Unit {0}
Undone s ranges None = Unit {0}

pub record Fits (s : State) (ranges : List Range) : Type 0 where
  pub sound : IsSound s
  pub within : AllWithin s.files s.last ranges
  pub undone : Undone s ranges s.entry

abbrev pub FitsIfSome : Option State → List Range → Type 0
FitsIfSome None ranges = Unit {0}
FitsIfSome (Some s) ranges = Fits s ranges

-- files 0 and 1 are not live
pub low : (s : State) → IsSound s → (f : ℕ) → f < 2 → is_live s.files f ≡ false
low s sound f lt = dead_below 2 (s.created + 1) f s.files sound.rising lt

pub two_up : (s : State) → IsSound s → (f : ℕ) → is_live s.files f ≡ true → 2 ≤ f
two_up s sound f live = elim (cases_lt f 2) [
  | inl lt ↦ absurd (true≢false (sym live ∙ low s sound f lt))
  | inr more ↦ more
]

pub live_small : (s : State) → IsSound s → (f : ℕ) → is_live s.files f ≡ true → f < 2 ^ 31
live_small s sound f live = elim (cases_lt f (s.created + 1)) [
  | inl lt ↦ omega (arith, lt, sound.created)
  | inr le ↦ absurd (true≢false (sym live ∙ dead_above 2 (s.created + 1) f s.files sound.rising le))
]

-- the place is the end of the head
pub record IsBehind (s : State) (file at : ℕ) : Type 0 where
  pub head : file ≡ s.created
  pub live : is_live s.files file ≡ true
  pub end : at ≡ length_in s.files file

behind : (s : State) (file at len most : ℕ) → may_stand s file at len most ≡ true → IsBehind s file at
behind s file at len most is =
    let first = and_parts (file == s.created) _ is in
    let second = and_parts (is_live s.files file) _ first.1 in
    let third = and_parts (at == length_in s.files file) _ second.1 in
    record { head = eqb-true file s.created first.0; live = second.0; end = eqb-true at (length_in s.files file) third.0 }

module _ (files : List (ℕ × ℕ)) (file : ℕ) (live : is_live files file ≡ true) where
  raised : (n : ℕ) → length_in files file ≤ n → (f : ℕ) → length_in files f ≤ length_in (set_length files file n) f
  raised n more = by_file (λ f. length_in files f ≤ length_in (set_length files file n) f) file (omega (arith, more, length_set files file n live)) (λ f ne. omega (arith, length_set_other files file n f ne))

  twice : (n m : ℕ) → length_in (set_length (set_length files file n) file m) file ≡ m
  twice n m = length_set (set_length files file n) file m (live_set files file n file ∙ live)

  other_twice : (n m f : ℕ) → f ≢ file → length_in (set_length (set_length files file n) file m) f ≡ length_in files f
  other_twice n m f ne = length_set_other (set_length files file n) file m f ne ∙ length_set_other files file n f ne

  set_back : (n at : ℕ) → at ≡ length_in files file → (f : ℕ) → length_in files f ≤ length_in (set_length (set_length files file n) file at) f
  set_back n at is =
      by_file (λ f. length_in files f ≤ length_in (set_length (set_length files file n) file at) f) file (omega (arith, is, twice n at)) (λ f ne. omega (arith, other_twice n at f ne))

  lowered : (n m : ℕ) → m ≤ n → (f : ℕ) → length_in (set_length (set_length files file n) file m) f ≤ length_in (set_length files file n) f
  lowered n m le =
      by_file (λ f. length_in (set_length (set_length files file n) file m) f ≤ length_in (set_length files file n) f) file (omega (arith, le, twice n m, length_set files file n live))
      (λ f ne. omega (arith, length_set_other (set_length files file n) file m f ne))

-- a chunk is added behind the head
added : (s : State) (ranges : List Range) (r : Range) (last : ℕ) → Fits s ranges → IsBehind s r.file r.at → s.last ≤ last → r.number ≤ last
    → AllWithin (set_length s.files r.file (r.at + r.length)) last (ranges ++ r ∷ [])
added s ranges r last fit here le number =
    within_push _ last ranges r (grown s.files _ s.last last ranges (raised s.files r.file here.live (r.at + r.length) (omega (arith, here.end))) le fit.within)
    (omega (arith, length_set s.files r.file (r.at + r.length) here.live)) number

-- the place of a store that is allowed
pub place_fits : (s : State) (number file at len next_id : ℕ) → allowed s (Store number file at len next_id) ≡ true
    → (number ≡ s.last + 1) × ((if len == 0 then file == 0 && at == 0 else may_stand s file at len 16777216) ≡ true)
place_fits s number file at len next_id allow =
    let first = and_parts (number == s.last + 1) _ allow in
    let second = and_parts (nat_le number (2 ^ 63)) _ first.1 in
    let third = and_parts (nat_le s.next_id next_id) _ second.1 in
    let fourth = and_parts (nat_le next_id (2 ^ 48)) _ third.1 in
    (eqb-true number (s.last + 1) first.0, fourth.1)

-- a store of some bytes stands behind the head
pub store_behind : (s : State) (number file at len next_id : ℕ) → len ≢ 0 → allowed s (Store number file at len next_id) ≡ true → IsBehind s file at
store_behind s number file at len next_id some allow =
    let place = (place_fits s number file at len next_id allow).1 in
    behind s file at len 16777216 (sym (cond-false (len == 0) (file == 0 && at == 0) (may_stand s file at len 16777216) (ne_eqb len 0 some)) ∙ place)

-- a store of no bytes stands nowhere
pub store_nowhere : (s : State) (number file at len next_id : ℕ) → len ≡ 0 → allowed s (Store number file at len next_id) ≡ true → (file ≡ 0) × (at ≡ 0)
store_nowhere s number file at len next_id none allow =
    let place = (place_fits s number file at len next_id allow).1 in
    let zeros = and_parts (file == 0) (at == 0) (sym (cond-true (len == 0) (file == 0 && at == 0) (may_stand s file at len 16777216) (eq-eqb len 0 none)) ∙ place) in
    (eqb-true file 0 zeros.0, eqb-true at 0 zeros.1)

-- a length of file 0 that is set changes nothing
pub zero_set : (s : State) (file n : ℕ) → IsSound s → file ≡ 0 → set_length s.files file n ≡ s.files
zero_set s file n sound is = dead_set s.files file n (low s sound file (omega (arith, is)))

fits_store : (s : State) (ranges : List Range) (r : Range) (next_id : ℕ) → Fits s ranges → r.length ≢ 0 → (allow : allowed s (Store r.number r.file r.at r.length next_id) ≡ true)
    → Fits (after s (Store r.number r.file r.at r.length next_id)) (ranges ++ r ∷ [])
fits_store s ranges r next_id fit some allow =
    let here = store_behind s r.number r.file r.at r.length next_id some allow in
    let next = (place_fits s r.number r.file r.at r.length next_id allow).0 in
    record {
      sound = sound_after s (Store r.number r.file r.at r.length next_id) fit.sound allow;
      within = added s ranges r r.number fit here (omega (arith, next)) (omega arith);
      undone = record {
        front = ranges;
        last = r;
        split = refl;
        within = grown s.files _ s.last s.last ranges (set_back s.files r.file here.live (r.at + r.length) r.at here.end) (omega arith) fit.within;
        less = lowered s.files r.file here.live (r.at + r.length) r.at (omega arith);
        number = refl;
        next = next;
      };
    }

fits_nothing : (s : State) (ranges : List Range) (r : Range) (next_id : ℕ) → Fits s ranges → r.length ≡ 0 → (allow : allowed s (Store r.number r.file r.at r.length next_id) ≡ true)
    → Fits (after s (Store r.number r.file r.at r.length next_id)) (ranges ++ r ∷ [])
fits_nothing s ranges r next_id fit none allow =
    let zeros = store_nowhere s r.number r.file r.at r.length next_id none allow in
    let next = (place_fits s r.number r.file r.at r.length next_id allow).0 in
    let same : (n : ℕ) → set_length s.files r.file n ≡ s.files = λ n. zero_set s r.file n fit.sound zeros.0 in
    record {
      sound = sound_after s (Store r.number r.file r.at r.length next_id) fit.sound allow;
      within = subst (λ l. AllWithin l r.number (ranges ++ r ∷ [])) (sym (same (r.at + r.length)))
          (within_push s.files r.number ranges r (grown s.files s.files s.last r.number ranges (λ f. omega arith) (omega (arith, next)) fit.within) (omega (arith, none, zeros.1)) (omega arith));
      undone = record {
        front = ranges;
        last = r;
        split = refl;
        within = subst (λ l. AllWithin (set_length l r.file r.at) s.last ranges) (sym (same (r.at + r.length))) (subst (λ l. AllWithin l s.last ranges) (sym (same r.at)) fit.within);
        less = λ f. subst (λ l. length_in (set_length l r.file r.at) f ≤ length_in l f) (sym (same (r.at + r.length))) (subst (λ l. length_in l f ≤ length_in s.files f) (sym (same r.at)) (omega arith));
        number = refl;
        next = next;
      };
    }

-- a Truncation takes the last store back
undo : (s : State) (ranges : List Range) (o : Option Entry) (file n d : ℕ) → is_store_at o file n d ≡ true → Undone s ranges o
    → AllWithin (set_length s.files file n) s.last_before (take (length ranges - 1) ranges)
undo s ranges (Some (Store number f at len next_id)) file n d is u =
    let same = and_parts (f == file) (at == n) (and_parts (number == d) _ is).1 in
    let front : take (length ranges - 1) ranges ≡ u.front =
    ap (λ (l : List Range). take (length l - 1) l) u.split ∙ take_at u.front (u.last ∷ []) (length (u.front ++ u.last ∷ []) - 1) (omega (arith, length_push u.front u.last)) in
    subst (λ (l : List Range). AllWithin (set_length s.files file n) s.last_before l) (sym front)
    (subst (λ (k : ℕ). AllWithin (set_length s.files k n) s.last_before u.front) (eqb-true f file same.0) (subst (λ (k : ℕ). AllWithin (set_length s.files f k) s.last_before u.front) (eqb-true at n same.1) u.within))
undo s ranges (Some (Creation f)) file n d is u = absurd cc
undo s ranges (Some (Transfer source f at len)) file n d is u = absurd cc
undo s ranges (Some (Truncation f m e)) file n d is u = absurd cc
undo s ranges (Some (Deletion f)) file n d is u = absurd cc
undo s ranges None file n d is u = absurd cc

-- it raises no length
pub undo_less : (s : State) (ranges : List Range) (o : Option Entry) (file n d : ℕ) → is_store_at o file n d ≡ true → Undone s ranges o
    → (f : ℕ) → length_in (set_length s.files file n) f ≤ length_in s.files f
undo_less s ranges (Some (Store number f at len next_id)) file n d is u g =
    let same = and_parts (f == file) (at == n) (and_parts (number == d) _ is).1 in
    subst (λ (k : ℕ). length_in (set_length s.files k n) g ≤ length_in s.files g) (eqb-true f file same.0) (subst (λ (k : ℕ). length_in (set_length s.files f k) g ≤ length_in s.files g) (eqb-true at n same.1) (u.less g))
undo_less s ranges (Some (Creation f)) file n d is u g = absurd cc
undo_less s ranges (Some (Transfer source f at len)) file n d is u g = absurd cc
undo_less s ranges (Some (Truncation f m e)) file n d is u g = absurd cc
undo_less s ranges (Some (Deletion f)) file n d is u g = absurd cc
undo_less s ranges None file n d is u g = absurd cc

-- the store that a Truncation takes back
pub record Dropped (s : State) (ranges : List Range) : Type 0 where
  pub front : List Range
  pub last : Range
  pub split : ranges ≡ front ++ last ∷ []
  pub number : last.number ≡ s.last
  pub next : s.last ≡ s.last_before + 1

pub drops : (s : State) (ranges : List Range) (o : Option Entry) (file n d : ℕ) → is_store_at o file n d ≡ true → Undone s ranges o → Dropped s ranges
drops s ranges (Some (Store number f at len next_id)) file n d is u = record { front = u.front; last = u.last; split = u.split; number = u.number; next = u.next }
drops s ranges (Some (Creation f)) file n d is u = absurd cc
drops s ranges (Some (Transfer source f at len)) file n d is u = absurd cc
drops s ranges (Some (Truncation f m e)) file n d is u = absurd cc
drops s ranges (Some (Deletion f)) file n d is u = absurd cc
drops s ranges None file n d is u = absurd cc

pub fits_step : (s : State) (ranges : List Range) (e : Entry) → Fits s ranges → allowed s e ≡ true → Fits (after s e) (ranges_after ranges e)
fits_step s ranges (Creation file) fit allow = record {
  sound = sound_after s (Creation file) fit.sound allow;
  within = grown s.files _ s.last s.last ranges (λ f. omega (arith, length_create s.files file f)) (omega arith) fit.within;
  undone = tt;
}
fits_step s ranges (Store number file at len next_id) fit allow =
    let r : Range = record { number = number; file = file; at = at; length = len } in
    elim (cases_Bool (len == 0)) [
      | inl none ↦ fits_nothing s ranges r next_id fit (eqb-true len 0 none) allow
      | inr some ↦ fits_store s ranges r next_id fit (λ e. absurd (grind (arith, eq-eqb len 0 e, some))) allow
    ]
fits_step s ranges (Transfer source file at len) fit allow =
    let here = behind s file at len 1048576 (and_parts (not (source == file)) _ (and_parts (is_live s.files source) _ allow).1).1 in
    let r : Range = record { number = 0; file = file; at = at; length = len } in
    record { sound = sound_after s (Transfer source file at len) fit.sound allow; within = added s ranges r s.last fit here (omega arith) (omega arith); undone = tt }
fits_step s ranges (Truncation file n d) fit allow =
    record { sound = sound_after s (Truncation file n d) fit.sound allow; within = undo s ranges s.entry file n d allow fit.undone; undone = tt }
fits_step s ranges (Deletion file) fit allow =
    record { sound = sound_after s (Deletion file) fit.sound allow; within = within_without s.files s.last ranges file fit.within; undone = tt }

add_fits : (s : State) (ranges : List Range) (r : Result Entry BadEntry) → Fits s ranges → FitsIfSome (add s r) (ranges_with ranges r)
add_fits s ranges (Err bad) fit = tt
add_fits s ranges (Ok e) fit = elim (cases_Bool (allowed s e)) [
  | inl allow ↦ subst (λ o. FitsIfSome o (ranges_after ranges e)) (sym (cond-true (allowed s e) (Some (after s e)) None allow)) (fits_step s ranges e fit allow)
  | inr refuse ↦ subst (λ o. FitsIfSome o (ranges_after ranges e)) (sym (cond-false (allowed s e) (Some (after s e)) None refuse)) tt
]

one_step : (o : Option State) (ranges : List Range) (payload : List ℕ) → FitsIfSome o ranges → FitsIfSome (step o payload) (ranges_step ranges payload)
one_step None ranges payload fit = tt
one_step (Some s) ranges payload fit = add_fits s ranges (entry_of payload) fit

-- in every log that has an inventory
pub all_fit : (payloads : List (List ℕ)) (s : State) → inventory_of payloads ≡ Some s → Fits s (ranges_of payloads)
all_fit payloads s is =
    subst (λ o. FitsIfSome o (ranges_of payloads)) is
    (fold_along step ranges_step FitsIfSome one_step (Some start) [] payloads
    (record { sound = record { first = omega arith; created = omega arith; rising = omega arith; last = omega arith; last_before = omega arith }; within = tt; undone = tt }))
