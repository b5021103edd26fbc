-- The payloads of a file's bytes.
use Rattle.std.proofs.Common.{inl, inr, ◌⊎◌, ◌≡◌, ◌≢◌, ℕ, zero, suc, ◌+◌, ◌≤◌, ◌<◌, get_or, ◌==◌, nat_le, Bool, List, [], ◌∷◌, ◌++◌, length, take, drop, refl, sym, ◌∙◌, ap, subst, arith, append_assoc, length-append, take-append-drop}
use Rattle.std.specs.Int.{w32, to_le_bytes, from_le_bytes}
use Rattle.std.proofs.lemmas.List.{take_at, drop_at, drop-drop, append-nil, drop_all, drop_more}
use Rattle.std.proofs.lemmas.List.Sums.{sum_by-cons, sum_by_push}
use Rattle.std.proofs.lemmas.Nat.{from_le_bytes-to_le_bytes_4}
use Rattle.std.proofs.lemmas.Bool.{cases_eq, cases_lt, cond-true, cond-false, ne_eqb, le-leb, lt-leb}
use Rattle.store_io.specs.Disk.{Torn, Follows, Holds, Only}
use Rattle.gated_log.specs.Log.{Each, payloads_from, payloads_of, sized, record_of, records, AllSized, length_of, IsLogOf, Keeps, StandsAt, IsBeforeOrAfter}

pub skip : (n : ℕ) (bytes : List ℕ) → payloads_from n bytes ≡ payloads_from 0 (drop n bytes)
skip zero bytes = refl
skip (suc n) [] = refl
skip (suc n) (x ∷ bytes) = skip n bytes

-- a whole record behind an open gate
first_record : (size payload tail : List ℕ) → length size ≡ 4 → from_le_bytes w32 size ≡ length payload
    → payloads_from 0 (1 ∷ ((size ++ payload) ++ tail)) ≡ payload ∷ payloads_from 0 tail
first_record size payload tail four is =
    let bytes = (size ++ payload) ++ tail in
    let parts : bytes ≡ size ++ (payload ++ tail) = append_assoc size payload tail in
    let head : take 4 bytes ≡ size = ap (λ (l : List ℕ). take 4 l) parts ∙ take_at size (payload ++ tail) 4 four in
    let behind : drop 4 bytes ≡ payload ++ tail = ap (λ (l : List ℕ). drop 4 l) parts ∙ drop_at size (payload ++ tail) 4 four in
    let long : from_le_bytes w32 (take 4 bytes) ≡ length payload = ap (from_le_bytes w32) head ∙ is in
    let here : take (from_le_bytes w32 (take 4 bytes)) (drop 4 bytes) ≡ payload =
    ap (λ (n : ℕ). take n (drop 4 bytes)) long ∙ ap (λ (l : List ℕ). take (length payload) l) behind ∙ take_at payload tail (length payload) refl in
    let after : drop (4 + from_le_bytes w32 (take 4 bytes)) bytes ≡ tail =
    ap (λ (n : ℕ). drop (4 + n) bytes) long ∙ sym (drop-drop (length payload) 4 bytes) ∙ ap (λ (l : List ℕ). drop (length payload) l) behind ∙ drop_at payload tail (length payload) refl in
    ap (λ (l : List ℕ). l ∷ payloads_from (4 + from_le_bytes w32 (take 4 bytes)) bytes) here
    ∙ ap (λ (l : List (List ℕ)). payload ∷ l) (skip (4 + from_le_bytes w32 (take 4 bytes)) bytes ∙ ap (λ (l : List ℕ). payloads_from 0 l) after)

closed_gate : (gate : ℕ) (rest : List ℕ) → gate ≢ 1 → payloads_from 0 (gate ∷ rest) ≡ []
closed_gate gate rest closed = cond-false (gate == 1) _ [] (ne_eqb gate 1 closed)

pub size_bytes : (payload : List ℕ) → length payload ≤ 1048576 → from_le_bytes w32 (to_le_bytes w32 (length payload)) ≡ length payload
size_bytes payload short = from_le_bytes-to_le_bytes_4 (length payload) (omega arith)

pub next_record : (payload tail : List ℕ) → length payload ≤ 1048576 → payloads_from 0 (1 ∷ (sized payload ++ tail)) ≡ payload ∷ payloads_from 0 tail
next_record payload tail short = first_record (to_le_bytes w32 (length payload)) payload tail refl (size_bytes payload short)

payloads-records : (payloads : List (List ℕ)) (gate : ℕ) (rest : List ℕ) → AllSized payloads → gate ≢ 1 → payloads_from 0 (records payloads ++ gate ∷ rest) ≡ payloads
payloads-records [] gate rest all closed = closed_gate gate rest closed
payloads-records (p ∷ payloads) gate rest all closed =
    ap (λ (l : List ℕ). payloads_from 0 (1 ∷ l)) (append_assoc (sized p) (records payloads) (gate ∷ rest))
    ∙ next_record p (records payloads ++ gate ∷ rest) all.1
    ∙ ap (λ (l : List (List ℕ)). p ∷ l) (payloads-records payloads gate rest all.2 closed)

pub length-sized : (payload : List ℕ) → length (sized payload) ≡ 4 + length payload
length-sized payload = length-append (to_le_bytes w32 (length payload)) payload

more_sum : (p : List ℕ) (payloads : List (List ℕ)) → length_of (p ∷ payloads) ≡ (5 + length p) + length_of payloads
more_sum p payloads = omega (arith, sum_by-cons (λ (payload : List ℕ). 5 + length payload) p payloads)

pub length-records : (payloads : List (List ℕ)) → length (records payloads) + 9 ≡ length_of payloads
length-records [] = refl
length-records (p ∷ payloads) =
    let more : length_of (p ∷ payloads) ≡ (5 + length p) + length_of payloads = more_sum p payloads in
    omega (arith, length-append (sized p) (records payloads), length-sized p, length-records payloads, more)

pub log_payloads : (header : List ℕ) (payloads : List (List ℕ)) (bytes : List ℕ) → IsLogOf header payloads bytes → payloads_of bytes ≡ payloads
log_payloads header payloads bytes is = elim (cases_lt 9 (length bytes)) [
  | inl long ↦
      cond-false (nat_le (length bytes) 9) [] (payloads_from 0 (drop 8 bytes)) (lt-leb (length bytes) 9 long)
      ∙ ap (λ (l : List ℕ). payloads_from 0 (drop 8 l)) is.split
      ∙ ap (λ (l : List ℕ). payloads_from 0 l) (drop_at header (records payloads ++ is.gate ∷ is.rest) 8 is.eight)
      ∙ payloads-records payloads is.gate is.rest is.all_sized is.closed
  | inr short ↦
      cond-true (nat_le (length bytes) 9) [] (payloads_from 0 (drop 8 bytes)) (le-leb (length bytes) 9 short)
      ∙ none payloads (omega (arith, ap length is.split, length-append header (records payloads ++ is.gate ∷ is.rest), length-append (records payloads) (is.gate ∷ is.rest), is.eight))
]
  where
    none : (payloads : List (List ℕ)) → length (records payloads) ≤ 0 → [] ≡ payloads
    none [] le = refl
    none (p ∷ payloads) le = absurd (omega arith)

pub records-push : (payloads : List (List ℕ)) (p tail : List ℕ) → records (payloads ++ p ∷ []) ++ tail ≡ records payloads ++ 1 ∷ (sized p ++ tail)
records-push [] p tail = ap (λ (l : List ℕ). 1 ∷ l) (ap (λ (l : List ℕ). l ++ tail) (append-nil (sized p)))
records-push (q ∷ payloads) p tail =
    ap (λ (l : List ℕ). 1 ∷ l) (append_assoc (sized q) (records (payloads ++ p ∷ [])) tail
    ∙ ap (λ (l : List ℕ). sized q ++ l) (records-push payloads p tail)
    ∙ sym (append_assoc (sized q) (records payloads) (1 ∷ (sized p ++ tail))))

pub sized-push : (payloads : List (List ℕ)) (p : List ℕ) → AllSized payloads → 1 ≤ length p → length p ≤ 1048576 → AllSized (payloads ++ p ∷ [])
sized-push [] p all low high = (low, high, tt)
sized-push (q ∷ payloads) p all low high = (all.0, all.1, sized-push payloads p all.2 low high)

pub length-push : (payloads : List (List ℕ)) (p : List ℕ) → length_of (payloads ++ p ∷ []) ≡ length_of payloads + (5 + length p)
length-push payloads p = omega (arith, sum_by_push (λ (payload : List ℕ). 5 + length payload) payloads p)

-- the header and the records, up to the last gate
pub before_gate : List ℕ → List (List ℕ) → List ℕ
before_gate header payloads = header ++ records payloads

length-before_gate : (header : List ℕ) (payloads : List (List ℕ)) → length header ≡ 8 → length (before_gate header payloads) + 1 ≡ length_of payloads
unfolding before_gate
length-before_gate header payloads eight = omega (arith, length-append header (records payloads), length-records payloads, eight)

split_gate : (header : List ℕ) (payloads : List (List ℕ)) (bytes : List ℕ) (is : IsLogOf header payloads bytes) → bytes ≡ before_gate header payloads ++ is.gate ∷ is.rest
unfolding before_gate
split_gate header payloads bytes is = is.split ∙ sym (append_assoc header (records payloads) (is.gate ∷ is.rest))

log_from : (header : List ℕ) (payloads : List (List ℕ)) (bytes : List ℕ) (gate : ℕ) (rest : List ℕ) → length header ≡ 8 → AllSized payloads → gate ≢ 1
    → bytes ≡ before_gate header payloads ++ gate ∷ rest → IsLogOf header payloads bytes
unfolding before_gate
log_from header payloads bytes gate rest eight all closed split = record {
  gate = gate;
  rest = rest;
  closed = closed;
  eight = eight;
  all_sized = all;
  split = split ∙ append_assoc header (records payloads) (gate ∷ rest);
}

-- a log whose bytes up to its last gate stay is a log of the same payloads
pub log_kept : (header : List ℕ) (payloads : List (List ℕ)) (place : ℕ) (old new : List ℕ) → place ≡ length_of payloads → IsLogOf header payloads old → Keeps place old new → IsLogOf header payloads new
log_kept header payloads place old new is_end is keeps =
    let front = before_gate header payloads ++ is.gate ∷ [] in
    let long : length front ≡ place = omega (arith, length-append (before_gate header payloads) (is.gate ∷ []), length-before_gate header payloads is.eight) in
    let whole : old ≡ front ++ is.rest = split_gate header payloads old is ∙ sym (append_assoc (before_gate header payloads) (is.gate ∷ []) is.rest) in
    let stays : take place new ≡ front = keeps.front ∙ ap (λ (l : List ℕ). take place l) whole ∙ take_at front is.rest place long in
    let now : new ≡ front ++ drop place new = sym (take-append-drop place new) ∙ ap (λ (l : List ℕ). l ++ drop place new) stays in
    log_from header payloads new is.gate (drop place new) is.eight is.all_sized is.closed (now ∙ append_assoc (before_gate header payloads) (is.gate ∷ []) (drop place new))

-- a log with a record behind its last gate
pub record Staged (header : List ℕ) (payloads : List (List ℕ)) (payload bytes : List ℕ) : Type 0 where
  pub gate : ℕ
  pub rest : List ℕ
  pub closed : gate ≢ 1
  pub eight : length header ≡ 8
  pub all_sized : AllSized payloads
  pub split : bytes ≡ before_gate header payloads ++ gate ∷ (record_of payload ++ rest)

pub staged : (header : List ℕ) (payloads : List (List ℕ)) (place : ℕ) (payload old new : List ℕ) → place ≡ length_of payloads → IsLogOf header payloads old → StandsAt place (record_of payload) old new → Staged header payloads payload new
staged header payloads place payload old new is_end is stood =
    let front = before_gate header payloads ++ is.gate ∷ [] in
    let long : length front ≡ place = omega (arith, length-append (before_gate header payloads) (is.gate ∷ []), length-before_gate header payloads is.eight) in
    let whole : old ≡ front ++ is.rest = split_gate header payloads old is ∙ sym (append_assoc (before_gate header payloads) (is.gate ∷ []) is.rest) in
    record {
      gate = is.gate;
      rest = stood.rest;
      closed = is.closed;
      eight = is.eight;
      all_sized = is.all_sized;
      split = stood.split
          ∙ ap (λ (l : List ℕ). l ++ (record_of payload ++ stood.rest)) (ap (λ (l : List ℕ). take place l) whole ∙ take_at front is.rest place long)
          ∙ append_assoc (before_gate header payloads) (is.gate ∷ []) (record_of payload ++ stood.rest);
    }

module _ (header : List ℕ) (payloads : List (List ℕ)) (payload mid : List ℕ) (low : 1 ≤ length payload) (high : length payload ≤ 1048576) (is : Staged header payloads payload mid) where
  -- behind an open gate the record is part of the log
  opened : (bytes : List ℕ) → bytes ≡ before_gate header payloads ++ 1 ∷ (record_of payload ++ is.rest) → IsLogOf header (payloads ++ payload ∷ []) bytes
  unfolding before_gate
  opened bytes split = record {
    gate = 0;
    rest = is.rest;
    closed = omega arith;
    eight = is.eight;
    all_sized = sized-push payloads payload is.all_sized low high;
    split = split
        ∙ append_assoc header (records payloads) (1 ∷ (record_of payload ++ is.rest))
        ∙ ap (λ (l : List ℕ). header ++ (records payloads ++ 1 ∷ l)) (append_assoc (sized payload) (0 ∷ []) is.rest)
        ∙ ap (λ (l : List ℕ). header ++ l) (sym (records-push payloads payload (0 ∷ is.rest)));
  }

  front_is : (place : ℕ) → place + 1 ≡ length_of payloads → take place mid ≡ before_gate header payloads
  front_is place is_end =
      ap (λ (l : List ℕ). take place l) is.split
      ∙ take_at (before_gate header payloads) (is.gate ∷ (record_of payload ++ is.rest)) place (omega (arith, length-before_gate header payloads is.eight))

  back_is : (place : ℕ) → place + 1 ≡ length_of payloads → drop place mid ≡ is.gate ∷ (record_of payload ++ is.rest)
  back_is place is_end =
      ap (λ (l : List ℕ). drop place l) is.split
      ∙ drop_at (before_gate header payloads) (is.gate ∷ (record_of payload ++ is.rest)) place (omega (arith, length-before_gate header payloads is.eight))

  pub opened_gate : (place : ℕ) (new : List ℕ) → place + 1 ≡ length_of payloads → Holds mid place (1 ∷ []) new → IsLogOf header (payloads ++ payload ∷ []) new
  opened_gate place new is_end holds =
      opened new (holds
      ∙ ap (λ (l : List ℕ). l ++ 1 ∷ drop 1 (drop place mid)) (front_is place is_end)
      ∙ ap (λ (l : List ℕ). before_gate header payloads ++ 1 ∷ drop 1 l) (back_is place is_end))

  pub torn_gate : (place : ℕ) (new : List ℕ) → place + 1 ≡ length_of payloads → Torn place 1 mid new → IsBeforeOrAfter header payloads payload new
  torn_gate place new is_end torn =
      let gate = get_or new place 0 in
      let long : place < length new = omega (arith, torn.no_shorter, ap length is.split, length-append (before_gate header payloads) (is.gate ∷ (record_of payload ++ is.rest)), length-before_gate header payloads is.eight) in
      let more : drop place new ≡ gate ∷ drop (place + 1) new = drop_more new place 0 long in
      let rest : drop (place + 1) new ≡ record_of payload ++ is.rest =
      sym (ap (λ (l : List ℕ). drop 1 l) more) ∙ torn.after ∙ ap (λ (l : List ℕ). drop 1 l) (back_is place is_end) in
      let whole : new ≡ before_gate header payloads ++ gate ∷ (record_of payload ++ is.rest) =
      sym (take-append-drop place new)
      ∙ ap (λ (l : List ℕ). l ++ drop place new) (torn.before ∙ front_is place is_end)
      ∙ ap (λ (l : List ℕ). before_gate header payloads ++ l) (more ∙ ap (λ (l : List ℕ). gate ∷ l) rest) in
      elim (cases_eq gate 1) [
        | inl one ↦ inr (opened new (whole ∙ ap (λ (n : ℕ). before_gate header payloads ++ n ∷ (record_of payload ++ is.rest)) one))
        | inr other ↦ inl (log_from header payloads new gate (record_of payload ++ is.rest) is.eight is.all_sized other whole)
      ]

  -- each image after the gate is opened
  pub gate_images : (place : ℕ) (old new : List ℕ → Bool) → place + 1 ≡ length_of payloads → Only mid old → Follows (Torn place 1) old new → Each new (IsBeforeOrAfter header payloads payload)
  gate_images place old new is_end only follows image left =
      let from = follows image left in
      torn_gate place image is_end (subst (λ (l : List ℕ). Torn place 1 l image) (only from.0 from.1) from.2)

-- each image while the record is written
pub record_images : (header : List ℕ) (payloads : List (List ℕ)) (place : ℕ) (old new : List ℕ → Bool) → place ≡ length_of payloads
    → Each old (IsLogOf header payloads) → Follows (Keeps place) old new → Each new (IsLogOf header payloads)
record_images header payloads place old new is_end each follows image left =
    let from = follows image left in
    log_kept header payloads place from.0 image is_end (each from.0 from.1) from.2

pub log_long : (header : List ℕ) (payloads : List (List ℕ)) (bytes : List ℕ) → IsLogOf header payloads bytes → length_of payloads ≤ length bytes
log_long header payloads bytes is = omega (arith, ap length (split_gate header payloads bytes is), length-append (before_gate header payloads) (is.gate ∷ is.rest), length-before_gate header payloads is.eight)

pub fresh : (header first old new : List ℕ) → length header ≡ 8 → first ≡ header ++ 0 ∷ [] → length old ≤ 9 → Holds old 0 first new → new ≡ header ++ 0 ∷ []
fresh header first old new eight is short holds =
    let nine : length first ≡ 9 = omega (arith, ap length is, length-append header (0 ∷ []), eight) in
    holds ∙ ap (λ (l : List ℕ). first ++ l) (drop_all (length first) old (omega (arith, nine, short))) ∙ append-nil first ∙ is

pub fresh_log : (header bytes : List ℕ) → length header ≡ 8 → bytes ≡ header ++ 0 ∷ [] → IsLogOf header [] bytes
fresh_log header bytes eight is = record { gate = 0; rest = []; closed = omega arith; eight = eight; all_sized = tt; split = is }

pub before_or_after : (header : List ℕ) (payloads : List (List ℕ)) (payload bytes : List ℕ) → IsBeforeOrAfter header payloads payload bytes
    → (payloads_of bytes ≡ payloads) ⊎ (payloads_of bytes ≡ payloads ++ payload ∷ [])
before_or_after header payloads payload bytes (inl old) = inl (log_payloads header payloads bytes old)
before_or_after header payloads payload bytes (inr new) = inr (log_payloads header (payloads ++ payload ∷ []) bytes new)
