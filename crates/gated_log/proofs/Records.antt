-- One record more of a log that is opened.
use Rattle.std.proofs.Common.{◌≡◌, ℕ, ◌+◌, ◌≤◌, ◌<◌, nat_le, false, List, [], ◌∷◌, ◌++◌, length, take, drop, slice_index, sym, ◌∙◌, ap, subst, arith, append_assoc, length-append, length-take, length-drop, take-append-drop}
use Rattle.std.specs.Int.{w32, to_le_bytes}
use Rattle.std.proofs.lemmas.Bool.{cond-false, lt-leb, false≢true}
use Rattle.std.proofs.lemmas.List.{drop_more, drop-drop, append-nil, length_push}
use Rattle.gated_log.specs.Log.{payloads_from, sized, records}
use Rattle.gated_log.specs.Of.{IsOf}
use Rattle.gated_log.specs.Reading.{IsReading, rest_of}
use Rattle.gated_log.specs.State.{OpeningState, LogState}
use Rattle.gated_log.proofs.Payloads.{next_record, records-push, sized-push, length-sized}

-- a length that is spelled at this place, and so many bytes behind it
pub record_at : (bytes : List ℕ) (at size : ℕ) → take 4 (drop at bytes) ≡ to_le_bytes w32 size → at + 5 + size ≤ length bytes
    → drop at bytes ≡ sized (take size (drop (at + 4) bytes)) ++ drop (at + (4 + size)) bytes
record_at bytes at size spelled room =
    let p = take size (drop (at + 4) bytes) in
    let long : length p ≡ size = omega (arith, length-take size (drop (at + 4) bytes), length-drop (at + 4) bytes) in
    let far : at + 4 + size ≡ at + (4 + size) = omega arith in
    let payload : drop (at + 4) bytes ≡ p ++ drop (at + (4 + size)) bytes =
    sym (take-append-drop size (drop (at + 4) bytes)) ∙ ap (λ (l : List ℕ). p ++ l) (drop-drop size (at + 4) bytes ∙ ap (λ (n : ℕ). drop n bytes) far) in
    sym (take-append-drop 4 (drop at bytes))
    ∙ ap (λ (l : List ℕ). l ++ drop 4 (drop at bytes)) (spelled ∙ ap (to_le_bytes w32) (sym long))
    ∙ ap (λ (l : List ℕ). to_le_bytes w32 (length p) ++ l) (drop-drop 4 at bytes ∙ payload)
    ∙ sym (append_assoc (to_le_bytes w32 (length p)) p (drop (at + (4 + size)) bytes))

module _ (bytes payload : List ℕ) (at next : ℕ) (within : at < length bytes) (open_gate : slice_index bytes at ≡ 1) (here : drop (at + 1) bytes ≡ sized payload ++ drop next bytes) where
  behind : drop at bytes ≡ 1 ∷ (sized payload ++ drop next bytes)
  behind = drop_more bytes at 0 within ∙ ap (λ (n : ℕ). n ∷ drop (at + 1) bytes) open_gate ∙ ap (λ (l : List ℕ). 1 ∷ l) here

  -- the payload, and the rest of the log
  pub next_payload : length payload ≤ 1048576 → payloads_from 0 (drop at bytes) ≡ payload ∷ payloads_from 0 (drop next bytes)
  next_payload short = ap (λ (l : List ℕ). payloads_from 0 l) behind ∙ next_record payload (drop next bytes) short

  pub split_on : (header : List ℕ) (passed : List (List ℕ)) → bytes ≡ header ++ (records passed ++ drop at bytes) → bytes ≡ header ++ (records (passed ++ payload ∷ []) ++ drop next bytes)
  split_on header passed split =
      split ∙ ap (λ (l : List ℕ). header ++ l) (ap (λ (l : List ℕ). records passed ++ l) behind ∙ sym (records-push passed payload (drop next bytes)))

  pub place_on : (passed : List (List ℕ)) → next ≡ at + (5 + length payload) → at ≡ 8 + length (records passed) → next ≡ 8 + length (records (passed ++ payload ∷ []))
  place_on passed far is =
      omega (arith, far, is, length-sized payload, ap length (sym (append-nil (records (passed ++ payload ∷ []))) ∙ records-push passed payload []), length-append (records passed) (1 ∷ (sized payload ++ [])), length-append (sized payload) [])

-- the opening, a payload of this size further
abbrev pub moved : OpeningState → ℕ → OpeningState
moved opening size = record opening { at = opening.at + (5 + size); count = opening.count + 1; ended = false }

module _
    (opening : OpeningState) (bytes payload : List ℕ) (size : ℕ)
    (reading : IsReading opening bytes) (long : 9 < length bytes) (within : opening.at < length bytes) (open_gate : slice_index bytes opening.at ≡ 1)
    (here : drop (opening.at + 1) bytes ≡ sized payload ++ drop (opening.at + 1 + (4 + size)) bytes) (is : length payload ≡ size) (some : 1 ≤ size) (fits : size ≤ 1048576)
  where
    next : ℕ
    next = opening.at + (5 + size)

    here_next : drop (opening.at + 1) bytes ≡ sized payload ++ drop next bytes
    unfolding next
    here_next =
        let far : opening.at + 1 + (4 + size) ≡ opening.at + (5 + size) = omega arith in
        here ∙ ap (λ (n : ℕ). sized payload ++ drop n bytes) far

    pub rest_on : rest_of opening bytes ≡ payload ∷ rest_of (moved opening size) bytes
    unfolding next
    rest_on =
        let more = lt-leb (length bytes) 9 long in
        let short : length payload ≤ 1048576 = omega arith in
        cond-false (nat_le (length bytes) 9) [] (payloads_from 0 (drop opening.at bytes)) more
        ∙ next_payload bytes payload opening.at next within open_gate here_next short
        ∙ ap (λ (l : List (List ℕ)). payload ∷ l) (sym (cond-false (nat_le (length bytes) 9) [] (payloads_from 0 (drop next bytes)) more))

    pub reading_on : IsReading (moved opening size) bytes
    unfolding next
    reading_on =
        let far : next ≡ opening.at + (5 + length payload) = omega arith in
        record {
          passed = reading.passed ++ payload ∷ [];
          all_sized = sized-push reading.passed payload reading.all_sized (omega arith) (omega arith);
          eight = reading.eight;
          len = reading.len;
          place = place_on bytes payload opening.at next within open_gate here_next reading.passed far reading.place;
          number = omega (arith, reading.number, length_push reading.passed payload);
          short = λ le. absurd (omega arith);
          split = λ _. split_on bytes payload opening.at next within open_gate here_next opening.header reading.passed (reading.split long);
          closed = λ no. absurd (false≢true no);
        }

pub reading_at : (opening : OpeningState) (bytes bytes' : List ℕ) → bytes' ≡ bytes → IsReading opening bytes → IsReading opening bytes'
reading_at opening bytes bytes' same reading = subst (IsReading opening) (sym same) reading

pub of_at : (log : LogState) (bytes bytes' : List ℕ) → bytes' ≡ bytes → IsOf log bytes → IsOf log bytes'
of_at log bytes bytes' same is = subst (IsOf log) (sym same) is
