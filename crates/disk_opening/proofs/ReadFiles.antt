-- A file that was read to its end is a log.
use Rattle.std.proofs.Common.{⊎_elim, inl, inr, ◌≡◌, ◌+◌, ◌<◌, ◌++◌, ◌∷◌, [], ℕ, List, IsTrue, true, length, drop, get_or, ap, sym, subst, refl, ◌∙◌, arith}
use Rattle.std.proofs.lemmas.Bool.{cases_lt}
use Rattle.std.proofs.lemmas.List.{drop_more}
use Rattle.gated_log.specs.Log.{payloads_of, records, IsLogOf}
use Rattle.gated_log.specs.Reading.{IsReading}
use Rattle.gated_log.specs.State.{OpeningState}
use Rattle.gated_log.proofs.Payloads.{log_payloads}
use Rattle.channel.specs.Images.{IsLogFile}

-- an opening that has passed nothing stands behind the header
pub within_at_start : (opening : OpeningState) (file : List ℕ) → IsReading opening file → opening.count ≡ 0 → 9 < opening.len → opening.at < opening.len
within_at_start opening file reading first long =
    let none : reading.passed ≡ [] = no_passed reading.passed (sym reading.number ∙ first) in
    let size : length (records reading.passed) ≡ 0 = ap (λ (ps : List (List ℕ)). length (records ps)) none in
    omega (arith, reading.place)
  where
    no_passed : (ps : List (List ℕ)) → length ps ≡ 0 → ps ≡ []
    no_passed [] is = refl
    no_passed (p ∷ ps) is = absurd (omega arith)

-- a log whose last gate is not open
ended_log : (header : List ℕ) (opening : OpeningState) (file : List ℕ) → IsReading opening file → opening.header ≡ header → IsTrue opening.ended → opening.at < length file → 9 < length file
    → IsLogOf header (payloads_of file) file
ended_log header opening file reading headed ended within long =
    let is : IsLogOf opening.header reading.passed file = record {
      gate = get_or file opening.at 0;
      rest = drop (opening.at + 1) file;
      closed = reading.closed ended long;
      eight = reading.eight;
      all_sized = reading.all_sized;
      split = reading.split long ∙ ap (λ (l : List ℕ). opening.header ++ (records reading.passed ++ l)) (drop_more file opening.at 0 within);
    } in
    let all : payloads_of file ≡ reading.passed = log_payloads opening.header reading.passed file is in
    subst (λ (h : List ℕ). IsLogOf h (payloads_of file) file) headed (subst (λ (ps : List (List ℕ)). IsLogOf opening.header ps file) (sym all) is)

-- where the opening has ended, the file is a log
pub ended_file : (header : List ℕ) (before after : OpeningState) (file : List ℕ) → after ≡ record before { ended = true } → IsReading after file → before.header ≡ header
    → (9 < before.len → before.at < before.len) → IsLogFile header file
ended_file header before after file is reading headed within =
    ⊎_elim
    (λ long.
    let len : before.len ≡ length file = sym (ap (λ (o : OpeningState). o.len) is) ∙ reading.len in
    let at : after.at ≡ before.at = ap (λ (o : OpeningState). o.at) is in
    let ended : IsTrue after.ended = ap (λ (o : OpeningState). o.ended) is in
    let inside : before.at < before.len = within (omega arith) in
    inr (ended_log header after file reading (ap (λ (o : OpeningState). o.header) is ∙ headed) ended (omega arith) long))
    (λ short. inl short)
    (cases_lt 9 (length file))
