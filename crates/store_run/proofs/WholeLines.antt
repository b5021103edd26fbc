-- The whole lines of a text, and of its parts.
use Rattle.std.proofs.Common.{◌≡◌, ◌<◌, ◌≤◌, ◌++◌, ◌==◌, [], ◌∷◌, ℕ, Bool, true, false, cond, if◌then◌else◌, List, length, count_by, refl, ap, ◌∙◌, arith, append_assoc, length-append}
use Rattle.std.proofs.lemmas.List.Sums.{sum_by-append}
use Rattle.graph_export.specs.Line.{HasNoFeed}
use Rattle.store_run.specs.Lines.{AllHaveNoFeed, ended, whole_lines, with_front}
use Rattle.store_run.specs.Acknowledged.{count_stored, says_stored}

pub whole_first : (text rest : List ℕ) → HasNoFeed text → whole_lines (text ++ 10 ∷ rest) ≡ text ∷ whole_lines rest
whole_first [] rest none = refl
whole_first (b ∷ text) rest none =
    ap (λ t. if t then [] ∷ whole_lines (text ++ 10 ∷ rest) else with_front b (whole_lines (text ++ 10 ∷ rest))) none.0 ∙ ap (λ (l : List (List ℕ)). with_front b l) (whole_first text rest none.1)

pub no_whole : (text : List ℕ) → HasNoFeed text → whole_lines text ≡ []
no_whole [] none = refl
no_whole (b ∷ text) none = ap (λ t. if t then [] ∷ whole_lines text else with_front b (whole_lines text)) none.0 ∙ ap (λ (l : List (List ℕ)). with_front b l) (no_whole text none.1)

pub whole_ended : (lines : List (List ℕ)) (rest : List ℕ) → AllHaveNoFeed lines → whole_lines (ended lines ++ rest) ≡ lines ++ whole_lines rest
whole_ended [] rest none = refl
whole_ended (first ∷ lines) rest none =
    ap whole_lines (append_assoc first (10 ∷ ended lines) rest) ∙ whole_first first (ended lines ++ rest) none.0 ∙ ap (λ (l : List (List ℕ)). first ∷ l) (whole_ended lines rest none.1)

-- the lines of a front are the first of all
whole_front : (front rest : List ℕ) → (more : List (List ℕ)) × (whole_lines (front ++ rest) ≡ whole_lines front ++ more)
whole_front [] rest = (whole_lines rest, refl)
whole_front (b ∷ front) rest = by (b == 10) (whole_lines front) (whole_front front rest)
  where
    by : (feed : Bool) (lines : List (List ℕ)) → ((more : List (List ℕ)) × (whole_lines (front ++ rest) ≡ lines ++ more))
        → (more : List (List ℕ)) × ((if feed then [] ∷ whole_lines (front ++ rest) else with_front b (whole_lines (front ++ rest))) ≡ (if feed then [] ∷ lines else with_front b lines) ++ more)
    by true lines found = (found.0, ap (λ (l : List (List ℕ)). [] ∷ l) found.1)
    by false [] found = (with_front b found.0, ap (with_front b) found.1)
    by false (first ∷ lines) found = (found.0, ap (with_front b) found.1)

-- what is cut off the end has the last byte
pub cut_before : (part rest text : List ℕ) (b : ℕ) → text ++ b ∷ [] ≡ part ++ rest → 0 < length rest → (more : List ℕ) × (text ≡ part ++ more)
cut_before [] rest text b is some = (text, refl)
cut_before (p ∷ part) rest [] b is some = absurd (omega (arith, ap length is, length-append part rest, some))
cut_before (p ∷ part) rest (t ∷ text) b is some =
    let first : t ≡ p = cc in
    let others : text ++ b ∷ [] ≡ part ++ rest = cc in
    let found = cut_before part rest text b others some in
    (found.0, ap (λ (n : ℕ). n ∷ text) first ∙ ap (λ (l : List ℕ). p ∷ l) found.1)

-- a part says no more than all
pub part_says : (part more : List ℕ) → count_stored part ≤ count_stored (part ++ more)
part_says part more =
    let front = whole_front part more in
    let all = sum_by-append (λ (l : List ℕ). cond (says_stored l) 1 0) (whole_lines part) front.0 in
    let same = ap (count_by says_stored) front.1 in
    omega (arith, all, same)
