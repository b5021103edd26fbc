-- What the lines of answers look like, and how many of them say that a store was kept.
use Rattle.std.proofs.Common.{◌≡◌, ◌<◌, ◌+◌, ◌++◌, [], ◌∷◌, ℕ, List, length, drop, take, count_by, refl, ap, sym, ◌∙◌, arith, append_assoc, append-nil, length-append}
use Rattle.std.proofs.lemmas.List.{drop_at}
use Rattle.std.proofs.lemmas.List.Sums.{sum_by-append, sum_by-cons}
use Rattle.session_model.specs.Answer.{State, turn}
use Rattle.session_lines.specs.Limits.{most_bytes}
use Rattle.store_run.specs.Lines.{ended, whole_lines}
use Rattle.store_run.specs.Answer.{answers, state_after, stores_of}
use Rattle.store_run.specs.Acknowledged.{acknowledged, count_stored, says_stored}
use Rattle.store_run.proofs.WholeLines.{cut_before, no_whole, part_says, whole_ended, whole_first}
use Rattle.store_run.proofs.Said.{as_count, said}

-- an answer says as many stores as its line makes, and what follows says the rest
answer_lines : (state : State) (text rest : List ℕ)
    → count_stored ((turn most_bytes state text).text ++ rest) ≡ length (turn most_bytes state text).stores + count_stored rest
answer_lines state text rest =
    let made = turn most_bytes state text in
    let is = said state text in
    let split : made.text ++ rest ≡ ended is.others ++ (is.last ++ 10 ∷ rest) = ap (λ (l : List ℕ). l ++ rest) is.text
    ∙ append_assoc (ended is.others) (is.last ++ 10 ∷ []) rest ∙ ap (λ (l : List ℕ). ended is.others ++ l) (append_assoc is.last (10 ∷ []) rest) in
    let lines : whole_lines (made.text ++ rest) ≡ is.others ++ is.last ∷ whole_lines rest = ap whole_lines split
    ∙ whole_ended is.others (is.last ++ 10 ∷ rest) is.others_feed ∙ ap (λ (l : List (List ℕ)). is.others ++ l) (whole_first is.last rest is.last_feed) in
    let says : List ℕ → ℕ = λ (l : List ℕ). as_count (says_stored l) in
    let all = sum_by-append says is.others (is.last ∷ whole_lines rest) in
    let behind = sum_by-cons says is.last (whole_lines rest) in
    ap (count_by says_stored) lines ∙ omega (arith, all, behind, is.others_say, is.says)

pub stored_whole : (state : State) (text : List ℕ) → count_stored (turn most_bytes state text).text ≡ length (turn most_bytes state text).stores
stored_whole state text =
    let whole = answer_lines state text [] in
    ap count_stored (sym (append-nil (turn most_bytes state text).text)) ∙ whole ∙ omega arith

-- an answer ends with a line feed
pub turn_ends : (state : State) (text : List ℕ) → (front : List ℕ) × ((turn most_bytes state text).text ≡ front ++ 10 ∷ [])
turn_ends state text = let is = said state text in (ended is.others ++ is.last, is.text ∙ sym (append_assoc (ended is.others) is.last (10 ∷ [])))

-- a part of an answer that is not all of it says nothing of a store
pub stored_lines : (state : State) (text part rest : List ℕ) → (turn most_bytes state text).text ≡ part ++ rest → 0 < length rest → count_stored part ≡ 0
stored_lines state text part rest is some =
    let made = said state text in
    let front = ended made.others ++ made.last in
    let cut = cut_before part rest front 10 (append_assoc (ended made.others) made.last (10 ∷ []) ∙ sym made.text ∙ is) some in
    let lines : whole_lines front ≡ made.others = whole_ended made.others made.last made.others_feed
    ∙ ap (λ (l : List (List ℕ)). made.others ++ l) (no_whole made.last made.last_feed) ∙ append-nil made.others in
    let silent : count_stored front ≡ 0 = ap (count_by says_stored) lines ∙ made.others_say in
    let same = ap count_stored cut.1 in
    omega (arith, silent, same, part_says part cut.0)

-- ---- what is told of many answers

-- the answers say what their lines store, and what follows says the rest
pub stored_answers : (state : State) (lines : List (List ℕ)) (rest : List ℕ)
    → count_stored (answers state lines ++ rest) ≡ length (stores_of state lines) + count_stored rest
stored_answers state [] rest = omega arith
stored_answers state (text ∷ lines) rest =
    let made = turn most_bytes state text in
    let here = answer_lines state text (answers made.state lines ++ rest) in
    let later = stored_answers made.state lines rest in
    let stores = length-append made.stores (stores_of made.state lines) in
    ap count_stored (append_assoc made.text (answers made.state lines) rest) ∙ here ∙ omega (arith, later, stores)

-- the answers to lines say as many stores as the lines make
pub stored_done : (state : State) (lines : List (List ℕ)) → count_stored (answers state lines) ≡ length (stores_of state lines)
stored_done state lines = let all = stored_answers state lines [] in ap count_stored (sym (append-nil (answers state lines))) ∙ all ∙ omega arith

-- a part of the next answer that is not all of it says nothing
pub stored_part : (state : State) (rest : List (List ℕ)) (part part_rest : List ℕ) → answers state (take 1 rest) ≡ part ++ part_rest
    → (0 < length part → 0 < length part_rest) → count_stored part ≡ 0
stored_part state rest [] part_rest is short = refl
stored_part state [] (b ∷ part) part_rest is short = absurd (omega (arith, ap length is))
stored_part state (text ∷ rest) (b ∷ part) part_rest is short =
    stored_lines state text (b ∷ part) part_rest (sym (append-nil (turn most_bytes state text).text) ∙ is) (short (omega arith))

-- what was put of the answers to the first lines and the one behind them says what the first lines store
pub stored_with_part : (start : State) (done rest : List (List ℕ)) (part part_rest : List ℕ) → answers (state_after start done) (take 1 rest) ≡ part ++ part_rest
    → (0 < length part → 0 < length part_rest) → count_stored (answers start done ++ part) ≡ length (stores_of start done)
stored_with_part start done rest part part_rest is short =
    let all = stored_answers start done part in
    let silent = stored_part (state_after start done) rest part part_rest is short in
    all ∙ omega (arith, silent)

-- what was put says how many stores were kept
pub acknowledged_stores : (start : State) (done rest : List (List ℕ)) (part part_rest written0 written : List ℕ)
    → answers (state_after start done) (take 1 rest) ≡ part ++ part_rest → (0 < length part → 0 < length part_rest)
    → written ≡ written0 ++ (answers start done ++ part) → acknowledged written0 written ≡ length (stores_of start done)
acknowledged_stores start done rest part part_rest written0 written is short put =
    ap count_stored (ap (drop (length written0)) put ∙ drop_at written0 (answers start done ++ part) (length written0) refl) ∙ stored_with_part start done rest part part_rest is short
