-- A script of which a part is answered.
use Rattle.std.proofs.Common.{◌≡◌, ◌<◌, ◌+◌, ◌++◌, [], ◌∷◌, ℕ, ◌⊎◌, inl, inr, ⊎_elim, List, Bool, length, take, drop, get_or, refl, ap, sym, subst, ◌∙◌, arith, append_assoc, length-append}
use Rattle.std.proofs.lemmas.List.{append-nil, drop_more, take-append-drop, take_more}
use Rattle.session_model.specs.Answer.{turn}
use Rattle.session_lines.specs.Limits.{most_bytes}
use Rattle.session.specs.Sessions.{SessionView as Session}
use Rattle.plain_storage.specs.Held.{IsPlainStored, PlainHeld}
use Rattle.plain_storage.specs.Images.{EachPair}
use Rattle.plain_storage.specs.Keeping.{Plain}
use Rattle.store_run.specs.Answer.{answers, held_after, opened_on, state_after}
use Rattle.store_run.specs.Lines.{lines_of, ended}
use Rattle.store_run.specs.Progress.{IsPartAnswered, IsServed}
use Rattle.store_run.specs.Serving.{IsTurnCut}
use Rattle.store_run.specs.declared.stop.Stop.{Stop}
use Rattle.store_run.specs.declared.stop.Stop.TheVariants as stop_
use Rattle.store_run.proofs.AnswerLines.{turn_ends}
use Rattle.store_run.proofs.Appends.{answers_line, held_first, held_line}
use Rattle.store_run.proofs.ScriptLines.{first_line, lines_whole}

-- the lines that have ended are answered, and no byte of the next answer is put
pub whole_lines_answered : (start : PlainHeld) (script : List ℕ) (done rest : List (List ℕ)) (stop : Stop) (written0 written : List ℕ) (reads : ℕ → List ℕ) (leaves : ℕ → List ℕ → Bool)
    → lines_of script ≡ done ++ rest → written ≡ written0 ++ answers (opened_on start) done
    → EachPair leaves (λ image0 image1. IsPlainStored image0 image1 (held_after start done)) → (stop ≡ stop_.Full → ⊥)
    → IsPartAnswered start script stop written0 written reads leaves
whole_lines_answered start script done rest stop written0 written reads leaves split put each not_full = record {
  done = done;
  rest = rest;
  answered = record {
    lines = split;
    part = [];
    part_rest = answers (state_after (opened_on start) done) (take 1 rest);
    next_answer = refl;
    short = λ h. absurd (omega arith);
    put = put ∙ ap (λ (l : List ℕ). written0 ++ l) (sym (append-nil (answers (opened_on start) done)));
  };
  line_end = λ _. inl refl;
  full = λ full. absurd (not_full full);
  images = λ image0 image1 left0 left1. inl (each image0 image1 left0 left1);
}

-- between two lines
pub served_answered : (start : PlainHeld) (session : Session) (plain : Plain) (reads : ℕ → List ℕ) (read unended written0 written : List ℕ) (leaves : ℕ → List ℕ → Bool) (stop : Stop) (left : List ℕ)
    → (served : IsServed start session plain reads read unended written0 written) → EachPair leaves (λ image0 image1. IsPlainStored image0 image1 (held_after start served.lines)) → (stop ≡ stop_.Full → ⊥)
    → IsPartAnswered start (read ++ left) stop written0 written reads leaves
served_answered start session plain reads read unended written0 written leaves stop left served each not_full =
    let lines = served.lines in
    let split : lines_of (read ++ left) ≡ lines ++ lines_of (unended ++ left) =
    ap (λ (l : List ℕ). lines_of (l ++ left)) served.read_is ∙ ap lines_of (append_assoc (ended lines) unended left) ∙ lines_whole lines (unended ++ left) served.whole in
    whole_lines_answered start (read ++ left) lines (lines_of (unended ++ left)) stop written0 written reads leaves split served.answered each not_full

empty_or : (l : List ℕ) → (l ≡ []) ⊎ (0 < length l)
empty_or [] = inl refl
empty_or (x ∷ l) = inr (omega arith)

-- The line behind whole lines is not answered whole.
line_cut : (start : PlainHeld) (script : List ℕ) (lines more : List (List ℕ)) (line : List ℕ) (stop : Stop) (written0 written written' : List ℕ) (reads : ℕ → List ℕ) (leaves : ℕ → List ℕ → Bool)
    → lines_of script ≡ lines ++ line ∷ more → written ≡ written0 ++ answers (opened_on start) lines
    → (cut : IsTurnCut (turn most_bytes (state_after (opened_on start) lines) line) (held_after start lines) stop written written' reads leaves) → 0 < length cut.part_rest
    → IsPartAnswered start script stop written0 written' reads leaves
line_cut start script lines more line stop written0 written written' reads leaves split before cut short =
    let made = turn most_bytes (state_after (opened_on start) lines) line in
    record {
      done = lines;
      rest = line ∷ more;
      answered = record {
        lines = split;
        part = cut.part;
        part_rest = cut.part_rest;
        next_answer = append-nil made.text ∙ cut.answer_is;
        short = λ _. short;
        put = cut.answered ∙ ap (λ (l : List ℕ). l ++ cut.part) before ∙ append_assoc written0 (answers (opened_on start) lines) cut.part;
      };
      line_end = cut.line_end;
      full = λ full. (cut.full full).1;
      images = λ image0 image1 left0 left1.
          ⊎_elim inl (λ next. inr (subst (λ (h : PlainHeld). IsPlainStored image0 image1 h) (sym (held_line start lines line)) next)) (cut.images image0 image1 left0 left1);
    }

-- All of the answer to the line behind whole lines is put.
line_put : (start : PlainHeld) (script : List ℕ) (lines more : List (List ℕ)) (line : List ℕ) (stop : Stop) (written0 written written' : List ℕ) (reads : ℕ → List ℕ) (leaves : ℕ → List ℕ → Bool)
    → lines_of script ≡ lines ++ line ∷ more → written ≡ written0 ++ answers (opened_on start) lines
    → (cut : IsTurnCut (turn most_bytes (state_after (opened_on start) lines) line) (held_after start lines) stop written written' reads leaves) → cut.part_rest ≡ []
    → IsPartAnswered start script stop written0 written' reads leaves
line_put start script lines more line stop written0 written written' reads leaves split before cut whole =
    let made = turn most_bytes (state_after (opened_on start) lines) line in
    let text : made.text ≡ cut.part = cut.answer_is ∙ ap (λ (l : List ℕ). cut.part ++ l) whole ∙ append-nil cut.part in
    let ends = turn_ends (state_after (opened_on start) lines) line in
    let some : 0 < length cut.part = omega (arith, ap length text, ap length ends.1, length-append ends.0 (10 ∷ [])) in
    whole_lines_answered start script (lines ++ line ∷ []) more stop written0 written' reads leaves (split ∙ sym (append_assoc lines (line ∷ []) more))
    (cut.answered ∙ ap (λ (l : List ℕ). l ++ cut.part) before ∙ append_assoc written0 (answers (opened_on start) lines) cut.part
    ∙ ap (λ (l : List ℕ). written0 ++ (answers (opened_on start) lines ++ l)) (sym text) ∙ ap (λ (l : List ℕ). written0 ++ l) (sym (answers_line (opened_on start) lines line)))
    (λ image0 image1 left0 left1. subst (λ (h : PlainHeld). IsPlainStored image0 image1 h) (sym (held_line start lines line)) (cut.begun some image0 image1 left0 left1))
    (λ full. let none = (cut.full full).0 in omega (arith, some, ap length none))

-- the line that has not ended is next, and the run ends in it
pub cut_answered : (start : PlainHeld) (script : List ℕ) (lines more : List (List ℕ)) (line : List ℕ) (stop : Stop) (written0 written written' : List ℕ) (reads : ℕ → List ℕ) (leaves : ℕ → List ℕ → Bool)
    → lines_of script ≡ lines ++ line ∷ more → written ≡ written0 ++ answers (opened_on start) lines
    → IsTurnCut (turn most_bytes (state_after (opened_on start) lines) line) (held_after start lines) stop written written' reads leaves
    → IsPartAnswered start script stop written0 written' reads leaves
cut_answered start script lines more line stop written0 written written' reads leaves split before cut =
    ⊎_elim
    (line_put start script lines more line stop written0 written written' reads leaves split before cut)
    (line_cut start script lines more line stop written0 written written' reads leaves split before cut)
    (empty_or cut.part_rest)

-- a line feed ends the line
pub fed_lines : (start : PlainHeld) (session : Session) (plain : Plain) (reads : ℕ → List ℕ) (read unended written0 written left : List ℕ) (served : IsServed start session plain reads read unended written0 written)
    → lines_of (read ++ (10 ∷ [] ++ left)) ≡ served.lines ++ unended ∷ lines_of left
fed_lines start session plain reads read unended written0 written left served =
    ap (λ (l : List ℕ). lines_of (l ++ 10 ∷ left)) served.read_is ∙ ap lines_of (append_assoc (ended served.lines) unended (10 ∷ left))
    ∙ lines_whole served.lines (unended ++ 10 ∷ left) served.whole ∙ ap (λ (l : List (List ℕ)). served.lines ++ l) (first_line unended left served.open_line)

-- what was read, this byte, and the rest of the piece
pub piece_split : (read piece left : List ℕ) (i : ℕ) → i < length piece
    → (read ++ take i piece) ++ (get_or piece i 0 ∷ [] ++ (drop (i + 1) piece ++ left)) ≡ read ++ (piece ++ left)
piece_split read piece left i within =
    let b = get_or piece i 0 in
    append_assoc read (take i piece) (b ∷ (drop (i + 1) piece ++ left))
    ∙ ap (λ (l : List ℕ). read ++ l) (sym (append_assoc (take i piece) (b ∷ drop (i + 1) piece) left)
    ∙ ap (λ (l : List ℕ). l ++ left) (ap (λ (l : List ℕ). take i piece ++ l) (sym (drop_more piece i 0 within)) ∙ take-append-drop i piece))

pub piece_more : (read piece : List ℕ) (i : ℕ) → i < length piece → (read ++ take i piece) ++ get_or piece i 0 ∷ [] ≡ read ++ take (i + 1) piece
piece_more read piece i within = append_assoc read (take i piece) (get_or piece i 0 ∷ []) ∙ ap (λ (l : List ℕ). read ++ l) (sym (take_more piece i 0 within))

-- before the first line
pub nothing_answered : (start : PlainHeld) (script : List ℕ) (stop : Stop) (written : List ℕ) (reads : ℕ → List ℕ) (leaves : ℕ → List ℕ → Bool)
    → EachPair leaves (λ image0 image1. IsPlainStored image0 image1 start) → (stop ≡ stop_.Full → ⊥) → IsPartAnswered start script stop written written reads leaves
nothing_answered start script stop written reads leaves each not_full =
    whole_lines_answered start script [] (lines_of script) stop written written reads leaves refl (sym (append-nil written))
    (λ image0 image1 left0 left1. subst (λ (h : PlainHeld). IsPlainStored image0 image1 h) (sym (held_first start)) (each image0 image1 left0 left1)) not_full
