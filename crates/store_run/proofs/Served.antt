-- A script that is answered line by line.
use Rattle.std.proofs.Common.{◌≡◌, ◌≢◌, ◌<◌, ◌++◌, ◌==◌, [], ◌∷◌, ℕ, false, true, ⊎_elim, List, Bool, length, refl, ap, sym, subst, ◌∙◌, arith, append_assoc}
use Rattle.std.proofs.lemmas.Bool.{cases_Bool}
use Rattle.std.proofs.lemmas.Bool.Decides.{Decides-eqb}
use Rattle.std.proofs.lemmas.List.{append-nil}
use Rattle.session_model.specs.Answer.{State, turn}
use Rattle.session_lines.specs.Limits.{most_bytes}
use Rattle.session.specs.Sessions.{SessionView as Session}
use Rattle.plain_storage.specs.Held.{IsPlainStored, PlainHeld}
use Rattle.plain_storage.specs.Images.{AreClean, EachPair}
use Rattle.plain_storage.specs.Keeping.{Keeps, Plain, held_in}
use Rattle.store_run.specs.Answer.{answers, held_after, held_behind, opened_on, state_after}
use Rattle.store_run.specs.Lines.{lines_of, ended}
use Rattle.store_run.specs.Progress.{IsFinished, IsServed, StandsBehind}
use Rattle.store_run.specs.Serving.{IsAt}
use Rattle.store_run.proofs.Appends.{answers_line, held_line, state_line}
use Rattle.store_run.proofs.ScriptLines.{all_no_feed_push, ended_push, last_line, lines_whole, no_feed_push}

-- one line more is answered
pub stands_line : (start : PlainHeld) (lines : List (List ℕ)) (line : List ℕ) (session session' : Session) (plain plain' : Plain) (reads reads' : ℕ → List ℕ)
    → StandsBehind start lines session plain reads
    → IsAt session' plain' (turn most_bytes (state_after (opened_on start) lines) line).state
    → Keeps plain' (turn most_bytes (state_after (opened_on start) lines) line).state.types reads'
    → held_in plain' (turn most_bytes (state_after (opened_on start) lines) line).state.types
    ≡ held_behind (held_in plain (state_after (opened_on start) lines).types) (turn most_bytes (state_after (opened_on start) lines) line)
    → StandsBehind start (lines ++ line ∷ []) session' plain' reads'
stands_line start lines line session session' plain plain' reads reads' stands at_ keeps behind =
    let made = turn most_bytes (state_after (opened_on start) lines) line in
    let same = state_line (opened_on start) lines line in
    record {
      at_ = subst (λ (s : State). IsAt session' plain' s) (sym same) at_;
      keeps = subst (λ (s : State). Keeps plain' s.types reads') (sym same) keeps;
      held = ap (λ (s : State). held_in plain' s.types) same ∙ behind ∙ ap (λ (h : PlainHeld). held_behind h made) stands.held ∙ sym (held_line start lines line);
    }

-- where a stop leaves what the files read, each image holds what they hold
pub clean_images : (held : PlainHeld) (reads : ℕ → List ℕ) (leaves : ℕ → List ℕ → Bool) → AreClean reads leaves → IsPlainStored (reads 0) (reads 1) held
    → EachPair leaves (λ image0 image1. IsPlainStored image0 image1 held)
clean_images held reads leaves clean stored image0 image1 left0 left1 =
    subst (λ (image : List ℕ). IsPlainStored image image1 held) (sym (clean.stores image0 left0))
    (subst (λ (image : List ℕ). IsPlainStored (reads 0) image held) (sym (clean.types image1 left1)) stored)

-- between two lines each image holds what they left
pub stands_images : (start : PlainHeld) (lines : List (List ℕ)) (session : Session) (plain : Plain) (reads : ℕ → List ℕ) (leaves : ℕ → List ℕ → Bool)
    → StandsBehind start lines session plain reads → AreClean reads leaves → EachPair leaves (λ image0 image1. IsPlainStored image0 image1 (held_after start lines))
stands_images start lines session plain reads leaves stands clean =
    clean_images (held_after start lines) reads leaves clean (subst (λ (h : PlainHeld). IsPlainStored (reads 0) (reads 1) h) stands.held stands.keeps.stored)

-- before the first line
pub nothing_served : (start : PlainHeld) (session : Session) (plain : Plain) (reads : ℕ → List ℕ) (written : List ℕ) → StandsBehind start [] session plain reads
    → IsServed start session plain reads [] [] written written
nothing_served start session plain reads written stands = record { lines = []; read_is = refl; whole = tt; open_line = tt; stands = stands; answered = sym (append-nil written) }

-- one byte more, which is no line feed
pub served_byte : (start : PlainHeld) (session : Session) (plain : Plain) (reads : ℕ → List ℕ) (read unended written0 written : List ℕ) (b : ℕ) → (b == 10) ≡ false
    → IsServed start session plain reads read unended written0 written
    → IsServed start session plain reads (read ++ b ∷ []) (unended ++ b ∷ []) written0 written
served_byte start session plain reads read unended written0 written b other served = record {
  lines = served.lines;
  read_is = ap (λ (l : List ℕ). l ++ b ∷ []) served.read_is ∙ append_assoc (ended served.lines) unended (b ∷ []);
  whole = served.whole;
  open_line = no_feed_push unended b served.open_line other;
  stands = served.stands;
  answered = served.answered;
}

-- what is written once the line is answered
next_answered : (start : PlainHeld) (lines : List (List ℕ)) (line written0 written written' : List ℕ) → written ≡ written0 ++ answers (opened_on start) lines
    → written' ≡ written ++ (turn most_bytes (state_after (opened_on start) lines) line).text → written' ≡ written0 ++ answers (opened_on start) (lines ++ line ∷ [])
next_answered start lines line written0 written written' before put =
    let text = (turn most_bytes (state_after (opened_on start) lines) line).text in
    put ∙ ap (λ (l : List ℕ). l ++ text) before ∙ append_assoc written0 (answers (opened_on start) lines) text
    ∙ ap (λ (l : List ℕ). written0 ++ l) (sym (answers_line (opened_on start) lines line))

-- a line feed, and the line is answered
pub served_line : (start : PlainHeld) (session session' : Session) (plain plain' : Plain) (reads reads' : ℕ → List ℕ) (read unended written0 written written' : List ℕ)
    → (served : IsServed start session plain reads read unended written0 written)
    → StandsBehind start (served.lines ++ unended ∷ []) session' plain' reads'
    → written' ≡ written ++ (turn most_bytes (state_after (opened_on start) served.lines) unended).text
    → IsServed start session' plain' reads' (read ++ 10 ∷ []) [] written0 written'
served_line start session session' plain plain' reads reads' read unended written0 written written' served stands put =
    let lines = served.lines in
    record {
      lines = lines ++ unended ∷ [];
      read_is = ap (λ (l : List ℕ). l ++ 10 ∷ []) served.read_is ∙ append_assoc (ended lines) unended (10 ∷ []) ∙ sym (ended_push lines unended) ∙ sym (append-nil (ended (lines ++ unended ∷ [])));
      whole = all_no_feed_push lines unended served.whole served.open_line;
      open_line = tt;
      stands = stands;
      answered = next_answered start lines unended written0 written written' served.answered put;
    }

-- ---- the end of the script

-- it ends the line
pub end_lines : (start : PlainHeld) (session : Session) (plain : Plain) (reads : ℕ → List ℕ) (script unended written0 written : List ℕ) (served : IsServed start session plain reads script unended written0 written)
    → 0 < length unended → lines_of script ≡ served.lines ++ unended ∷ []
end_lines start session plain reads script unended written0 written served some =
    ap lines_of served.read_is ∙ lines_whole served.lines unended served.whole ∙ ap (λ (l : List (List ℕ)). served.lines ++ l) (last_line unended served.open_line some)

-- the script ends with a line feed, or is empty
pub served_finished : (start : PlainHeld) (session : Session) (plain : Plain) (reads : ℕ → List ℕ) (script unended written0 written : List ℕ) → unended ≡ []
    → IsServed start session plain reads script unended written0 written → IsFinished start session plain reads script written0 written
served_finished start session plain reads script unended written0 written none served =
    let all : lines_of script ≡ served.lines =
    ap lines_of (served.read_is ∙ ap (λ (l : List ℕ). ended served.lines ++ l) none) ∙ lines_whole served.lines [] served.whole ∙ append-nil served.lines in
    record {
      stands = subst (λ (l : List (List ℕ)). StandsBehind start l session plain reads) (sym all) served.stands;
      answered = served.answered ∙ ap (λ (l : List (List ℕ)). written0 ++ answers (opened_on start) l) (sym all);
    }

-- the last line had not ended, and is answered
pub line_finished : (start : PlainHeld) (session session' : Session) (plain plain' : Plain) (reads reads' : ℕ → List ℕ) (script unended written0 written written' : List ℕ) → 0 < length unended
    → (served : IsServed start session plain reads script unended written0 written)
    → StandsBehind start (served.lines ++ unended ∷ []) session' plain' reads'
    → written' ≡ written ++ (turn most_bytes (state_after (opened_on start) served.lines) unended).text
    → IsFinished start session' plain' reads' script written0 written'
line_finished start session session' plain plain' reads reads' script unended written0 written written' some served stands put =
    let all = end_lines start session plain reads script unended written0 written served some in
    record {
      stands = subst (λ (l : List (List ℕ)). StandsBehind start l session' plain' reads') (sym all) stands;
      answered = next_answered start served.lines unended written0 written written' served.answered put ∙ ap (λ (l : List (List ℕ)). written0 ++ answers (opened_on start) l) (sym all);
    }

-- ---- bytes

pub no_feed : (b : ℕ) → b ≢ 10 → (b == 10) ≡ false
no_feed b other = ⊎_elim (λ h. absurd (other ((Decides-eqb b 10).0 h))) (λ h. h) (cases_Bool (b == 10))

pub no_bytes : (l : List ℕ) → (length l == 0) ≡ true → l ≡ []
no_bytes [] h = refl
no_bytes (x ∷ l) h = absurd (omega (arith, (Decides-eqb (length (x ∷ l)) 0).0 h))

pub some_bytes : (l : List ℕ) → (length l == 0) ≡ false → 0 < length l
some_bytes [] h = cc
some_bytes (x ∷ l) h = omega arith
