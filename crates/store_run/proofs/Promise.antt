-- From lines that are answered to what a run promises.
use Rattle.std.proofs.Common.{◌≡◌, ◌≢◌, ◌++◌, [], ◌∷◌, ℕ, Bool, List, inl, inr, ⊎_elim, take, drop, refl, ap, sym, subst, ◌∙◌, append_assoc}
use Rattle.std.proofs.lemmas.List.{append-nil, take-append-drop}
use Rattle.session_model.specs.Answer.{State, turn}
use Rattle.session_lines.specs.Limits.{most_bytes}
use Rattle.session.specs.Sessions.{SessionView as Session}
use Rattle.plain_storage.specs.Held.{PlainHeld}
use Rattle.plain_storage.specs.Images.{AreClean, EachPair}
use Rattle.plain_storage.specs.Keeping.{Plain}
use Rattle.store_run.specs.Answer.{answer, answers, opened_on, state_after}
use Rattle.store_run.specs.Lines.{lines_of}
use Rattle.store_run.specs.Progress.{IsFinished, IsPartAnswered}
use Rattle.store_run.specs.Run.{EndsLine, HoldsPrefix, IsAnswered, IsCleanWith, IsFrontOf, IsRun}
use Rattle.store_run.specs.Statuses.{status_of}
use Rattle.store_run.specs.declared.status.Status.TheVariants as status_
use Rattle.store_run.specs.declared.stop.Stop.{Stop}
use Rattle.store_run.specs.declared.stop.Stop.TheVariants as stop_
use Rattle.store_run.proofs.AnswerLines.{turn_ends}
use Rattle.store_run.proofs.Appends.{answers-append}
use Rattle.store_run.proofs.PartAnswers.{nothing_answered}
use Rattle.store_run.proofs.Served.{clean_images, stands_images}

ends-append : (done part : List ℕ) → EndsLine done → EndsLine part → EndsLine (done ++ part)
ends-append done part first second =
    ⊎_elim
    (λ none. subst EndsLine (sym (ap (λ (l : List ℕ). done ++ l) none ∙ append-nil done)) first)
    (λ some. inr (done ++ some.0, ap (λ (l : List ℕ). done ++ l) some.1 ∙ sym (append_assoc done some.0 (10 ∷ []))))
    second

-- answers are none, or end with a line feed
answers_end : (state : State) (lines : List (List ℕ)) → EndsLine (answers state lines)
answers_end state [] = inl refl
answers_end state (line ∷ lines) =
    let made = turn most_bytes state line in
    ends-append made.text (answers made.state lines) (inr (turn_ends state line)) (answers_end made.state lines)

-- the answers to the first lines and a front of the next are a front of all
answered_front : (state : State) (lines done rest : List (List ℕ)) (part part_rest : List ℕ) → lines ≡ done ++ rest
    → answers (state_after state done) (take 1 rest) ≡ part ++ part_rest → IsFrontOf (answers state lines) (answers state done ++ part)
answered_front state lines done rest part part_rest split is =
    let behind = state_after state done in
    let more = answers (state_after behind (take 1 rest)) (drop 1 rest) in
    let first : answers behind rest ≡ answers behind (take 1 rest) ++ more =
    ap (answers behind) (sym (take-append-drop 1 rest)) ∙ answers-append behind (take 1 rest) (drop 1 rest) in
    record {
      rest = part_rest ++ more;
      split = ap (answers state) split ∙ answers-append state done rest
          ∙ ap (λ (l : List ℕ). answers state done ++ l) (first ∙ ap (λ (l : List ℕ). l ++ more) is ∙ append_assoc part part_rest more)
          ∙ sym (append_assoc (answers state done) part (part_rest ++ more));
    }

-- what is put where a part is answered
part_put : (text before now left done part : List ℕ) (stop : Stop) → IsFrontOf text (done ++ part) → EndsLine done → now ≡ before ++ (done ++ part) → (stop ≢ stop_.WriteFault → EndsLine part)
    → IsAnswered (status_of stop) text before now left
part_put text before now left done part stop_.WriteFault front ends put line_end = (done ++ part, put, front)
part_put text before now left done part stop_.ReadFault front ends put line_end = (done ++ part, put, (front, ends-append done part ends (line_end (λ h. cc))))
part_put text before now left done part stop_.StorageFault front ends put line_end = (done ++ part, put, (front, ends-append done part ends (line_end (λ h. cc))))
part_put text before now left done part stop_.NoMemory front ends put line_end = (done ++ part, put, (front, ends-append done part ends (line_end (λ h. cc))))
part_put text before now left done part stop_.InputTooLong front ends put line_end = (done ++ part, put, (front, ends-append done part ends (line_end (λ h. cc))))
part_put text before now left done part stop_.Full front ends put line_end = (done ++ part, put, (front, ends-append done part ends (line_end (λ h. cc))))

not_done : (stop : Stop) → status_of stop ≡ status_.Done → ⊥
not_done stop_.WriteFault is = cc
not_done stop_.ReadFault is = cc
not_done stop_.StorageFault is = cc
not_done stop_.NoMemory is = cc
not_done stop_.InputTooLong is = cc
not_done stop_.Full is = cc

was_full : (stop : Stop) → status_of stop ≡ status_.Full → stop ≡ stop_.Full
was_full stop_.WriteFault is = cc
was_full stop_.ReadFault is = cc
was_full stop_.StorageFault is = cc
was_full stop_.NoMemory is = cc
was_full stop_.InputTooLong is = cc
was_full stop_.Full is = refl

done_not_full : status_.Done ≡ status_.Full → ⊥
done_not_full is = cc

-- a run that stops before its end
pub stopped_run : (start : PlainHeld) (script left written0 written : List ℕ) (reads : ℕ → List ℕ) (leaves : ℕ → List ℕ → Bool) (stop : Stop)
    → IsPartAnswered start script stop written0 written reads leaves → IsRun start (status_of stop) script left written0 written reads leaves
stopped_run start script left written0 written reads leaves stop part =
    let state = opened_on start in
    let is = part.answered in
    record {
      answered = part_put (answer start script).bytes written0 written left (answers state part.done) is.part stop
          (answered_front state (lines_of script) part.done part.rest is.part is.part_rest is.lines is.next_answer) (answers_end state part.done) is.put part.line_end;
      prefix = λ image0 image1 left0 left1. record { done = part.done; rest = part.rest; answered = is; held = part.images image0 image1 left0 left1 };
      all_stored = λ done. absurd (not_done stop done);
      due = λ full. record { done = part.done; rest = part.rest; answered = is; full = part.full (was_full stop full) };
    }

-- a run to its end
pub finished_run : (start : PlainHeld) (session : Session) (plain : Plain) (reads : ℕ → List ℕ) (script left written0 written : List ℕ) (leaves : ℕ → List ℕ → Bool)
    → IsFinished start session plain reads script written0 written → AreClean reads leaves → left ≡ [] → IsRun start status_.Done script left written0 written reads leaves
finished_run start session plain reads script left written0 written leaves finished clean read =
    let lines = lines_of script in
    let state = opened_on start in
    let holds = stands_images start lines session plain reads leaves finished.stands clean in
    record {
      answered = (finished.answered, read);
      prefix = λ image0 image1 left0 left1. record {
        done = lines;
        rest = [];
        answered = record {
          lines = sym (append-nil lines);
          part = [];
          part_rest = [];
          next_answer = refl;
          short = λ h. h;
          put = finished.answered ∙ ap (λ (l : List ℕ). written0 ++ l) (sym (append-nil (answers state lines)));
        };
        held = inl (holds image0 image1 left0 left1);
      };
      all_stored = λ done. holds;
      due = λ full. absurd (done_not_full full);
    }

-- where nothing was done the images hold the start
pub untouched_prefix : (start : PlainHeld) (reads : ℕ → List ℕ) (leaves : ℕ → List ℕ → Bool) (script written : List ℕ) → IsCleanWith start reads leaves → EachPair leaves (HoldsPrefix start script written written)
untouched_prefix start reads leaves script written ready =
    (stopped_run start script script written written reads leaves stop_.NoMemory
    (nothing_answered start script stop_.NoMemory written reads leaves (clean_images start reads leaves ready.clean ready.stored) (λ full. cc))).prefix
