-- Fronts of a script that is made up.
use Rattle.std.proofs.Common.{◌≡◌, inr, ℕ, List, [], ◌∷◌, ◌++◌, Some, take, drop, sym, ap, ◌∙◌, take-append-drop, append_assoc}
use Rattle.workload.specs.Lines.{IsNext}
use Rattle.store_run.specs.Run.{EndsLine, IsFrontOf, Puts}
use Rattle.store_run.specs.Scripts.{text_of}

-- the line that comes next is the front of what is left
pub next_in_front : (left new : List (List ℕ)) (line : List ℕ) → IsNext left (Some line) new → text_of left ≡ line ++ text_of new
next_in_front [] new line next = cc next.0
next_in_front (first ∷ left) new line next = cc (next.0, next.1)

-- it ends with a line feed
next_ends : (left new : List (List ℕ)) (line : List ℕ) → IsNext left (Some line) new → (front : List ℕ) × (line ≡ front ++ 10 ∷ [])
next_ends [] new line next = cc next.0
next_ends (first ∷ left) new line next = (first, cc next.0)

pub ends_with_next : (done : List ℕ) (left new : List (List ℕ)) (line : List ℕ) → IsNext left (Some line) new → EndsLine (done ++ line)
ends_with_next done left new line next =
    let ends = next_ends left new line next in
    inr (done ++ ends.0, ap (λ (l : List ℕ). done ++ l) ends.1 ∙ sym (append_assoc done ends.0 (10 ∷ [])))

-- what was put, and a front of the line that comes next
pub cut_in_line : (written0 written now text done line rest : List ℕ) (n : ℕ) → written ≡ written0 ++ done → text ≡ done ++ (line ++ rest) → now ≡ written ++ take n line → Puts (IsFrontOf text) written0 now
cut_in_line written0 written now text done line rest n was whole is = (
  done ++ take n line,
  is ∙ (ap (λ (w : List ℕ). w ++ take n line) was ∙ append_assoc written0 done (take n line)),
  record {
    rest = drop n line ++ rest;
    split = whole ∙ (ap (λ (l : List ℕ). done ++ (l ++ rest)) (sym (take-append-drop n line)) ∙ (ap (λ (l : List ℕ). done ++ l) (append_assoc (take n line) (drop n line) rest) ∙ sym (append_assoc done (take n line) (drop n line ++ rest))));
  },
)
