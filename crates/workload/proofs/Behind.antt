-- What stands before a line leads to what stands before the next one.
use Rattle.std.proofs.Common.{◌≡◌, ◌≤◌, ◌<◌, ◌+◌, ◌-◌, ℕ, suc, Bool, ◌&&◌, not, List, [], ◌∷◌, ◌++◌, Some, Ok, Err, Result, OnOk, set, ap, sym, ◌∙◌, subst, add-one, arith}
use Rattle.workload.specs.Draws.{bound_before, draw_from, drops, is_bound, state_before, state_behind}
use Rattle.workload.specs.Lines.{IsNext, StandBefore, drawn_end, line_at, lines_from}

abbrev pub four_behind : ℕ → ℕ
four_behind state = state_behind (state_behind (state_behind (state_behind state)))

abbrev pub bound_behind : ℕ → List Bool → List Bool
bound_behind state bound = set bound (draw_from state).slot (not (is_bound bound (draw_from state).slot && drops (draw_from state)))

pub two_on_ok : {T E : Type 0} (r : Result T E) (P Q R : Type 0) → (P → Q → R) → OnOk r P → OnOk r Q → OnOk r R
two_on_ok (Ok x) P Q R f p q = f p q
two_on_ok (Err e) P Q R f p q = tt

pub stand_behind : (lines number at state : ℕ) (bound : List Bool) (state' : ℕ) (bound' : List Bool) → 4 ≤ at → at < drawn_end lines → StandBefore lines number at state bound
    → state' ≡ four_behind state → bound' ≡ bound_behind state bound → StandBefore lines number (at + 1) state' bound'
stand_behind lines number at state bound state' bound' opened within stand state_is bound_is =
    let here : at ≤ drawn_end lines = omega arith in
    let next : at + 1 - 4 ≡ suc (at - 4) = omega arith in
    record {
      state_is = λ _. state_is ∙ ap four_behind (stand.state_is here) ∙ ap (state_before number) (sym next);
      bound_is = λ _. bound_is ∙ ap (λ s. bound_behind s bound) (stand.state_is here) ∙ ap (λ b. bound_behind (state_before number (at - 4)) b) (stand.bound_is here) ∙ ap (bound_before number) (sym next);
    }

pub next_of : (lines number at : ℕ) (line : List ℕ) → at < lines → line ≡ line_at lines number at ++ 10 ∷ []
    → IsNext (lines_from lines number at (lines - at)) (Some line) (lines_from lines number (at + 1) (lines - (at + 1)))
next_of lines number at line within line_is =
    let left : lines - at ≡ suc (lines - (at + 1)) = omega arith in
    let P : ℕ → Type 0 = λ n. IsNext (lines_from lines number at n) (Some line) (lines_from lines number (at + 1) (lines - (at + 1))) in
    subst P (sym left) (ap Some line_is, ap (λ k. lines_from lines number k (lines - (at + 1))) (add-one at))
