-- The lines of a script that is made up from a number.
use Rattle.std.specs.Prelude.{◌≡◌, ◌≤◌, ℕ, zero, suc, ◌+◌, ◌-◌, ◌==◌, nat_le, nat_lt, Option, Some, None, Bool, true, false, if◌then◌else◌, List, [], ◌∷◌, ◌++◌, codes}
use Rattle.std.specs.Fmt.{decimal}
use Rattle.workload.specs.Draws.{bound_before, draw_at, is_bound, state_before}
use Rattle.workload.specs.declared.draw.Draw.{Draw}

-- a line on a slot
abbrev pub on_slot : (words : List ℕ) → Draw → List ℕ
on_slot words draw = words ++ decimal draw.slot

-- a line that gives a member the object of a slot, or nothing where that slot is free
abbrev pub set_reference : (member : List ℕ) → Draw → (is_target_bound : Bool) → List ℕ
set_reference member draw is_target_bound =
    if is_target_bound then ((on_slot (codes "set n") draw ++ member) ++ codes " n") ++ decimal draw.target
    else (on_slot (codes "set n") draw ++ member) ++ codes " null"

abbrev pub set_rank : Draw → List ℕ
set_rank draw = (on_slot (codes "set n") draw ++ codes " rank ") ++ decimal draw.value

abbrev pub show : Draw → List ℕ
show draw = on_slot (codes "show n") draw

-- the line on a bound slot, by the kind that was drawn
abbrev pub line_of_kind : Draw → (is_target_bound : Bool) → List ℕ
line_of_kind draw is_target_bound =
    if nat_lt draw.kind 2 then set_rank draw
    else if draw.kind == 2 then (on_slot (codes "set n") draw ++ codes " label l") ++ decimal draw.value
    else if nat_lt draw.kind 5 then set_reference (codes " next") draw is_target_bound
    else if draw.kind == 5 then set_reference (codes " far") draw is_target_bound
    else if nat_lt draw.kind 8 then (if is_target_bound then (on_slot (codes "add n") draw ++ codes " all n") ++ decimal draw.target else show draw)
    else if nat_lt draw.kind 11 then on_slot (codes "store n") draw
    else if draw.kind == 11 then codes "store root"
    else if draw.kind == 12 then (if draw.slot == 0 then show draw else on_slot (codes "drop n") draw)
    else if draw.kind == 13 then codes "forget"
    else if draw.kind == 14 then (if nat_lt draw.value 100 then codes "collect" else show draw)
    else (if nat_lt draw.value 100 then codes "tidy" else set_rank draw)

-- the line that is made of a draw: a free slot gets an object
abbrev pub line_of_draw : List Bool → Draw → List ℕ
line_of_draw bound draw =
    if is_bound bound draw.slot then line_of_kind draw (is_bound bound draw.target)
    else on_slot (codes "new n") draw ++ codes " Item"

-- line k of those that are drawn
abbrev pub drawn_line : (number k : ℕ) → List ℕ
drawn_line number k = line_of_draw (bound_before number k) (draw_at number k)

-- the script begins with these four lines
abbrev pub opening_line : ℕ → List ℕ
opening_line at =
    if at == 0 then codes "type Item int:rank text:label ref:next lazy:far refs:all"
    else if at == 1 then codes "new n0 Item"
    else if at == 2 then codes "root n0"
    else codes "store root"

-- where the drawn lines end: a script of at least six lines ends with two that are not drawn
abbrev pub drawn_end : ℕ → ℕ
drawn_end lines = if nat_le 6 lines then lines - 2 else lines

-- line `at`, from 0, of a script of so many lines: four to begin with, then drawn ones, then `collect` and `export`
abbrev pub line_at : (lines number at : ℕ) → List ℕ
line_at lines number at =
    if nat_lt at 4 then opening_line at
    else if nat_lt at (drawn_end lines) then drawn_line number (at - 4)
    else if at + 1 == lines then codes "export"
    else codes "collect"

-- the state and the bound slots before line `at`; behind the drawn lines they are of no more use
pub record StandBefore (lines number at state : ℕ) (bound : List Bool) : Type 0 where
  pub state_is : at ≤ drawn_end lines → state ≡ state_before number (at - 4)
  pub bound_is : at ≤ drawn_end lines → bound ≡ bound_before number (at - 4)

-- the lines from this one on, so many
abbrev pub lines_from : (lines number at count : ℕ) → List (List ℕ)
lines_from lines number at zero = []
lines_from lines number at (suc count) = line_at lines number at ∷ lines_from lines number (suc at) count

-- the whole script
abbrev pub script : (lines number : ℕ) → List (List ℕ)
script lines number = lines_from lines number 0 lines

-- what comes next of these lines, with its line feed, and the lines behind it
abbrev pub IsNext : List (List ℕ) → Option (List ℕ) → List (List ℕ) → Type 0
IsNext [] given left = (given ≡ None) × (left ≡ [])
IsNext (line ∷ lines) given left = (given ≡ Some (line ++ 10 ∷ [])) × (left ≡ lines)
