-- What a script that is made up draws, and which of its 64 slots are bound.
use Rattle.std.specs.Prelude.{ℕ, zero, suc, ◌+◌, ◌*◌, ◌/◌, ◌%◌, ◌==◌, ◌&&◌, not, Bool, true, false, List, [], ◌∷◌, replicate, set, slice_get, unwrap_or}
use Rattle.workload.specs.declared.draw.Draw.{Draw}

-- each state follows from the one before
abbrev pub state_behind : ℕ → ℕ
state_behind state = (state * 1103515245 + 12345) % 2147483648

-- a number below n, drawn at a state
abbrev pub drawn : ℕ → ℕ → ℕ
drawn state n = (state / 65536) % n

-- the state before the draws of line k, four draws a line
abbrev pub state_before : (number k : ℕ) → ℕ
state_before number zero = number
state_before number (suc k) = state_behind (state_behind (state_behind (state_behind (state_before number k))))

abbrev pub draw_from : ℕ → Draw
draw_from state =
    let first = state_behind state in
    let second = state_behind first in
    let third = state_behind second in
    let fourth = state_behind third in
    record { kind = drawn first 16; slot = drawn second 64; target = drawn third 64; value = drawn fourth 1000 }

abbrev pub draw_at : (number k : ℕ) → Draw
draw_at number k = draw_from (state_before number k)

-- the draw takes a bound slot's name away: never that of slot 0, which the root leads to
abbrev pub drops : Draw → Bool
drops draw = (draw.kind == 12) && not (draw.slot == 0)

abbrev pub is_bound : List Bool → ℕ → Bool
is_bound bound slot = unwrap_or (slice_get bound slot) false

-- which slots are bound before line k: slot 0 at first; a line on a free slot binds it, and one that drops it sets it free
abbrev pub bound_before : (number k : ℕ) → List Bool
bound_before number zero = true ∷ replicate 63 false
bound_before number (suc k) =
    let before = bound_before number k in
    let draw = draw_at number k in
    set before draw.slot (not (is_bound before draw.slot && drops draw))
