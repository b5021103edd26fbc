-- The lines of a text.
use Rattle.std.specs.Prelude.{ℕ, ◌==◌, if◌then◌else◌, List, [], ◌∷◌, ◌++◌}
use Rattle.graph_export.specs.Line.{HasNoFeed}
use Rattle.session_model.specs.Commands.{with_byte}

-- A line ends with a line feed, which is no part of it. A last line without one counts where it has a byte.
abbrev pub lines_of : List ℕ → List (List ℕ)
lines_of [] = []
lines_of (b ∷ bytes) = if b == 10 then [] ∷ lines_of bytes else with_byte b (lines_of bytes)

-- one byte more in front of the first line, if there is one
abbrev pub with_front : ℕ → List (List ℕ) → List (List ℕ)
with_front b [] = []
with_front b (line ∷ lines) = (b ∷ line) ∷ lines

-- the lines that a line feed ends
abbrev pub whole_lines : List ℕ → List (List ℕ)
whole_lines [] = []
whole_lines (b ∷ bytes) = if b == 10 then [] ∷ whole_lines bytes else with_front b (whole_lines bytes)

-- each line, with its line feed
abbrev pub ended : List (List ℕ) → List ℕ
ended [] = []
ended (line ∷ lines) = line ++ 10 ∷ ended lines

abbrev pub AllHaveNoFeed : List (List ℕ) → Type 0
AllHaveNoFeed [] = Unit {0}
AllHaveNoFeed (line ∷ lines) = HasNoFeed line × AllHaveNoFeed lines
