-- The words of the program.
use Rattle.std.specs.Prelude.{ℕ, ◌==◌, ◌&&◌, not, Bool, false, String, List, [], ◌∷◌, codes}
use Rattle.std.specs.declared.alloc.Global.{Global}
use Rattle.std.specs.String.{string_bytes}
use Rattle.std.specs.Str.{bytes_eq}

-- not empty, and not with a - in front
abbrev pub is_folder : List ℕ → Bool
is_folder [] = false
is_folder (b ∷ word) = not (b == 45)

-- run DIR 1
abbrev pub are_run_words : List (String Global) → Bool
are_run_words (run ∷ (folder ∷ (count ∷ []))) =
    bytes_eq (string_bytes run) (codes "run") && (is_folder (string_bytes folder) && bytes_eq (string_bytes count) (codes "1"))
are_run_words _ = false
