-- The lines of an output that say that a store was kept.
use Rattle.std.specs.Prelude.{ℕ, nat_eq, Bool, List, length, drop, count_by, codes}
use Rattle.std.specs.List.{starts_with}
use Rattle.store_run.specs.Lines.{whole_lines}

-- the line begins with `stored `
abbrev pub says_stored : List ℕ → Bool
says_stored line = starts_with nat_eq line (codes "stored ")

-- how many whole lines begin with `stored `
abbrev pub count_stored : List ℕ → ℕ
count_stored bytes = count_by says_stored (whole_lines bytes)

-- how many were put in between
abbrev pub acknowledged : (before now : List ℕ) → ℕ
acknowledged before now = count_stored (drop (length before) now)
