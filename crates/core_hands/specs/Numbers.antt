-- A set of numbers, as a flag for each.
use Rattle.std.specs.Prelude.{ℕ, ◌+◌, Bool, true, false, List, [], ◌∷◌}

-- the numbers of the flags that are set, rising, where the first flag is that of k
abbrev pub numbers_from : ℕ → List Bool → List ℕ
numbers_from k [] = []
numbers_from k (true ∷ flags) = k ∷ numbers_from (k + 1) flags
numbers_from k (false ∷ flags) = numbers_from (k + 1) flags
