-- The limit of a store.
use Rattle.std.specs.Prelude.{ℕ}

-- the most bytes of the entities of one store
abbrev pub most_bytes : ℕ
most_bytes = 1048560
