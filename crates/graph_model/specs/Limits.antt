-- Which ids there are, and how large entities and stores may be.
use Rattle.std.specs.Prelude.{ℕ, ◌^◌}

-- the first id that an object other than the root, which is 1, is given
abbrev pub first_id : ℕ
first_id = 1024

-- ids are below this, and the next id is at most this
abbrev pub id_limit : ℕ
id_limit = 2 ^ 48

-- the most bytes of an entity
abbrev pub entity_limit : ℕ
entity_limit = 1048576

-- the most bytes of the entities of one store
abbrev pub store_limit : ℕ
store_limit = 16777216
