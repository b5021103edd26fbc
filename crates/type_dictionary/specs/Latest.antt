-- The ids of types: that of each record, and that of the latest type of a name.
use Rattle.std.specs.Prelude.{ℕ, ◌+◌, ◌-◌, ◌==◌, nat_le, if◌then◌else◌, Option, Some, None, List, [], ◌∷◌, codes, slice_get}
use Rattle.std.specs.Option.{option_or}
use Rattle.std.specs.Str.{bytes_eq}
use Rattle.type_desc.specs.Root.{root_desc}
use Rattle.type_desc.specs.declared.desc.TypeDesc.{TypeDesc}

-- the description of a type's id: 1 is that of the built-in type, and record i, from 0, has the id 16 + i
abbrev pub desc_of : List TypeDesc → ℕ → Option TypeDesc
desc_of types id = if id == 1 then Some root_desc else (if nat_le 16 id then slice_get types (id - 16) else None)

-- the last of these records that has the name, where the first has this id
abbrev pub latest_from : ℕ → List TypeDesc → List ℕ → Option ℕ
latest_from id [] name = None
latest_from id (desc ∷ types) name = option_or (latest_from (id + 1) types name) (if bytes_eq desc.name name then Some id else None)

-- the id of the latest type of a name; the built-in one is the only one of its name
abbrev pub latest_of : List TypeDesc → List ℕ → Option ℕ
latest_of types name = if bytes_eq name (codes "Root") then Some 1 else latest_from 16 types name
