-- Values, and how an entity holds them.
use Rattle.std.specs.Prelude.{◌≡◌, ℕ, ◌+◌, ◌*◌, ◌<◌, ◌^◌, List, [], ◌∷◌, ◌++◌, length, map, IsUtf8, FitsSigned, pos}
use Rattle.std.specs.List.{flat_map}
use Rattle.std.specs.Int.{w64, cast_unsigned}
use Rattle.field_bytes.specs.Fields.{bytes_of}
use Rattle.graph_model.specs.declared.entity.Entity.{Entity}
use Rattle.type_desc.specs.declared.desc.Kind.{Kind}
use Rattle.type_desc.specs.declared.desc.Kind.TheVariants as kinds
use Rattle.type_desc.specs.declared.desc.Member.{Member}
use Rattle.type_desc.specs.declared.desc.TypeDesc.{TypeDesc}
use Rattle.entity_form.specs.declared.value.Value.{Value}
use Rattle.entity_form.specs.declared.value.Value.TheVariants.{Int, Text, Bytes, Ref, Lazy, Refs}
use Rattle.entity_form.specs.declared.value.Object.{Object}

abbrev pub kind_of : Value → Kind
kind_of (Int n) = kinds.Int
kind_of (Text t) = kinds.Text
kind_of (Bytes b) = kinds.Bytes
kind_of (Ref id) = kinds.Ref
kind_of (Lazy id) = kinds.Lazy
kind_of (Refs ids) = kinds.Refs

-- the references of a value
abbrev pub refs_of : Value → List ℕ
refs_of (Int n) = []
refs_of (Text t) = []
refs_of (Bytes b) = []
refs_of (Ref id) = id ∷ []
refs_of (Lazy id) = id ∷ []
refs_of (Refs ids) = ids

-- four bytes of length, and so many bytes
abbrev pub sized : List ℕ → List ℕ
sized bytes = bytes_of 4 (length bytes) ++ bytes

-- the plain bytes of a value
abbrev pub plain_of : Value → List ℕ
plain_of (Int n) = bytes_of 8 (cast_unsigned w64 n)
plain_of (Text t) = sized t
plain_of (Bytes b) = sized b
plain_of (Ref id) = []
plain_of (Lazy id) = []
plain_of (Refs ids) = bytes_of 4 (length ids)

-- what an entity can hold
abbrev pub IsHeld : Value → Type 0
IsHeld (Int n) = FitsSigned w64 n
IsHeld (Text t) = IsUtf8 t × (length t < 2 ^ 32)
IsHeld (Bytes b) = length b < 2 ^ 32
IsHeld (Ref id) = Unit {0}
IsHeld (Lazy id) = Unit {0}
IsHeld (Refs ids) = length ids < 2 ^ 32

-- the kinds of a type's members
abbrev pub kinds_of : TypeDesc → List Kind
kinds_of desc = map (λ (m : Member). m.kind) desc.members

-- the values are of these kinds
abbrev pub AreOf : List Kind → List Value → Type 0
AreOf kinds values = map kind_of values ≡ kinds

-- the entity that holds an object
abbrev pub entity_of : Object → Entity
entity_of object = record { type_id = object.type_id; refs = flat_map refs_of object.values; plain = flat_map plain_of object.values }

-- how many bytes a value takes in an entity
abbrev pub value_size : Value → ℕ
value_size v = 8 * length (refs_of v) + length (plain_of v)

-- the value of a member that nothing was set to
abbrev pub default_of : Kind → Value
default_of kinds.Int = Int (pos 0)
default_of kinds.Text = Text []
default_of kinds.Bytes = Bytes []
default_of kinds.Ref = Ref 0
default_of kinds.Lazy = Lazy 0
default_of kinds.Refs = Refs []
