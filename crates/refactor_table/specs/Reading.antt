-- A name, read from left to right.
use Rattle.std.specs.Prelude.{ℕ, List, Ok, ◌==◌}
use Rattle.type_desc.specs.Reader.{Reading, ◌>>=◌, either, byte_at, end_at}
use Rattle.type_desc.specs.Reading.{name_at}
use Rattle.type_desc.specs.declared.desc.NameKind.TheVariants as kinds
use Rattle.refactor_table.specs.declared.name.RefName.{RefName}
use Rattle.refactor_table.specs.declared.name.RefName.TheVariants.{OfType, OfMember}

-- the member behind a dot, and the end
unfoldable pub member_end_at : List ℕ → List ℕ → Reading RefName
member_end_at type_name text = do
  dot ← byte_at 46 text
  member ← name_at kinds.OfMember dot.1
  end ← end_at member.1
  Ok (OfMember type_name member.0, end.1)

-- the end behind the name of a type
unfoldable pub type_end_at : List ℕ → List ℕ → Reading RefName
type_end_at type_name text = do
  end ← end_at text
  Ok (OfType type_name, end.1)

-- a type's name, and a member's where a dot follows
unfoldable pub ref_name_at : List ℕ → Reading RefName
ref_name_at text = do
  type_name ← name_at kinds.OfType text
  either (λ b. b == 46) (member_end_at type_name.0) (type_end_at type_name.0) type_name.1
