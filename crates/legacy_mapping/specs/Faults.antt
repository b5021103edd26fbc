-- When two types differ in the kind of a member and of its source.
use Rattle.std.specs.Prelude.{◌≡◌, ◌≢◌, ℕ, ◌<◌, List, Some, slice_get}
use Rattle.type_desc.specs.declared.desc.Member.{Member}
use Rattle.type_desc.specs.declared.desc.TypeDesc.{TypeDesc}
use Rattle.refactor_table.specs.declared.name.Pair.{Pair}
use Rattle.legacy_mapping.specs.Sources.{IsSource}
use Rattle.legacy_mapping.specs.declared.fault.PlanFault.{PlanFault}
use Rattle.legacy_mapping.specs.declared.fault.PlanFault.TheVariants.{KindDiffers, NoMemory}

-- the source of member k of the new type has another kind than the member
pub record DiffersAt (pairs : List Pair) (old new : TypeDesc) (k : ℕ) : Type 0 where
  pub member : Member
  pub source : Member
  pub index : ℕ
  pub member_is : slice_get new.members k ≡ Some member
  pub source_is : slice_get old.members index ≡ Some source
  pub is_source : IsSource pairs old new member.name (Some index)
  pub differs : source.kind ≢ member.kind

-- no member has
abbrev pub HaveOneKind : List Pair → TypeDesc → TypeDesc → Type 0
HaveOneKind pairs old new = (k : ℕ) → ¬ (DiffersAt pairs old new k)

-- member k has, and no member before it
pub record IsFirstDiffering (pairs : List Pair) (old new : TypeDesc) (member : ℕ) : Type 0 where
  pub differs : DiffersAt pairs old new member
  pub first : (k : ℕ) → k < member → ¬ (DiffersAt pairs old new k)

-- the first member whose source has another kind
abbrev pub StandsAgainst : List Pair → TypeDesc → TypeDesc → PlanFault → Type 0
StandsAgainst pairs old new NoMemory = Unit {0}
StandsAgainst pairs old new (KindDiffers member) = IsFirstDiffering pairs old new member
