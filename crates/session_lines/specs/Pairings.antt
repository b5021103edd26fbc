-- Whether a pair of names may be added, and why it may not.
use Rattle.std.specs.Prelude.{◌≡◌, ◌||◌, ℕ, Bool, true, false, List}
use Rattle.type_desc.specs.declared.desc.TypeDesc.{TypeDesc}
use Rattle.refactor_table.specs.Pairs.{IsFirstClash, IsFresh}
use Rattle.refactor_table.specs.declared.name.Pair.{Pair}
use Rattle.refactor_table.specs.declared.name.RefName.{RefName}
use Rattle.session_model.specs.Types.{is_root_type, type_in}
use Rattle.session_model.specs.Answer.{State, differs}
use Rattle.session_lines.specs.declared.refusal.Stop.{Stop}
use Rattle.session_lines.specs.declared.refusal.Stop.TheVariants.{Refused}
use Rattle.session_lines.specs.declared.refusal.Refusal.TheVariants.{Reserved, Duplicate, WrongKind}

-- one of the two types is the root's
abbrev pub names_root : RefName → RefName → Bool
names_root old new = is_root_type (type_in old) || is_root_type (type_in new)

-- neither type is the root's, no pair has one of the names, and the member keeps its kind
pub record MayBePaired (types : List TypeDesc) (pairs : List Pair) (old new : RefName) : Type 0 where
  pub other : names_root old new ≡ false
  pub fresh : IsFresh pairs old new
  pub alike : (state : State) → state.types ≡ types → differs state old new ≡ false

-- neither type is the root's, and some pair has one of the names
pub record IsPaired (pairs : List Pair) (old new : RefName) : Type 0 where
  pub other : names_root old new ≡ false
  pub row : ℕ
  pub clash : IsFirstClash pairs old new row

-- only the member's kind is another
pub record ChangesKind (types : List TypeDesc) (pairs : List Pair) (old new : RefName) : Type 0 where
  pub other : names_root old new ≡ false
  pub fresh : IsFresh pairs old new
  pub unlike : (state : State) → state.types ≡ types → differs state old new ≡ true

-- the first reason against the pair
abbrev pub MayNotBePaired : List TypeDesc → List Pair → RefName → RefName → Stop → Type 0
MayNotBePaired types pairs old new (Refused Reserved) = names_root old new ≡ true
MayNotBePaired types pairs old new (Refused Duplicate) = IsPaired pairs old new
MayNotBePaired types pairs old new (Refused WrongKind) = ChangesKind types pairs old new
MayNotBePaired types pairs old new _ = ⊥
