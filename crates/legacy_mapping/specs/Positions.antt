-- Members by their names.
use Rattle.std.specs.Prelude.{◌≡◌, ℕ, List, Option, Some}
use Rattle.std.specs.Borrow.{Bor}
use Rattle.std.specs.Cmp.Lexicographic.{slice_cmp}
use Rattle.std.specs.Ordering.{nat_cmp}
use Rattle.std.specs.BTreeMap.{BTreeMap, get_by}
use Rattle.type_desc.specs.declared.desc.Member.{Member}
use Rattle.type_desc.specs.OwnNames.{IsNamed}

-- the index that the positions give for a name
abbrev pub position_of : BTreeMap (Bor (List ℕ)) ℕ → List ℕ → Option ℕ
position_of positions name = get_by (λ k. slice_cmp nat_cmp name k.now) positions

-- the positions give exactly the members of each name
pub record ArePositions (members : List Member) (positions : BTreeMap (Bor (List ℕ)) ℕ) : Type 0 where
  pub found : (i : ℕ) (name : List ℕ) → IsNamed members i name → position_of positions name ≡ Some i
  pub stands : (i : ℕ) (name : List ℕ) → position_of positions name ≡ Some i → IsNamed members i name
