-- The source of a member, from what was looked up.
use Rattle.std.proofs.Common.{◌≡◌, ℕ, Bool, true, false, List, Option, Some, None, refl, sym, ap, subst, ◌∙◌}
use Rattle.std.specs.Borrow.{Bor}
use Rattle.std.specs.BTreeMap.{BTreeMap}
use Rattle.std.specs.Prelude.{IfSome, IsSomeAnd, IsTrue, is_some, unwrap_or, ◌↔◌}
use Rattle.type_desc.specs.OwnNames.{IsNamed}
use Rattle.refactor_table.specs.Pairs.{Leads}
use Rattle.refactor_table.specs.declared.name.Pair.{Pair}
use Rattle.refactor_table.specs.declared.name.RefName.TheVariants.{OfType, OfMember}
use Rattle.type_desc.specs.declared.desc.TypeDesc.{TypeDesc}
use Rattle.legacy_mapping.specs.Positions.{position_of, ArePositions}
use Rattle.legacy_mapping.specs.Sources.{IsTarget, IsPaired, IsCarried, IsAlike, IsSource}

pub is_target : (pairs : List Pair) (name r : Bor (List ℕ)) (found : Option (Bor (List ℕ))) → r ≡ unwrap_or found name
    → IfSome found (λ new. Leads pairs (OfType name.now) (OfType new.now))
    → ((new : List ℕ) → Leads pairs (OfType name.now) (OfType new) → IsSomeAnd found (λ f. f.now ≡ new)) → IsTarget pairs name.now r.now
is_target pairs name r None e leads only = subst (λ (x : Bor (List ℕ)). IsTarget pairs name.now x.now) (sym e) (IsTarget.unpaired (λ new l. only new l))
is_target pairs name r (Some new) e leads only = subst (λ (x : Bor (List ℕ)). IsTarget pairs name.now x.now) (sym e) (IsTarget.paired new.now leads)

-- ---- the old member of an explicit pair

pub paired_found : (pairs : List Pair) (old new : TypeDesc) (name from : List ℕ) (positions : BTreeMap (Bor (List ℕ)) ℕ) (r : Option ℕ)
    → ArePositions old.members positions → r ≡ position_of positions from → Leads pairs (OfMember old.name from) (OfMember new.name name)
    → IfSome r (IsPaired pairs old new name)
paired_found pairs old new name from positions None are e leads = tt
paired_found pairs old new name from positions (Some i) are e leads = (from, are.stands i from (sym e), leads)

pub paired_only : (pairs : List Pair) (old new : TypeDesc) (name from : List ℕ) (positions : BTreeMap (Bor (List ℕ)) ℕ) (r : Option ℕ)
    → ArePositions old.members positions → r ≡ position_of positions from
    → ((m : List ℕ) → Leads pairs (OfMember old.name m) (OfMember new.name name) → from ≡ m)
    → (i : ℕ) → IsPaired pairs old new name i → r ≡ Some i
paired_only pairs old new name from positions r are e only i paired =
    e ∙ ap (position_of positions) (only paired.0 paired.2) ∙ are.found i paired.0 paired.1

-- ---- whether a pair carries an old member

pub is_carried : (pairs : List Pair) (old new : TypeDesc) (name to : List ℕ) (positions : BTreeMap (Bor (List ℕ)) ℕ) (r : Bool)
    → ArePositions new.members positions → r ≡ is_some (position_of positions to) → Leads pairs (OfMember old.name name) (OfMember new.name to)
    → ((m : List ℕ) → Leads pairs (OfMember old.name name) (OfMember new.name m) → to ≡ m)
    → IsTrue r ↔ IsCarried pairs old new name
is_carried pairs old new name to positions r are e leads only = (
  λ holds. known (position_of positions to) refl (sym e ∙ holds),
  λ carried. e ∙ ap is_some (ap (position_of positions) (only carried.1 carried.3) ∙ are.found carried.0 carried.1 carried.2),
)
  where
    known : (p : Option ℕ) → position_of positions to ≡ p → is_some p ≡ true → IsCarried pairs old new name
    known None at holds = absurd cc
    known (Some k) at holds = (k, to, are.stands k to at, leads)

pub not_carried : (pairs : List Pair) (old new : TypeDesc) (name : List ℕ)
    → ((m : List ℕ) → ¬ (Leads pairs (OfMember old.name name) (OfMember new.name m))) → IsTrue false ↔ IsCarried pairs old new name
not_carried pairs old new name unpaired = (λ holds. absurd cc, λ carried. absurd (unpaired carried.1 carried.3))

-- ---- the source

pub source_paired : (pairs : List Pair) (old new : TypeDesc) (name : List ℕ) (i : ℕ) → IsPaired pairs old new name i
    → ((j : ℕ) → IsPaired pairs old new name j → Some i ≡ Some j) → (source : Option ℕ) → IsSource pairs old new name source → Some i ≡ source
source_paired pairs old new name i here only source (IsSource.paired j is) = only j is
source_paired pairs old new name i here only source (IsSource.alike j unpaired is) = absurd (unpaired i here)
source_paired pairs old new name i here only source (IsSource.none unpaired none) = absurd (unpaired i here)

pub source_alike : (pairs : List Pair) (old new : TypeDesc) (name : List ℕ) (r : Option ℕ) → ((j : ℕ) → ¬ (IsPaired pairs old new name j))
    → IfSome r (IsAlike pairs old new name) → ((j : ℕ) → IsAlike pairs old new name j → r ≡ Some j) → IsSource pairs old new name r
source_alike pairs old new name None unpaired found only = IsSource.none unpaired (λ j is. let e = only j is in absurd cc)
source_alike pairs old new name (Some i) unpaired found only = IsSource.alike i unpaired found

pub source_alike-only : (pairs : List Pair) (old new : TypeDesc) (name : List ℕ) (r : Option ℕ) → ((j : ℕ) → ¬ (IsPaired pairs old new name j))
    → IfSome r (IsAlike pairs old new name) → ((j : ℕ) → IsAlike pairs old new name j → r ≡ Some j) → (source : Option ℕ) → IsSource pairs old new name source → r ≡ source
source_alike-only pairs old new name r unpaired found only source (IsSource.paired j is) = absurd (unpaired j is)
source_alike-only pairs old new name r unpaired found only source (IsSource.alike j nots is) = only j is
source_alike-only pairs old new name None unpaired found only source (IsSource.none nots none) = refl
source_alike-only pairs old new name (Some i) unpaired found only source (IsSource.none nots none) = absurd (none i found)
