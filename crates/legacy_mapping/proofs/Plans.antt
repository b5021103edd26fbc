-- Plans that are built one source after the other.
use Rattle.std.proofs.Common.{◌≡◌, ◌≢◌, ℕ, ◌+◌, ◌<◌, List, [], ◌∷◌, ◌++◌, take, length, map, Option, Some, refl, sym, ap, subst, ◌∙◌, inl, inr, arith}
use Rattle.std.specs.List.{AllZip}
use Rattle.std.specs.Option.{ForSome}
use Rattle.std.specs.Prelude.{slice_get, option_map}
use Rattle.std.proofs.lemmas.Bool.{cases_lt}
use Rattle.std.proofs.lemmas.Option.{slice_get-map, slice_get_within}
use Rattle.type_desc.specs.OwnNames.{names_of, HaveOwnNames}
use Rattle.entity_form.specs.Values.{kinds_of}
use Rattle.refactor_table.specs.Pairs.{AreSound}
use Rattle.refactor_table.specs.declared.name.Pair.{Pair}
use Rattle.type_desc.specs.declared.desc.Member.{Member}
use Rattle.type_desc.specs.declared.desc.TypeDesc.{TypeDesc}
use Rattle.legacy_mapping.specs.Conversion.{Suits}
use Rattle.legacy_mapping.specs.Faults.{DiffersAt, IsFirstDiffering}
use Rattle.legacy_mapping.specs.Sources.{AreApart, IsSource}
use Rattle.legacy_mapping.proofs.Apartness.{sources_apart}
use Rattle.legacy_mapping.proofs.Lists.{take-more, all_zip-push, all_zip-unpush}
use Rattle.legacy_mapping.proofs.PositionLemmas.{is_named, length-names}

-- the sources of the members before the n-th: they are the only ones, and all have their members' kinds
pub record IsPlannedBelow (pairs : List Pair) (old new : TypeDesc) (n : ℕ) (sources : List (Option ℕ)) : Type 0 where
  pub are_sources : AllZip (IsSource pairs old new) (take n (names_of new.members)) sources
  pub only : (others : List (Option ℕ)) → AllZip (IsSource pairs old new) (take n (names_of new.members)) others → sources ≡ others
  pub suits : Suits (kinds_of old) (take n (kinds_of new)) sources
  pub apart : AreApart sources
  pub same_kinds : (k : ℕ) → k < n → ¬ (DiffersAt pairs old new k)

-- a source is a member of the old type
pub source_within : (pairs : List Pair) (old new : TypeDesc) (name : List ℕ) (i : ℕ) (source : Option ℕ) → IsSource pairs old new name source → source ≡ Some i → i < length old.members
source_within pairs old new name i source (IsSource.paired j is) e =
    let at : j ≡ i = (cc) in let w = slice_get_within (names_of old.members) j is.0 is.1 in let l = length-names old.members in omega arith
source_within pairs old new name i source (IsSource.alike j unpaired is) e =
    let at : j ≡ i = (cc) in let w = slice_get_within (names_of old.members) j name is.0 in let l = length-names old.members in omega arith
source_within pairs old new name i source (IsSource.none unpaired none) e = absurd cc

of_kind : (members : List Member) (i : ℕ) (member : Member) → slice_get members i ≡ Some member → slice_get (map (λ (m : Member). m.kind) members) i ≡ Some member.kind
of_kind members i member e = slice_get-map (λ (m : Member). m.kind) members i ∙ ap (option_map (λ (m : Member). m.kind)) e

pub nothing_planned : (pairs : List Pair) (old new : TypeDesc) → IsPlannedBelow pairs old new 0 []
nothing_planned pairs old new = record {
  are_sources = tt;
  only = λ others all. none others all;
  suits = tt;
  apart = λ k l i at. absurd cc;
  same_kinds = λ k before differs. omega arith;
}
  where
    none : (others : List (Option ℕ)) → AllZip (IsSource pairs old new) [] others → [] ≡ others
    none [] all = refl
    none (o ∷ os) all = absurd all

pub planned_more : (pairs : List Pair) (old new : TypeDesc) (n : ℕ) (sources : List (Option ℕ)) (member : Member) (source : Option ℕ)
    → AreSound pairs → HaveOwnNames new.members → IsPlannedBelow pairs old new n sources → slice_get new.members n ≡ Some member
    → IsSource pairs old new member.name source → ((other : Option ℕ) → IsSource pairs old new member.name other → source ≡ other)
    → ForSome source (λ i. slice_get (kinds_of old) i ≡ Some member.kind) → IsPlannedBelow pairs old new (n + 1) (sources ++ source ∷ [])
planned_more pairs old new n sources member source sound own below at is only kind =
    let R = IsSource pairs old new in
    let names = take-more (names_of new.members) n member.name (is_named new.members n member at) in
    let kinds = take-more (kinds_of new) n member.kind (of_kind new.members n member at) in
    let all : AllZip R (take (n + 1) (names_of new.members)) (sources ++ source ∷ []) = rw names (all_zip-push R (take n (names_of new.members)) sources member.name source below.are_sources is) in
    record {
      are_sources = all;
      apart = sources_apart pairs old new (n + 1) (sources ++ source ∷ []) sound own all;
      only = λ others all.
          let u = all_zip-unpush R (take n (names_of new.members)) member.name others (rw names at all) in
          let front : sources ≡ u.front = below.only u.front u.all in
          let last : source ≡ u.last = only u.last u.here in
          rw (front, last) (sym u.parts);
      suits = rw kinds (all_zip-push (λ k s. ForSome s (λ i. slice_get (kinds_of old) i ≡ Some k)) (take n (kinds_of new)) sources member.kind source below.suits kind);
      same_kinds = λ k before differs. elim (cases_lt k n) [
        | inl h ↦ below.same_kinds k h differs
        | inr h ↦
            let here : k ≡ n = omega arith in
            let at_n : slice_get new.members n ≡ Some differs.member = ap (slice_get new.members) (sym here) ∙ differs.member_is in
            let same : member ≡ differs.member = (cc) in
            let of_it : source ≡ Some differs.index = only (Some differs.index) (subst (λ (m : Member). IsSource pairs old new m.name (Some differs.index)) (sym same) differs.is_source) in
            let one_kind : slice_get (kinds_of old) differs.index ≡ Some member.kind = kind differs.index of_it in
            let other_kind = of_kind old.members differs.index differs.source differs.source_is in
            let kinds_same : differs.source.kind ≡ member.kind = (cc) in
            differs.differs (kinds_same ∙ ap (λ (m : Member). m.kind) same)
      ];
    }

-- the first member whose source has another kind
pub first_differing : (pairs : List Pair) (old new : TypeDesc) (n : ℕ) (sources : List (Option ℕ)) (member old_member : Member) (source : Option ℕ) (i : ℕ)
    → IsPlannedBelow pairs old new n sources → slice_get new.members n ≡ Some member → IsSource pairs old new member.name source → source ≡ Some i
    → slice_get old.members i ≡ Some old_member → old_member.kind ≢ member.kind → IsFirstDiffering pairs old new n
first_differing pairs old new n sources member old_member source i below at is some old_at differs = record {
  differs = record {
    member = member;
    source = old_member;
    index = i;
    member_is = at;
    source_is = old_at;
    is_source = subst (IsSource pairs old new member.name) some is;
    differs = differs;
  };
  first = below.same_kinds;
}
