-- The positions of the members before one, and of that one too.
use Rattle.std.proofs.Common.{◌≡◌, ℕ, ◌+◌, ◌<◌, ◌≤◌, Bool, true, false, cond, List, [], ◌∷◌, length, Option, Some, None, refl, sym, ap, ◌∙◌, ◌⊎◌, inl, inr, arith}
use Rattle.std.specs.Bool.{Decides}
use Rattle.std.specs.Borrow.{Bor}
use Rattle.std.specs.BTreeMap.{BTreeMap}
use Rattle.std.specs.Map.{update}
use Rattle.std.specs.Prelude.{slice_get, option_map}
use Rattle.std.specs.Str.{bytes_eq}
use Rattle.std.proofs.lemmas.Bool.{cases_lt}
use Rattle.std.proofs.lemmas.Option.{slice_get-map, slice_get_within}
use Rattle.std.proofs.lemmas.Slice.Eq.{bytes_eq-Decides}
use Rattle.type_desc.specs.declared.desc.Member.{Member}
use Rattle.type_desc.specs.OwnNames.{names_of, IsNamed, HaveOwnNames}
use Rattle.legacy_mapping.specs.Positions.{position_of, ArePositions}

-- the positions give exactly the members before the n-th
pub record ArePositionsBelow (members : List Member) (n : ℕ) (positions : BTreeMap (Bor (List ℕ)) ℕ) : Type 0 where
  pub found : (i : ℕ) (name : List ℕ) → i < n → IsNamed members i name → position_of positions name ≡ Some i
  pub stands : (i : ℕ) (name : List ℕ) → position_of positions name ≡ Some i → IsNamed members i name

pub positions_more : (members : List Member) (n : ℕ) (name : List ℕ) (old new : BTreeMap (Bor (List ℕ)) ℕ) → HaveOwnNames members
    → ArePositionsBelow members n old → IsNamed members n name
    → ((q : List ℕ) → position_of new q ≡ update bytes_eq (position_of old) name (Some n) q) → ArePositionsBelow members (n + 1) new
positions_more members n name old new own below named put = record {
  found = λ i q before q_named. put q ∙ found i q (bytes_eq name q) (bytes_eq-Decides name q) before q_named;
  stands = λ i q e. stands i q (bytes_eq name q) (bytes_eq-Decides name q) (sym (put q) ∙ e);
}
  where
    found : (i : ℕ) (q : List ℕ) (b : Bool) → Decides b (name ≡ q) → i < n + 1 → IsNamed members i q → cond b (Some n) (position_of old q) ≡ Some i
    found i q true d before q_named =
        let same : n ≡ i = own n i q (named ∙ ap (λ (w : List ℕ). Some w) (d.0 refl)) q_named in
        ap (λ (k : ℕ). Some k) same
    found i q false d before q_named = elim (cases_lt i n) [
      | inl h ↦ below.found i q h q_named
      | inr h ↦
          let at : i ≡ n = omega arith in
          let here : IsNamed members n q = ap (slice_get (names_of members)) (sym at) ∙ q_named in
          let same : name ≡ q = (cc) in
          absurd (let no : false ≡ true = d.1 same in cc)
    ]

    stands : (i : ℕ) (q : List ℕ) (b : Bool) → Decides b (name ≡ q) → cond b (Some n) (position_of old q) ≡ Some i → IsNamed members i q
    stands i q true d e =
        let at : n ≡ i = (cc) in
        ap (slice_get (names_of members)) (sym at) ∙ named ∙ ap (λ (w : List ℕ). Some w) (d.0 refl)
    stands i q false d e = below.stands i q e

pub length-names : (ms : List Member) → length (names_of ms) ≡ length ms
length-names [] = refl
length-names (m ∷ ms) = omega (arith, length-names ms)

pub positions_all : (members : List Member) (n : ℕ) (positions : BTreeMap (Bor (List ℕ)) ℕ) → length members ≤ n → ArePositionsBelow members n positions → ArePositions members positions
positions_all members n positions all below = record {
  found = λ i name named. below.found i name (let within = slice_get_within (names_of members) i name named in let len = length-names members in omega arith) named;
  stands = below.stands;
}

-- a member that was read has its name
pub is_named : (members : List Member) (i : ℕ) (member : Member) → slice_get members i ≡ Some member → IsNamed members i member.name
is_named members i member e = slice_get-map (λ (m : Member). m.name) members i ∙ ap (option_map (λ (m : Member). m.name)) e
