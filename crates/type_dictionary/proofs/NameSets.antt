-- The set of the names of the members before one, and of that one too.
use Rattle.std.proofs.Common.{◌≡◌, ℕ, ◌+◌, ◌<◌, ◌≤◌, Bool, true, false, cond, List, [], ◌∷◌, length, Some, refl, sym, ap, ◌∙◌, inl, inr, arith}
use Rattle.std.specs.Bool.{Decides}
use Rattle.std.specs.Borrow.{Bor}
use Rattle.std.specs.BTreeSet.{BTreeSet, contains_by, UpdatesBy}
use Rattle.std.specs.Cmp.Lexicographic.{slice_cmp}
use Rattle.std.specs.Ordering.{nat_cmp}
use Rattle.std.specs.Prelude.{slice_get, option_map}
use Rattle.std.specs.Str.{bytes_eq}
use Rattle.std.proofs.lemmas.Bool.{cases_lt}
use Rattle.std.proofs.lemmas.Map.Text.{is_eq-slice_cmp}
use Rattle.std.proofs.lemmas.Option.{slice_get-map, slice_get_within}
use Rattle.std.proofs.lemmas.Slice.Eq.{bytes_eq-Decides}
use Rattle.type_desc.specs.declared.desc.Member.{Member}
use Rattle.type_desc.specs.OwnNames.{names_of, IsNamed, HaveOwnNames}

-- the set has the name
abbrev pub has_name : BTreeSet (Bor (List ℕ)) → List ℕ → Bool
has_name names name = contains_by (λ (k : Bor (List ℕ)). slice_cmp nat_cmp name k.now) names

-- some member before the n-th has this name
pub record IsNamedBelow (members : List Member) (n : ℕ) (name : List ℕ) : Type 0 where
  pub index : ℕ
  pub before : index < n
  pub named : IsNamed members index name

-- the set has exactly the names of the members before the n-th, which differ
pub record AreNamesBelow (members : List Member) (n : ℕ) (names : BTreeSet (Bor (List ℕ))) : Type 0 where
  pub found : (i : ℕ) (name : List ℕ) → i < n → IsNamed members i name → has_name names name ≡ true
  pub stands : (name : List ℕ) → has_name names name ≡ true → IsNamedBelow members n name
  pub own : (i j : ℕ) (name : List ℕ) → i < n → j < n → IsNamed members i name → IsNamed members j name → i ≡ j

-- one name is put into a set
pub has_name-put : (old new : BTreeSet (Bor (List ℕ))) (name : List ℕ)
    → UpdatesBy (λ (x y : Bor (List ℕ)). slice_cmp nat_cmp x.now y.now) (λ (k : Bor (List ℕ)). slice_cmp nat_cmp name k.now) old new true
    → (q : List ℕ) → has_name new q ≡ cond (bytes_eq name q) true (has_name old q)
has_name-put old new name put q = put.0 (record { ref_ptr = (0, 0); now = q }) ∙ ap (λ (b : Bool). cond b true (has_name old q)) (is_eq-slice_cmp name q)

-- a name that a member before has stands twice
pub repeated : (members : List Member) (n : ℕ) (name : List ℕ) (names : BTreeSet (Bor (List ℕ))) → AreNamesBelow members n names
    → IsNamed members n name → has_name names name ≡ true → HaveOwnNames members → ⊥
repeated members n name names below named has own =
    let stands = below.stands name has in
    let before : stands.index < n = stands.before in
    let same : stands.index ≡ n = own stands.index n name stands.named named in
    omega arith

pub names_more : (members : List Member) (n : ℕ) (name : List ℕ) (old new : BTreeSet (Bor (List ℕ))) → AreNamesBelow members n old
    → IsNamed members n name → has_name old name ≡ false → ((q : List ℕ) → has_name new q ≡ cond (bytes_eq name q) true (has_name old q))
    → AreNamesBelow members (n + 1) new
names_more members n name old new below named absent put = record {
  found = λ i q before q_named. put q ∙ found i q (bytes_eq name q) (bytes_eq-Decides name q) before q_named;
  stands = λ q e. stands q (bytes_eq name q) (bytes_eq-Decides name q) (sym (put q) ∙ e);
  own = own;
}
  where
    found : (i : ℕ) (q : List ℕ) (b : Bool) → Decides b (name ≡ q) → i < n + 1 → IsNamed members i q → cond b true (has_name old q) ≡ true
    found i q true d before q_named = refl
    found i q false d before q_named = elim (cases_lt i n) [
      | inl h ↦ below.found i q h q_named
      | inr h ↦
          let at : i ≡ n = omega arith in
          let here : IsNamed members n q = ap (slice_get (names_of members)) (sym at) ∙ q_named in
          let same : name ≡ q = (cc) in
          absurd (let no : false ≡ true = d.1 same in cc)
    ]

    stands : (q : List ℕ) (b : Bool) → Decides b (name ≡ q) → cond b true (has_name old q) ≡ true → IsNamedBelow members (n + 1) q
    stands q true d e = record { index = n; before = omega arith; named = named ∙ ap (λ (w : List ℕ). Some w) (d.0 refl) }
    stands q false d e =
        let is = below.stands q e in
        let before : is.index < n = is.before in
        record { index = is.index; before = omega arith; named = is.named }

    -- the n-th name is none before it
    apart : (i : ℕ) (q : List ℕ) → i < n → IsNamed members i q → IsNamed members n q → ⊥
    apart i q before i_named n_named =
        let same : name ≡ q = (cc) in
        let has : has_name old name ≡ true = ap (has_name old) same ∙ below.found i q before i_named in
        cc

    own : (i j : ℕ) (q : List ℕ) → i < n + 1 → j < n + 1 → IsNamed members i q → IsNamed members j q → i ≡ j
    own i j q before_i before_j i_named j_named = elim (cases_lt i n) [
      | inl h ↦ elim (cases_lt j n) [
        | inl k ↦ below.own i j q h k i_named j_named
        | inr k ↦
            let at : j ≡ n = omega arith in
            absurd (apart i q h i_named (ap (slice_get (names_of members)) (sym at) ∙ j_named))
      ]
      | inr h ↦ elim (cases_lt j n) [
        | inl k ↦
            let at : i ≡ n = omega arith in
            absurd (apart j q k j_named (ap (slice_get (names_of members)) (sym at) ∙ i_named))
        | inr k ↦ omega arith
      ]
    ]

length-names : (ms : List Member) → length (names_of ms) ≡ length ms
length-names [] = refl
length-names (m ∷ ms) = omega (arith, length-names ms)

pub names_all : (members : List Member) (n : ℕ) (names : BTreeSet (Bor (List ℕ))) → length members ≤ n → AreNamesBelow members n names → HaveOwnNames members
names_all members n names all below i j name i_named j_named =
    let within_i = slice_get_within (names_of members) i name i_named in
    let within_j = slice_get_within (names_of members) j name j_named in
    let len = length-names members in
    below.own i j name (omega arith) (omega arith) i_named j_named

-- a member that was read has its name
pub is_named : (members : List Member) (i : ℕ) (member : Member) → slice_get members i ≡ Some member → IsNamed members i member.name
is_named members i member e = slice_get-map (λ (m : Member). m.name) members i ∙ ap (option_map (λ (m : Member). m.name)) e
