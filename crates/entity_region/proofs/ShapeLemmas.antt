-- The shape of a tree, and a tree in which nothing is clear.
use Rattle.std.proofs.Common.{◌≡◌, ◌≢◌, ℕ, zero, suc, ◌+◌, ◌*◌, ◌/◌, ◌%◌, ◌<◌, ◌≤◌, ◌⊎◌, true, ◌∷◌, replicate, refl, sym, ap, subst, ◌∙◌, arith, inl, inr}
use Rattle.std.proofs.lemmas.Bool.{cases_lt, cases_eq}
use Rattle.std.proofs.lemmas.List.{get_or-replicate, replicate-append-replicate, length-replicate}
use Rattle.entity_region.specs.declared.runs.Runs.{Runs}
use Rattle.entity_region.specs.Units.{IsClear, AreRuns, IsTree, node_count, unit_count, IsGrown}
use Rattle.entity_region.proofs.RunLemmas.{none_clear}

unit_sum : (a b levels : ℕ) → unit_count (a + b) levels ≡ unit_count a levels + unit_count b levels
unit_sum a b zero = refl
unit_sum a b (suc levels) = let below = unit_sum a b levels in omega arith

-- half the width on one level more: as many units, or one for each leaf more
pub halved_even : (width half levels : ℕ) → width ≡ half + half → unit_count half (suc levels) ≡ unit_count width levels
halved_even width half levels is = sym (unit_sum half half levels) ∙ ap (λ w. unit_count w levels) (sym is)

pub halved_odd : (width half levels : ℕ) → width + 1 ≡ half + half → unit_count half (suc levels) ≡ unit_count width levels + unit_count 1 levels
halved_odd width half levels is = sym (unit_sum half half levels) ∙ ap (λ w. unit_count w levels) (sym is) ∙ unit_sum width 1 levels

abbrev pub none_runs : Runs
none_runs = record { front = 0; back = 0; most = 0 }

-- nothing of what is used is clear
used_clear : (n at m : ℕ) → IsClear (replicate n true) at m → m ≤ 0
used_clear n at m run = elim (cases_lt 0 m) [
  | inl some ↦
      let inside = run.inside in
      let clear = run.clear at (omega arith) (omega arith) in
      let used = get_or-replicate n at true true (omega (arith, length-replicate n true)) in
      absurd cc
  | inr none ↦ none
]

used_runs : (n : ℕ) → AreRuns (replicate n true) none_runs
used_runs n =
    let len = length-replicate n true in
    record {
      front = none_clear (replicate n true) 0 (omega arith);
      front_most = λ m run. used_clear n 0 m run;
      back_at = n;
      back_is = omega arith;
      back = none_clear (replicate n true) n (omega arith);
      back_most = λ at m run end. used_clear n at m run;
      most_at = 0;
      most = none_clear (replicate n true) 0 (omega arith);
      most_most = λ at m run. used_clear n at m run;
    }

-- a tree in which nothing is clear
pub blank_tree : (width levels : ℕ) → IsTree levels (replicate (node_count levels) none_runs) (replicate (unit_count width levels) true)
blank_tree width zero = record { top = none_runs; nodes_are = refl; runs = used_runs width }
blank_tree width (suc levels) =
    let nodes = node_count levels in
    let units = unit_count width levels in
    let below = blank_tree width levels in
    record {
      top = none_runs;
      left = replicate nodes none_runs;
      right = replicate nodes none_runs;
      front = replicate units true;
      back = replicate units true;
      nodes_are = ap (λ ns. none_runs ∷ ns) (sym (replicate-append-replicate nodes nodes none_runs));
      units_are = sym (replicate-append-replicate units units true);
      even = refl;
      halves = refl;
      left_part = below;
      right_part = below;
      runs = used_runs (units + units);
    }

-- one level more
pub grown_more : (count width half leaves levels nodes units more : ℕ) → IsGrown count width leaves levels nodes units → leaves < 16384 → half ≡ (width + 1) / 2
    → (width % 2 ≡ 1 → more ≡ units + leaves) → (width % 2 ≢ 1 → more ≡ units) → IsGrown count half (leaves * 2) (levels + 1) (2 * nodes + 1) more
grown_more count width half leaves levels nodes units more grown room half_is odd even =
    let units_were = grown.units_are in
    let nodes_were = grown.nodes_are in
    let leaves_were = grown.leaves_are in
    let enough = grown.enough in
    let few = grown.few in
    let some = grown.some in
    let nodes_few = grown.nodes_few in
    let next : suc levels ≡ levels + 1 = omega arith in
    let parity : ((width % 2 ≡ 1) × (width + 1 ≡ half + half)) ⊎ ((width % 2 ≢ 1) × (width ≡ half + half)) =
    elim (cases_eq (width % 2) 1) [
      | inl is ↦ inl (is, omega arith)
      | inr differs ↦ inr (differs, omega arith)
    ] in
    let sizes : (more ≡ unit_count half (suc levels)) × (units ≤ more) × (more ≤ units + leaves) =
    elim parity [
      | inl one ↦
          let all = halved_odd width half levels one.1 in
          let is = odd one.0 in
          (omega arith, omega arith, omega arith)
      | inr none ↦
          let all = halved_even width half levels none.1 in
          let is = even none.0 in
          (omega arith, omega arith, omega arith)
    ] in
    let least = sizes.1 in
    let greatest = sizes.2 in
    subst (λ n. IsGrown count half (leaves * 2) n (2 * nodes + 1) more) next (record {
      nodes_are = omega arith;
      units_are = sizes.0;
      leaves_are = omega arith;
      enough = omega arith;
      few = omega arith;
      some = omega arith;
      nodes_few = omega arith;
      leaves_few = omega arith;
    })
