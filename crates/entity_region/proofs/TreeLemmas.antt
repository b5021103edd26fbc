-- A tree of several levels and its two halves.
use Rattle.std.proofs.Common.{◌≡◌, ◌≢◌, ℕ, zero, suc, ◌+◌, ◌-◌, ◌/◌, ◌<◌, ◌≤◌, min, max, true, Bool, List, [], ◌∷◌, ◌++◌, length, get_or, take, drop, set, replicate, refl, sym, ap, subst, ◌∙◌, arith, rules, inl, inr, length-append}
use Rattle.std.proofs.lemmas.Bool.{cases_lt}
use Rattle.std.proofs.lemmas.List.{get_or_append_left, get_or-append_right, places}
use borrow.Rule.Slice.PartMut.{put_mid}
use Rattle.std.proofs.Math.Seq.{take-append_seam, drop-append_seam}
use Rattle.entity_region.specs.declared.runs.Runs.{Runs}
use Rattle.entity_region.specs.Units.{unit_at, IsClear, AreRuns, AreJoined, IsThere, IsFirstClear, IsTree, IsFork, IsLeaf, IsFilled}
use Rattle.entity_region.proofs.RunLemmas.{part_clear, clear_in_front, clear_in_back, front_clear, back_clear, seam_front, seam_back, over_seam, back_start, joined_runs}

pub leaf_of : (levels : ℕ) (nodes : List Runs) (units : List Bool) → levels ≡ 0 → IsTree levels nodes units → IsLeaf nodes units
leaf_of zero nodes units is tree = tree
leaf_of (suc n) nodes units is tree = absurd (omega arith)

pub of_leaf : (levels : ℕ) (nodes : List Runs) (units : List Bool) → levels ≡ 0 → IsLeaf nodes units → IsTree levels nodes units
of_leaf zero nodes units is leaf = leaf
of_leaf (suc n) nodes units is leaf = absurd (omega arith)

fork_of : (levels : ℕ) (nodes : List Runs) (units : List Bool) → levels ≢ 0 → IsTree levels nodes units → IsFork (IsTree (levels - 1)) nodes units
fork_of zero nodes units some tree = absurd (some refl)
fork_of (suc n) nodes units some tree = let same : n ≡ suc n - 1 = omega arith in subst (λ k. IsFork (IsTree k) nodes units) same tree

pub of_fork : (levels : ℕ) (nodes : List Runs) (units : List Bool) → levels ≢ 0 → IsFork (IsTree (levels - 1)) nodes units → IsTree levels nodes units
of_fork zero nodes units some fork = absurd (some refl)
of_fork (suc n) nodes units some fork = let same : suc n - 1 ≡ n = omega arith in subst (λ k. IsFork (IsTree k) nodes units) same fork

-- the first node knows the runs of all units
pub top_runs : (levels : ℕ) (nodes : List Runs) (units : List Bool) (d : Runs) → IsTree levels nodes units → (0 < length nodes) × AreRuns units (get_or nodes 0 d)
top_runs zero nodes units d tree = rw tree.nodes_are (omega arith, tree.runs)
top_runs (suc n) nodes units d tree = rw tree.nodes_are (omega arith, tree.runs)

-- two trees over the two halves of units
pub record AreParts (levels : ℕ) (left right : List Runs) (front back units : List Bool) : Type 0 where
  pub units_are : units ≡ front ++ back
  pub even : length left ≡ length right
  pub halves : length front ≡ length back
  pub left_tree : IsTree levels left front
  pub right_tree : IsTree levels right back

module _ {A : Type 0} where
  same_front : (xs ys vs ws : List A) → length xs ≡ length vs → xs ++ ys ≡ vs ++ ws → xs ≡ vs
  same_front xs ys vs ws len is = sym (take-append_seam xs ys) ∙ ap (λ n. take n (xs ++ ys)) len ∙ ap (take (length vs)) is ∙ take-append_seam vs ws

  same_back : (xs ys vs ws : List A) → length xs ≡ length vs → xs ++ ys ≡ vs ++ ws → ys ≡ ws
  same_back xs ys vs ws len is = sym (drop-append_seam xs ys) ∙ ap (λ n. drop n (xs ++ ys)) len ∙ ap (drop (length vs)) is ∙ drop-append_seam vs ws

pub parts_of : (levels : ℕ) (nodes left right : List Runs) (top : Runs) (units front back : List Bool) → levels ≢ 0 → IsTree levels nodes units
    → nodes ≡ top ∷ (left ++ right) → length left ≡ length nodes / 2 → units ≡ front ++ back → length front ≡ length units / 2
    → AreParts (levels - 1) left right front back units
parts_of levels nodes left right top units front back some tree nodes_are left_len units_are front_len =
    let fork = fork_of levels nodes units some tree in
    let below : fork.left ++ fork.right ≡ left ++ right = ap (drop 1) (sym fork.nodes_are ∙ nodes_are) in
    let count : length nodes ≡ 1 + length fork.left + length fork.right = ap length fork.nodes_are ∙ let sum = length-append fork.left fork.right in omega arith in
    let even = fork.even in
    let left_same : length fork.left ≡ length left = omega arith in
    let size : length units ≡ length fork.front + length fork.back = ap length fork.units_are ∙ length-append fork.front fork.back in
    let halves = fork.halves in
    let front_same : length fork.front ≡ length front = omega arith in
    let both = sym fork.units_are ∙ units_are in
    let left_is = same_front fork.left fork.right left right left_same below in
    let right_is = same_back fork.left fork.right left right left_same below in
    let front_is = same_front fork.front fork.back front back front_same both in
    let back_is = same_back fork.front fork.back front back front_same both in
    record {
      units_are = units_are;
      even = sym (ap length left_is) ∙ even ∙ ap length right_is;
      halves = sym (ap length front_is) ∙ halves ∙ ap length back_is;
      left_tree = subst (λ k. IsTree (levels - 1) k front) left_is (subst (λ k. IsTree (levels - 1) fork.left k) front_is fork.left_part);
      right_tree = subst (λ k. IsTree (levels - 1) k back) right_is (subst (λ k. IsTree (levels - 1) fork.right k) back_is fork.right_part);
    }

-- two trees under a node that joins their runs
pub tree_of : (levels : ℕ) (left right : List Runs) (top r s : Runs) (front back : List Bool) → levels ≢ 0
    → IsTree (levels - 1) left front → IsTree (levels - 1) right back → length left ≡ length right → length front ≡ length back
    → AreRuns front r → AreRuns back s → AreJoined r (length front) s (length back) top → IsTree levels (top ∷ (left ++ right)) (front ++ back)
tree_of levels left right top r s front back some left_tree right_tree even halves first second joined =
    of_fork levels (top ∷ (left ++ right)) (front ++ back) some (record {
      top = top;
      left = left;
      right = right;
      front = front;
      back = back;
      nodes_are = refl;
      units_are = refl;
      even = even;
      halves = halves;
      left_part = left_tree;
      right_part = right_tree;
      runs = joined_runs front back r s top first second joined;
    })

-- runs are no longer than the units
pub runs_fit : (units : List Bool) (runs : Runs) → AreRuns units runs → (runs.front ≤ length units) × (runs.back ≤ length units) × (runs.most ≤ length units)
runs_fit units runs known =
    let front = known.front.inside in
    let back = known.back.inside in
    let most = known.most.inside in
    (omega arith, omega arith, omega arith)

-- ---- the first run of a length, in one half or over the seam

pub first_in_front : (front back : List Bool) (wanted at : ℕ) → IsFirstClear front wanted at → IsFirstClear (front ++ back) wanted at
first_in_front front back wanted at found =
    let inside = found.clear.inside in
    record {
      clear = clear_in_front front back at wanted found.clear;
      first = λ other run. elim (cases_lt other at) [
        | inl before ↦ let least = found.first other (front_clear front back other wanted run (omega arith)) in absurd (omega arith)
        | inr behind ↦ behind
      ];
    }

pub first_over_seam : (front back : List Bool) (r s : Runs) (wanted : ℕ) → 0 < wanted → AreRuns front r → AreRuns back s → r.most < wanted → wanted ≤ r.back + s.front
    → IsFirstClear (front ++ back) wanted (length front - r.back)
first_over_seam front back r s wanted some left right short enough =
    let back_is = left.back_is in
    let seam = over_seam front back r.back s.front (omega arith) (back_start front r left) right.front in
    record {
      clear = record {
        inside = let inside = seam.inside in omega arith;
        clear = λ u low high. seam.clear u low (omega arith);
      };
      first = λ other run. elim (cases_lt other (length front - r.back)) [
        | inl before ↦ elim (cases_lt (length front) (other + wanted)) [
          | inl over ↦
              let longer = left.back_most other (length front - other) (seam_front front back other wanted run (omega arith) (omega arith)) (omega arith) in
              absurd (omega arith)
          | inr within ↦ let one = left.most_most other wanted (front_clear front back other wanted run within) in absurd (omega arith)
        ]
        | inr behind ↦ behind
      ];
    }

-- where neither the front nor the seam has such a run, the back has it
behind_seam : (front back : List Bool) (r s : Runs) (wanted other : ℕ) → AreRuns front r → AreRuns back s → r.most < wanted → r.back + s.front < wanted
    → IsClear (front ++ back) other wanted → length front ≤ other
behind_seam front back r s wanted other left right short apart run = elim (cases_lt other (length front)) [
  | inl before ↦ elim (cases_lt (length front) (other + wanted)) [
    | inl over ↦
        let first = left.back_most other (length front - other) (seam_front front back other wanted run (omega arith) (omega arith)) (omega arith) in
        let second = right.front_most (other + wanted - length front) (seam_back front back other wanted run (omega arith) (omega arith)) in
        absurd (omega arith)
    | inr within ↦ let one = left.most_most other wanted (front_clear front back other wanted run within) in absurd (omega arith)
  ]
  | inr behind ↦ behind
]

pub there_in_back : (front back : List Bool) (r s : Runs) (wanted : ℕ) → AreRuns front r → AreRuns back s → r.most < wanted → r.back + s.front < wanted
    → IsThere (front ++ back) wanted → IsThere back wanted
there_in_back front back r s wanted left right short apart there = record {
  at = there.at - length front;
  clear = back_clear front back there.at wanted there.clear (behind_seam front back r s wanted there.at left right short apart there.clear);
}

pub first_in_back : (front back : List Bool) (r s : Runs) (wanted at : ℕ) → AreRuns front r → AreRuns back s → r.most < wanted → r.back + s.front < wanted
    → IsFirstClear back wanted at → IsFirstClear (front ++ back) wanted (length front + at)
first_in_back front back r s wanted at left right short apart found = record {
  clear = clear_in_back front back at wanted found.clear;
  first = λ other run.
      let behind = behind_seam front back r s wanted other left right short apart run in
      let least = found.first (other - length front) (back_clear front back other wanted run behind) in
      omega arith;
}

-- ---- units that were filled

pub filled_none : (units : List Bool) (from to : ℕ) (value : Bool) → from ≡ to → IsFilled units units from to value
filled_none units from to value none = record {
  count = refl;
  within = λ u low high. absurd (omega arith);
  before = λ u below. refl;
  behind = λ u above. refl;
}

pub filled_both : (front back front_now back_now : List Bool) (from to : ℕ) (value : Bool) (half : ℕ) → half ≡ length front → from ≤ to
    → IsFilled front front_now (min from half) (min to half) value → IsFilled back back_now (max from half - half) (max to half - half) value
    → IsFilled (front ++ back) (front_now ++ back_now) from to value
filled_both front back front_now back_now from to value half is order first second =
    let first_count = first.count in
    let second_count = second.count in
    let at_front : (u : ℕ) → u < half → (unit_at (front ++ back) u ≡ unit_at front u) × (unit_at (front_now ++ back_now) u ≡ unit_at front_now u) =
    λ u below. (get_or_append_left front back true u (omega arith), get_or_append_left front_now back_now true u (omega arith)) in
    let at_back : (u : ℕ) → half ≤ u → (unit_at (front ++ back) u ≡ unit_at back (u - half)) × (unit_at (front_now ++ back_now) u ≡ unit_at back_now (u - half)) =
    λ u above. (get_or-append_right front back half u true (sym is) above, get_or-append_right front_now back_now half u true (first_count ∙ sym is) above) in
    record {
      count = length-append front_now back_now ∙ ap (λ n. n + length back_now) first_count ∙ ap (λ n. length front + n) second_count ∙ sym (length-append front back);
      within = λ u low high. elim (cases_lt u half) [
        | inl below ↦ (at_front u below).1 ∙ first.within u (omega arith) (omega arith)
        | inr above ↦ (at_back u above).1 ∙ second.within (u - half) (omega arith) (omega arith)
      ];
      before = λ u below_from. elim (cases_lt u half) [
        | inl below ↦ (at_front u below).1 ∙ first.before u (omega arith) ∙ sym (at_front u below).0
        | inr above ↦ (at_back u above).1 ∙ second.before (u - half) (omega arith) ∙ sym (at_back u above).0
      ];
      behind = λ u above_to. elim (cases_lt u half) [
        | inl below ↦ (at_front u below).1 ∙ first.behind u (omega arith) ∙ sym (at_front u below).0
        | inr above ↦ (at_back u above).1 ∙ second.behind (u - half) (omega arith) ∙ sym (at_back u above).0
      ];
    }

-- a leaf of units that were filled
pub filled_put : (units new filled : List Bool) (from to : ℕ) (value : Bool) → from ≤ to → to ≤ length units → filled ≡ replicate (to - from) value
    → new ≡ put_mid from (to - from) units filled → IsFilled units new from to value
filled_put units new filled from to value order inside is new_is = rw (new_is, is) (record {
  count = search (rules, places);
  within = λ u low high. search (rules, places);
  before = λ u below. search (rules, places);
  behind = λ u above. search (rules, places);
})

pub there_of : (units : List Bool) (runs : Runs) (wanted : ℕ) → AreRuns units runs → wanted ≤ runs.most → IsThere units wanted
there_of units runs wanted known enough = record { at = known.most_at; clear = part_clear units known.most_at runs.most known.most_at wanted known.most (omega arith) (omega arith) }

-- one node over all units
pub leaf_node : (nodes : List Runs) (units : List Bool) (runs : Runs) → length nodes ≡ 1 → AreRuns units runs → IsLeaf (set nodes 0 runs) units
leaf_node [] units runs one known = absurd (omega arith)
leaf_node (node ∷ []) units runs one known = record { top = runs; nodes_are = refl; runs = known }
leaf_node (node ∷ more ∷ others) units runs one known = absurd (omega arith)
