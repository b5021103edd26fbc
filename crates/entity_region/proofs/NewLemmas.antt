-- A region without blocks.
use Rattle.std.proofs.Common.{◌≡◌, ℕ, zero, suc, ◌*◌, ◌<◌, ◌≤◌, true, false, Bool, cond, not, List, ◌∷◌, length, get_or, map, replicate, Option, Some, None, refl, sym, ap, subst, ◌∙◌, arith, inl, inr}
use Rattle.std.specs.Prelude.{is_some}
use Rattle.std.specs.List.{sum_by, count_by}
use Rattle.std.specs.Option.{option_map, option_map_or}
use Rattle.std.proofs.lemmas.Bool.{cases_lt}
use Rattle.std.proofs.lemmas.List.{get_or-replicate, get_or_past, length-replicate}
use Rattle.std.proofs.lemmas.List.Sums.{sum_by-cons}
use Rattle.entity_region.specs.declared.runs.Runs.{Runs}
use Rattle.entity_region.specs.declared.place.Place.{Place}
use Rattle.entity_region.specs.Units.{unit_at, IsFilled, IsTree, IsShape}
use Rattle.entity_region.specs.Sound.{units_of, place_at, placed_of, AreAll, IsSound, clear_units, taken}
use Rattle.entity_region.proofs.CountLemmas.{cleared_count}
use Rattle.entity_region.proofs.ShapeLemmas.{none_runs, blank_tree}

-- the tree of a shape, in which nothing is clear
pub shaped_tree : (levels nodes units : ℕ) (node_list : List Runs) (unit_list : List Bool) → IsShape levels nodes units → node_list ≡ replicate nodes none_runs → unit_list ≡ replicate units true
    → IsTree levels node_list unit_list
shaped_tree levels nodes units node_list unit_list shape nodes_are units_are =
    rw (nodes_are, units_are, shape.nodes_are, shape.units_are) (blank_tree shape.width levels)

pub sum_none : {A : Type 0} (f : A → ℕ) (a : A) (n : ℕ) → f a ≡ 0 → sum_by f (replicate n a) ≡ 0
sum_none f a zero none = refl
sum_none f a (suc n) none = let below = sum_none f a n none in let more = sum_by-cons f a (replicate n a) in omega arith

none_placed : (n i : ℕ) → place_at (replicate n None) i ≡ None
none_placed n i = elim (cases_lt i n) [
  | inl below ↦ get_or-replicate n i None None below
  | inr past ↦ get_or_past (replicate n None) i None (omega (arith, length-replicate {A = Option Place} n None))
]

never_placed : (n i : ℕ) (p : Place) → place_at (replicate n None) i ≡ Some p → ⊥
never_placed n i p is = let none = none_placed n i in absurd cc

pub sound_new : (bytes : List ℕ) (before units : List Bool) (nodes : List Runs) (levels count total bound room : ℕ) (places : List (Option Place)) (numbers : List ℕ) → length bytes ≡ 16 * count
    → count ≤ total → before ≡ replicate total true → IsTree levels nodes units → IsFilled before units 0 count false → places ≡ replicate bound None → AreAll bound numbers → room ≡ bound
    → IsSound bytes units nodes levels places numbers 0 (16 * count) room
sound_new bytes before units nodes levels count total bound room places numbers sized enough before_is tree filled places_are all room_is =
    let len = length-replicate total true in
    let same : length units ≡ total = filled.count ∙ ap length before_is ∙ len in
    let used : (u : ℕ) → u < count → unit_at before u ≡ true = λ u inside. ap (λ k. unit_at k u) before_is ∙ get_or-replicate total u true true (omega arith) in
    let cleared = cleared_count before units 0 count filled (λ u low high. used u high) (omega arith) (omega (arith, ap length before_is)) in
    let none_before : clear_units before ≡ 0 = ap clear_units before_is ∙ sum_none (λ b. cond (not b) 1 0) true total refl in
    let none_taken : taken places ≡ 0 = ap taken places_are ∙ sum_none (λ place. option_map_or (λ p. units_of p.len) place 0) None bound refl in
    let none_live : count_by is_some places ≡ 0 = ap (count_by is_some) places_are ∙ sum_none (λ place. cond (is_some place) 1 0) None bound refl in
    let never : (i : ℕ) (p : Place) → place_at places i ≡ Some p → ⊥ = λ i p is. never_placed bound i p (subst (λ k. place_at k i ≡ Some p) places_are is) in
    let count_is = all.count in
    record {
      count = count;
      sized = sized;
      laid_out = record { some = λ i p is. absurd (never i p is); inside = λ i p is. absurd (never i p is); apart = λ i j p q first second differs. absurd (never i p first) };
      marked = record {
        fits = omega arith;
        used = λ u inside is. let clear = filled.within u (omega arith) inside in absurd cc;
        clear_in = λ u clear. elim (cases_lt u count) [
          | inl inside ↦ inside
          | inr behind ↦ elim (cases_lt u total) [
            | inl within ↦ let kept = filled.behind u behind in let was = ap (λ k. unit_at k u) before_is ∙ get_or-replicate total u true true within in absurd cc
            | inr past ↦ let default = get_or_past units u true (omega arith) in absurd cc
          ]
        ];
        clear = λ u clear by. never by.number by.place by.is;
      };
      tree = tree;
      spare = record {
        all = count_is ∙ sym (ap length places_are ∙ length-replicate bound None);
        inside = λ k low high. let number = all.each k (omega arith) in rw number (omega (arith, ap length places_are, length-replicate {A = Option Place} bound None));
        none = λ k low high. rw places_are (none_placed bound (get_or numbers k 0));
        distinct = λ j k low order high same. let first = all.each j (omega arith) in let second = all.each k (omega arith) in omega arith;
        counted = none_live;
      };
      counted = omega arith;
      free_is = omega arith;
      ordered = omega (arith, ap length places_are, length-replicate {A = Option Place} bound None, room_is);
    }

pub none_view : (n : ℕ) → map (option_map placed_of) (replicate n None) ≡ replicate n None
none_view zero = refl
none_view (suc n) = ap (λ ps. None ∷ ps) (none_view n)
