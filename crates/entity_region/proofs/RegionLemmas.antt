-- What a region keeps belongs together once a block was taken or given back.
use Rattle.std.proofs.Common.{◌≡◌, ℕ, ◌+◌, ◌-◌, ◌*◌, ◌/◌, ◌<◌, ◌≤◌, true, false, Bool, List, ◌++◌, length, get_or, set, take, map, Option, Some, None, sym, ap, subst, ◌∙◌, arith, length-set}
use Rattle.std.specs.Prelude.{is_some}
use Rattle.std.specs.List.{count_by}
use Rattle.std.specs.Option.{option_map}
use Rattle.std.proofs.lemmas.List.{map-set, length-map}
use Rattle.std.proofs.Math.Seq.{take-append_seam}
use Rattle.entity_region.specs.declared.runs.Runs.{Runs}
use Rattle.entity_region.specs.declared.place.Place.{Place}
use Rattle.entity_region.specs.Units.{IsClear, IsFirstClear, IsFilled, IsTree, AreRuns}
use Rattle.entity_region.specs.Space.{rounded, live, most, with_block, IsHole, IsTaken, HasNoHole}
use Rattle.entity_region.specs.Sound.{units_of, end_unit, place_at, placed_of, space_of, AreSpare, IsSound, clear_units}
use Rattle.entity_region.proofs.LayoutLemmas.{clear_of, laid_out_put, marked_put, laid_out_given, marked_given, live_below, some_units}
use Rattle.entity_region.proofs.CountLemmas.{clear_count, filled_count, cleared_count, block_used, taken_put, taken_given, spare_put, spare_given}
use Rattle.entity_region.proofs.ViewLemmas.{block_view, hole_view, run_view, live_view}

pub written_back : {A : Type 0} (n : ℕ) (xs ys : List A) → length xs ≡ n → take n (xs ++ ys) ≡ xs
written_back n xs ys same = subst (λ m. take m (xs ++ ys) ≡ xs) same (take-append_seam xs ys)

module _ (bytes : List ℕ) (units : List Bool) (nodes : List Runs) (levels : ℕ) (places : List (Option Place)) (numbers : List ℕ) (now free room : ℕ)
    (sound : IsSound bytes units nodes levels places numbers now free room) where
  -- a number is free where there may be one more block
  pub number_left : live (space_of bytes places) < most (space_of bytes places) → now < length numbers
  number_left room =
      let counted = sound.spare.counted in
      let all = sound.spare.all in
      let seen = live_view places in
      let len = length-map places (option_map placed_of) in
      let few : count_by is_some (map (option_map placed_of) places) < length (map (option_map placed_of) places) = room in
      omega arith

  -- a clear run lies within the memory
  pub run_fits : (unit n : ℕ) → 0 < n → IsClear units unit n → (unit + n ≤ sound.count) × (n ≤ clear_units units)
  run_fits unit n some clear =
      let last = sound.marked.clear_in (unit + (n - 1)) (clear.clear (unit + (n - 1)) (omega arith) (omega arith)) in
      (omega arith, clear_count units unit n clear)

  pub sound_taken : (new_units : List Bool) (new_nodes : List Runs) (number unit wanted n : ℕ) → now < length numbers → number ≡ get_or numbers now 0 → 0 < n → wanted ≡ units_of n
      → IsFirstClear units wanted unit → IsTree levels new_nodes new_units → IsFilled units new_units unit (unit + wanted) true
      → IsSound bytes new_units new_nodes levels (set places number (Some (record { unit = unit; len = n }))) numbers (now + 1) (free - 16 * wanted) room
  sound_taken new_units new_nodes number unit wanted n left number_is some wanted_is first tree filled =
      let p : Place = record { unit = unit; len = n } in
      let all = sound.spare.all in
      let below : number < length places = subst (λ k. k < length places) (sym number_is) (sound.spare.inside now (omega arith) left) in
      let none : place_at places number ≡ None = subst (λ k. place_at places k ≡ None) (sym number_is) (sound.spare.none now (omega arith) left) in
      let clear : IsClear units p.unit (units_of p.len) = subst (λ k. IsClear units unit k) wanted_is first.clear in
      let filled_p : IsFilled units new_units p.unit (end_unit p) true = subst (λ k. IsFilled units new_units unit (unit + k) true) wanted_is filled in
      let inside = first.clear.inside in
      let counts = filled_count units new_units unit (unit + wanted) filled (let same : wanted ≡ unit + wanted - unit = omega arith in subst (λ k. IsClear units unit k) same first.clear) (omega arith) (omega arith) in
      let more = taken_put places number p below none in
      let had = sound.counted in
      let free_was = sound.free_is in
      record {
        count = sound.count;
        sized = sound.sized;
        laid_out = laid_out_put sound.count units places number p sound.laid_out sound.marked below some clear;
        marked = marked_put sound.count units new_units places number p sound.marked below none filled_p;
        tree = tree;
        spare = subst (λ k. AreSpare numbers (now + 1) (set places k (Some p))) (sym number_is) (spare_put numbers now places p sound.spare left);
        counted = omega arith;
        free_is = omega arith;
        ordered = omega (arith, sound.ordered, length-set places number (Some p));
      }

  pub view_taken : (number unit wanted n : ℕ) → now < length numbers → number ≡ get_or numbers now 0 → 0 < n → wanted ≡ units_of n → IsFirstClear units wanted unit
      → IsTaken (space_of bytes places) (space_of bytes (set places number (Some (record { unit = unit; len = n })))) n number
  view_taken number unit wanted n left number_is some wanted_is first =
      let p : Place = record { unit = unit; len = n } in
      let all = sound.spare.all in
      let some_wanted : 0 < wanted = omega (arith, some_units n some) in
      let below : number < length places = subst (λ k. k < length places) (sym number_is) (sound.spare.inside now (omega arith) left) in
      let none : place_at places number ≡ None = subst (λ k. place_at places k ≡ None) (sym number_is) (sound.spare.none now (omega arith) left) in
      let whole : 16 * wanted ≡ rounded n = omega arith in
      let apart = λ (i : ℕ) (q : Place) (is : place_at places i ≡ Some q). clear_of sound.count units places unit wanted i q sound.laid_out sound.marked first.clear some_wanted is in
      record {
        at = 16 * unit;
        fresh = block_view bytes places number ∙ ap (option_map placed_of) none;
        below = omega (arith, length-map places (option_map placed_of));
        becomes = ap (λ k. record { memory = bytes; blocks = k }) (map-set (option_map placed_of) places number (Some p));
        hole = subst (λ k. IsHole (space_of bytes places) (16 * unit) k) whole (hole_view sound.count bytes units places unit wanted sound.sized sound.laid_out sound.marked some_wanted first.clear apart);
        first = λ other hole.
            let run = run_view sound.count bytes units places other wanted sound.sized sound.marked (subst (λ k. IsHole (space_of bytes places) other k) (sym whole) hole) in
            let least = first.first (other / 16) run in
            omega arith;
      }

  pub view_full : (runs : Runs) (wanted n : ℕ) → wanted ≡ units_of n → AreRuns units runs → runs.most < wanted → HasNoHole (space_of bytes places) (rounded n)
  view_full runs wanted n wanted_is known short other hole =
      let whole : rounded n ≡ 16 * wanted = omega arith in
      let run = run_view sound.count bytes units places other wanted sound.sized sound.marked (subst (λ k. IsHole (space_of bytes places) other k) whole hole) in
      let least = known.most_most (other / 16) wanted run in
      omega arith

  pub sound_given : (new_units : List Bool) (new_nodes : List Runs) (number n : ℕ) (p : Place) → place_at places number ≡ Some p → n ≡ units_of p.len
      → IsTree levels new_nodes new_units → IsFilled units new_units p.unit (p.unit + n) false
      → IsSound bytes new_units new_nodes levels (set places number None) (set numbers (now - 1) number) (now - 1) (free + 16 * n) room
  sound_given new_units new_nodes number n p is n_is tree filled =
      let filled_p : IsFilled units new_units p.unit (end_unit p) false = subst (λ k. IsFilled units new_units p.unit (p.unit + k) false) n_is filled in
      let inside = sound.laid_out.inside number p is in
      let fits = sound.marked.fits in
      let counts = cleared_count units new_units p.unit (end_unit p) filled_p (block_used sound.count units places number p sound.marked is) (omega arith) (omega arith) in
      let less = taken_given places number p is in
      let had = sound.counted in
      let free_was = sound.free_is in
      record {
        count = sound.count;
        sized = sound.sized;
        laid_out = laid_out_given sound.count places number sound.laid_out (live_below places number p is);
        marked = marked_given sound.count units new_units places number p sound.laid_out sound.marked is filled_p;
        tree = tree;
        spare = spare_given numbers now places number p sound.spare is;
        counted = omega arith;
        free_is = omega arith;
        ordered = let len : length (set places number None) ≡ length places = length-set places number None in omega (arith, sound.ordered, len);
      }

  pub view_given : (number : ℕ) → space_of bytes (set places number None) ≡ with_block (space_of bytes places) number None
  view_given number = ap (λ k. record { memory = bytes; blocks = k }) (map-set (option_map placed_of) places number None)
