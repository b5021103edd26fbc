-- What a contract sees of a region, from what it keeps.
use Rattle.std.proofs.Common.{◌≡◌, ℕ, ◌+◌, ◌-◌, ◌*◌, ◌/◌, ◌<◌, ◌≤◌, ◌⊎◌, Bool, cond, List, [], ◌∷◌, ◌++◌, length, take, drop, map, Option, Some, None, refl, sym, ap, ◌∙◌, arith, inl, inr, length-append, length-drop, drop-drop}
use Rattle.std.specs.Prelude.{is_some}
use Rattle.std.specs.List.{sum_by, count_by}
use Rattle.std.specs.Option.{option_map, option_map_or}
use Rattle.std.proofs.lemmas.Bool.{cases_lt, cases_Bool}
use Rattle.std.proofs.lemmas.List.{get_or-map, get_or_past, take-append-le, length-take, length-map}
use Rattle.std.proofs.lemmas.List.Sums.{sum_by-cons}
use Rattle.entity_region.specs.declared.place.Place.{Place}
use Rattle.entity_region.specs.Units.{unit_at, IsClear}
use Rattle.entity_region.specs.Space.{Placed, rounded, block_at, bytes_of, free, written, IsDisjoint, IsHole}
use Rattle.entity_region.specs.Sound.{units_of, end_unit, place_at, placed_of, space_of, AreLaidOut, AreMarked, taken}

pub block_view : (bytes : List ℕ) (places : List (Option Place)) (i : ℕ) → block_at (space_of bytes places) i ≡ option_map placed_of (place_at places i)
block_view bytes places i = elim (cases_lt i (length places)) [
  | inl below ↦ get_or-map (option_map placed_of) places i None None below
  | inr past ↦
      get_or_past (map (option_map placed_of) places) i None (omega (arith, length-map {A = Option Place} {B = Option Placed}))
      ∙ ap (option_map placed_of) (sym (get_or_past places i None past))
]

-- where a block is seen, it lies
pub record IsSeen (places : List (Option Place)) (i : ℕ) (p : Placed) : Type 0 where
  pub place : Place
  pub is : place_at places i ≡ Some place
  pub placed : p ≡ placed_of place

pub seen : (bytes : List ℕ) (places : List (Option Place)) (i : ℕ) (p : Placed) → block_at (space_of bytes places) i ≡ Some p → IsSeen places i p
seen bytes places i p is = go (place_at places i) refl
  where
    go : (o : Option Place) → place_at places i ≡ o → IsSeen places i p
    go None none = let shown = block_view bytes places i ∙ ap (option_map placed_of) none in absurd cc
    go (Some q) some = let shown = block_view bytes places i ∙ ap (option_map placed_of) some in record { place = q; is = some; placed = cc }

-- a block has bytes exactly where it is live
pub live_placed : (memory : List ℕ) (block : Option Placed) → is_some (option_map (bytes_of memory) block) ≡ is_some block
live_placed memory None = refl
live_placed memory (Some p) = refl

pub live_view : (places : List (Option Place)) → count_by is_some (map (option_map placed_of) places) ≡ count_by is_some places
live_view [] = refl
live_view (None ∷ others) =
    sum_by-cons (λ o. cond (is_some o) 1 0) None (map (option_map placed_of) others) ∙ ap (λ n. 0 + n) (live_view others) ∙ sym (sum_by-cons (λ o. cond (is_some o) 1 0) None others)
live_view (Some p ∷ others) =
    sum_by-cons (λ o. cond (is_some o) 1 0) (Some (placed_of p)) (map (option_map placed_of) others) ∙ ap (λ n. 1 + n) (live_view others)
    ∙ sym (sum_by-cons (λ o. cond (is_some o) 1 0) (Some p) others)

abbrev size_of : Option Placed → ℕ
size_of block = option_map_or (λ p. rounded p.len) block 0

abbrev units_in : Option Place → ℕ
units_in place = option_map_or (λ p. units_of p.len) place 0

taken_view : (places : List (Option Place)) → sum_by size_of (map (option_map placed_of) places) ≡ 16 * sum_by units_in places
taken_view [] = refl
taken_view (None ∷ others) =
    let rest = taken_view others in
    let more = sum_by-cons units_in None others in
    let all = sum_by-cons size_of None (map (option_map placed_of) others) in
    omega arith
taken_view (Some p ∷ others) =
    let rest = taken_view others in
    let more = sum_by-cons units_in (Some p) others in
    let all = sum_by-cons size_of (Some (placed_of p)) (map (option_map placed_of) others) in
    omega arith

pub free_view : (bytes : List ℕ) (places : List (Option Place)) (count clear n : ℕ) → length bytes ≡ 16 * count → taken places + clear ≡ count → n ≡ 16 * clear → n ≡ free (space_of bytes places)
free_view bytes places count clear n sized counted is =
    let all : sum_by size_of (map (option_map placed_of) places) ≡ 16 * taken places = taken_view places in
    let left : n ≡ length bytes - sum_by size_of (map (option_map placed_of) places) = omega arith in
    left

pub disjoint_view : (count : ℕ) (bytes : List ℕ) (places : List (Option Place)) → length bytes ≡ 16 * count → AreLaidOut count places → IsDisjoint (space_of bytes places)
disjoint_view count bytes places sized laid_out = record {
  inside = λ i p is.
      let by = seen bytes places i p is in
      let within = laid_out.inside i by.place by.is in
      let placed = by.placed in
      rw placed (omega arith);
  apart = λ i j p q first second differs.
      let by = seen bytes places i p first in
      let other = seen bytes places j q second in
      rw (by.placed, other.placed) (elim (laid_out.apart i j by.place other.place by.is other.is differs) [
        | inl before ↦ inl (omega arith)
        | inr behind ↦ inr (omega arith)
      ]);
}

-- a clear run is a hole, and a hole is a clear run
pub hole_view : (count : ℕ) (bytes : List ℕ) (units : List Bool) (places : List (Option Place)) (unit n : ℕ) → length bytes ≡ 16 * count → AreLaidOut count places → AreMarked count units places
    → 0 < n → IsClear units unit n → ((i : ℕ) (p : Place) → place_at places i ≡ Some p → (unit + n ≤ p.unit) ⊎ (end_unit p ≤ unit)) → IsHole (space_of bytes places) (16 * unit) (16 * n)
hole_view count bytes units places unit n sized laid_out marked some clear apart = record {
  inside = let last = marked.clear_in (unit + (n - 1)) (clear.clear (unit + (n - 1)) (omega arith) (omega arith)) in omega arith;
  clear = λ i p is.
      let by = seen bytes places i p is in
      rw by.placed (elim (apart i by.place by.is) [
        | inl behind ↦ inr (omega arith)
        | inr before ↦ inl (omega arith)
      ]);
}

pub run_view : (count : ℕ) (bytes : List ℕ) (units : List Bool) (places : List (Option Place)) (at n : ℕ) → length bytes ≡ 16 * count → AreMarked count units places
    → IsHole (space_of bytes places) at (16 * n) → IsClear units (at / 16) n
run_view count bytes units places at n sized marked hole =
    let inside = hole.inside in
    let fits = marked.fits in
    record {
      inside = omega arith;
      clear = λ u low high. elim (cases_Bool (unit_at units u)) [
        | inl used ↦
            let by = marked.used u (omega arith) used in
            let low_p = by.low in
            let high_p = by.high in
            let shown : block_at (space_of bytes places) by.number ≡ Some (placed_of by.place) = block_view bytes places by.number ∙ ap (option_map placed_of) by.is in
            elim (hole.clear by.number (placed_of by.place) shown) [
              | inl before ↦ absurd (omega arith)
              | inr behind ↦ absurd (omega arith)
            ]
        | inr clear ↦ clear
      ];
    }

-- bytes that are written from an offset on, as a `Vec` is left
pub written_items : (xs w : List ℕ) (at n : ℕ) → n ≡ length xs → at ≤ length xs
    → take n ((take at xs ++ (w ++ drop (length w) (drop at xs))) ++ drop (length (take at xs ++ (w ++ drop (length w) (drop at xs)))) xs) ≡ written xs at w
written_items xs w at n is inside =
    let ws = take at xs ++ (w ++ drop (length w) (drop at xs)) in
    let len : length ws ≡ at + (length w + (length xs - at - length w)) = simp (length-append, length-take, length-drop) (omega arith) in
    let step : drop (length w) (drop at xs) ≡ drop (at + length w) xs = drop-drop (length w) at xs in
    take-append-le n ws (drop (length ws) xs) (omega arith) ∙ ap (λ k. take k ws) is ∙ ap (λ k. take (length xs) (take at xs ++ (w ++ k))) step
