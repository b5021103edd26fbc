-- A block that moves down among others, and all blocks once each has moved.
use Rattle.std.proofs.Common.{◌≡◌, ◌≢◌, ℕ, ◌+◌, ◌-◌, ◌*◌, ◌<◌, ◌≤◌, ◌⊎◌, true, false, Bool, cond, not, List, length, get_or, set, replicate, Option, Some, None, refl, sym, ap, subst, ◌∙◌, arith, inl, inr, length-set, length-append, length-drop}
use Rattle.std.specs.Prelude.{is_some}
use Rattle.std.specs.List.{sum_by, count_by}
use Rattle.std.specs.List.Sorted.{IsNonDecreasingBy}
use Rattle.std.specs.Option.{option_map, option_map_or}
use borrow.Rule.Slice.PartMut.{put_mid}
use Rattle.std.proofs.lemmas.Bool.{cases_lt, cases_eq, cases_Bool}
use Rattle.std.proofs.lemmas.List.{length-take, length-map, length-replicate, get_or-replicate, get_or_past, set-set}
use Rattle.std.proofs.lemmas.List.Sums.{sum_by-set}
use Rattle.entity_region.specs.declared.place.Place.{Place}
use Rattle.entity_region.specs.declared.packing.Ordered.{Ordered}
use Rattle.entity_region.specs.declared.runs.Runs.{Runs}
use Rattle.entity_region.specs.Units.{unit_at, IsClear, IsFilled, IsTree}
use Rattle.entity_region.specs.Space.{block_at, bytes_of, bytes_at, free as free_bytes, written, IsHole, IsPacked}
use Rattle.entity_region.specs.Sound.{units_of, end_unit, place_at, placed_of, space_of, AreLaidOut, AreMarked, IsCovered, IsSound, taken, clear_units}
use Rattle.entity_region.specs.Packing.{ordered_at, IsListed, IsMoved, IsPackedTo, IsReady, AreMoved, MayMove}
use Rattle.entity_region.proofs.LayoutLemmas.{live_below, place_same, place_other, old_or_new, laid_out_given, laid_out_put, marked_given, marked_put, some_units}
use Rattle.entity_region.proofs.CountLemmas.{filled_count, cleared_count, block_used}
use Rattle.entity_region.proofs.ListedLemmas.{listed_found}
use Rattle.entity_region.proofs.TreeLemmas.{filled_put}
use Rattle.entity_region.proofs.NewLemmas.{sum_none}
use Rattle.entity_region.proofs.ViewLemmas.{block_view, seen, free_view, live_view, live_placed, disjoint_view}
use Rattle.entity_region.proofs.WrittenLemmas.{written_apart}

-- the units from one to another with a value
filled_from : List Bool → ℕ → ℕ → Bool → List Bool
filled_from units from to value = put_mid from (to - from) units (replicate (to - from) value)

from_is_filled : (units : List Bool) (from to : ℕ) (value : Bool) → from ≤ to → to ≤ length units → IsFilled units (filled_from units from to value) from to value
unfolding filled_from
from_is_filled units from to value order inside = filled_put units (filled_from units from to value) (replicate (to - from) value) from to value order inside refl refl

abbrev one : Option Place → ℕ
one place = cond (is_some place) 1 0

abbrev units_in : Option Place → ℕ
units_in place = option_map_or (λ p. units_of p.len) place 0

abbrev lowered : Place → ℕ → Place
lowered p to = record { unit = to; len = p.len }

-- bytes that are written within others leave their number
length_written : (xs w : List ℕ) (at : ℕ) → at + length w ≤ length xs → length (written xs at w) ≡ length xs
length_written xs w at inside = simp (length-take, length-append, length-drop) (omega arith)

is_none : (o : Option Place) → is_some o ≡ false → o ≡ None
is_none None none = refl
is_none (Some p) none = absurd cc

-- ---- one block

module _ (count : ℕ) (bytes : List ℕ) (units : List Bool) (places : List (Option Place)) (i : ℕ) (p : Place) (to : ℕ)
    (sized : length bytes ≡ 16 * count) (laid_out : AreLaidOut count places) (marked : AreMarked count units places)
    (is : place_at places i ≡ Some p) (down : to ≤ p.unit)
    (before : (j : ℕ) (r : Place) → place_at places j ≡ Some r → r.unit < p.unit → end_unit r ≤ to) where
  abbrev pub moved : List (Option Place)
  moved = set places i (Some (lowered p to))

  lifted : List Bool
  lifted = filled_from units p.unit (end_unit p) false

  pub placed : List Bool
  placed = filled_from lifted to (to + units_of p.len) true

  below : i < length places
  below = live_below places i p is

  lifted_is : IsFilled units lifted p.unit (end_unit p) false
  unfolding lifted
  lifted_is =
      let inside = laid_out.inside i p is in
      let fits = marked.fits in
      from_is_filled units p.unit (end_unit p) false (omega arith) (omega arith)

  lifted_count : length lifted ≡ length units
  lifted_count = lifted_is.count

  placed_is : IsFilled lifted placed to (to + units_of p.len) true
  unfolding placed
  placed_is =
      let inside = laid_out.inside i p is in
      let fits = marked.fits in
      let same = lifted_count in
      from_is_filled lifted to (to + units_of p.len) true (omega arith) (omega arith)

  clear_below : (u : ℕ) → to ≤ u → u < p.unit → unit_at units u ≡ false
  clear_below u low high =
      let inside = laid_out.inside i p is in
      let some = some_units p.len (laid_out.some i p is) in
      elim (cases_Bool (unit_at units u)) [
        | inl used ↦
            let by = marked.used u (omega arith) used in
            let by_low = by.low in
            let by_high = by.high in
            let ends = before by.number by.place by.is (omega arith) in
            absurd (omega arith)
        | inr clear ↦ clear
      ]

  clear_now : IsClear lifted to (units_of p.len)
  clear_now = record {
    inside =
        let inside = laid_out.inside i p is in
        let fits = marked.fits in
        let same = lifted_count in
        omega arith;
    clear = λ u low high. elim (cases_lt u p.unit) [
      | inl under ↦ lifted_is.before u under ∙ clear_below u low under
      | inr over ↦ lifted_is.within u over (omega arith)
    ];
  }

  places_are : set (set places i None) i (Some (lowered p to)) ≡ moved
  places_are = set-set places i None (Some (lowered p to))

  gone : place_at (set places i None) i ≡ None
  gone = place_same places i None below

  still_below : i < length (set places i None)
  still_below = let len : length (set places i None) ≡ length places = length-set places i None in omega (arith, below, len)

  laid_out_given_up : AreLaidOut count (set places i None)
  laid_out_given_up = laid_out_given count places i laid_out below

  marked_given_up : AreMarked count lifted (set places i None)
  marked_given_up = marked_given count units lifted places i p laid_out marked is lifted_is

  pub laid_out_moved : AreLaidOut count moved
  laid_out_moved = subst (AreLaidOut count) places_are (laid_out_put count lifted (set places i None) i (lowered p to) laid_out_given_up marked_given_up still_below (laid_out.some i p is) clear_now)

  pub marked_moved : AreMarked count placed moved
  marked_moved = subst (AreMarked count placed) places_are (marked_put count lifted placed (set places i None) i (lowered p to) marked_given_up still_below gone placed_is)

  pub clear_moved : clear_units placed ≡ clear_units units
  clear_moved =
      let inside = laid_out.inside i p is in
      let fits = marked.fits in
      let same = lifted_count in
      let cleared = cleared_count units lifted p.unit (end_unit p) lifted_is (block_used count units places i p marked is) (omega arith) (omega arith) in
      let whole : units_of p.len ≡ to + units_of p.len - to = omega arith in
      let filled = filled_count lifted placed to (to + units_of p.len) placed_is (subst (IsClear lifted to) whole clear_now) (omega arith) (omega arith) in
      omega arith

  pub taken_moved : taken moved ≡ taken places
  taken_moved =
      let sum : taken (set places i (Some (lowered p to))) + units_in (place_at places i) ≡ taken places + units_of p.len = sum_by-set units_in places i (Some (lowered p to)) None below in
      let was : units_in (place_at places i) ≡ units_of p.len = ap units_in is in
      let all : taken (set places i (Some (lowered p to))) ≡ taken places = omega arith in
      all

  pub count_moved : count_by is_some moved ≡ count_by is_some places
  count_moved =
      let sum : sum_by one (set places i (Some (lowered p to))) + one (place_at places i) ≡ sum_by one places + 1 = sum_by-set one places i (Some (lowered p to)) None below in
      let was : one (place_at places i) ≡ 1 = ap one is in
      let all : sum_by one (set places i (Some (lowered p to))) ≡ sum_by one places = omega arith in
      all

  pub full_moved : ((u : ℕ) → u < to → unit_at units u ≡ true) → (u : ℕ) → u < to + units_of p.len → unit_at placed u ≡ true
  full_moved full u high = elim (cases_lt u to) [
    | inl under ↦ placed_is.before u under ∙ lifted_is.before u (omega arith) ∙ full u under
    | inr over ↦ placed_is.within u over high
  ]

  -- a block of before is where it was, or it is the one that moved
  pub moved_or_not : (j : ℕ) (r : Place) → place_at moved j ≡ Some r → ((i ≡ j) × (lowered p to ≡ r)) ⊎ ((i ≢ j) × (place_at places j ≡ Some r))
  moved_or_not j r there = old_or_new places i j (lowered p to) r below there

  pub moved_here : place_at moved i ≡ Some (lowered p to)
  moved_here = place_same places i (Some (lowered p to)) below

  pub moved_other : (j : ℕ) → i ≢ j → place_at moved j ≡ place_at places j
  moved_other j differs = place_other places i j (Some (lowered p to)) differs

  pub order_moved : (a b : ℕ) (q r v w : Place) → place_at places a ≡ Some q → place_at places b ≡ Some r → place_at moved a ≡ Some v → place_at moved b ≡ Some w → q.unit < r.unit → v.unit < w.unit
  order_moved a b q r v w first second first_now second_now rises = elim (moved_or_not a v first_now) [
    | inl here ↦
        let first_was : place_at places a ≡ Some p = subst (λ k. place_at places k ≡ Some p) here.0 is in
        let q_is : q.unit ≡ p.unit = ap (λ o. option_map_or (λ x. x.unit) o 0) (sym first ∙ first_was) in
        let v_is : to ≡ v.unit = ap (λ x. x.unit) here.1 in
        elim (moved_or_not b w second_now) [
          | inl again ↦
              let second_was : place_at places b ≡ Some p = subst (λ k. place_at places k ≡ Some p) again.0 is in
              let r_is : r.unit ≡ p.unit = ap (λ o. option_map_or (λ x. x.unit) o 0) (sym second ∙ second_was) in
              absurd (omega arith)
          | inr there ↦ let w_is : w.unit ≡ r.unit = ap (λ o. option_map_or (λ x. x.unit) o 0) (sym there.1 ∙ second) in omega arith
        ]
    | inr there ↦
        let v_is : v.unit ≡ q.unit = ap (λ o. option_map_or (λ x. x.unit) o 0) (sym there.1 ∙ first) in
        elim (moved_or_not b w second_now) [
          | inl here ↦
              let second_was : place_at places b ≡ Some p = subst (λ k. place_at places k ≡ Some p) here.0 is in
              let r_is : r.unit ≡ p.unit = ap (λ o. option_map_or (λ x. x.unit) o 0) (sym second ∙ second_was) in
              let w_is : to ≡ w.unit = ap (λ x. x.unit) here.1 in
              let ends = before a q first (omega arith) in
              let some = some_units q.len (laid_out.some a q first) in
              omega arith
          | inr again ↦ let w_is : w.unit ≡ r.unit = ap (λ o. option_map_or (λ x. x.unit) o 0) (sym again.1 ∙ second) in omega arith
        ]
  ]

  pub live_moved : (j : ℕ) → is_some (place_at moved j) ≡ is_some (place_at places j)
  live_moved j = elim (cases_eq i j) [
    | inl same ↦ subst (λ k. is_some (place_at moved k) ≡ is_some (place_at places k)) same (ap is_some moved_here ∙ sym (ap is_some is))
    | inr differs ↦ ap is_some (moved_other j differs)
  ]

  -- ---- its bytes

  abbrev pub own : List ℕ
  own = bytes_of bytes (placed_of p)

  own_count : length own ≡ p.len
  own_count =
      let inside = laid_out.inside i p is in
      simp (length-take, length-drop) (omega arith)

  shown : block_at (space_of bytes moved) i ≡ Some (placed_of (lowered p to))
  shown = block_view bytes moved i ∙ ap (option_map placed_of) moved_here

  there_and_others : (bytes_at (space_of (written bytes (16 * to) own) moved) i ≡ Some own) × ((j : ℕ) → j ≢ i → bytes_at (space_of (written bytes (16 * to) own) moved) j ≡ bytes_at (space_of bytes moved) j)
  there_and_others =
      let apart = written_apart (space_of bytes moved) i (placed_of (lowered p to)) own (disjoint_view count bytes moved sized laid_out_moved) shown own_count in
      let begins : option_map_or (λ q. q.at) (block_at (space_of bytes moved) i) 0 ≡ 16 * to = ap (λ o. option_map_or (λ q. q.at) o 0) shown in
      subst (λ at. (bytes_at (space_of (written bytes at own) moved) i ≡ Some own) × ((j : ℕ) → j ≢ i → bytes_at (space_of (written bytes at own) moved) j ≡ bytes_at (space_of bytes moved) j)) begins (apart.there, apart.others)

  pub bytes_moved : (j : ℕ) → bytes_at (space_of (written bytes (16 * to) own) moved) j ≡ bytes_at (space_of bytes places) j
  bytes_moved j = elim (cases_eq i j) [
    | inl same ↦
        let was : bytes_at (space_of bytes places) i ≡ Some own = ap (option_map (bytes_of bytes)) (block_view bytes places i ∙ ap (option_map placed_of) is) in
        subst (λ k. bytes_at (space_of (written bytes (16 * to) own) moved) k ≡ bytes_at (space_of bytes places) k) same (there_and_others.0 ∙ sym was)
    | inr differs ↦
        there_and_others.1 j (λ same. differs (sym same))
        ∙ ap (option_map (bytes_of bytes)) (block_view bytes moved j ∙ ap (option_map placed_of) (moved_other j differs) ∙ sym (block_view bytes places j))
  ]

-- ---- all blocks

-- a block that was live is live
record IsStill (places : List (Option Place)) (number : ℕ) : Type 0 where
  pub place : Place
  pub is : place_at places number ≡ Some place

still : (old_places places : List (Option Place)) (number : ℕ) (p : Place) → is_some (place_at places number) ≡ is_some (place_at old_places number) → place_at old_places number ≡ Some p → IsStill places number
still old_places places number p same is = go (place_at places number) refl
  where
    go : (o : Option Place) → place_at places number ≡ o → IsStill places number
    go None none = let live = sym (ap is_some none) ∙ same ∙ ap is_some is in absurd cc
    go (Some q) some = record { place = q; is = some }

pub moved_start : (bytes : List ℕ) (places : List (Option Place)) (order : List Ordered) → IsListed places order → IsReady bytes places → AreMoved bytes places order 0 bytes places 0
moved_start bytes places order listed ready = record {
  kept = record {
    size = refl;
    numbers = refl;
    bytes_stay = λ number. refl;
    live_stays = λ number. refl;
    order = λ i j p q v w first second first_now second_now rises.
        let v_is : v.unit ≡ p.unit = ap (λ o. option_map_or (λ x. x.unit) o 0) (sym first_now ∙ first) in
        let w_is : w.unit ≡ q.unit = ap (λ o. option_map_or (λ x. x.unit) o 0) (sym second_now ∙ second) in
        omega arith;
    taken_stays = refl;
    count_stays = refl;
  };
  ready = ready;
  within = omega arith;
  full = λ u high. absurd (omega arith);
  waiting = λ j low inside. listed.each j inside;
  room = λ j low inside. omega arith;
  parted = λ number p is. inr (listed_found places order number p listed is);
}

module _ (old_bytes : List ℕ) (old_places : List (Option Place)) (order : List Ordered) (k : ℕ) (bytes : List ℕ) (places : List (Option Place)) (to : ℕ)
    (now : AreMoved old_bytes old_places order k bytes places to) where
  pub moved_all : length order ≤ k → IsPackedTo old_bytes old_places bytes places to
  moved_all all = record {
    kept = now.kept;
    ready = now.ready;
    within = now.within;
    full = now.full;
    ends = λ number p is. elim (now.parted number p is) [
      | inl ends ↦ ends
      | inr waits ↦ let low = waits.behind in let high = waits.inside in absurd (omega arith)
    ];
  }

  pub may_move : k < length order → MayMove places (length bytes) (ordered_at order k).number to
  may_move more =
      let next = now.waiting k (omega arith) more in
      let room = now.room k (omega arith) more in
      let unit = next.unit in
      let inside = now.ready.laid_out.inside (ordered_at order k).number next.place next.is in
      let sized = now.ready.sized in
      record { place = next.place; is = next.is; down = omega arith; inside = omega arith }

  module _ (listed_apart_by : (i j : ℕ) → i < j → j < length order → (ordered_at order i).number ≢ (ordered_at order j).number) (rising : IsNonDecreasingBy (λ m. m.unit) order) (more : k < length order)
      (new_bytes : List ℕ) (new_places : List (Option Place)) (next : ℕ) (step : IsMoved places new_places bytes new_bytes (ordered_at order k).number to next) where
    abbrev i : ℕ
    i = (ordered_at order k).number

    abbrev p : Place
    p = step.place

    its_unit : p.unit ≡ (ordered_at order k).unit
    its_unit =
        let due = now.waiting k (omega arith) more in
        ap (λ o. option_map_or (λ x. x.unit) o 0) (sym step.was ∙ due.is) ∙ due.unit

    down : to ≤ p.unit
    down = let room = now.room k (omega arith) more in let unit = its_unit in omega arith

    later : (j : ℕ) (r : Place) → k ≤ j → j < length order → place_at places (ordered_at order j).number ≡ Some r → p.unit ≤ r.unit
    later j r low inside is =
        let due = now.waiting j low inside in
        let unit : r.unit ≡ (ordered_at order j).unit = ap (λ o. option_map_or (λ x. x.unit) o 0) (sym is ∙ due.is) ∙ due.unit in
        let rises : (ordered_at order k).unit ≤ (ordered_at order j).unit = rising k j (record { unit = 0; number = 0 }) low inside in
        let own = its_unit in
        omega arith

    before : (j : ℕ) (r : Place) → place_at places j ≡ Some r → r.unit < p.unit → end_unit r ≤ to
    before j r is lower = elim (now.parted j r is) [
      | inl ends ↦ ends
      | inr waits ↦
          let there : place_at places (ordered_at order waits.at).number ≡ Some r = subst (λ n. place_at places n ≡ Some r) (sym waits.is) is in
          let behind = later waits.at r waits.behind waits.inside there in
          absurd (omega arith)
    ]

    has_moved : AreMoved old_bytes old_places order (k + 1) (written bytes (16 * to) (bytes_of bytes (placed_of p))) (set places i (Some (lowered p to))) (to + units_of p.len)
    has_moved =
        let count = now.ready.count in
        let units = now.ready.units in
        let sized = now.ready.sized in
        let laid_out = now.ready.laid_out in
        let marked = now.ready.marked in
        let kept = now.kept in
        let inside = laid_out.inside i p step.was in
        let lower = down in
        let own_len = own_count count bytes units places i p to sized laid_out marked step.was down before in
        let size : length (written bytes (16 * to) (bytes_of bytes (placed_of p))) ≡ length bytes = length_written bytes (bytes_of bytes (placed_of p)) (16 * to) (omega arith) in
        let size_was = kept.size in
        record {
          kept = record {
            size = size ∙ kept.size;
            numbers = length-set places i (Some (lowered p to)) ∙ kept.numbers;
            bytes_stay = λ number. bytes_moved count bytes units places i p to sized laid_out marked step.was down before number ∙ kept.bytes_stay number;
            live_stays = λ number. live_moved count bytes units places i p to sized laid_out marked step.was down before number ∙ kept.live_stays number;
            order = λ a b q s v w first second first_now second_now rises.
                let first_is = still old_places places a q (kept.live_stays a) first in
                let second_is = still old_places places b s (kept.live_stays b) second in
                order_moved count bytes units places i p to sized laid_out marked step.was down before a b first_is.place second_is.place v w first_is.is second_is.is first_now second_now
                (kept.order a b q s first_is.place second_is.place first second first_is.is second_is.is rises);
            taken_stays = taken_moved count bytes units places i p to sized laid_out marked step.was down before ∙ kept.taken_stays;
            count_stays = count_moved count bytes units places i p to sized laid_out marked step.was down before ∙ kept.count_stays;
          };
          ready = record {
            count = count;
            sized = size ∙ sized;
            laid_out = laid_out_moved count bytes units places i p to sized laid_out marked step.was down before;
            units = placed count bytes units places i p to sized laid_out marked step.was down before;
            marked = marked_moved count bytes units places i p to sized laid_out marked step.was down before;
            counted =
                let taken_is = taken_moved count bytes units places i p to sized laid_out marked step.was down before in
                let clear_is = clear_moved count bytes units places i p to sized laid_out marked step.was down before in
                let counted = now.ready.counted in
                omega arith;
          };
          within = omega arith;
          full = full_moved count bytes units places i p to sized laid_out marked step.was down before now.full;
          waiting = λ j low high.
              let due = now.waiting j (omega arith) high in
              let differs = listed_apart_by k j (omega arith) high in
              record { place = due.place; is = moved_other count bytes units places i p to sized laid_out marked step.was down before (ordered_at order j).number differs ∙ due.is; unit = due.unit };
          room = λ j low high.
              let due = now.waiting j (omega arith) high in
              let differs = listed_apart_by k j (omega arith) high in
              let behind = later j due.place (omega arith) high due.is in
              let some = some_units due.place.len (laid_out.some (ordered_at order j).number due.place due.is) in
              let unit = due.unit in
              elim (laid_out.apart i (ordered_at order j).number p due.place step.was due.is differs) [
                | inl apart ↦ omega arith
                | inr apart ↦ absurd (omega arith)
              ];
          parted = λ number q is. elim (moved_or_not count bytes units places i p to sized laid_out marked step.was down before number q is) [
            | inl here ↦ let unit : to ≡ q.unit = ap (λ x. x.unit) here.1 in let len : p.len ≡ q.len = ap (λ x. x.len) here.1 in inl (subst (λ n. q.unit + units_of n ≤ to + units_of p.len) len (omega arith))
            | inr there ↦ elim (now.parted number q there.1) [
              | inl ends ↦ inl (omega arith)
              | inr waits ↦ elim (cases_eq k waits.at) [
                | inl same ↦ absurd (there.0 (subst (λ n. (ordered_at order n).number ≡ number) (sym same) waits.is))
                | inr differs ↦ let low = waits.behind in inr (record { at = waits.at; behind = omega arith; inside = waits.inside; is = waits.is })
              ]
            ]
          ];
        }

    pub moved_more : AreMoved old_bytes old_places order (k + 1) new_bytes new_places next
    moved_more = rw (step.becomes, step.next_is, step.bytes_are) has_moved

-- ---- the region once all blocks have moved

all_used : (n u : ℕ) → unit_at (replicate n true) u ≡ true
all_used n u = elim (cases_lt u n) [
  | inl below ↦ get_or-replicate n u true true below
  | inr past ↦ get_or_past (replicate n true) u true (omega (arith, length-replicate {A = Bool} n true))
]

-- where the units behind one are clear up to another, so many are
clear_behind : (units : List Bool) (to count : ℕ) → to ≤ count → count ≤ length units → ((u : ℕ) → u < to → unit_at units u ≡ true) → ((u : ℕ) → to ≤ u → u < count → unit_at units u ≡ false)
    → ((u : ℕ) → count ≤ u → unit_at units u ≡ true) → clear_units units + to ≡ count
clear_behind units to count order fits used clear past =
    let base = replicate (length units) true in
    let base_len = length-replicate (length units) true in
    let filled : IsFilled base units to count false = record {
      count = sym base_len;
      within = clear;
      before = λ u below. used u below ∙ sym (all_used (length units) u);
      behind = λ u above. past u above ∙ sym (all_used (length units) u);
    } in
    let cleared = cleared_count base units to count filled (λ u low high. all_used (length units) u) order (omega arith) in
    let none : clear_units base ≡ 0 = sum_none (λ b. cond (not b) 1 0) true (length units) refl in
    omega arith

module _ (old_bytes : List ℕ) (old_places : List (Option Place)) (bytes : List ℕ) (places : List (Option Place)) (to count : ℕ) (all : IsPackedTo old_bytes old_places bytes places to)
    (sized : length bytes ≡ 16 * count) where
  same_count : all.ready.count ≡ count
  same_count = let is = all.ready.sized in omega arith

  -- no block has a unit behind them
  nothing_behind : (u : ℕ) → to ≤ u → IsCovered places u → ⊥
  nothing_behind u low by = let ends = all.ends by.number by.place by.is in let high = by.high in omega arith

  clear_in_list : clear_units all.ready.units + to ≡ count
  clear_in_list =
      let same = same_count in
      let within = all.within in
      let fits = all.ready.marked.fits in
      clear_behind all.ready.units to count (omega arith) (omega arith) all.full
      (λ u low high. elim (cases_Bool (unit_at all.ready.units u)) [
        | inl used ↦ absurd (nothing_behind u low (all.ready.marked.used u (omega arith) used))
        | inr clear ↦ clear
      ])
      (λ u past. elim (cases_Bool (unit_at all.ready.units u)) [
        | inl used ↦ used
        | inr clear ↦ let inside = all.ready.marked.clear_in u clear in absurd (omega arith)
      ])

  taken_is : taken places ≡ to
  taken_is = let clear = clear_in_list in let counted = all.ready.counted in let same = same_count in omega arith

  module _ (units used new_units : List Bool) (nodes new_nodes : List Runs) (levels : ℕ) (numbers : List ℕ) (now free room : ℕ) (sound : IsSound old_bytes units nodes levels old_places numbers now free room)
      (front : IsFilled units used 0 to true) (back : IsFilled used new_units to count false) (tree : IsTree levels new_nodes new_units) where
    was_count : sound.count ≡ count
    was_count = let is = sound.sized in let size = all.kept.size in omega arith

    few : to ≤ count
    few = let same = same_count in let within = all.within in omega arith

    in_front : (u : ℕ) → u < to → unit_at new_units u ≡ true
    in_front u below = back.before u below ∙ front.within u (omega arith) below

    past_all : (u : ℕ) → count ≤ u → unit_at new_units u ≡ true
    past_all u past =
        let within = few in
        let same = was_count in
        back.behind u past ∙ front.behind u (omega arith) ∙ elim (cases_Bool (unit_at units u)) [
          | inl was ↦ was
          | inr clear ↦ let inside = sound.marked.clear_in u clear in absurd (omega arith)
        ]

    new_fits : count ≤ length new_units
    new_fits = let same = was_count in let fits = sound.marked.fits in let one_is = front.count in let two_is = back.count in omega arith

    clear_now_is : clear_units new_units + to ≡ count
    clear_now_is = clear_behind new_units to count few new_fits in_front back.within past_all

    pub sound_packed : IsSound bytes new_units new_nodes levels places numbers now free room
    sound_packed =
        let rest = clear_now_is in
        let has = taken_is in
        let stays = all.kept.taken_stays in
        let counted = sound.counted in
        let same = was_count in
        let free_was = sound.free_is in
        let numbers_are = all.kept.numbers in
        let spare_all = sound.spare.all in
        record {
          count = count;
          sized = sized;
          laid_out = subst (λ n. AreLaidOut n places) same_count all.ready.laid_out;
          marked = record {
            fits = new_fits;
            used = λ u inside is. elim (cases_lt u to) [
              | inl below ↦ let alike = same_count in all.ready.marked.used u (omega arith) (all.full u below)
              | inr low ↦ let clear = back.within u low inside in absurd cc
            ];
            clear_in = λ u clear. elim (cases_lt u count) [
              | inl inside ↦ inside
              | inr past ↦ let is = past_all u past in absurd cc
            ];
            clear = λ u clear by. elim (cases_lt u to) [
              | inl below ↦ let is = in_front u below in absurd cc
              | inr low ↦ nothing_behind u low by
            ];
          };
          tree = tree;
          spare = record {
            all = spare_all ∙ sym numbers_are;
            inside = λ k low high. let inside = sound.spare.inside k low high in omega arith;
            none = λ k low high. is_none (place_at places (get_or numbers k 0)) (all.kept.live_stays (get_or numbers k 0) ∙ ap is_some (sound.spare.none k low high));
            distinct = sound.spare.distinct;
            counted = all.kept.count_stays ∙ sound.spare.counted;
          };
          counted = omega arith;
          free_is = omega arith;
          ordered = let ordered = sound.ordered in omega arith;
        }

    pub packed_view : IsPacked (space_of old_bytes old_places) (space_of bytes places)
    packed_view =
        let rest = clear_now_is in
        let has = taken_is in
        let free_is : 16 * clear_units new_units ≡ free_bytes (space_of bytes places) = free_view bytes places count (clear_units new_units) (16 * clear_units new_units) sized (omega arith) refl in
        let size : length bytes - 16 * clear_units new_units ≡ 16 * to = omega arith in
        record {
          size_stays = all.kept.size;
          most_stays = length-map places (option_map placed_of) ∙ all.kept.numbers ∙ sym (length-map old_places (option_map placed_of));
          live_stays = live_view places ∙ all.kept.count_stays ∙ sym (live_view old_places);
          free_stays =
              let was = free_view old_bytes old_places sound.count (clear_units units) free sound.sized sound.counted sound.free_is in
              let free_was = sound.free_is in
              let stays = all.kept.taken_stays in
              let counted = sound.counted in
              let same = was_count in
              let same_free : 16 * clear_units new_units ≡ free = omega arith in sym free_is ∙ same_free ∙ was;
          stays = λ number was.
              sym (live_placed bytes (block_at (space_of bytes places) number)) ∙ ap is_some (all.kept.bytes_stay number) ∙ live_placed old_bytes (block_at (space_of old_bytes old_places) number) ∙ was;
          bytes = all.kept.bytes_stay;
          order = λ i j p q v w first second first_now second_now rises.
              let a = seen old_bytes old_places i p first in
              let b = seen old_bytes old_places j q second in
              let c = seen bytes places i v first_now in
              let d = seen bytes places j w second_now in
              let p_is : p.at ≡ 16 * a.place.unit = ap (λ x. x.at) a.placed in
              let q_is : q.at ≡ 16 * b.place.unit = ap (λ x. x.at) b.placed in
              let v_is : v.at ≡ 16 * c.place.unit = ap (λ x. x.at) c.placed in
              let w_is : w.at ≡ 16 * d.place.unit = ap (λ x. x.at) d.placed in
              let less = all.kept.order i j a.place b.place c.place d.place a.is b.is c.is d.is (omega arith) in
              omega arith;
          one_hole = subst (λ n. IsHole (space_of bytes places) (length bytes - n) n) free_is (record {
            inside = omega arith;
            clear = λ number p is.
                let by = seen bytes places number p is in
                let ends = all.ends number by.place by.is in
                rw by.placed (inl (omega arith));
          });
        }
