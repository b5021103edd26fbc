-- Live blocks in the order of their offsets, and how they are moved to the front.
-- No public clause cites this module.
use Rattle.std.specs.Prelude.{◌≡◌, ℕ, ◌+◌, ◌*◌, ◌<◌, ◌≤◌, ◌⊎◌, Bool, true, cond, List, length, set, Option, Some, is_some, nat_eq, slice_index_or}
use Rattle.std.specs.List.{sum_by, count_by}
use Rattle.entity_region.specs.declared.place.Place.{Place}
use Rattle.entity_region.specs.declared.packing.Ordered.{Ordered}
use Rattle.entity_region.specs.Space.{bytes_of, bytes_at, written}
use Rattle.entity_region.specs.Units.{unit_at}
use Rattle.entity_region.specs.Sound.{place_at, placed_of, end_unit, units_of, space_of, AreLaidOut, AreMarked, taken, clear_units}

abbrev pub ordered_at : List Ordered → ℕ → Ordered
ordered_at order k = slice_index_or order k (record { unit = 0; number = 0 })

-- how often a number stands in a list
abbrev pub times : ℕ → List Ordered → ℕ
times number order = sum_by (λ m. cond (nat_eq m.number number) 1 0) order

abbrev pub one_if_live : Option Place → ℕ
one_if_live place = cond (is_some place) 1 0

pub record IsPlacedAt (places : List (Option Place)) (m : Ordered) : Type 0 where
  pub place : Place
  pub is : place_at places m.number ≡ Some place
  pub unit : place.unit ≡ m.unit

-- each live block stands once in a list, with its unit
pub record IsListed (places : List (Option Place)) (order : List Ordered) : Type 0 where
  pub each : (k : ℕ) → k < length order → IsPlacedAt places (ordered_at order k)
  pub once : (number : ℕ) → times number order ≡ one_if_live (place_at places number)

-- the same of the numbers below a bound
pub record IsListedTo (places : List (Option Place)) (bound : ℕ) (order : List Ordered) : Type 0 where
  pub each : (k : ℕ) → k < length order → IsPlacedAt places (ordered_at order k)
  pub below : (number : ℕ) → number < bound → times number order ≡ one_if_live (place_at places number)
  pub above : (number : ℕ) → bound ≤ number → times number order ≡ 0

-- blocks lie apart in the bytes, and some list knows the units that they have
pub record IsReady (bytes : List ℕ) (places : List (Option Place)) : Type 0 where
  pub count : ℕ
  pub sized : length bytes ≡ 16 * count
  pub laid_out : AreLaidOut count places
  pub units : List Bool
  pub marked : AreMarked count units places
  pub counted : taken places + clear_units units ≡ count

-- a block that may move down to a unit
pub record MayMove (places : List (Option Place)) (size number to : ℕ) : Type 0 where
  pub place : Place
  pub is : place_at places number ≡ Some place
  pub down : to ≤ place.unit
  pub inside : 16 * end_unit place ≤ size

-- a block was moved to a unit: its bytes were written there, and nothing else
pub record IsMoved (old_places places : List (Option Place)) (old_bytes bytes : List ℕ) (number to next : ℕ) : Type 0 where
  pub place : Place
  pub was : place_at old_places number ≡ Some place
  pub becomes : places ≡ set old_places number (Some (record { unit = to; len = place.len }))
  pub next_is : next ≡ to + units_of place.len
  pub bytes_are : bytes ≡ written old_bytes (16 * to) (bytes_of old_bytes (placed_of place))

-- the blocks have their bytes, and stand in the order that they had
pub record AreKept (old_bytes : List ℕ) (old_places : List (Option Place)) (bytes : List ℕ) (places : List (Option Place)) : Type 0 where
  pub size : length bytes ≡ length old_bytes
  pub numbers : length places ≡ length old_places
  pub bytes_stay : (number : ℕ) → bytes_at (space_of bytes places) number ≡ bytes_at (space_of old_bytes old_places) number
  pub live_stays : (number : ℕ) → is_some (place_at places number) ≡ is_some (place_at old_places number)
  pub order : (i j : ℕ) (p q v w : Place) → place_at old_places i ≡ Some p → place_at old_places j ≡ Some q → place_at places i ≡ Some v → place_at places j ≡ Some w → p.unit < q.unit → v.unit < w.unit
  pub taken_stays : taken places ≡ taken old_places
  pub count_stays : count_by is_some places ≡ count_by is_some old_places

-- a number stands in a list from one place on
pub record IsWaiting (order : List Ordered) (k number : ℕ) : Type 0 where
  pub at : ℕ
  pub behind : k ≤ at
  pub inside : at < length order
  pub is : (ordered_at order at).number ≡ number

-- the first k blocks of the order fill the units up to one, and the others stand where they stood
pub record AreMoved (old_bytes : List ℕ) (old_places : List (Option Place)) (order : List Ordered) (k : ℕ) (bytes : List ℕ) (places : List (Option Place)) (to : ℕ) : Type 0 where
  pub kept : AreKept old_bytes old_places bytes places
  pub ready : IsReady bytes places
  pub within : to ≤ ready.count
  pub full : (u : ℕ) → u < to → unit_at ready.units u ≡ true
  pub waiting : (j : ℕ) → k ≤ j → j < length order → IsPlacedAt places (ordered_at order j)
  pub room : (j : ℕ) → k ≤ j → j < length order → to ≤ (ordered_at order j).unit
  pub parted : (number : ℕ) (p : Place) → place_at places number ≡ Some p → (end_unit p ≤ to) ⊎ IsWaiting order k number

-- all blocks stand at the front, up to a unit
pub record IsPackedTo (old_bytes : List ℕ) (old_places : List (Option Place)) (bytes : List ℕ) (places : List (Option Place)) (to : ℕ) : Type 0 where
  pub kept : AreKept old_bytes old_places bytes places
  pub ready : IsReady bytes places
  pub within : to ≤ ready.count
  pub full : (u : ℕ) → u < to → unit_at ready.units u ≡ true
  pub ends : (number : ℕ) (p : Place) → place_at places number ≡ Some p → end_unit p ≤ to
