-- The slots of a table as a finite map. No public clause cites this module.
use Rattle.std.specs.Prelude.{◌≡◌, ◌≢◌, ℕ, Bool, true, false, List, Option, None, Some, slice_get, filter_map}
use Rattle.std.specs.Ordering.{nat_cmp}
use Rattle.std.specs.FinMap.{FinMap, from_entries}
use Rattle.oid_table.specs.declared.slot.Slot.{Slot}
use Rattle.oid_table.specs.declared.slot.Slot.TheVariants.{Empty, Full}

module _ {V : Type 0} where
  abbrev pub key_of : Slot V → Option ℕ
  key_of Empty = None
  key_of (Full key _) = Some key

  abbrev pub value_of : Slot V → Option V
  value_of Empty = None
  value_of (Full _ value) = Some value

  abbrev pub entry_of : Slot V → Option (ℕ × V)
  entry_of Empty = None
  entry_of (Full key value) = Some (key, value)

  abbrev pub with_value : Slot V → V → Slot V
  with_value Empty value = Empty
  with_value (Full key _) value = Full key value

  abbrev pub is_full : Slot V → Bool
  is_full Empty = false
  is_full (Full _ _) = true

  -- the map that the slots hold
  abbrev pub contents_of : List (Slot V) → FinMap nat_cmp V
  contents_of slots = from_entries (filter_map entry_of slots)

  -- the key stands at this place
  pub record Holds (slots : List (Slot V)) (place key : ℕ) : Type 0 where
    pub value : V
    pub full : slice_get slots place ≡ Some (Full key value)

  -- the key stands nowhere
  abbrev pub Lacks : List (Slot V) → ℕ → Type 0
  Lacks slots key = (place : ℕ) → Holds slots place key → ⊥

  -- another key stands at this place
  pub record IsPassed (slots : List (Slot V)) (place key : ℕ) : Type 0 where
    pub other : ℕ
    pub held : Holds slots place other
    pub differs : other ≢ key

  -- nothing stands at some place
  pub record HasEmpty (slots : List (Slot V)) : Type 0 where
    pub place : ℕ
    pub empty : slice_get slots place ≡ Some Empty

  -- nothing stands at some other place
  pub record HasOtherEmpty (slots : List (Slot V)) (gap : ℕ) : Type 0 where
    pub place : ℕ
    pub empty : slice_get slots place ≡ Some Empty
    pub other : place ≢ gap
