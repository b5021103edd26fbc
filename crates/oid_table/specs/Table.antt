-- What a contract sees of an `OidTable`: a finite map, the places that it is kept in, and spare room.
use Rattle.std.specs.Prelude.{◌≡◌, ℕ, ◌<◌, List, length, Option, None, Some, IsSome, slice_index_or, unwrap_or, option_and_then, refl}
use Rattle.std.specs.Ordering.{nat_cmp}
use Rattle.std.specs.FinMap as map
use Rattle.std.specs.Coded.{Coded, code_by, coded×, coded_ℕ, coded_list, coded_option}

-- the map, the key that stands at each place if one does, and for how many new keys there is room
pub record Table (V : Type 0) : Type 0 where
  pub contents : map.FinMap nat_cmp V
  pub keys : List (Option ℕ)
  pub spare : ℕ

-- a table is stored as the tuple of its fields
abbrev pub table_code : {V : Type 0} → Coded V → Coded (Table V)
table_code {V} code =
    code_by
    (map.FinMap nat_cmp V × (List (Option ℕ) × ℕ))
    (coded× (map.code coded_ℕ code) (coded× (coded_list (coded_option coded_ℕ)) coded_ℕ))
    (λ t. (t.contents, (t.keys, t.spare)))
    (λ p. record { contents = p.0; keys = p.1.0; spare = p.1.1 })
    (λ _. refl)

module _ {V : Type 0} where
  -- the value of a key, if it has one
  abbrev pub value_at : Table V → ℕ → Option V
  value_at t key = map.get t.contents key

  -- the key that stands at a place, if one does
  abbrev pub key_at : Table V → ℕ → Option ℕ
  key_at t place = slice_index_or t.keys place None

  -- each key of the map stands at one place, and no other key stands anywhere
  pub record IsPlaced (t : Table V) : Type 0 where
    pub stands : (key : ℕ) → IsSome (value_at t key) → (place : ℕ) × (place < length t.keys) × (key_at t place ≡ Some key)
    pub once : (key p q : ℕ) → key_at t p ≡ Some key → key_at t q ≡ Some key → p ≡ q
    pub listed : (key place : ℕ) → key_at t place ≡ Some key → IsSome (value_at t key)

  -- there are as many places, and each key that stood at one still does
  pub record KeepsPlaces (old new : Table V) : Type 0 where
    pub count : length new.keys ≡ length old.keys
    pub stays : (key place : ℕ) → key_at old place ≡ Some key → key_at new place ≡ Some key

  -- the table once a key that it has was given another value
  abbrev pub with_value : Table V → ℕ → V → Table V
  with_value t key value = record t { contents = map.insert t.contents key value }

  -- the value of the key at a place, and the table once that key was given another
  abbrev pub value_at_place : Table V → ℕ → Option V
  value_at_place t place = option_and_then (value_at t) (key_at t place)

  abbrev pub with_value_at_place : Table V → ℕ → V → Table V
  with_value_at_place t place value = with_value t (unwrap_or (key_at t place) 0) value
