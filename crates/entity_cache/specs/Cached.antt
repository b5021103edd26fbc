-- What is cached of entities: under an id the number of the block of a region that holds its content. The ids stand in a
-- list, the last used first.
use Rattle.std.specs.Prelude.{◌≡◌, ◌≢◌, ℕ, ◌+◌, ◌-◌, ◌<◌, ◌≤◌, ◌⊎◌, List, ◌∷◌, length, take, Option, None, Some, nat_eq}
use Rattle.std.specs.Map.{remove_entry}
use Rattle.std.specs.Option.{option_and_then}
use Rattle.entity_region.specs.Space.{Space, size, most, live, free, rounded, bytes_at, IsLive, IsHole, IsTaken}
use Rattle.entity_cache.specs.Contents.{found_at, most_entries}

-- the block of an id, if it is cached
abbrev pub block_of : List (ℕ × ℕ) → ℕ → Option ℕ
block_of cache id = found_at cache id

-- the content of an id, if it is cached: the bytes of its block
abbrev pub content_of : Space → List (ℕ × ℕ) → ℕ → Option (List ℕ)
content_of region cache id = option_and_then (bytes_at region) (block_of cache id)

-- the cache without an id
abbrev pub without : ℕ → List (ℕ × ℕ) → List (ℕ × ℕ)
without id cache = remove_entry (nat_eq id) cache

-- of those that were cached, those that were last used stay, in their order
abbrev pub LastUsedStay : List (ℕ × ℕ) → List (ℕ × ℕ) → Type 0
LastUsedStay old_cache cache = cache ≡ take (length cache) old_cache

-- an id is the one that was last used
pub record IsNewest (cache : List (ℕ × ℕ)) (id : ℕ) : Type 0 where
  pub number : ℕ
  pub is : cache ≡ (id, number) ∷ without id cache

-- the blocks of a cache are live in the region, and each holds the content of one id
pub record IsHeld (region : Space) (cache : List (ℕ × ℕ)) : Type 0 where
  pub live : (id number : ℕ) → block_of cache id ≡ Some number → IsLive region number
  pub distinct : (id other number : ℕ) → block_of cache id ≡ Some number → block_of cache other ≡ Some number → id ≡ other

-- a block holds no cached content
abbrev pub IsForeign : List (ℕ × ℕ) → ℕ → Type 0
IsForeign cache number = (id : ℕ) → block_of cache id ≢ Some number

-- every block that held no cached content has its bytes and holds none, and there is no further such block
pub record ForeignStay (old_region : Space) (old_cache : List (ℕ × ℕ)) (region : Space) (cache : List (ℕ × ℕ)) : Type 0 where
  pub size_stays : size region ≡ size old_region
  pub most_stays : most region ≡ most old_region
  pub bytes_stay : (number : ℕ) → IsForeign old_cache number → IsLive old_region number → IsForeign cache number × (bytes_at region number ≡ bytes_at old_region number)
  pub no_more : (number : ℕ) → IsForeign cache number → IsLive region number → IsForeign old_cache number × IsLive old_region number
  pub count_stays : live region + length old_cache ≡ live old_region + length cache

-- an id has the content that it had, or it has none
abbrev pub StaysOrLeaves : Space → List (ℕ × ℕ) → Space → List (ℕ × ℕ) → ℕ → Type 0
StaysOrLeaves old_region old_cache region cache id = (content_of region cache id ≡ content_of old_region old_cache id) ⊎ (content_of region cache id ≡ None)

-- n bytes can be kept with nothing given up
pub record IsRoom (region : Space) (cache : List (ℕ × ℕ)) (n : ℕ) : Type 0 where
  pub at : ℕ
  pub hole : IsHole region at (rounded n)
  pub blocks : live region < most region
  pub entries : length cache < most_entries

-- the free bytes of a region are one hole
abbrev pub IsOneHole : Space → Type 0
IsOneHole region = IsHole region (size region - free region) (free region)

-- some ids have left, and nothing else is lost
pub record HaveLeft (old_region : Space) (old_cache : List (ℕ × ℕ)) (region : Space) (cache : List (ℕ × ℕ)) : Type 0 where
  pub held : IsHeld region cache
  pub all : (id : ℕ) → StaysOrLeaves old_region old_cache region cache id
  pub foreign : ForeignStay old_region old_cache region cache
  pub fewer : length cache ≤ length old_cache
  pub last_used : LastUsedStay old_cache cache

-- a block of n bytes came that holds no cached content, once some ids had left
pub record IsAside (old_region : Space) (old_cache : List (ℕ × ℕ)) (region : Space) (cache : List (ℕ × ℕ)) (n number : ℕ) : Type 0 where
  pub before : Space
  pub foreign : ForeignStay old_region old_cache before cache
  pub taken : IsTaken before region n number
  pub apart : IsForeign cache number
