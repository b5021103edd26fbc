-- What is cached, as a map from ids to contents. It is a list of pairs, the last used first.
use Rattle.std.specs.Prelude.{◌≡◌, ◌≢◌, ℕ, List, Option, nat_eq}
use Rattle.std.specs.Map.{lookup}
use Rattle.lru.specs.LruCache.{LruCache}

-- so many entities are cached at most
abbrev pub most_entries : ℕ
most_entries = 4096

module _ {C : Type 0} where
  -- the content of an id, if it is cached
  abbrev pub found_at : List (ℕ × C) → ℕ → Option C
  found_at contents id = lookup (nat_eq id) contents

  -- every id has the content that it had
  abbrev pub AllStay : List (ℕ × C) → List (ℕ × C) → Type 0
  AllStay old new = (id : ℕ) → found_at new id ≡ found_at old id

  -- every other id has
  abbrev pub OthersStay : ℕ → List (ℕ × C) → List (ℕ × C) → Type 0
  OthersStay id old new = (other : ℕ) → other ≢ id → found_at new other ≡ found_at old other

  pub record IsSound (cache : LruCache ℕ C) : Type 0 where
    pub capacity : cache.cap ≡ most_entries
