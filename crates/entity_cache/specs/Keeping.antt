-- How room for a content is found, and how it is kept. No public clause cites this module.
use Rattle.std.specs.Prelude.{◌≡◌, ◌≢◌, ℕ, List, Some, None}
use Rattle.entity_region.specs.Space.{Space, IsTaken}
use Rattle.entity_cache.specs.declared.kept.Kept.{Kept}
use Rattle.entity_cache.specs.declared.kept.Kept.TheVariants.{Yes, NoHole}
use Rattle.entity_cache.specs.Cached.{block_of, content_of, without, IsNewest, IsHeld, ForeignStay, HaveLeft}

-- a block of n bytes came, once some ids had left
pub record HasRoom (old_region : Space) (old_cache : List (ℕ × ℕ)) (region : Space) (cache : List (ℕ × ℕ)) (n number : ℕ) : Type 0 where
  pub before : Space
  pub left : HaveLeft old_region old_cache before cache
  pub taken : IsTaken before region n number

-- a block of n bytes was taken just now
pub record IsFresh (region : Space) (n number : ℕ) : Type 0 where
  pub before : Space
  pub taken : IsTaken before region n number

-- a content was kept, or it was not, and nothing else is lost
pub record HasKept (old_region : Space) (old_cache : List (ℕ × ℕ)) (region : Space) (cache : List (ℕ × ℕ)) (id : ℕ) (bytes : List ℕ) (result : Kept) : Type 0 where
  pub held : IsHeld region cache
  pub kept : result ≡ Yes → content_of region cache id ≡ Some bytes
  pub unkept : result ≢ Yes → block_of cache id ≡ None
  pub newest : result ≡ Yes → IsNewest cache id
  pub rest : without id cache ≡ old_cache
  pub others : (other : ℕ) → other ≢ id → content_of region cache other ≡ content_of old_region old_cache other
  pub foreign : ForeignStay old_region old_cache region cache
  pub hole : result ≢ NoHole
