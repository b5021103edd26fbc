-- A chunk as a list of whole entities.
use Rattle.std.specs.Prelude.{◌≡◌, ℕ, zero, suc, ◌+◌, ◌-◌, ◌≤◌, List, [], ◌∷◌, length, take, unwrap_or, Some}
use Rattle.std.specs.List.{flat_map, AllByRecursion}
use Rattle.field_bytes.specs.Fields.{number_at}

-- the bytes of one entity, which begin with its length
pub record IsEntity (bytes : List ℕ) : Type 0 where
  pub length_is : number_at 8 bytes 0 ≡ Some (length bytes)
  pub least : 32 ≤ length bytes
  pub most : length bytes ≤ 1048576

-- whole entities one after another
pub record IsChunk (bytes : List ℕ) : Type 0 where
  pub entities : List (List ℕ)
  pub whole : AllByRecursion IsEntity entities
  pub split : bytes ≡ flat_map (λ e. e) entities

-- the entities of a chunk, the next of which begins behind `skip` more bytes
abbrev pub entities_from : ℕ → List ℕ → List (List ℕ)
entities_from skip [] = []
entities_from zero (b ∷ bytes) =
    let size = unwrap_or (number_at 8 (b ∷ bytes) 0) 0 in
    take size (b ∷ bytes) ∷ entities_from (size - 1) bytes
entities_from (suc skip) (b ∷ bytes) = entities_from skip bytes

abbrev pub entities_of : List ℕ → List (List ℕ)
entities_of bytes = entities_from 0 bytes
