-- Headers of entities where they stand.
use Rattle.std.specs.Prelude.{◌≡◌, ℕ, List, take, drop, Some}
use Rattle.field_bytes.specs.Fields.{number_at}
use Rattle.entity_form.specs.declared.places.Header.{Header}

-- the bytes begin with this header
pub record BeginsWith (bytes : List ℕ) (h : Header) : Type 0 where
  pub length : number_at 8 bytes 0 ≡ Some h.length
  pub type_id : number_at 8 bytes 8 ≡ Some h.type_id
  pub id : number_at 8 bytes 16 ≡ Some h.id
  pub count : number_at 8 bytes 24 ≡ Some h.count

-- the 32 bytes at this place are this header
abbrev pub IsHeaderAt : List ℕ → ℕ → Header → Type 0
IsHeaderAt bytes at h = BeginsWith (take 32 (drop at bytes)) h
