-- A log that is opened, and its file.
use Rattle.std.specs.Prelude.{◌≡◌, ◌≢◌, ℕ, ◌+◌, ◌≤◌, ◌<◌, nat_le, IsTrue, if◌then◌else◌, List, [], ◌++◌, length, drop, slice_index}
use Rattle.gated_log.specs.Log.{payloads_from, records, AllSized}
use Rattle.gated_log.specs.State.{OpeningState}

-- the payloads that are still to come
abbrev pub rest_of : OpeningState → List ℕ → List (List ℕ)
rest_of opening bytes = if nat_le (length bytes) 9 then [] else payloads_from 0 (drop opening.at bytes)

-- the opening stands at a gate, behind whole records
pub record IsReading (opening : OpeningState) (bytes : List ℕ) : Type 0 where
  pub passed : List (List ℕ)
  pub all_sized : AllSized passed
  pub eight : length opening.header ≡ 8
  pub len : opening.len ≡ length bytes
  pub place : opening.at ≡ 8 + length (records passed)
  pub number : opening.count ≡ length passed
  pub short : length bytes ≤ 9 → passed ≡ []
  pub split : 9 < length bytes → bytes ≡ opening.header ++ (records passed ++ drop opening.at bytes)
  pub closed : IsTrue opening.ended → 9 < length bytes → slice_index bytes opening.at ≢ 1
