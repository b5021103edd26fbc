-- Which store all channels of a storage have in common.
use Rattle.std.specs.Prelude.{◌≡◌, ◌⊎◌, ℕ, ◌+◌, ◌≤◌, List, map, take, All, Contains, Option, Some, None, slice_get}
use Rattle.tx_entry.specs.declared.entry.Entry.{Entry}
use Rattle.tx_entry.specs.declared.entry.Entry.TheVariants.{Creation, Store, Transfer, Truncation, Deletion}
use Rattle.store_agreement.specs.declared.agreement.Last.{Last}
use Rattle.store_agreement.specs.declared.agreement.Disagree.{Disagree}

-- the number of each channel's last store
abbrev pub numbers_of : List Last → List ℕ
numbers_of lasts = map (λ (l : Last). l.number) lasts

-- it is one of the numbers and at most each
pub record IsLeast (m : ℕ) (numbers : List ℕ) : Type 0 where
  pub one : Contains numbers m
  pub at_most : All (λ number. m ≤ number) numbers

-- the Store entry of this number
abbrev pub IsStoreOf : ℕ → Option Entry → Type 0
IsStoreOf m (Some (Store number file at len next_id)) = number ≡ m
IsStoreOf m (Some (Creation file)) = ⊥
IsStoreOf m (Some (Transfer source file at len)) = ⊥
IsStoreOf m (Some (Truncation file new_length dropped)) = ⊥
IsStoreOf m (Some (Deletion file)) = ⊥
IsStoreOf m None = ⊥

-- the channel's last number is this one, or the next, whose Store is then the log's last entry
abbrev pub Agrees : ℕ → Last → Type 0
Agrees m l = (l.number ≡ m) ⊎ ((l.number ≡ m + 1) × IsStoreOf l.number l.last_entry)

-- each channel agrees with the least number
pub record AllAgree (m : ℕ) (lasts : List Last) : Type 0 where
  pub least : IsLeast m (numbers_of lasts)
  pub each : All (Agrees m) lasts

-- the channel has this number and does not agree with the least one, as each channel before it does
pub record IsFirstApart (d : Disagree) (lasts : List Last) : Type 0 where
  pub m : ℕ
  pub last : Last
  pub least : IsLeast m (numbers_of lasts)
  pub before : All (Agrees m) (take d.channel lasts)
  pub there : slice_get lasts d.channel ≡ Some last
  pub apart : ¬ Agrees m last
  pub number : last.number ≡ d.number
