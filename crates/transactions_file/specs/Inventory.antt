-- What the entries of a log say of a channel's files.
use Rattle.std.specs.Prelude.{◌≡◌, ℕ, ◌+◌, ◌≤◌, ◌<◌, ◌^◌, ◌==◌, nat_le, nat_lt, not, Bool, false, ◌&&◌, if◌then◌else◌, List, [], ◌∷◌, ◌++◌, Option, Some, None, Result, Ok, Err}
use Rattle.std.specs.List.{fold}
use Rattle.tx_entry.specs.declared.entry.Entry.{Entry}
use Rattle.tx_entry.specs.declared.entry.Entry.TheVariants.{Creation, Store, Transfer, Truncation, Deletion}
use Rattle.tx_entry.specs.declared.entry.BadEntry.{BadEntry}
use Rattle.tx_entry.specs.Entries.{entry_of}
use Rattle.transactions_file.specs.Files.{is_live, length_in, set_length, without, IsRising}

pub record State : Type 0 where
  -- number and length of each live file, rising
  pub files : List (ℕ × ℕ)
  -- the greatest number of a file so far, which is the head's; 1 before the first
  pub created : ℕ
  -- the last store that is not dropped
  pub last : ℕ
  pub next_id : ℕ
  -- these two as they were before the last entry
  pub last_before : ℕ
  pub next_id_before : ℕ
  -- the last entry
  pub entry : Option Entry

abbrev pub start : State
start = record { files = []; created = 1; last = 0; next_id = 1024; last_before = 0; next_id_before = 1024; entry = None }

abbrev pub head_of : State → Option ℕ
head_of s = if s.created == 1 then None else Some s.created

-- a chunk of at most so many bytes may stand at this place, which is the head's end
abbrev pub may_stand : State → ℕ → ℕ → ℕ → ℕ → Bool
may_stand s file at len most =
    file == s.created && (is_live s.files file && (at == length_in s.files file && (nat_lt at (2 ^ 30) && (nat_le 32 len && nat_le len most))))

-- the entry is the store of this number, at this place
abbrev pub is_store_at : Option Entry → ℕ → ℕ → ℕ → Bool
is_store_at (Some (Store n f a len next_id)) file at number = n == number && (f == file && a == at)
is_store_at (Some (Creation f)) file at number = false
is_store_at (Some (Transfer s f a len)) file at number = false
is_store_at (Some (Truncation f n d)) file at number = false
is_store_at (Some (Deletion f)) file at number = false
is_store_at None file at number = false

-- the entry may come next
abbrev pub allowed : State → Entry → Bool
allowed s (Creation file) = file == s.created + 1 && nat_lt file (2 ^ 31)
allowed s (Store number file at len next_id) =
    number == s.last + 1 && (nat_le number (2 ^ 63) && (nat_le s.next_id next_id && (nat_le next_id (2 ^ 48)
    && (if len == 0 then file == 0 && at == 0 else may_stand s file at len 16777216))))
allowed s (Transfer source file at len) = is_live s.files source && (not (source == file) && may_stand s file at len 1048576)
allowed s (Truncation file new_length dropped) = is_store_at s.entry file new_length dropped
allowed s (Deletion file) = is_live s.files file && not (file == s.created)

abbrev pub files_after : State → Entry → List (ℕ × ℕ)
files_after s (Creation file) = s.files ++ (file, 0) ∷ []
files_after s (Store number file at len next_id) = set_length s.files file (at + len)
files_after s (Transfer source file at len) = set_length s.files file (at + len)
files_after s (Truncation file new_length dropped) = set_length s.files file new_length
files_after s (Deletion file) = without s.files file

abbrev pub created_after : State → Entry → ℕ
created_after s (Creation file) = file
created_after s (Store number file at len next_id) = s.created
created_after s (Transfer source file at len) = s.created
created_after s (Truncation file new_length dropped) = s.created
created_after s (Deletion file) = s.created

abbrev pub last_after : State → Entry → ℕ
last_after s (Creation file) = s.last
last_after s (Store number file at len next_id) = number
last_after s (Transfer source file at len) = s.last
last_after s (Truncation file new_length dropped) = s.last_before
last_after s (Deletion file) = s.last

abbrev pub next_id_after : State → Entry → ℕ
next_id_after s (Creation file) = s.next_id
next_id_after s (Store number file at len next_id) = next_id
next_id_after s (Transfer source file at len) = s.next_id
next_id_after s (Truncation file new_length dropped) = s.next_id_before
next_id_after s (Deletion file) = s.next_id

abbrev pub after : State → Entry → State
after s e = record {
  files = files_after s e;
  created = created_after s e;
  last = last_after s e;
  next_id = next_id_after s e;
  last_before = s.last;
  next_id_before = s.next_id;
  entry = Some e;
}

abbrev pub add : State → Result Entry BadEntry → Option State
add s (Ok e) = if allowed s e then Some (after s e) else None
add s (Err bad) = None

abbrev pub step : Option State → List ℕ → Option State
step None payload = None
step (Some s) payload = add s (entry_of payload)

-- the inventory of a log of these payloads; none where one of them is no entry or not allowed there
abbrev pub inventory_of : List (List ℕ) → Option State
inventory_of payloads = fold step (Some start) payloads

-- what holds of every inventory
pub record IsSound (s : State) : Type 0 where
  pub first : 1 ≤ s.created
  pub created : s.created < 2 ^ 31
  pub rising : IsRising 2 (s.created + 1) s.files
  pub last : s.last ≤ 2 ^ 63
  pub last_before : s.last_before ≤ 2 ^ 63

-- an inventory that is kept, and how many more files it takes without memory
pub record Held : Type 0 where
  pub state : State
  pub spare : ℕ

-- how many files an entry creates
abbrev pub creations : Entry → ℕ
creations (Creation file) = 1
creations (Store number file at len next_id) = 0
creations (Transfer source file at len) = 0
creations (Truncation file new_length dropped) = 0
creations (Deletion file) = 0
