-- An entry's one spelling, and the entry that a payload spells.
use Rattle.std.specs.Prelude.{ℕ, ◌+◌, ◌*◌, ◌==◌, if◌then◌else◌, List, [], ◌∷◌, length, drop, unwrap_or, Option, Some, None, Result, Ok, Err}
use Rattle.std.specs.List.{flat_map}
use Rattle.field_bytes.specs.Fields.{bytes_of, number_at}
use Rattle.tx_entry.specs.Kinds.{byte_of, kind_of_byte, count_of}
use Rattle.tx_entry.specs.declared.kind.Kind.{Kind}
use Rattle.tx_entry.specs.declared.kind.Kind.TheVariants as kinds
use Rattle.tx_entry.specs.declared.entry.Entry.{Entry}
use Rattle.tx_entry.specs.declared.entry.Entry.TheVariants.{Creation, Store, Transfer, Truncation, Deletion}
use Rattle.tx_entry.specs.declared.entry.BadEntry.{BadEntry}

abbrev pub kind_of : Entry → Kind
kind_of (Creation file) = kinds.Creation
kind_of (Store number file at len next_id) = kinds.Store
kind_of (Transfer source file at len) = kinds.Transfer
kind_of (Truncation file new_length dropped) = kinds.Truncation
kind_of (Deletion file) = kinds.Deletion

abbrev pub fields_of : Entry → List ℕ
fields_of (Creation file) = file ∷ []
fields_of (Store number file at len next_id) = number ∷ file ∷ at ∷ len ∷ next_id ∷ []
fields_of (Transfer source file at len) = source ∷ file ∷ at ∷ len ∷ []
fields_of (Truncation file new_length dropped) = file ∷ new_length ∷ dropped ∷ []
fields_of (Deletion file) = file ∷ []

-- the kind's byte, and each number in eight bytes
abbrev pub spelling : Entry → List ℕ
spelling e = byte_of (kind_of e) ∷ flat_map (bytes_of 8) (fields_of e)

-- the number with this index behind the kind's byte; 0 where it does not end within the payload
abbrev pub field : List ℕ → ℕ → ℕ
field payload index = unwrap_or (number_at 8 (drop (1 + 8 * index) payload) 0) 0

abbrev pub entry_at : Kind → List ℕ → Entry
entry_at kinds.Creation p = Creation (field p 0)
entry_at kinds.Store p = Store (field p 0) (field p 1) (field p 2) (field p 3) (field p 4)
entry_at kinds.Transfer p = Transfer (field p 0) (field p 1) (field p 2) (field p 3)
entry_at kinds.Truncation p = Truncation (field p 0) (field p 1) (field p 2)
entry_at kinds.Deletion p = Deletion (field p 0)

-- the entry of a payload that begins with this kind, if with any
abbrev pub entry_by : Option Kind → List ℕ → Result Entry BadEntry
entry_by None p = Err (record { at = 0 })
entry_by (Some kind) p = if length p == 1 + 8 * count_of kind then Ok (entry_at kind p) else Err (record { at = length p })

-- the entry that the payload spells, or where it is none
abbrev pub entry_of : List ℕ → Result Entry BadEntry
entry_of [] = Err (record { at = 0 })
entry_of (byte ∷ fields) = entry_by (kind_of_byte byte) (byte ∷ fields)
