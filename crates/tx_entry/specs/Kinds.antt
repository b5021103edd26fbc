-- The kinds of entries: the byte that stands for each, and how many numbers follow it.
use Rattle.std.specs.Prelude.{ℕ, ◌==◌, if◌then◌else◌, Option, Some, None}
use Rattle.tx_entry.specs.declared.kind.Kind.{Kind}
use Rattle.tx_entry.specs.declared.kind.Kind.TheVariants.{Creation, Store, Transfer, Truncation, Deletion}

abbrev pub byte_of : Kind → ℕ
byte_of Creation = 1
byte_of Store = 2
byte_of Transfer = 3
byte_of Truncation = 4
byte_of Deletion = 5

abbrev pub kind_of_byte : ℕ → Option Kind
kind_of_byte byte =
    if byte == 1 then Some Creation
    else (if byte == 2 then Some Store
    else (if byte == 3 then Some Transfer
    else (if byte == 4 then Some Truncation
    else (if byte == 5 then Some Deletion else None))))

abbrev pub count_of : Kind → ℕ
count_of Creation = 1
count_of Store = 5
count_of Transfer = 4
count_of Truncation = 3
count_of Deletion = 1
