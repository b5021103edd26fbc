-- The store that is a log's last entry.
use Rattle.std.specs.Prelude.{Option, Some, None}
use Rattle.tx_entry.specs.declared.entry.Entry.{Entry}
use Rattle.tx_entry.specs.declared.entry.Entry.TheVariants.{Creation, Store, Transfer, Truncation, Deletion}
use Rattle.transactions_file.specs.Inventory.{State, after}

-- the last entry is a store
abbrev pub IsStore : Option Entry → Type 0
IsStore (Some (Store number file at len next_id)) = Unit {0}
IsStore (Some (Creation file)) = ⊥
IsStore (Some (Transfer source file at len)) = ⊥
IsStore (Some (Truncation file n d)) = ⊥
IsStore (Some (Deletion file)) = ⊥
IsStore None = ⊥

abbrev pub drops_from : State → Option Entry → State
drops_from s (Some (Store number file at len next_id)) = after s (Truncation file at number)
drops_from s (Some (Creation file)) = s
drops_from s (Some (Transfer source file at len)) = s
drops_from s (Some (Truncation file n d)) = s
drops_from s (Some (Deletion file)) = s
drops_from s None = s

-- the inventory once the store that is the last entry is dropped
abbrev pub drops_to : State → State
drops_to s = drops_from s s.entry
