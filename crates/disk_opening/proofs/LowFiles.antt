-- The chunk of an entry that may come next stands in a file with a low number.
use Rattle.std.proofs.Common.{◌≡◌, ℕ, ◌+◌, ◌^◌, ◌<◌, ◌==◌, Bool, true, false, ◌&&◌, cond, nat_le, not, arith}
use Rattle.std.proofs.lemmas.Bool.{and_parts, eqb-true}
use Rattle.tx_entry.specs.declared.entry.Entry.{Entry}
use Rattle.tx_entry.specs.declared.entry.Entry.TheVariants.{Creation, Store, Transfer, Truncation, Deletion}
use Rattle.transactions_file.specs.Files.{is_live}
use Rattle.transactions_file.specs.Inventory.{IsSound, State, allowed, may_stand}
use Rattle.disk_opening.specs.Ranges.{HasLowFile}

stands_low : (s : State) (file at len most : ℕ) → IsSound s → may_stand s file at len most ≡ true → file < 2 ^ 32
stands_low s file at len most sound may =
    let head : file ≡ s.created = eqb-true file s.created (and_parts (file == s.created) _ may).0 in
    let least = sound.created in
    omega arith

store_low : (s : State) (file at len : ℕ) (empty : Bool) → IsSound s → cond empty (file == 0 && at == 0) (may_stand s file at len 16777216) ≡ true → file < 2 ^ 32
store_low s file at len true sound may = let none : file ≡ 0 = eqb-true file 0 (and_parts (file == 0) (at == 0) may).0 in omega arith
store_low s file at len false sound may = stands_low s file at len 16777216 sound may

pub low_file : (s : State) (e : Entry) → IsSound s → allowed s e ≡ true → HasLowFile e
low_file s (Creation file) sound may = tt
low_file s (Store number file at len next_id) sound may =
    let a = (and_parts (number == s.last + 1) _ may).1 in
    let b = (and_parts (nat_le number (2 ^ 63)) _ a).1 in
    let c = (and_parts (nat_le s.next_id next_id) _ b).1 in
    let d = (and_parts (nat_le next_id (2 ^ 48)) _ c).1 in
    store_low s file at len (len == 0) sound d
low_file s (Transfer source file at len) sound may =
    let a = (and_parts (is_live s.files source) _ may).1 in
    stands_low s file at len 1048576 sound (and_parts (not (source == file)) _ a).1
low_file s (Truncation file new_length dropped) sound may = tt
low_file s (Deletion file) sound may = tt
