-- Each entry that is allowed keeps an inventory sound.
use Rattle.std.proofs.Common.{◌≡◌, ℕ, ◌+◌, ◌-◌, ◌≤◌, ◌<◌, ◌^◌, ◌==◌, nat_le, nat_lt, not, ◌&&◌, Bool, true, if◌then◌else◌, List, [], ◌∷◌, ◌++◌, sym, subst, arith}
use Rattle.std.proofs.lemmas.Bool.{and_parts, eqb-true, leb-true, ltb-true}
use Rattle.tx_entry.specs.declared.entry.Entry.{Entry}
use Rattle.tx_entry.specs.declared.entry.Entry.TheVariants.{Creation, Store, Transfer, Truncation, Deletion}
use Rattle.transactions_file.specs.Files.{set_length, without, IsRising}
use Rattle.transactions_file.specs.Inventory.{State, allowed, after, may_stand, IsSound}
use Rattle.transactions_file.proofs.Rising.{lower, higher, rising_push, rising_set, rising_without}

-- a new file's number is above all others
pub above_all : (s : State) (file : ℕ) → IsSound s → allowed s (Creation file) ≡ true → IsRising 0 file s.files
above_all s file sound allow =
    let next : file ≡ s.created + 1 = eqb-true file (s.created + 1) (and_parts _ _ allow).0 in
    subst (λ (k : ℕ). IsRising 0 k s.files) (sym next) (lower 0 2 (s.created + 1) s.files (omega arith) sound.rising)

pub sound_after : (s : State) (e : Entry) → IsSound s → allowed s e ≡ true → IsSound (after s e)
sound_after s (Creation file) sound allow =
    let parts = and_parts (file == s.created + 1) (nat_lt file (2 ^ 31)) allow in
    let next : file ≡ s.created + 1 = eqb-true file (s.created + 1) parts.0 in
    record {
      first = omega (arith, next);
      created = ltb-true file (2 ^ 31) parts.1;
      rising = rising_push 2 (s.created + 1) file s.files sound.rising (omega (arith, next));
      last = sound.last;
      last_before = sound.last;
    }
sound_after s (Store number file at len next_id) sound allow =
    let small = (and_parts (nat_le number (2 ^ 63)) _ (and_parts (number == s.last + 1) _ allow).1).0 in
    record {
      first = sound.first;
      created = sound.created;
      rising = rising_set 2 (s.created + 1) file (at + len) s.files sound.rising;
      last = leb-true number (2 ^ 63) small;
      last_before = sound.last;
    }
sound_after s (Transfer source file at len) sound allow = record {
  first = sound.first;
  created = sound.created;
  rising = rising_set 2 (s.created + 1) file (at + len) s.files sound.rising;
  last = sound.last;
  last_before = sound.last;
}
sound_after s (Truncation file new_length dropped) sound allow = record {
  first = sound.first;
  created = sound.created;
  rising = rising_set 2 (s.created + 1) file new_length s.files sound.rising;
  last = sound.last_before;
  last_before = sound.last;
}
sound_after s (Deletion file) sound allow = record {
  first = sound.first;
  created = sound.created;
  rising = rising_without 2 (s.created + 1) file s.files sound.rising;
  last = sound.last;
  last_before = sound.last;
}
