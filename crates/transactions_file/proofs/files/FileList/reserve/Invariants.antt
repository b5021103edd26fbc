use Rattle.std.proofs.Common.{◌≡◌, ◌+◌, ◌-◌, ◌≤◌, vec_len, take}
use Rattle.transactions_file.specs.Files.{IsRising}
use Rattle.transactions_file.proofs.files.FileList.reserve.Given as goal

abbrev pub invariant-loop : goal.invariant-loop
invariant-loop l = record {
  used : l.self-inside.used ≡ l.initial.self-inside.used;
  room : vec_len l.self-inside.places ≡ l.self-inside.used + l.counter;
  front : take l.self-inside.used l.self-inside.places.items ≡ l.fn.self.pairs;
}
