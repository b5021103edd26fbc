use Rattle.std.proofs.Common.{◌≡◌, ◌-◌, ◌∷◌, []}
use Rattle.type_desc.specs.Reading.{more_at, with_front}
use Rattle.type_desc.proofs.reading.more_members.Given as goal

abbrev pub invariant-commas : goal.invariant-commas
invariant-commas l = with_front l.members.items (more_at (1024 - l.counter) l.rest) ≡ with_front (l.fn.first ∷ []) (more_at 1023 l.bytes)
