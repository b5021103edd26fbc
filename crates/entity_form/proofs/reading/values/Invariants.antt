use Rattle.std.proofs.Common.{◌≡◌, drop, map}
use Rattle.entity_form.specs.Reading.{values_at, with_front}
use Rattle.entity_form.proofs.reading.values.Given as goal

abbrev pub invariant-loop-i : goal.invariant-loop-i
invariant-loop-i l =
    with_front l.values.items (values_at (map (λ m. m.kind) (drop l.i l.members)) l.i l.refs_left l.plain_left) ≡ values_at (map (λ m. m.kind) l.members) 0 l.refs l.plain
