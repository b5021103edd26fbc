use Rattle.std.proofs.Common.{◌≡◌, ◌∷◌, map}
use Rattle.std.specs.Map.Iter.{deref}
use Rattle.plain_storage.proofs.counting.starts.Given as goal

abbrev pub invariant-loop-id : goal.invariant-loop-id
invariant-loop-id l = l.ids.items ≡ 1 ∷ map deref l.yielded
