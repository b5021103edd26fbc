use Rattle.std.specs.Prelude.{◌≡◌, true, IsSomeAnd}
use Rattle.core_steps.specs.declared.unit.EventKind.{EventKind}
use Rattle.core_steps.specs.Events.{kind_of}
use Rattle.shards.proofs.passes.Held.leave.Given as goal

abbrev pub ghosts-give : goal.ghosts-give
ghosts-give g a = record { hand = a.hand; moves = true; asks = λ e. IsSomeAnd a._kind (λ (k : EventKind). kind_of e ≡ k) }
