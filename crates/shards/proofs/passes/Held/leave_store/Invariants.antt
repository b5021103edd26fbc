use Rattle.std.specs.Prelude.{◌≡◌, true, IsSomeAnd}
use Rattle.core_steps.specs.declared.event.Event.TheVariants.{StoreBegin}
use Rattle.shards.proofs.passes.Held.leave_store.Given as goal

abbrev pub ghosts-give : goal.ghosts-give
ghosts-give g a = record { hand = a.hand; moves = true; asks = λ e. IsSomeAnd a._op (λ op. e ≡ StoreBegin op.now) }
