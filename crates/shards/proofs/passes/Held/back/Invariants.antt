use Rattle.std.specs.Prelude.{false}
use Rattle.shards.proofs.passes.Held.back.Given as goal

abbrev pub ghosts-give : goal.ghosts-give
ghosts-give g a = record { hand = a.hand; moves = false; asks = λ _. Unit {0} }
