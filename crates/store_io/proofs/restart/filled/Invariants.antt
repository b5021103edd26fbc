-- Each place passed has its byte.
use Rattle.std.proofs.Common.{◌≡◌, take, map, unwrap_or}
use Rattle.store_io.proofs.restart.filled.Given as goal

abbrev pub invariant-loop-k : goal.invariant-loop-k
invariant-loop-k l = l.bytes.items ≡ map (λ k. unwrap_or k l.fill) (take l.k-index l.kept)
