-- The places in front, and so many open ones.
use Rattle.std.proofs.Common.{◌≡◌, ◌++◌, take, replicate, None}
use Rattle.store_io.proofs.places.open_places.Given as goal

abbrev pub invariant-loop-i : goal.invariant-loop-i
invariant-loop-i l = l.new.items ≡ take l.at l.kept ++ replicate l._i None
