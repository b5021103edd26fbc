-- So far each place keeps its byte.
use Rattle.std.proofs.Common.{◌≡◌, take}
use Rattle.store_io.specs.Image.{closed}
use Rattle.store_io.proofs.places.closed_places.Given as goal

abbrev pub invariant-loop-b : goal.invariant-loop-b
invariant-loop-b l = l.new.items ≡ closed (take l.b-index l.bytes)
