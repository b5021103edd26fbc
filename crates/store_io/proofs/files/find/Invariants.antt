-- The file is not among those passed.
use Rattle.std.proofs.Common.{◌≡◌, ◌+◌, drop}
use Rattle.store_io.specs.Files.{place_of}
use Rattle.store_io.proofs.files.find.Given as goal

abbrev pub invariant-loop-place : goal.invariant-loop-place
invariant-loop-place l = place_of l.files l.file ≡ l.place + place_of (drop l.place l.files) l.file
