-- So many places from the cut on are open.
use Rattle.std.proofs.Common.{◌≡◌, ◌+◌, length, replicate, None}
use lib.Seq.{paste}
use Rattle.store_io.proofs.places.open_rest.Given as goal

abbrev pub invariant-loop-i : goal.invariant-loop-i
invariant-loop-i l = record {
  size : l.len + l.rest ≡ length l.initial.kept.items;
  filled : l.kept.items ≡ paste l.initial.kept.items l.len (replicate l.i None) l.i;
}
