-- The clauses are lemmas.
use Rattle.std.proofs.Common.{refl, sym}
use Rattle.session_lines.proofs.HeldLines.{held_once, line_of_held}
use Rattle.session_lines.proofs.laws.exports_tell_what_is_held.Goals as goal

pub returns : goal.returns
returns c = record { text = line_of_held; one = held_once }
