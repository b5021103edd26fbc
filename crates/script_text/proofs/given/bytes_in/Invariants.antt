use Rattle.std.proofs.Common.{◌≡◌, length}
use Rattle.session_model.specs.Answer.{hex_bytes}
use Rattle.script_text.specs.Given.{with_front}
use Rattle.script_text.proofs.given.bytes_in.Given as goal

abbrev pub invariant-loop-left : goal.invariant-loop-left
invariant-loop-left l = with_front l.bytes.items (hex_bytes l.left) ≡ hex_bytes l.rest

abbrev pub decreases-loop-left : goal.decreases-loop-left
decreases-loop-left l = length l.left
