use Rattle.std.proofs.Common.{◌≡◌, ◌-◌}
use Rattle.type_desc.specs.Reading.{with_front}
use Rattle.script_text.specs.Arguments.{members_at}
use Rattle.script_text.proofs.arguments.members.Given as goal

abbrev pub invariant-spaces : goal.invariant-spaces
invariant-spaces l = with_front l.members.items (members_at (1024 - l.counter) l.rest) ≡ members_at 1024 l.bytes
