-- What is due of a line that was read, and of one that spells no command.
use Rattle.std.proofs.Common.{◌≡◌, ℕ, List, ◌++◌, Option, Some, None, refl, ap, ◌∙◌}
use Rattle.std.specs.Prelude.{codes}
use Rattle.graph_model.specs.Served.{Storage}
use Rattle.session_model.specs.Commands.{Command, command_of}
use Rattle.session_model.specs.Answer.{State, Turn, turn, turn_of}
use Rattle.session_model.proofs.Spelled.{spelled_proper}
use Rattle.script_text.specs.Faults.{IsLine}
use Rattle.script_text.specs.Meaning.{meant}
use Rattle.script_text.specs.declared.command.Command.{Command as ReadCommand}
use Rattle.session.specs.Dealing.{BeginsLine}
use Rattle.session_lines.specs.Due.{Answers}
use Rattle.session_lines.specs.Limits.{most_bytes}
use Rattle.session_lines.specs.Loads.{IsRead}
use Rattle.session_lines.specs.Refusals.{refused_text}
use Rattle.session_lines.specs.declared.memory.Memory.{Memory}
use Rattle.session_lines.specs.declared.refusal.Refusal.TheVariants.{BadLine}
use Rattle.session_lines.proofs.Lines.{refused_no_feed}
use Rattle.session_lines.proofs.Told.{answers_turn}

pub is_read : (text : List ℕ) (command : ReadCommand) → command_of text ≡ Some (meant command) → IsRead command
is_read text command found = spelled_proper text (meant command) found

pub turn_read : (most : ℕ) (state : State) (text : List ℕ) (c : Option Command) → command_of text ≡ c → turn most state text ≡ turn_of most state c
unfolding turn
turn_read most state text c e = ap (turn_of most state) e

spells_none : (text : List ℕ) → ¬ (IsLine text) → command_of text ≡ None
spells_none text none = by (command_of text) refl
  where
    by : (o : Option Command) → command_of text ≡ o → o ≡ None
    by None e = refl
    by (Some c) e = absurd (none (c, e))

-- a line that spells no command is refused
pub bad_line : (text bytes : List ℕ) (memory : Memory) (storage : Storage) (due : Turn) → BeginsLine text memory storage due → ¬ (IsLine text) → bytes ≡ refused_text BadLine → Answers bytes memory storage due
bad_line text bytes memory storage due begins none told =
    answers_turn (codes "refused " ++ codes "bad-line") bytes memory storage begins.state due (refused_no_feed BadLine) told (begins.due_is ∙ turn_read most_bytes begins.state text None (spells_none text none)) begins.stands
