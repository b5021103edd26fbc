-- Where a session is given up: it is given an entity that is not well-formed.
use Rattle.std.specs.Prelude.{ℕ, Option, Some, None}
use Rattle.session_lines.specs.Broken.{IsBrokenAt, Taken, asked_in, entity_in, taken_for}
use Rattle.session_lines.specs.declared.outcome.Waiting.{Waiting}
use Rattle.session_lines.specs.declared.outcome.Waiting.TheVariants as waits
use Rattle.session.specs.declared.session.Given.{Given}
use Rattle.session.specs.declared.session.Given.TheVariants as given
use Rattle.session.specs.Sessions.{SessionView}
use Rattle.session.specs.declared.session.SessionStep.{SessionStep as Step}
use Rattle.session.specs.declared.session.SessionStep.TheVariants as turns

abbrev pub broken_at : Step → Option ℕ
broken_at (turns.Broken id) = Some id
broken_at _ = None

abbrev pub taken_by : Given → Waiting → Option Taken
taken_by (given.Reply reply) (waits.ForReply phase) = taken_for (asked_in phase) (entity_in reply)
taken_by _ _ = None

-- a session gives up at the asked id exactly where it is given an entity that is not well-formed, by the session's types
abbrev pub IsBrokenWhere : Given → SessionView → Step → Type 0
IsBrokenWhere given session step = IsBrokenAt session.memory.types (taken_by given session.waiting) (broken_at step)
