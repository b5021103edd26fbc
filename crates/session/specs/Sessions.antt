-- What contracts see of a session: what it keeps between two lines, and what it waits for.
use Rattle.session_lines.specs.declared.memory.Memory.{Memory}
use Rattle.session_lines.specs.declared.outcome.Waiting.{Waiting}

pub record SessionView : Type 0 where
  pub memory : Memory
  pub waiting : Waiting

abbrev pub session_of : Memory → Waiting → SessionView
session_of memory waiting = record { memory = memory; waiting = waiting }
