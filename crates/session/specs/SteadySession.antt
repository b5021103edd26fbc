-- What a session keeps from one call to the next, whatever a storage answers.
use Rattle.session_lines.specs.Steady.{IsSteadyWaiting, KnowsObjects}
use Rattle.session_lines.specs.declared.outcome.Waiting.{Waiting}
use Rattle.session_lines.specs.declared.outcome.Waiting.TheVariants as waits
use Rattle.session.specs.Sessions.{SessionView}

-- the session is not given up
abbrev pub IsGoingOn : Waiting → Type 0
IsGoingOn waits.GivenUp = ⊥
IsGoingOn _ = Unit {0}

-- what it waits for is kept; and unless it is given up, the objects in memory are of known types, with values of their kinds
pub record IsSteady (session : SessionView) : Type 0 where
  pub known : IsGoingOn session.waiting → KnowsObjects session.memory
  pub waiting : IsSteadyWaiting session.memory session.waiting
