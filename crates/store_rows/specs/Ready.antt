-- What a session may be given.
use Rattle.std.specs.Prelude.{List, ℕ, Option, MatchOption}
use Rattle.session.specs.Fitting.{Fits, FitsBehind}
use Rattle.session_lines.specs.declared.outcome.Waiting.{Waiting}
use Rattle.session.specs.declared.session.Given.{Given}
use Rattle.session.specs.declared.session.Given.TheVariants as given
use Rattle.session.specs.Sessions.{SessionView as Session}
use Rattle.session.specs.declared.session.SessionStep.{SessionStep}

-- it may be given a line
pub record IsReady (session : Session) : Type 0 where
  pub fits : (text : List ℕ) → Fits (given.Line text) session.waiting

-- what comes behind a step: this is given, or else a line
abbrev pub Follows : SessionStep → Option Given → Type 0
Follows step next = (waiting : Waiting) → FitsBehind step waiting → MatchOption next ((text : List ℕ) → Fits (given.Line text) waiting) (λ g. Fits g waiting)
