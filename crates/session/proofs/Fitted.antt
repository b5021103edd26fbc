-- What fits is taken by a session that is not given up.
use Rattle.session_lines.specs.declared.outcome.Waiting.{Waiting}
use Rattle.session_lines.specs.declared.outcome.Waiting.TheVariants as waits
use Rattle.session.specs.Fitting.{Fits}
use Rattle.session.specs.SteadySession.{IsGoingOn}
use Rattle.session.specs.declared.session.Given.{Given}
use Rattle.session.specs.declared.session.Given.TheVariants as given

pub going_on : (g : Given) (waiting : Waiting) → Fits g waiting → IsGoingOn waiting
going_on (given.Line text) waits.GivenUp fits = fits
going_on (given.Reply reply) waits.GivenUp fits = fits
going_on given.Printed waits.GivenUp fits = fits
going_on g waits.ForLine fits = tt
going_on g (waits.ForReply phase) fits = tt
going_on g waits.ForPrinted fits = tt
going_on g (waits.ForNextLine export) fits = tt
