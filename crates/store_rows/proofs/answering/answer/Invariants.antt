-- A step of a line: what is given next fits.
use Rattle.session.specs.Fitting.{Fits}
use Rattle.store_rows.proofs.answering.answer.Given as goal

abbrev pub invariant-loop-step : goal.invariant-loop-step
invariant-loop-step l = Fits l.given l.session.waiting
