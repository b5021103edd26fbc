-- A line fits at first, and again where nothing more is given.
use Rattle.std.proofs.Common.{List, ℕ}
use Rattle.std.proofs.lemmas.Option.{MatchOption-at_none}
use Rattle.session.specs.Fitting.{Fits}
use Rattle.session.specs.declared.session.Given.TheVariants as given
use Rattle.store_rows.proofs.answering.answer.Goals as goal

pub loop-step-init : goal.loop-step-init
loop-step-init c = c.requires.fits c.new.result

pub returns-in-None : goal.returns-in-None
returns-in-None c = record {
  fits = MatchOption-at_none ((text : List ℕ) → Fits (given.Line text) c.next.new.self.waiting) (λ g. Fits g c.next.new.self.waiting) c.in-None.is
      (c.in_ok-next.ensures c.next.new.self.waiting c.in_ok-turn.ensures.fits);
}
