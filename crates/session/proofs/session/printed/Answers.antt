-- What comes behind the line goes on from the same memory.
use Rattle.session.proofs.session.printed.Goals as goal

pub returns-in_ok-outcome-in-ForNextLine-clause-steady : goal.returns-in_ok-outcome-in-ForNextLine-clause-steady
returns-in_ok-outcome-in-ForNextLine-clause-steady c = c.behind.ensures.steady c.args.memory.now c.in_ok-outcome-in-ForNextLine.ensures.steady

pub returns-in_ok-outcome-in-ForNextLine-clause-fits : goal.returns-in_ok-outcome-in-ForNextLine-clause-fits
returns-in_ok-outcome-in-ForNextLine-clause-fits c = c.behind.ensures.fits c.args.memory.now c.in_ok-outcome-in-ForNextLine.ensures.steady

pub returns-in_ok-outcome-in-ForNextLine-clause-asks : goal.returns-in_ok-outcome-in-ForNextLine-clause-asks
returns-in_ok-outcome-in-ForNextLine-clause-asks c = c.behind.ensures.asks c.args.memory.now c.in_ok-outcome-in-ForNextLine.ensures.steady
