-- What comes behind the reply is of the memory that the reply leaves.
use Rattle.session.proofs.session.reply_given.Goals as goal

pub returns-clause-steady : goal.returns-clause-steady
returns-clause-steady c = c.behind.ensures.steady c.take_reply.new.memory c.in_ok-outcome-in-ForReply.ensures.steady

pub returns-clause-fits : goal.returns-clause-fits
returns-clause-fits c = c.behind.ensures.fits c.take_reply.new.memory c.in_ok-outcome-in-ForReply.ensures.steady

pub returns-clause-asks : goal.returns-clause-asks
returns-clause-asks c = c.behind.ensures.asks c.take_reply.new.memory c.in_ok-outcome-in-ForReply.ensures.steady
