-- What is read is what was read before, with its log taken back.
use Rattle.log_rollback.proofs.Readied.{ready}
use Rattle.log_rollback.proofs.laws.finished_channels_are_ready.Goals as goal

pub returns : goal.returns
returns c = ready
