-- The payloads of a log are those that its records spell.
use Rattle.gated_log.proofs.Payloads.{log_payloads}
use Rattle.gated_log.proofs.laws.payloads_of_log.Goals as goal

pub returns : goal.returns
returns c header payloads bytes is = log_payloads header payloads bytes is
