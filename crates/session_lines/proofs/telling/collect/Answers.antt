use Rattle.session_lines.proofs.Asks.{collect_awaits}
use Rattle.session_lines.proofs.telling.collect.Goals as goal

pub returns : goal.returns
returns c = record { meets = λ is_next_type memory storage state stands. collect_awaits is_next_type memory storage state stands; steady = λ memory. (tt, tt); short = tt }
