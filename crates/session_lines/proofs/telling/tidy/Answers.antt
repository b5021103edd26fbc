use Rattle.session_lines.proofs.Asks.{tidy_awaits}
use Rattle.session_lines.proofs.telling.tidy.Goals as goal

pub returns : goal.returns
returns c = record { meets = λ is_next_type memory storage state stands. tidy_awaits is_next_type c.in_ok-text.text memory storage state c.in_ok-text.ensures stands; steady = λ memory. (tt, tt); short = tt }
