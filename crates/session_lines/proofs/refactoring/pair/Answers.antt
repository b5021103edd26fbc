use Rattle.session_model.specs.Answer.{refactor_turn}
use Rattle.session_lines.proofs.Paired.{pair_answers, pair_refusal}
use Rattle.session_lines.proofs.Told.{says_refusal}
use Rattle.session_lines.proofs.refactoring.pair.Goals as goal

pub returns-in-Err-clause-says : goal.returns-in-Err-clause-says
returns-in-Err-clause-says c = λ storage state at. says_refusal c.in-Err.stop c.args.memory.now storage state (refactor_turn state c.args.old c.args.new) at
    (pair_refusal c.args.memory.now storage state c.args.old c.args.new c.in-Err.stop at c.in-Err.ensures)

pub returns-in_ok-line-in-Ok-clause-says : goal.returns-in_ok-line-in-Ok-clause-says
returns-in_ok-line-in-Ok-clause-says c = λ storage state at.
    pair_answers c.args.memory.now c.add.new.table _ storage state c.args.old c.args.new at c.requires c.in-Ok.ensures c.in_ok-add-in-Ok.ensures c.in_ok-line-in-Ok.ensures
