use Rattle.session_model.specs.Answer.{store_turn}
use Rattle.session_lines.specs.Limits.{most_bytes}
use Rattle.storer.specs.Gathered.{gathered_ids}
use Rattle.std.proofs.Common.{Err}
use Rattle.session.proofs.StoreLines.{gathered_refusal}
use Rattle.session_lines.proofs.Told.{if_meets_said, says_refusal}
use Rattle.session.proofs.storing.store_by.Goals as goal

pub returns-in-Ok-clause-meets : goal.returns-in-Ok-clause-meets
returns-in-Ok-clause-meets c = λ is_next_type storage state at started. c.ask_to_store.ensures.meets is_next_type c.args.gathering c.args.name.now storage state c.in-Ok.ensures at started

pub returns-in-Err-clause-meets : goal.returns-in-Err-clause-meets
returns-in-Err-clause-meets c = λ is_next_type storage state at started.
    if_meets_said is_next_type (Err c.in-Err.stop) c.outcome_of.result c.args.memory.now storage (store_turn most_bytes state c.args.name.now (gathered_ids c.args.gathering)) c.outcome_of.ensures
    (says_refusal c.in-Err.stop c.args.memory.now storage state (store_turn most_bytes state c.args.name.now (gathered_ids c.args.gathering)) at
    (gathered_refusal c.args.gathering c.args.memory.now storage state c.args.name.now c.in-Err.stop at c.in-Err.ensures))
