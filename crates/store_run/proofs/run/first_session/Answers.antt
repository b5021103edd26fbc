-- A session over what was opened stands at its start.
use Rattle.std.proofs.Common.{◌≡◌, ℕ, IfOk, refl, subst, sym, arith}
use Rattle.type_dictionary.specs.Records.{records_from}
use Rattle.session_model.specs.Answer.{opened}
use Rattle.session_model.specs.Sound.{IsRightGraph}
use Rattle.session_lines.specs.Stands.{IsAtState}
use Rattle.plain_storage.specs.Keeping.{held_in, storage_of}
use Rattle.store_run.specs.Answer.{opened_on}
use Rattle.store_run.proofs.Opened.{first_at, none_held, right_graph, right_types}
use Rattle.store_run.proofs.run.first_session.Goals as goal

pub returns : goal.returns
returns c =
    let plain = c.args.plain.now in
    let types = c.args.types in
    let start = c.requires.start in
    let storage = storage_of plain (records_from 16 types) in
    let next : c.next_id-next_id.result ≡ plain.next_id = c.next_id-next_id.ensures in
    let stands = c.new.ensures.stands storage (right_types plain types start) (omega (arith, next, start.low)) (omega (arith, next, start.high))
    (subst (λ (n : ℕ). IsRightGraph types n plain.graph) (sym next) (right_graph plain types start)) c.is_rooted-rooted.ensures (none_held plain types start) (omega (arith, next)) refl in
    record {
      at = first_at plain (opened_on (held_in plain types)) c.new.result c.new.ensures.fits
          (subst (λ (n : ℕ). IfOk c.new.result (λ session. IsAtState session.memory storage (opened types plain.graph plain.stores_log.count n))) next stands);
    }
