use Rattle.std.proofs.Common.{◌≡◌, ◌≤◌, true, false, List, None, sym, ap, subst, ◌∙◌}
use Rattle.std.proofs.lemmas.Result.{err_from_is_err_and}
use Rattle.graph_model.specs.Ids.{has}
use Rattle.graph_model.specs.Stores.{is_valid_store}
use Rattle.graph_model.specs.declared.entity.Record.{Record}
use Rattle.session_model.specs.Answer.{are_too_big, gathered_records}
use Rattle.storer.specs.Faults.{IsRefused, first_big, total_of}
use Rattle.storer.specs.Gathered.{gathered_ids, records_at}
use Rattle.storer.proofs.BigRecords.{not_too_big, refused_alone, refused_together}
use Rattle.storer.proofs.GatheredRecords.{records-walked}
use Rattle.storer.proofs.Validity.{some_id, starts-gathered, valid_store}
use Rattle.storer.proofs.gathering.gather.Goals as goal

pub returns-clause-records : goal.returns-clause-records
returns-clause-records c =
    let is = c.args.registry.now.instances in
    c.new.ensures ∙ (c.in_ok-records.ensures.ok ∙ records-walked c.args.gathering is c.args.start c.in_ok-ids.ids.keys c.in_ok-ids.ensures c.record_all.ensures.order)

pub returns-clause-fits : goal.returns-clause-fits
returns-clause-fits c =
    let items = c.in_ok-records.records.items in
    let none : first_big items ≡ None = ap first_big c.in_ok-records.ensures.ok ∙ c.in_ok-records.ensures.fits in
    let within : total_of items ≤ c.args.most = rw c.as_slice.ensures.value at c.in_ok-check_total.ensures.ok in
    rw c.new.ensures (not_too_big c.args.most items none within)

pub returns-in_err-records-clause-fault : goal.returns-in_err-records-clause-fault
returns-in_err-records-clause-fault c =
    let is = c.args.registry.now.instances in
    let p = err_from_is_err_and c.from_residual-in_err-records.result c.from_residual-in_err-records.ensures.1 in
    let walked = records-walked c.args.gathering is c.args.start c.in_ok-ids.ids.keys c.in_ok-ids.ensures c.record_all.ensures.order in
    rw (p.1, p.2) (subst (λ (rs : List Record). IsRefused c.args.most rs c.in_err-records.field-0.0) walked (refused_alone c.args.most (records_at is c.in_ok-ids.ids.keys) c.in_err-records.field-0.0 c.in_err-records.ensures.fault))

pub returns-in_err-check_total-clause-fault : goal.returns-in_err-check_total-clause-fault
returns-in_err-check_total-clause-fault c =
    let is = c.args.registry.now.instances in
    let p = err_from_is_err_and c.from_residual-in_err-check_total.result c.from_residual-in_err-check_total.ensures.1 in
    let walked = c.as_slice.ensures.value ∙ (c.in_ok-records.ensures.ok ∙ records-walked c.args.gathering is c.args.start c.in_ok-ids.ids.keys c.in_ok-ids.ensures c.record_all.ensures.order) in
    rw (p.1, p.2) (subst (λ (rs : List Record). IsRefused c.args.most rs c.in_err-check_total.field-0.0) walked (refused_together c.args.most c.as_slice.result.now c.in_err-check_total.field-0.0 c.in_err-check_total.ensures.fault))

pub returns-clause-valid : goal.returns-clause-valid
returns-clause-valid c = λ bound g held next may.
    let is = c.args.registry.now.instances in
    let ids = gathered_ids c.args.gathering is c.args.start in
    let items = c.in_ok-records.records.items in
    let walked = records-walked c.args.gathering is c.args.start c.in_ok-ids.ids.keys c.in_ok-ids.ensures c.record_all.ensures.order in
    let records : c.new.result ≡ gathered_records is ids = c.new.ensures ∙ (c.in_ok-records.ensures.ok ∙ walked) in
    let none : first_big items ≡ None = ap first_big c.in_ok-records.ensures.ok ∙ c.in_ok-records.ensures.fits in
    let within : total_of items ≤ c.args.most = rw c.as_slice.ensures.value at c.in_ok-check_total.ensures.ok in
    let small : are_too_big c.args.most (gathered_records is ids) ≡ false = ap (are_too_big c.args.most) (sym (c.in_ok-records.ensures.ok ∙ walked)) ∙ not_too_big c.args.most items none within in
    let start : has c.args.start c.in_ok-ids.ids.keys ≡ true = ap (has c.args.start) c.in_ok-ids.ensures ∙ starts-gathered c.args.gathering is c.args.start in
    let order = c.record_all.ensures.order (some_id c.args.start c.in_ok-ids.ids.keys start) in
    subst (λ (rs : List Record). is_valid_store g held next (record { records = rs; next_id = c.args.next_id }) ≡ true) (sym records)
    (valid_store c.args.gathering is c.args.start c.args.types.now g held next c.args.next_id c.requires may c.args.most order small bound)
