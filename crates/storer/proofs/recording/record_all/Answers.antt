use Rattle.std.proofs.Common.{◌≡◌, ℕ, List, ◌++◌, ◌∷◌, map, sym, ap, ◌∙◌}
use Rattle.std.specs.Map.Iter.{deref}
use Rattle.std.proofs.lemmas.List.{map_push}
use Rattle.std.proofs.lemmas.Map.Iter.{rest_more, rest_so_far}
use Rattle.std.proofs.lemmas.Result.{err_from_is_err_and}
use Rattle.graph_model.specs.declared.entity.Record.{Record}
use Rattle.session_model.specs.Instances.{instance_at}
use Rattle.storer.specs.Gathered.{records_at, records_of}
use Rattle.storer.proofs.BigRecords.{first_big-append, refused_within}
use Rattle.storer.proofs.GatheredRecords.{records_at-last, records_at-append}
use Rattle.storer.proofs.recording.record_all.Goals as goal

pub loop-id-preserved : goal.loop-id-preserved
loop-id-preserved c =
    let is = c.args.registry.now.instances in
    let inv = c.loop-id.invariant in (
      rw (c.in_ok-push_record.ensures.ok, map_push deref c.loop-id.yielded c.in-Some.id, records_at-last is (map deref c.loop-id.yielded) c.in-Some.id.now, inv.0),
      rw (c.in_ok-push_record.ensures.ok, first_big-append c.loop-id.records.items _ inv.1) c.in_ok-push_record.ensures.fits,
      λ l. c.push_record.ensures.order,
    )

pub returns-in_err-push_record-clause-fault : goal.returns-in_err-push_record-clause-fault
returns-in_err-push_record-clause-fault c =
    let is = c.args.registry.now.instances in
    let p = err_from_is_err_and c.from_residual.result c.from_residual.ensures.1 in
    let so_far = rest_so_far deref c.loop-id.yielded c.into_iter-id-iterator.result c.loop-id.id-iterator c.loop-id.yielded_by in
    let more = rest_more deref c.loop-id.id-iterator c.next.new.self c.next.result c.in-Some.id c.in-Some.is c.next.ensures.steps in
    let keys : c.args.ids.now.keys ≡ map deref c.loop-id.yielded ++ (c.in-Some.id.now ∷ c.next.new.self) =
    sym c.into_iter-id-iterator.ensures.into_iter_gives.0 ∙ (so_far ∙ ap (λ (xs : List ℕ). map deref c.loop-id.yielded ++ xs) more) in
    let all : records_at is c.args.ids.now.keys ≡ c.loop-id.records.items ++ (records_of c.in-Some.id.now (instance_at is c.in-Some.id.now) ++ records_at is c.next.new.self) =
    ap (records_at is) keys ∙ (records_at-append is (map deref c.loop-id.yielded) (c.in-Some.id.now ∷ c.next.new.self)
    ∙ ap (λ (rs : List Record). rs ++ records_at is (c.in-Some.id.now ∷ c.next.new.self)) (sym c.loop-id.invariant.0)) in
    rw (p.1, p.2, all) (refused_within c.loop-id.records.items (records_of c.in-Some.id.now (instance_at is c.in-Some.id.now)) (records_at is c.next.new.self) c.in_err-push_record.field-0.0 c.loop-id.invariant.1 c.in_err-push_record.ensures.fault)
