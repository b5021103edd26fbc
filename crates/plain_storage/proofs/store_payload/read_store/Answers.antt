-- A store is read from its payload.
use Rattle.std.proofs.Common.{◌≡◌, drop, sym, subst, Some, ℕ, List}
use Rattle.std.specs.List.{flat_map}
use Rattle.std.proofs.lemmas.List.{take_rest}
use Rattle.graph_model.specs.Graph.{put_all}
use Rattle.plain_storage.specs.Reading.{AreObjects}
use Rattle.plain_storage.specs.Stores.{record_bytes}
use Rattle.plain_storage.specs.declared.fault.OpenFault.TheVariants as open_
use Rattle.plain_storage.proofs.Opening.{same_fault}
use Rattle.plain_storage.proofs.StoreNumbers.{store_behind, store_is_some, store_objects, store_read, some_number}
use Rattle.plain_storage.proofs.store_payload.read_store.Goals as goal

pub returns-in_default-clause-damaged : goal.returns-in_default-clause-damaged
returns-in_default-clause-damaged c is op follows spelled =
    c.in_default.not-Some op.next_id
    (c.next_of.ensures.only op.next_id (flat_map record_bytes op.records) spelled (store_is_some c.args.before op follows) follows.no_less follows.most)

pub returns-in_err-read_objects-clause-damaged : goal.returns-in_err-read_objects-clause-damaged
returns-in_err-read_objects-clause-damaged c is op follows spelled =
    let payload = c.args.payload.now in
    let old = c.args.graph.now in
    let was = same_fault c.from_residual.result c.in_err-read_objects.field-0.0 open_.Damaged c.from_residual.ensures.1 is in
    let found : c.next_of.result ≡ Some op.next_id =
    c.next_of.ensures.only op.next_id (flat_map record_bytes op.records) spelled (store_is_some c.args.before op follows) follows.no_less follows.most in
    let next : c.in-Some.next_id ≡ op.next_id = some_number c.in-Some.next_id op.next_id c.next_of.result c.in-Some.is found in
    let these : AreObjects 0 c.in-Some.next_id (drop 16 payload) old (put_all op.records old) =
    subst (λ n. AreObjects 0 n (drop 16 payload) old (put_all op.records old)) (sym next)
    (store_objects c.args.before op (drop 16 payload) old follows (store_behind c.args.number op payload spelled)) in
    c.in_err-read_objects.ensures.damaged (cc) (put_all op.records old) (subst (λ (l : List ℕ). AreObjects 0 c.in-Some.next_id l old (put_all op.records old)) (sym (take_rest payload 16)) these)

pub returns-clause-read : goal.returns-clause-read
returns-clause-read c =
    let payload = c.args.payload.now in
    let old = c.args.graph.now in
    let new = c.read_objects.new.graph in
    store_read c.args.number c.args.before c.in-Some.next_id payload old new c.in-Some.ensures.some c.in-Some.ensures.long c.in-Some.ensures.range.0 c.in-Some.ensures.range.1
    (subst (λ (l : List ℕ). AreObjects 0 c.in-Some.next_id l old new) (take_rest payload 16) c.in_ok-read_objects.ensures.read)
