-- The objects are read one by one.
use Rattle.std.proofs.Common.{◌≡◌, ◌<◌, true, false, rules, length, length-append, arith, ap, sym, subst, ◌∙◌}
use Rattle.graph_model.specs.Graph.{Graph}
use Rattle.graph_model.specs.Stores.{is_good_id}
use Rattle.plain_storage.specs.Reading.{AreObjects}
use Rattle.plain_storage.specs.Stores.{record_bytes}
use Rattle.plain_storage.specs.declared.fault.OpenFault.TheVariants as open_
use Rattle.plain_storage.proofs.EntityFronts.{record_is_long}
use Rattle.plain_storage.proofs.ObjectLists.{first_object, objects_more, objects_rest}
use Rattle.plain_storage.proofs.Opening.{same_fault}
use Rattle.plain_storage.proofs.store_payload.read_objects.Goals as goal
use Rattle.plain_storage.proofs.store_payload.read_objects.Goals.{then-object-last-via-then-object-last, then-object-last-via-else-object-last+then-not-is_good}

pub returns-in_err-object-clause-damaged : goal.returns-in_err-object-clause-damaged
returns-in_err-object-clause-damaged c is new these =
    let was = same_fault c.from_residual.result c.in_err-object.field-0.0 open_.Damaged c.from_residual.ensures.1 is in
    let some : 0 < length c.objects.rest.now = search rules in
    let first = first_object c.objects.last c.args.next_id c.objects.rest.now c.objects.graph new some (c.objects.invariant.left new these) in
    c.in_err-object.ensures.damaged (cc) first.first first.more first.is.0 first.parts

pub returns-then-object-last-clause-damaged : goal.returns-then-object-last-clause-damaged
returns-then-object-last-clause-damaged c is new these =
    let rest = c.objects.rest.now in
    let object = c.in_ok-object.object in
    let some : 0 < length rest = omega (arith, ap length c.in_ok-object.ensures.parts, length-append (record_bytes object) c.in_ok-object.behind.now, record_is_long object) in
    let right = objects_rest c.objects.last c.args.next_id object rest c.in_ok-object.behind.now c.objects.graph new some c.in_ok-object.ensures.fits c.in_ok-object.ensures.parts (c.objects.invariant.left new these) in
    elim c.then-object-last.branch [
      | then-object-last-via-then-object-last w ↦ omega (arith, right.0, w.if-object-last.true)
      | then-object-last-via-else-object-last+then-not-is_good w ↦ let good : is_good_id c.args.next_id object.id ≡ true = right.1.1 in let bad : is_good_id c.args.next_id object.id ≡ false = sym w.is_good.ensures ∙ w.if-not-is_good.true in cc
    ]

pub objects-smaller : goal.objects-smaller
objects-smaller c =
    let object = c.in_ok-object.object in
    omega (arith, ap length c.in_ok-object.ensures.parts, length-append (record_bytes object) c.in_ok-object.behind.now, record_is_long object)

pub objects-preserved : goal.objects-preserved
objects-preserved c =
    let rest = c.objects.rest.now in
    let object = c.in_ok-object.object in
    let behind = c.in_ok-object.behind.now in
    let some : 0 < length rest = omega (arith, ap length c.in_ok-object.ensures.parts, length-append (record_bytes object) behind, record_is_long object) in
    let good : is_good_id c.args.next_id object.id ≡ true = sym c.is_good.ensures ∙ c.if-not-is_good.false in
    record {
      so_far = λ new others. c.objects.invariant.so_far new
          (objects_more c.objects.last c.args.next_id object rest behind c.objects.graph new (omega arith) (c.in_ok-object.ensures.fits, good) c.in_ok-object.ensures.parts
          (subst (λ (g : Graph). AreObjects object.id c.args.next_id behind g new) c.in_ok-put.ensures.ok others));
      left = λ new these. subst (λ (g : Graph). AreObjects object.id c.args.next_id behind g new) (sym c.in_ok-put.ensures.ok)
          (objects_rest c.objects.last c.args.next_id object rest behind c.objects.graph new some c.in_ok-object.ensures.fits c.in_ok-object.ensures.parts (c.objects.invariant.left new these)).2;
    }
