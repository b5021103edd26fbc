-- The log of types is read, or the file holds no types.
use Rattle.std.proofs.Common.{◌⊎◌, ◌<◌, [], List, length, subst}
use Rattle.gated_log.specs.Log.{IsNoLog}
use Rattle.gated_log.specs.Reading.{rest_of}
use Rattle.type_desc.specs.declared.desc.TypeDesc.{TypeDesc}
use Rattle.plain_storage.specs.Types.{types_header, AreRecords}
use Rattle.plain_storage.specs.declared.fault.OpenFault.TheVariants as open_
use Rattle.plain_storage.proofs.Opening.{same_fault, not_held}
use Rattle.plain_storage.proofs.type_log.read_types_log.Goals as goal

pub returns-in_err-types-clause-damaged : goal.returns-in_err-types-clause-damaged
returns-in_err-types-clause-damaged g c told is =
    let file = g.D.Disk.reads c.args.disk.now 1 in
    let opening = c.in_ok-opening.opening in
    let was = same_fault c.from_residual-in_err-types.result c.in_err-types.field-0.0 open_.Damaged c.from_residual-in_err-types.ensures.1 is in
    let fault = c.in_err-types.ensures.damaged told (cc) in
    let here = subst (λ r. ((9 < length (r 1)) × IsNoLog opening.header (r 1)) ⊎ ((all : List TypeDesc) → ¬ (AreRecords [] (rest_of opening (r 1)) all))) (c.begin.ensures.reads told) fault in
    let headed = subst (λ h. ((9 < length file) × IsNoLog h file) ⊎ ((all : List TypeDesc) → ¬ (AreRecords [] (rest_of opening file) all))) c.in_ok-opening.ensures.file.1 here in
    not_held file (subst (λ ps. ((9 < length file) × IsNoLog types_header file) ⊎ ((all : List TypeDesc) → ¬ (AreRecords [] ps all))) (c.in_ok-opening.ensures.rest told) headed)
