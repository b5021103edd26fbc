-- The bytes spell an entity, and it is the one that they are read as.
use Rattle.std.proofs.Common.{◌∙◌, Err, ap, sym, arith}
use Rattle.field_bytes.proofs.Laws.{IsBytes}
use Rattle.channel.specs.Entities.{entity_in}
use Rattle.channel.proofs.Spelled.{entity_spelled}
use Rattle.disk_opening.proofs.EntitiesRead.{entity_spelled_so}
use Rattle.disk_opening.proofs.entities.spelled_entity.Goals as goal

pub unreachable-requires : goal.unreachable-requires
unreachable-requires c =
    let fits : IsBytes c.args.bytes.now = λ i. omega (arith, c.type_inv.bytes i) in
    let so = entity_spelled_so c.args.bytes.now fits c.requires in
    c.read_entity.ensures.bad (c.in-Err-Bad.is ∙ ap Err c.in-Err-Bad.field-0-is) (_, so.0, so.1)

pub returns-in-Ok-clause-entity : goal.returns-in-Ok-clause-entity
returns-in-Ok-clause-entity c =
    let found = c.in-Ok.ensures.found in
    sym (ap entity_in found.1 ∙ entity_spelled record { id = c.in-Ok.field-0-0; entity = c.in-Ok.entity } found.0)
