use Rattle.std.proofs.Common.{sym}
use Rattle.lazy_refs.proofs.Applying.{becomes_planned}
use Rattle.lazy_refs.proofs.mapping.Mapper.apply.Goals as goal

pub returns-in-Ok : goal.returns-in-Ok
returns-in-Ok c =
    becomes_planned c.args.self.now.types.now c.args.self.now.table.now c.args.object c.args.mapping.now c.in-Converted.new_type c.in-Converted.plan c.in-Some.new.now c.in-Ok.object
    c.requires.mapping c.in-Converted.is (sym c.in-Some.ensures.value) c.in-Ok.ensures.type_id c.in-Ok.ensures.values
