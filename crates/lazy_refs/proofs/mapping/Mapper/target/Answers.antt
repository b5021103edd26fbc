use Rattle.lazy_refs.proofs.Naming.{target_is}
use Rattle.lazy_refs.proofs.mapping.Mapper.target.Goals as goal

pub returns-clause-target : goal.returns-clause-target
returns-clause-target c = target_is c.args.self.now.table.now c.args.name c.new_type.result c.new_type.ensures.sound c.new_type.ensures.found c.new_type.ensures.only c.unwrap_or.result c.unwrap_or.ensures
