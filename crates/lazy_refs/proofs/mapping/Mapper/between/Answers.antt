use Rattle.std.proofs.Common.{refl}
use Rattle.session_model.specs.Types.{sources_of}
use Rattle.lazy_refs.proofs.Sourcing.{are_sources, one_kind, kinds_differ}
use Rattle.lazy_refs.proofs.mapping.Mapper.between.Goals as goal

pub returns-in-Ok : goal.returns-in-Ok
returns-in-Ok c =
    let pairs = c.args.self.now.table.now in
    let old = c.args.old.now in
    let new = c.args.new.now in
    (refl, c.in-Ok.ensures.only (sources_of pairs old new new.members) (are_sources pairs old new), one_kind pairs old new c.in-Ok.ensures.one_kind, c.in-Ok.ensures.suits, c.in-Ok.ensures.apart)

pub returns-in-Err-KindDiffers : goal.returns-in-Err-KindDiffers
returns-in-Err-KindDiffers c =
    let differs = rw c.in-Err-KindDiffers.field-0-is at c.in-Err-KindDiffers.ensures.fault in
    kinds_differ c.args.self.now.table.now c.args.old.now c.args.new.now c.in-Err-KindDiffers.field-0-0 c.requires.sound c.requires.old_names differs.differs
