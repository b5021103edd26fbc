use Rattle.std.proofs.Common.{sym, ap, ◌∙◌}
use Rattle.type_dictionary.specs.Latest.{latest_of}
use Rattle.lazy_refs.proofs.Alike.{latest-same}
use Rattle.lazy_refs.proofs.Applying.{made_from, no_latest}
use Rattle.lazy_refs.proofs.mapping.Mapper.to_latest.Goals as goal

pub returns-in-Some-by_id : goal.returns-in-Some-by_id
returns-in-Some-by_id c =
    let types = c.args.self.now.types.now in
    made_from types c.args.self.now.table.now c.args.old.now c.in-Some-by_id.new.now c.in-Some.new_type c.between.result
    (ap (latest_of types) (sym c.target-name.ensures.target) ∙ sym (latest-same types c.target-name.result.now) ∙ sym c.in-Some.ensures.value) (sym c.in-Some-by_id.ensures.value) c.between.ensures

pub returns-in-None : goal.returns-in-None
returns-in-None c = λ entity.
    let types = c.args.self.now.types.now in
    no_latest types c.args.self.now.table.now c.args.old.now entity
    (ap (latest_of types) (sym c.target-name.ensures.target) ∙ sym (latest-same types c.target-name.result.now) ∙ sym c.in-None.ensures.value)
