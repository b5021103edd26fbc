-- The converted values are of the new type's kinds.
use Rattle.std.proofs.Common.{◌≡◌, rules}
use Rattle.entity_form.specs.Values.{kinds_of}
use Rattle.legacy_mapping.specs.Conversion.{converted}
use Rattle.legacy_mapping.proofs.Conversions.{kinds-converted}
use Rattle.legacy_mapping.proofs.conversion.convert.Goals as goal

pub returns-clause-kinds : goal.returns-clause-kinds
returns-clause-kinds c =
    let are : c.in_ok-values.values ≡ converted c.args.object.values (kinds_of c.args.new.now) c.args.plan.now = search rules in
    rw are (kinds-converted c.args.object.values (kinds_of c.args.new.now) c.args.plan.now c.requires.suits)
