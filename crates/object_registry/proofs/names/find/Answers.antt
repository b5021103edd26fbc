use Rattle.std.proofs.Common.{◌≡◌, sym, ◌∙◌, rules}
use Rattle.std.specs.BTreeMap.{get_by_text}
use Rattle.object_registry.proofs.NameLemmas.{id_in-bindings}
use Rattle.object_registry.proofs.names.find.Goals as goal

pub returns : goal.returns
returns c =
    let found : c.copied.result ≡ get_by_text c.args.names.now c.args.name.now = search rules in
    found ∙ sym (id_in-bindings c.args.names.now.entries c.args.name.now)
