use Rattle.std.proofs.Common.{◌≡◌, sym, ◌∙◌, rules}
use Rattle.std.specs.BTreeMap.{values}
use Rattle.std.proofs.lemmas.Result.{IfOk-weaker}
use Rattle.object_registry.specs.Entries.{bindings_of}
use Rattle.object_registry.specs.Registered.{bound_ids}
use Rattle.object_registry.proofs.NameLemmas.{bound_ids-bindings}
use Rattle.object_registry.proofs.names.ids_of.Goals as goal

pub returns : goal.returns
returns c = IfOk-weaker c.collect.result (λ ids. ids.items ≡ values c.args.names.now) (λ ids. ids.items ≡ bound_ids (bindings_of c.args.names.now.entries))
    (λ ids e. e ∙ sym (bound_ids-bindings c.args.names.now.entries)) (search rules)
