use Rattle.std.proofs.Common.{◌++◌, List, refl, ap, ◌∙◌}
use Rattle.std.specs.List.{flat_map}
use Rattle.entity_form.specs.declared.value.Value.{Value}
use Rattle.session_model.specs.Instances.{eager_refs_of}
use Rattle.object_registry.proofs.Numbers.{insert_key-new}
use Rattle.lazy_refs.specs.Walks.{wanted}
use Rattle.lazy_refs.proofs.Turning.{takes_from}
use Rattle.lazy_refs.proofs.loading.Loading.load.Goals as goal

pub returns-clause-takes : goal.returns-clause-takes
returns-clause-takes c = takes_from _ _ _ _ _ c.self.view_is (record {
  asked = refl;
  done = λ new. c.in_ok-insert.ensures.keys ∙ insert_key-new c.self.inside.asked c.self.inside.done.keys new;
  waiting = c.in_ok-push_values.ensures ∙ ap (λ (vs : List Value). c.self.inside.waiting.items ++ wanted c.args.registry.now.instances (flat_map eager_refs_of vs)) c.as_slice.ensures;
  loaded = c.in_ok-push.ensures.items;
  refused = refl;
})
