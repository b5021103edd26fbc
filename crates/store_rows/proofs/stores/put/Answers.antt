use Rattle.std.proofs.Common.{[], map, sym, ap, subst, ◌∙◌}
use Rattle.std.proofs.lemmas.Result.{on_ok_weaker}
use Rattle.entity_form.specs.Values.{kind_of}
use Rattle.entity_form.specs.declared.value.Object.{Object}
use Rattle.object_registry.specs.Registered.{unsaved}
use Rattle.storer.specs.Gathered.{AreKnown}
use Rattle.storer.proofs.KnownTypes.{known-put}
use Rattle.store_rows.proofs.stores.put.Goals as goal

pub returns : goal.returns
returns c =
    let object : Object = record { type_id = 1; values = c.new-values.result } in
    on_ok_weaker c.put_new.result (λ e. subst (AreKnown []) (sym e)
    (known-put [] c.args.registry.now.instances c.args.id (unsaved object) c.requires (ap (map kind_of) (c.new-values.ensures ∙ c.in_ok-vec.ensures.items)))) c.put_new.ensures.ok
