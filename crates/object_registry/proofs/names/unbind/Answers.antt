use Rattle.std.proofs.Common.{◌≡◌, ℕ, List, None, cond, ap, sym, ◌∙◌}
use Rattle.std.specs.BTreeMap.{get_by_text}
use Rattle.std.specs.Map.{update}
use Rattle.std.specs.Str.{bytes_eq}
use Rattle.std.proofs.lemmas.Map.Text.{btree_map_updates_text}
use Rattle.object_registry.specs.Entries.{bindings_of}
use Rattle.object_registry.proofs.NameLemmas.{id_in-bindings, id_in-unbound}
use Rattle.object_registry.proofs.names.unbind.Goals as goal

pub returns-clause-was : goal.returns-clause-was
returns-clause-was c = c.remove.ensures.value ∙ sym (id_in-bindings c.args.names.now.entries c.args.name.now)

pub returns-clause-names : goal.returns-clause-names
returns-clause-names c =
    let set : (q : List ℕ) → get_by_text c.remove.new.self q ≡ update bytes_eq (get_by_text c.args.names.now) c.args.name.now None q =
    btree_map_updates_text c.args.name.now c.args.names.now c.remove.new.self _ c.remove.ensures.updates in
    λ q. id_in-bindings c.remove.new.self.entries q ∙ (set q ∙ (ap (cond (bytes_eq c.args.name.now q) None) (sym (id_in-bindings c.args.names.now.entries q)) ∙ sym (id_in-unbound (bindings_of c.args.names.now.entries) c.args.name.now q)))
