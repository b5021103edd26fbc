use Rattle.std.proofs.Common.{◌≡◌, ℕ, List, Some, string_bytes, cond, ap, sym, ◌∙◌, rules}
use Rattle.std.specs.BTreeMap.{get_by_text}
use Rattle.std.specs.Map.{update}
use Rattle.std.specs.Str.{bytes_eq}
use Rattle.std.proofs.lemmas.Map.Text.{btree_map_updates_text}
use Rattle.object_registry.proofs.NameLemmas.{id_in-bindings}
use Rattle.object_registry.proofs.names.bind.Goals as goal

pub returns-clause-ok : goal.returns-clause-ok
returns-clause-ok c =
    let name_is : string_bytes c.in_ok-name.name ≡ c.args.name.now = search rules in
    let set : (q : List ℕ) → get_by_text c.insert.new.self q ≡ update bytes_eq (get_by_text c.args.names.now) c.args.name.now (Some c.args.id) q =
    rw name_is at (btree_map_updates_text (string_bytes c.in_ok-name.name) c.args.names.now c.insert.new.self _ c.in_ok-insert.ensures.updates) in
    λ q. id_in-bindings c.insert.new.self.entries q ∙ (set q ∙ ap (cond (bytes_eq c.args.name.now q) (Some c.args.id)) (sym (id_in-bindings c.args.names.now.entries q)))
