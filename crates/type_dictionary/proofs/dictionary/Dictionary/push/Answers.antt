-- The fields after a record is added.
use Rattle.std.proofs.Common.{◌≡◌, ◌∷◌, ◌++◌, ◌<◌, [], length, string_bytes, rules}
use Rattle.std.proofs.lemmas.Map.Text.{btree_map_updates_text}
use Rattle.type_dictionary.proofs.RecordLists.{IsKept-push}
use Rattle.type_dictionary.proofs.dictionary.Dictionary.push.Goals as goal

pub invariant_of-self-2 : goal.invariant_of-self-2
invariant_of-self-2 c =
    let key_is : string_bytes c.in_ok-name.name ≡ c.args.desc.name = search rules in
    let at : c.len.result ≡ length c.self.inside.records.items = search rules in
    let put = rw (key_is, at) at (btree_map_updates_text (string_bytes c.in_ok-name.name) c.self.inside.ids c.insert.new.self _ c.in_ok-insert.ensures.updates) in
    let few : length c.self.inside.records.items < 65536 = search rules in
    let items : c.push.new.self.items ≡ c.self.inside.records.items ++ c.args.desc ∷ [] = search rules in
    rw items (IsKept-push c.self.inside.root c.self.inside.records.items c.self.inside.ids c.insert.new.self c.args.desc c.self.invariant few c.requires.recorded put)
