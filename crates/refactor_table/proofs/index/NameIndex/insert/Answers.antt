-- A type's row is put beside the rows of the members.
use Rattle.std.proofs.Common.{◌≡◌, Some, string_bytes, rules}
use Rattle.std.specs.BTreeMap.{get_by_text}
use Rattle.std.proofs.lemmas.Map.Text.{btree_map_updates_text}
use Rattle.refactor_table.proofs.Indexes.{Sets, puts_row-type}
use Rattle.refactor_table.proofs.index.NameIndex.insert.Goals as goal

pub returns-in_ok-insert-in-OfType-clause-ok : goal.returns-in_ok-insert-in-OfType-clause-ok
returns-in_ok-insert-in-OfType-clause-ok c =
    let key_is : string_bytes c.in_ok-key-in-OfType.key ≡ c.in-OfType.type_name = search rules in
    let set : Sets (get_by_text c.args.self.now.types) (get_by_text c.insert.new.self) c.in-OfType.type_name (Some c.args.row) =
    rw key_is at (btree_map_updates_text (string_bytes c.in_ok-key-in-OfType.key) c.args.self.now.types c.insert.new.self _ c.in_ok-insert-in-OfType.ensures.updates) in
    let put = puts_row-type c.args.self.now.types c.insert.new.self c.args.self.now.members c.in-OfType.type_name (Some c.args.row) set in
    λ q. rw c.in-OfType.is (put q)
