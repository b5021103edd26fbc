-- A type's row is taken away, and the rows of the members stay.
use Rattle.std.proofs.Common.{◌≡◌, None, rules}
use Rattle.std.specs.BTreeMap.{get_by_text}
use Rattle.std.proofs.lemmas.Map.Text.{btree_map_updates_text}
use Rattle.refactor_table.proofs.Indexes.{Sets, puts_row-type}
use Rattle.refactor_table.proofs.index.NameIndex.remove.Goals as goal

pub returns-in-OfType : goal.returns-in-OfType
returns-in-OfType c =
    let set : Sets (get_by_text c.args.self.now.types) (get_by_text c.remove.new.self) c.in-OfType.type_name None =
    rw c.as_str.ensures at (btree_map_updates_text c.as_str.result.now c.args.self.now.types c.remove.new.self _ c.remove.ensures.updates) in
    let put = puts_row-type c.args.self.now.types c.remove.new.self c.args.self.now.members c.in-OfType.type_name None set in
    λ q. rw c.in-OfType.is (put q)
