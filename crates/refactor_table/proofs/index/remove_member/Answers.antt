-- A member's row is taken out of the rows of its type.
use Rattle.std.proofs.Common.{◌≡◌, Some, None, refl, rules}
use Rattle.std.specs.BTreeMap.{get_by_text}
use Rattle.std.proofs.lemmas.Map.Text.{btree_map_updates_text}
use Rattle.refactor_table.proofs.Indexes.{Sets, puts_member-changed}
use Rattle.refactor_table.proofs.index.remove_member.Goals as goal

pub returns-in-Some : goal.returns-in-Some
returns-in-Some c =
    let was : get_by_text c.args.members.now c.args.type_name.now ≡ Some c.in-Some.rows.now = search rules in
    let after = c.get_mut.follows.lender c.remove.new.self in
    let writes = (c.get_mut.follows.holds c.remove.new.self).3 (search rules) in
    let set_type : Sets (get_by_text c.args.members.now) (get_by_text after) c.args.type_name.now (Some c.remove.new.self) =
    rw c.as_str.ensures at (btree_map_updates_text c.as_str.result.now c.args.members.now after _ writes) in
    let set_member : Sets (get_by_text c.in-Some.rows.now) (get_by_text c.remove.new.self) c.args.member.now None =
    rw c.as_str-in-Some.ensures at (btree_map_updates_text c.as_str-in-Some.result.now c.in-Some.rows.now c.remove.new.self _ c.remove.ensures.updates) in
    puts_member-changed c.args.members.now after c.in-Some.rows.now c.remove.new.self c.args.type_name.now c.args.member.now None was set_type set_member
