-- A member's row is put into the rows of its type.
use Rattle.std.proofs.Common.{◌≡◌, Some, None, string_bytes, refl, rules}
use Rattle.std.specs.BTreeMap.{get_by_text}
use Rattle.std.proofs.lemmas.Map.Text.{btree_map_updates_text}
use Rattle.refactor_table.specs.Index.{IsSameMembers}
use Rattle.refactor_table.proofs.Indexes.{Sets, puts_member-changed, puts_member-fresh, same_members-changed}
use Rattle.refactor_table.proofs.index.put_member.Goals as goal

pub returns-in_err-insert-in-Some-clause-err : goal.returns-in_err-insert-in-Some-clause-err
returns-in_err-insert-in-Some-clause-err c =
    let was : get_by_text c.args.members.now c.args.type_name.now ≡ Some c.in-Some.rows.now = search rules in
    let after = c.get_mut.follows.lender c.insert.new.self in
    let writes = (c.get_mut.follows.holds c.insert.new.self).3 (search rules) in
    let set_type : Sets (get_by_text c.args.members.now) (get_by_text after) c.args.type_name.now (Some c.insert.new.self) =
    rw c.as_str-2.ensures at (btree_map_updates_text c.as_str-2.result.now c.args.members.now after _ writes) in
    let entries : c.insert.new.self.entries ≡ c.in-Some.rows.now.entries = search rules in
    let same : IsSameMembers c.args.members.now after =
    same_members-changed c.args.members.now after c.in-Some.rows.now c.insert.new.self c.args.type_name.now was set_type (λ m. rw entries refl) in
    search rules

pub returns-in_ok-insert-in-Some-clause-ok : goal.returns-in_ok-insert-in-Some-clause-ok
returns-in_ok-insert-in-Some-clause-ok c =
    let was : get_by_text c.args.members.now c.args.type_name.now ≡ Some c.in-Some.rows.now = search rules in
    let after = c.get_mut.follows.lender c.insert.new.self in
    let writes = (c.get_mut.follows.holds c.insert.new.self).3 (search rules) in
    let set_type : Sets (get_by_text c.args.members.now) (get_by_text after) c.args.type_name.now (Some c.insert.new.self) =
    rw c.as_str-2.ensures at (btree_map_updates_text c.as_str-2.result.now c.args.members.now after _ writes) in
    let key_is : string_bytes c.in_ok-key.key ≡ c.args.member.now = search rules in
    let set_member : Sets (get_by_text c.in-Some.rows.now) (get_by_text c.insert.new.self) c.args.member.now (Some c.args.row) =
    rw key_is at (btree_map_updates_text (string_bytes c.in_ok-key.key) c.in-Some.rows.now c.insert.new.self _ c.in_ok-insert-in-Some.ensures.updates) in
    puts_member-changed c.args.members.now after c.in-Some.rows.now c.insert.new.self c.args.type_name.now c.args.member.now (Some c.args.row) was set_type set_member

pub returns-in_ok-insert-in-None-2-clause-ok : goal.returns-in_ok-insert-in-None-2-clause-ok
returns-in_ok-insert-in-None-2-clause-ok c =
    let was : get_by_text c.args.members.now c.args.type_name.now ≡ None = search rules in
    let type_is : string_bytes c.in_ok-from_str-in-None.field-0 ≡ c.args.type_name.now = search rules in
    let updates = rw (c.get_mut.follows.holds-at-none) at c.in_ok-insert-in-None-2.ensures.updates in
    let set_type : Sets (get_by_text c.args.members.now) (get_by_text c.insert-in-None-2.new.self) c.args.type_name.now (Some c.insert-in-None.new.self) =
    rw type_is at (btree_map_updates_text (string_bytes c.in_ok-from_str-in-None.field-0) c.args.members.now c.insert-in-None-2.new.self _ updates) in
    let key_is : string_bytes c.in_ok-key.key ≡ c.args.member.now = search rules in
    let set_member : Sets (get_by_text c.new-rows.result) (get_by_text c.insert-in-None.new.self) c.args.member.now (Some c.args.row) =
    rw key_is at (btree_map_updates_text (string_bytes c.in_ok-key.key) c.new-rows.result c.insert-in-None.new.self _ c.in_ok-insert-in-None.ensures.updates) in
    puts_member-fresh c.args.members.now c.insert-in-None-2.new.self c.new-rows.result c.insert-in-None.new.self c.args.type_name.now c.args.member.now (Some c.args.row)
    was c.new-rows.ensures.empty set_type set_member
