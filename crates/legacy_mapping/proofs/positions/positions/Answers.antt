-- Each member is put at its name.
use Rattle.std.proofs.Common.{◌≡◌, length, refl}
use Rattle.std.proofs.lemmas.Map.Text.{btree_map_updates_str}
use Rattle.std.proofs.lemmas.Option.{slice_get_read}
use Rattle.std.specs.Map.{update}
use Rattle.std.specs.Str.{bytes_eq}
use Rattle.legacy_mapping.specs.Positions.{position_of}
use Rattle.legacy_mapping.proofs.PositionLemmas.{positions_more, positions_all, is_named}
use Rattle.legacy_mapping.proofs.positions.positions.Goals as goal

pub loop-i-preserved : goal.loop-i-preserved
loop-i-preserved c =
    let member = c.index-members-i.result in
    let at = slice_get_read c.args.members.now (length c.args.members.now) c.loop-i.i member refl c.loop-i-test.true c.index-members-i.is in
    let put = rw c.as_str.ensures at (btree_map_updates_str c.as_str.result.now c.loop-i.positions c.insert.new.self _ c.in_ok-insert.ensures.updates) in
    positions_more c.args.members.now c.loop-i.i member.name c.loop-i.positions c.insert.new.self c.requires c.loop-i.invariant (is_named c.args.members.now c.loop-i.i member at) put

pub returns : goal.returns
returns c = positions_all c.args.members.now c.loop-i.i c.loop-i.positions c.loop-i-test.false c.loop-i.invariant
