-- The row stays in its file.
use Rattle.std.proofs.Common.{refl, sym}
use Rattle.oid_table.specs.MapLaws.{len-insert_old}
use Rattle.entity_index.specs.Rows.{with_state}
use Rattle.entity_index.proofs.TallyLemmas.{IsTally-alike, ChangesRow-view}
use Rattle.entity_index.proofs.index.EntityIndex.set_state.Goals as goal

pub invariant_of-self : goal.invariant_of-self
invariant_of-self c =
    let row = c.in-Some.row.now in
    let had = sym c.in-Some.ensures.value in
    let same = len-insert_old c.self.inside.rows.contents c.args.id row (with_state c.args.state row) had in
    (IsTally-alike _ _ c.self.invariant.0 c.args.id row had (with_state c.args.state row) refl refl, rw same c.self.invariant.1)

pub returns : goal.returns
returns c =
    let had = sym c.in-Some.ensures.value in
    rw (← c.self.view_is) (ChangesRow-view c.self.inside.rows.contents c.self.inside.rows.keys _ _ c.args.id c.in-Some.row.now (with_state c.args.state) had)
