-- The tally loses the row.
use Rattle.std.proofs.Common.{◌≡◌, refl, sym, ap, ◌∙◌, arith}
use Rattle.std.specs.FinMap.{len}
use Rattle.entity_index.proofs.TallyLemmas.{has_bytes, has_row, len-remove_one, IsTally-out}
use Rattle.entity_index.proofs.index.EntityIndex.take_out.Goals as goal

pub count_out-requires-clause-bytes : goal.count_out-requires-clause-bytes
count_out-requires-clause-bytes c = has_bytes _ _ c.self.invariant.0 c.args.id c.in_ok-row.row (sym c.in_ok-row.ensures.removed)

pub count_out-requires-clause-rows : goal.count_out-requires-clause-rows
count_out-requires-clause-rows c = has_row _ _ c.self.invariant.0 c.args.id c.in_ok-row.row (sym c.in_ok-row.ensures.removed)

pub invariant_of-self-2 : goal.invariant_of-self-2
invariant_of-self-2 c =
    let had = sym c.in_ok-row.ensures.removed in
    let one = len-remove_one c.self.inside.rows.contents c.args.id c.in_ok-row.row had in
    let less = ap len c.remove.ensures.contents in
    let places = c.count_out.ensures.places in
    let enough = c.self.invariant.1 in (
      rw (c.remove.ensures.contents, c.count_out.ensures.counted) (IsTally-out _ _ c.self.invariant.0 c.args.id c.in_ok-row.row had),
      omega arith,
    )

pub returns-clause-spare : goal.returns-clause-spare
returns-clause-spare c =
    let had = sym c.in_ok-row.ensures.removed in
    let one = len-remove_one c.self.inside.rows.contents c.args.id c.in_ok-row.row had in
    let less = ap len c.remove.ensures.contents in
    let places = c.count_out.ensures.places in
    let enough = c.self.invariant.1 in
    let spare = c.in_ok-row.ensures.spare in
    rw (← c.self.view_is) (omega arith)
