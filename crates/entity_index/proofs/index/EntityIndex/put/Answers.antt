-- The tally loses the row that the id had, and gains the new one.
use Rattle.std.proofs.Common.{◌≡◌, refl, sym, ap, ◌∙◌, arith}
use Rattle.std.specs.Prelude.{is_some}
use Rattle.std.specs.FinMap.{len}
use Rattle.oid_table.specs.MapLaws.{len-insert_old, len-insert_new}
use Rattle.entity_index.specs.Tally.{bytes_of, rows_of}
use Rattle.entity_index.proofs.TallyLemmas.{has_bytes, has_row, rows_of-≤, bytes_of-≤, files-≤, len-remove_one, IsTally-in, IsTally-out, IsTally-in_place}
use Rattle.entity_index.proofs.index.EntityIndex.put.Goals as goal

pub count_out-requires-clause-bytes : goal.count_out-requires-clause-bytes
count_out-requires-clause-bytes c = has_bytes _ _ c.self.invariant.0 c.args.id c.in-Some.old (sym c.in-Some.ensures.old)

pub count_out-requires-clause-rows : goal.count_out-requires-clause-rows
count_out-requires-clause-rows c = has_row _ _ c.self.invariant.0 c.args.id c.in-Some.old (sym c.in-Some.ensures.old)

pub count_in-requires-clause-room : goal.count_in-requires-clause-room
count_in-requires-clause-room c =
    let had = sym c.in-Some.ensures.old in
    let rows = c.self.inside.rows.contents in
    let files = files-≤ _ _ (IsTally-out _ _ c.self.invariant.0 c.args.id c.in-Some.old had) in
    let counted = ap len c.count_out.ensures.counted in
    let one = len-remove_one rows c.args.id c.in-Some.old had in
    let places = c.count_out.ensures.places in
    let enough = c.self.invariant.1 in
    λ _. omega arith

pub count_in-requires-clause-bytes : goal.count_in-requires-clause-bytes
count_in-requires-clause-bytes c =
    let had = sym c.in-Some.ensures.old in
    let rows = c.self.inside.rows.contents in
    let t = IsTally-out _ _ c.self.invariant.0 c.args.id c.in-Some.old had in
    let bytes = bytes_of-≤ _ _ t c.args.row.file in
    let most = rows_of-≤ _ _ t c.args.row.file in
    let one = len-remove_one rows c.args.id c.in-Some.old had in
    let same = ap len c.insert.ensures.contents ∙ len-insert_old rows c.args.id c.in-Some.old c.args.row had in
    let fits = c.insert.ensures.fits in
    rw c.count_out.ensures.counted (omega arith)

pub count_in-requires-clause-rows : goal.count_in-requires-clause-rows
count_in-requires-clause-rows c =
    let had = sym c.in-Some.ensures.old in
    let rows = c.self.inside.rows.contents in
    let t = IsTally-out _ _ c.self.invariant.0 c.args.id c.in-Some.old had in
    let most = rows_of-≤ _ _ t c.args.row.file in
    let one = len-remove_one rows c.args.id c.in-Some.old had in
    let same = ap len c.insert.ensures.contents ∙ len-insert_old rows c.args.id c.in-Some.old c.args.row had in
    let fits = c.insert.ensures.fits in
    rw c.count_out.ensures.counted (omega arith)

pub invariant_of-self : goal.invariant_of-self
invariant_of-self c =
    let had = sym c.in-Some.ensures.old in
    let rows = c.self.inside.rows.contents in
    let same = ap len c.insert.ensures.contents ∙ len-insert_old rows c.args.id c.in-Some.old c.args.row had in
    let out = c.count_out.ensures.places in
    let back = c.count_in.ensures.places in
    let enough = c.self.invariant.1 in (
      rw (c.insert.ensures.contents, c.count_in.ensures.counted, c.count_out.ensures.counted)
          (IsTally-in_place _ _ c.self.invariant.0 c.args.id c.in-Some.old had c.args.row c.count_in.ensures.fits),
      omega arith,
    )

pub count_in-requires-in-None-clause-room : goal.count_in-requires-in-None-clause-room
count_in-requires-in-None-clause-room c =
    let room = rw (← c.self.view_is) at c.requires in
    let some = room (ap is_some (sym c.in-None.ensures.old)) in
    let files = files-≤ _ _ c.self.invariant.0 in
    λ _. omega arith

pub count_in-requires-in-None-clause-bytes : goal.count_in-requires-in-None-clause-bytes
count_in-requires-in-None-clause-bytes c =
    let rows = c.self.inside.rows.contents in
    let bytes = bytes_of-≤ _ _ c.self.invariant.0 c.args.row.file in
    let most = rows_of-≤ _ _ c.self.invariant.0 c.args.row.file in
    let more = ap len c.insert.ensures.contents ∙ len-insert_new rows c.args.id c.args.row (sym c.in-None.ensures.old) in
    let fits = c.insert.ensures.fits in
    omega arith

pub count_in-requires-in-None-clause-rows : goal.count_in-requires-in-None-clause-rows
count_in-requires-in-None-clause-rows c =
    let rows = c.self.inside.rows.contents in
    let most = rows_of-≤ _ _ c.self.invariant.0 c.args.row.file in
    let more = ap len c.insert.ensures.contents ∙ len-insert_new rows c.args.id c.args.row (sym c.in-None.ensures.old) in
    let fits = c.insert.ensures.fits in
    omega arith

pub invariant_of-self-in-None : goal.invariant_of-self-in-None
invariant_of-self-in-None c =
    let rows = c.self.inside.rows.contents in
    let none = sym c.in-None.ensures.old in
    let room = rw (← c.self.view_is) at c.requires in
    let some = room (ap is_some none) in
    let more = ap len c.insert.ensures.contents ∙ len-insert_new rows c.args.id c.args.row none in
    let places = c.count_in-in-None.ensures.places in (
      rw (c.insert.ensures.contents, c.count_in-in-None.ensures.counted) (IsTally-in _ _ c.self.invariant.0 c.args.id c.args.row none c.count_in-in-None.ensures.fits),
      omega arith,
    )

pub returns-in-Some-clause-spare : goal.returns-in-Some-clause-spare
returns-in-Some-clause-spare c =
    let had = sym c.in-Some.ensures.old in
    let rows = c.self.inside.rows.contents in
    let same = ap len c.insert.ensures.contents ∙ len-insert_old rows c.args.id c.in-Some.old c.args.row had in
    let out = c.count_out.ensures.places in
    let back = c.count_in.ensures.places in
    let spare = c.in-Some.ensures.spare in
    rw (← c.self.view_is, had) (omega arith)

pub returns-in-None-clause-spare : goal.returns-in-None-clause-spare
returns-in-None-clause-spare c =
    let rows = c.self.inside.rows.contents in
    let none = sym c.in-None.ensures.old in
    let room = rw (← c.self.view_is) at c.requires in
    let some = room (ap is_some none) in
    let more = ap len c.insert.ensures.contents ∙ len-insert_new rows c.args.id c.args.row none in
    let places = c.count_in-in-None.ensures.places in
    let spare = c.in-None.ensures.spare in
    rw (← c.self.view_is, none) (omega arith)
