-- The headers of a chunk are read one by one.
use Rattle.std.proofs.Common.{◌+◌, ◌<◌, ℕ, List, Ok, Err, None, refl, ap, subst, ◌∙◌, arith}
use Rattle.data_file.specs.Rule.{IsEntityAt}
use Rattle.disk_opening.proofs.Taking.{bad_walk, below, fault_stops, moved_on, no_end, rows_on, taken_begins, taken_done, taken_on, within_on}
use Rattle.disk_opening.proofs.chunks.take_in.Goals as goal

pub headers-init : goal.headers-init
headers-init g c = record {
  moved = refl;
  within = c.requires.ordered;
  taken = λ told. let long = c.requires.file_length told in taken_begins c.args.walk (g.D.Disk.reads c.args.disk.now c.args.walk.file) c.args.index.now.contents (omega (arith, long, c.if-walk.false));
  rows = λ had. had;
  reads = λ told. refl;
  leaves = λ told. refl;
  faults = omega arith;
  calm = refl;
}

pub returns-in_err-header-clause-bad : goal.returns-in_err-header-clause-bad
returns-in_err-header-clause-bad g c told file at number is =
    let so = c.headers.invariant in
    let e = c.in_err-header.field-0.0 in
    let bad = bad_walk c.from_residual.result e file at c.from_residual.ensures.1 is in
    let none = c.in_err-header.ensures.bad told file at (ap Err bad) in
    let before : c.headers.walk.at < c.headers.walk.end = below c.headers.walk.at c.headers.walk.end so.within (λ q. no_end e None (c.in_err-header.ensures.end.1 q)) in
    fault_stops c.args.walk c.headers.walk (g.D.Disk.reads c.args.disk.now) number c.args.index.now.contents c.headers.index.contents so.moved (c.requires.file_length told) c.requires.ordered before
    (so.taken told) (subst (λ (r : ℕ → List ℕ). IsEntityAt c.headers.walk (r c.headers.walk.file) → ⊥) (so.reads told) none)

pub headers-preserved : goal.headers-preserved
headers-preserved g c =
    let so = c.headers.invariant in
    let h = c.in-Some.header in
    let w = c.headers.walk in
    let on = rw c.in-Some.is at c.in_ok-header.ensures.moved in
    let keeps = rw c.in-Some.is at c.in_ok-header.ensures.rule in
    record {
      moved = moved_on c.args.walk w c.next_header.new.walk (w.at + h.length) so.moved on;
      within = within_on w c.next_header.new.walk h on keeps;
      taken = λ told. taken_on c.args.walk w c.next_header.new.walk (g.D.Disk.reads c.args.disk.now) (g.D.Disk.reads c.headers.disk) c.args.index.now.contents c.headers.index.contents
          c.put_found.new.index.contents h so.moved on (so.reads told) (c.requires.file_length told) (so.taken told) (rw c.in-Some.is at (c.in_ok-header.ensures.header told)) keeps
          c.in_ok-put_found.ensures.rows;
      rows = λ had. rows_on c.args.walk w c.next_header.new.walk c.headers.index.contents c.put_found.new.index.contents h so.moved on c.requires.number (so.rows had) keeps c.in_ok-put_found.ensures.rows;
      reads = λ told. c.next_header.ensures.reads told ∙ so.reads told;
      leaves = λ told. c.next_header.ensures.leaves told ∙ so.leaves told;
      faults = omega (arith, so.faults, c.next_header.ensures.faults);
      calm = c.in_ok-header.ensures.calm ∙ so.calm;
    }

pub returns-clause-right : goal.returns-clause-right
returns-clause-right g c told number =
    let so = c.headers.invariant in
    (taken_done c.args.walk c.headers.walk (g.D.Disk.reads c.args.disk.now) number c.args.index.now.contents c.headers.index.contents so.moved
    (c.in_ok-header.ensures.end.0 (ap Ok c.in_default.is)) c.requires.ordered (so.taken told)).0

pub returns-clause-index : goal.returns-clause-index
returns-clause-index g c told number =
    let so = c.headers.invariant in
    (taken_done c.args.walk c.headers.walk (g.D.Disk.reads c.args.disk.now) number c.args.index.now.contents c.headers.index.contents so.moved
    (c.in_ok-header.ensures.end.0 (ap Ok c.in_default.is)) c.requires.ordered (so.taken told)).1
