-- The chunks of a log are read one by one.
use Rattle.std.proofs.Common.{◌∙◌, Err, ap, refl, arith}
use Rattle.disk_opening.specs.declared.chunks.ChunkFault.TheVariants as told
use Rattle.disk_opening.proofs.ChunksRead.{no_rows, none_read, read_on, wrong_there}
use Rattle.disk_opening.proofs.FaultsSaid.{same_fault}
use Rattle.disk_opening.proofs.channel_chunks.read_chunks.Goals as goal

pub chunks-init : goal.chunks-init
chunks-init g c = record {
  read = λ tells. none_read c.args.channels c.args.channel c.args.next_id c.args.number (g.D.Disk.reads c.args.disk.now) c.new-index.result.contents c.new-index.ensures.rows;
  rows = no_rows c.new-index.result.contents c.new-index.ensures.rows;
  reads = λ tells. refl;
  leaves = λ tells. refl;
  faults = omega arith;
  calm = refl;
}

pub returns-in_err-take_range-clause-bad : goal.returns-in_err-take_range-clause-bad
returns-in_err-take_range-clause-bad g c tells file at is right =
    let was = same_fault c.from_residual.result c.in_err-take_range.field-0.0 (told.BadChunk file at) c.from_residual.ensures.1 is in
    wrong_there c.args.channels c.args.channel c.args.next_id c.args.number (g.D.Disk.reads c.args.disk.now) c.as_slice-range-items.result.now c.chunks.range-index _ c.chunks-test.true
    (g.D.Disk.reads c.chunks.disk) _ (c.chunks.invariant.reads tells) (c.as_slice-range-items.ensures ∙ c.requires.log tells) c.if-range-number.false
    (c.in_err-take_range.ensures.bad tells file at (ap Err was)) right

pub chunks-preserved : goal.chunks-preserved
chunks-preserved g c =
    let so = c.chunks.invariant in
    let index = c.chunks.range-index in
    record {
      read = λ tells. read_on c.args.channels c.args.channel c.args.next_id c.args.number (g.D.Disk.reads c.args.disk.now) c.as_slice-range-items.result.now index _ c.chunks-test.true
          (g.D.Disk.reads c.chunks.disk) c.chunks.index.contents c.take_range.new.index.contents (so.reads tells) c.if-range-number.false (so.read tells)
          (c.in_ok-take_range.ensures.right tells) (c.in_ok-take_range.ensures.index tells);
      rows = c.in_ok-take_range.ensures.rows so.rows;
      reads = λ tells. c.take_range.ensures.reads tells ∙ so.reads tells;
      leaves = λ tells. c.take_range.ensures.leaves tells ∙ so.leaves tells;
      faults = omega (arith, so.faults, c.take_range.ensures.faults);
      calm = c.in_ok-take_range.ensures.calm ∙ so.calm;
    }
