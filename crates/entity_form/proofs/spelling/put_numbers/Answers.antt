use Rattle.std.proofs.Common.{arith}
use Rattle.entity_form.proofs.Spellings.{put_one}
use Rattle.entity_form.proofs.spelling.put_numbers.Goals as goal

pub loop-number-preserved : goal.loop-number-preserved
loop-number-preserved c = record {
  place = omega (arith, c.loop-number.invariant.place);
  written = rw (c.write_u64_at.ensures, c.loop-number.invariant.written)
      (put_one c.args.out.now c.args.at c.args.numbers.now c.loop-number.number-index c.loop-number.place c.loop-number-test.true c.requires c.loop-number.invariant.place);
}
