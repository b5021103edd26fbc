use Rattle.std.proofs.Common.{ap, length, arith}
use Rattle.entity_form.proofs.Spellings.{put_parts}
use Rattle.entity_form.proofs.spelling.write_entity.Goals as goal

pub returns-clause-written : goal.returns-clause-written
returns-clause-written c =
    rw (c.put_bytes.ensures.written, c.put_numbers-behind_refs.ensures.written, c.put_numbers-behind_header.ensures.written, c.as_slice-plain.ensures, c.as_slice-refs.ensures)
    (put_parts c.args.out.now c.args.at (c.args.id, c.args.entity.now) c.put_numbers-behind_header.result c.put_numbers-behind_refs.result c.requires.room
    (omega (arith, c.put_numbers-behind_header.ensures.place))
    (omega (arith, c.put_numbers-behind_refs.ensures.place, ap length c.as_slice-refs.ensures)))
