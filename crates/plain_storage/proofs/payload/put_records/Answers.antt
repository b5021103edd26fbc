use Rattle.std.proofs.Common.{length, arith}
use Rattle.plain_storage.proofs.PayloadBytes.{place_more, room_for, written_more}
use Rattle.plain_storage.proofs.payload.put_records.Goals as goal

pub write_entity-place-requires-clause-room : goal.write_entity-place-requires-clause-room
write_entity-place-requires-clause-room c =
    let l = c.loop-record in
    room_for c.args.records.now l.record-index c.record-item.result c.loop-record-test.true c.record-item.is c.args.at l.place l.invariant.place (length l.out) (omega arith)

pub loop-record-preserved : goal.loop-record-preserved
loop-record-preserved c =
    let l = c.loop-record in
    let records = c.args.records.now in
    record {
      place = rw c.write_entity-place.ensures.place (place_more records l.record-index c.record-item.result c.loop-record-test.true c.record-item.is c.args.at l.place l.invariant.place);
      written = rw (c.write_entity-place.ensures.written, l.invariant.written)
          (written_more records l.record-index c.record-item.result c.loop-record-test.true c.record-item.is c.args.at l.place l.invariant.place c.args.out.now c.requires.room);
    }
