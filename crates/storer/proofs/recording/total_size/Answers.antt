use Rattle.std.proofs.Common.{take, arith}
use Rattle.std.proofs.lemmas.List.{take_more}
use Rattle.storer.proofs.BigRecords.{item_fits, total_of-last}
use Rattle.storer.proofs.recording.total_size.Goals as goal

pub size_of-requires : goal.size_of-requires
size_of-requires c = item_fits c.args.records.now c.loop-record.record-index c.record-item.result c.requires (omega arith) c.record-item.is

pub loop-record-preserved : goal.loop-record-preserved
loop-record-preserved c =
    let fits = item_fits c.args.records.now c.loop-record.record-index c.record-item.result c.requires (omega arith) c.record-item.is in
    let more = take_more c.args.records.now c.loop-record.record-index c.record-item.result (omega arith) in
    let last = total_of-last (take c.loop-record.record-index c.args.records.now) c.record-item.result in
    (rw (more, ← c.record-item.is, last) (omega arith), omega arith)
