use Rattle.std.proofs.Common.{◌≡◌, List, ap, ◌∙◌, arith, ℕ}
use Rattle.std.specs.List.{flat_map}
use Rattle.field_bytes.specs.Fields.{bytes_of, with_bytes}
use Rattle.field_bytes.proofs.Laws.{with_number-bytes}
use Rattle.graph_model.specs.declared.entity.Record.{Record}
use Rattle.plain_storage.specs.Stores.{record_bytes}
use Rattle.plain_storage.proofs.PayloadBytes.{length-records_bytes, three_parts}
use Rattle.plain_storage.proofs.payload.put_store.Goals as goal

pub returns : goal.returns
returns c =
    let op = c.args.op.now in
    let out = c.args.out.now in
    let first = bytes_of 8 c.args.number in
    let second = bytes_of 8 op.next_id in
    let all = flat_map record_bytes op.records in
    let one : c.write_u64_at.new.bytes ≡ with_bytes out 0 first = c.write_u64_at.ensures ∙ with_number-bytes 8 out 0 c.args.number in
    let two : c.write_u64_at-2.new.bytes ≡ with_bytes (with_bytes out 0 first) 8 second =
    c.write_u64_at-2.ensures ∙ with_number-bytes 8 c.write_u64_at.new.bytes 8 op.next_id ∙ ap (λ (l : List ℕ). with_bytes l 8 second) one in
    c.put_records.ensures
    ∙ ap (λ (rs : List Record). with_bytes c.write_u64_at-2.new.bytes 16 (flat_map record_bytes rs)) c.as_slice.ensures
    ∙ ap (λ (l : List ℕ). with_bytes l 16 all) two
    ∙ three_parts out first second all 8 16 (omega arith) (omega arith) (omega (arith, length-records_bytes op.records, c.requires.room))
