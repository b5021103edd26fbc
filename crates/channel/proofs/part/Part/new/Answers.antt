use Rattle.std.proofs.Common.{◌≡◌, ◌≤◌, ℕ, true, List, map, sym, subst, arith}
use Rattle.std.specs.List.{AllByRecursion}
use Rattle.graph_model.specs.Ids.{rises}
use Rattle.graph_model.specs.Graph.{ids}
use Rattle.graph_model.specs.Stores.{total_size}
use Rattle.graph_model.specs.declared.entity.Record.{Record}
use Rattle.entity_form.specs.declared.places.Header.{Header}
use Rattle.channel.specs.Entities.{header_for, chunk_for}
use Rattle.channel.specs.Parts.{IsRightRecord, IsSpelled, headers_in, records_in}
use Rattle.channel.proofs.Spelled.{read_back}
use Rattle.channel.proofs.Chunks.{chunk_length}
use Rattle.channel.proofs.part.Part.new.Goals as goal

spelled_part : (headers : List Header) (bytes : List ℕ) (rs : List Record) → rises (ids rs) ≡ true → AllByRecursion IsRightRecord rs → total_size rs ≤ 16777216
    → headers ≡ map header_for rs → bytes ≡ chunk_for rs → IsSpelled headers bytes (records_in headers bytes)
spelled_part headers bytes rs ordered all most headers_are bytes_are =
    subst (IsSpelled headers bytes) (sym (read_back headers bytes rs all headers_are bytes_are))
    (record {
      part = record { ordered = ordered; entities = all; most = omega (arith, most, chunk_length rs) };
      headers_are = headers_are;
      bytes_are = bytes_are;
    })

pub invariant_of-result : goal.invariant_of-result
invariant_of-result c =
    let records = c.args.records.now in
    let right : AllByRecursion IsRightRecord records = subst (AllByRecursion IsRightRecord) c.as_slice.ensures c.in_ok-slots.ensures.right in
    let headers = subst (λ (rs : List Record). headers_in c.in_ok-slots.slots.items ≡ map header_for rs) c.as_slice.ensures c.in_ok-slots.ensures.headers in
    let bytes = subst (λ (rs : List Record). c.in_ok-chunk.chunk.items ≡ chunk_for rs) c.as_slice-2.ensures c.in_ok-chunk.ensures in
    spelled_part (headers_in c.in_ok-slots.slots.items) c.in_ok-chunk.chunk.items records c.requires.ordered right c.requires.most headers bytes

pub returns : goal.returns
returns c =
    let records = c.args.records.now in
    let right : AllByRecursion IsRightRecord records = subst (AllByRecursion IsRightRecord) c.as_slice.ensures c.in_ok-slots.ensures.right in
    let headers = subst (λ (rs : List Record). headers_in c.in_ok-slots.slots.items ≡ map header_for rs) c.as_slice.ensures c.in_ok-slots.ensures.headers in
    let bytes = subst (λ (rs : List Record). c.in_ok-chunk.chunk.items ≡ chunk_for rs) c.as_slice-2.ensures c.in_ok-chunk.ensures in
    read_back (headers_in c.in_ok-slots.slots.items) c.in_ok-chunk.chunk.items records right headers bytes
