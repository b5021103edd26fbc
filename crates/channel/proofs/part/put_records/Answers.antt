use Rattle.std.proofs.Common.{◌≡◌, ℕ, ◌+◌, ◌<◌, ◌≤◌, List, [], ◌∷◌, ◌++◌, length, get_or, take, drop, ap, sym, ◌∙◌, arith, take-append-drop}
use Rattle.std.proofs.lemmas.Grind.{flat_map-append}
use Rattle.std.proofs.lemmas.List.{append-nil, take_more}
use Rattle.field_bytes.specs.Fields.{with_bytes}
use Rattle.field_bytes.proofs.Laws.{with_bytes-behind}
use Rattle.graph_model.specs.Graph.{entity_size}
use Rattle.graph_model.specs.Stores.{total_size}
use Rattle.graph_model.specs.declared.entity.Record.{Record}
use Rattle.channel.specs.Entities.{chunk_for}
use Rattle.channel.proofs.Spelled.{spelled}
use Rattle.channel.proofs.Chunks.{chunk_length}
use Rattle.channel.proofs.part.put_records.Goals as goal

total_size-append : (rs ss : List Record) → total_size (rs ++ ss) ≡ total_size rs + total_size ss
total_size-append [] ss = omega arith
total_size-append (r ∷ rs) ss = omega (arith, total_size-append rs ss)

module _ (rs : List Record) (i : ℕ) (r : Record) (within : i < length rs) (r_is : r ≡ get_or rs i r) where
  taken : take (i + 1) rs ≡ take i rs ++ r ∷ []
  taken = take_more rs i r within ∙ ap (λ (q : Record). take i rs ++ q ∷ []) (sym r_is)

  size_more : total_size (take (i + 1) rs) ≡ total_size (take i rs) + entity_size r.entity
  size_more = let parts = total_size-append (take i rs) (r ∷ []) in let more = ap total_size taken in omega arith

  size_within : total_size (take (i + 1) rs) ≤ total_size rs
  size_within =
      let parts = total_size-append (take (i + 1) rs) (drop (i + 1) rs) in
      let whole = ap total_size (take-append-drop (i + 1) rs) in
      omega arith

  chunk_more : chunk_for (take (i + 1) rs) ≡ chunk_for (take i rs) ++ spelled r
  chunk_more = ap chunk_for taken ∙ flat_map-append spelled (take i rs) (r ∷ []) ∙ ap (λ (l : List ℕ). chunk_for (take i rs) ++ l) (append-nil (spelled r))

  -- the next record is written behind those before
  written_more : (out : List ℕ) (place : ℕ) → place ≡ total_size (take i rs) → total_size rs ≤ length out
      → with_bytes (with_bytes out 0 (chunk_for (take i rs))) place (spelled r) ≡ with_bytes out 0 (chunk_for (take (i + 1) rs))
  written_more out place place_is room =
      let before = chunk_for (take i rs) in
      let here : place ≡ 0 + length before = omega (arith, chunk_length (take i rs), place_is) in
      ap (λ (p : ℕ). with_bytes (with_bytes out 0 before) p (spelled r)) here
      ∙ with_bytes-behind out 0 before (spelled r) (omega (arith, chunk_length (take i rs), size_more, size_within, room))
      ∙ ap (with_bytes out 0) (sym chunk_more)

pub write_entity-place-requires-clause-room : goal.write_entity-place-requires-clause-room
write_entity-place-requires-clause-room c =
    let l = c.loop-record in
    let more = size_more c.args.records.now l.record-index c.record-item.result c.loop-record-test.true c.record-item.is in
    let most = size_within c.args.records.now l.record-index c.record-item.result c.loop-record-test.true c.record-item.is in
    omega (arith, more, most, l.invariant.place, c.requires.room)

pub loop-record-preserved : goal.loop-record-preserved
loop-record-preserved c =
    let l = c.loop-record in
    let records = c.args.records.now in
    record {
      place = rw c.write_entity-place.ensures.place (omega (arith, l.invariant.place, size_more records l.record-index c.record-item.result c.loop-record-test.true c.record-item.is));
      written = rw (c.write_entity-place.ensures.written, l.invariant.written)
          (written_more records l.record-index c.record-item.result c.loop-record-test.true c.record-item.is c.args.out.now l.place l.invariant.place c.requires.room);
    }
