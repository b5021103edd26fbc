use Rattle.std.proofs.Common.{◌≡◌, ◌+◌, ℕ, List, ◌++◌, length, take, drop, ap, sym, ◌∙◌, arith}
use Rattle.std.proofs.lemmas.List.{append-nil, drop_all, take_at}
use Rattle.field_bytes.specs.Fields.{with_bytes}
use Rattle.channel.specs.Entities.{chunk_for}
use Rattle.channel.proofs.Chunks.{chunk_length}
use Rattle.channel.proofs.part.bytes_of.Goals as goal

-- bytes that are as many as were written are these
filled : (items chunk new : List ℕ) (n : ℕ) → new ≡ with_bytes items 0 chunk → length items ≡ length chunk → n ≡ length chunk → take n (new ++ drop (length new) items) ≡ chunk
filled items chunk new n new_is same n_is =
    let over : with_bytes items 0 chunk ≡ chunk = ap (λ (l : List ℕ). chunk ++ l) (drop_all (0 + length chunk) items (omega (arith, same))) ∙ append-nil chunk in
    ap (λ (l : List ℕ). take n (l ++ drop (length new) items)) (new_is ∙ over) ∙ take_at chunk (drop (length new) items) n (sym n_is)

pub returns : goal.returns
returns c =
    let chunk = chunk_for c.args.records.now in
    let items = c.in_ok-bytes.bytes.items in
    let written = c.put_records.ensures ∙ ap (λ (l : List ℕ). with_bytes l 0 chunk) c.deref_mut.ensures.value in
    let size : length items ≡ length chunk = omega (arith, c.in_ok-bytes.ensures, c.total-length.ensures, chunk_length c.args.records.now) in
    let count : c.in_ok-bytes.bytes.len ≡ length chunk = omega (arith, size, ap length c.deref_mut.ensures.value, c.deref_mut.ensures.len) in
    filled items chunk c.put_records.new.out c.in_ok-bytes.bytes.len written size count
