use Rattle.std.proofs.Common.{◌≡◌, ℕ, ◌+◌, List, [], ◌∷◌, length, drop, map, refl, ap, sym, ◌∙◌, arith}
use Rattle.std.proofs.lemmas.List.{length-map, take_at}
use Rattle.std.specs.Prelude.{sum_by}
use Rattle.std.specs.Ordering.{nat_cmp}
use Rattle.std.specs.FinMap.{FinMap, get}
use Rattle.std.proofs.lemmas.Simd.{map-map}
use Rattle.std.proofs.lemmas.List.Folds.{fold-map}
use Rattle.std.proofs.lemmas.List.Sums.{sum_by-cons}
use Rattle.graph_model.specs.Ids.{rises}
use Rattle.graph_model.specs.Graph.{ids}
use Rattle.graph_model.specs.Stores.{total_size}
use Rattle.graph_model.specs.declared.entity.Record.{Record}
use Rattle.entity_form.specs.declared.places.Header.{Header}
use Rattle.entity_index.specs.declared.row.Row.{Row}
use Rattle.channel.specs.Entities.{header_for}
use Rattle.channel.specs.Parts.{headers_in, records_in}
use Rattle.channel.specs.Taking.{with_before, slot_for}
use Rattle.channel.specs.declared.part.Slot.{Slot}
use Rattle.channel.proofs.Chunks.{chunk_length}
use Rattle.channel.proofs.part.Part.put_rows.Goals as goal

total_of_headers : (rs : List Record) → sum_by (λ (h : Header). h.length) (map header_for rs) ≡ total_size rs
total_of_headers [] = refl
total_of_headers (r ∷ rs) = omega (arith, sum_by-cons (λ (h : Header). h.length) (header_for r) (map header_for rs), total_of_headers rs)

module _ (slots : List Slot) (rs : List Record) (are : headers_in slots ≡ map header_for rs) where
  same_count : length slots ≡ length rs
  same_count = sym (length-map slots (λ (s : Slot). s.header)) ∙ ap length are ∙ length-map rs header_for

  same_ids : map (λ (s : Slot). s.header.id) slots ≡ ids rs
  same_ids =
      sym (map-map (λ (h : Header). h.id) (λ (s : Slot). s.header) slots)
      ∙ ap (map (λ (h : Header). h.id)) are
      ∙ map-map (λ (h : Header). h.id) header_for rs

  same_total : sum_by (λ (s : Slot). s.header.length) slots ≡ total_size rs
  same_total =
      sym (fold-map (λ (a : ℕ) (h : Header). a + h.length) (λ (s : Slot). s.header) 0 slots)
      ∙ ap (sum_by (λ (h : Header). h.length)) are
      ∙ total_of_headers rs

  same_slots : (was : FinMap nat_cmp Row) → map (with_before was) slots ≡ map (slot_for was) rs
  same_slots was =
      let slot : Header → Slot = λ h. record { header = h; before = get was h.id } in
      sym (map-map slot (λ (s : Slot). s.header) slots) ∙ ap (map slot) are ∙ map-map slot header_for rs

pub put_rows-requires-clause-ordered : goal.put_rows-requires-clause-ordered
put_rows-requires-clause-ordered c =
    let slots = c.self.inside.slots.items in
    let rs = records_in (headers_in slots) c.self.inside.chunk.items in
    ap (λ (l : List Slot). rises (map (λ (s : Slot). s.header.id) l)) c.deref_mut.ensures.value
    ∙ ap rises (same_ids slots rs c.self.invariant.headers_are)
    ∙ c.self.invariant.part.ordered

pub put_rows-requires-clause-fits : goal.put_rows-requires-clause-fits
put_rows-requires-clause-fits c =
    let slots = c.self.inside.slots.items in
    let rs = records_in (headers_in slots) c.self.inside.chunk.items in
    let total = ap (sum_by (λ (s : Slot). s.header.length)) c.deref_mut.ensures.value ∙ same_total slots rs c.self.invariant.headers_are in
    omega (arith, total, chunk_length rs, c.self.invariant.part.most, c.requires.low)

pub returns-clause-slots : goal.returns-clause-slots
returns-clause-slots c =
    let slots = c.self.inside.slots.items in
    let rs = records_in (headers_in slots) c.self.inside.chunk.items in
    let was = c.args.index.now.contents in
    let new = c.put_rows.new.slots in
    let put : new ≡ map (with_before was) slots = c.put_rows.ensures.slots ∙ ap (map (with_before was)) c.deref_mut.ensures.value in
    let count : length new ≡ c.self.inside.slots.len =
    ap length put ∙ length-map slots (with_before was) ∙ sym (ap length c.deref_mut.ensures.value) ∙ c.deref_mut.ensures.len in
    take_at new (drop (length new) slots) c.self.inside.slots.len count
    ∙ put
    ∙ same_slots slots rs c.self.invariant.headers_are was
    ∙ ap (map (slot_for was)) c.self.view_is
