use Rattle.std.proofs.Common.{◌≡◌, ℕ, ◌+◌, ◌<◌, ◌≤◌, true, List, [], ◌∷◌, ◌++◌, length, map, take, drop, get_or, set, Option, refl, ap, sym, subst, ◌∙◌, arith, append_assoc, length-take, Bool, false, if◌then◌else◌, None}
use Rattle.std.specs.Prelude.{nat_lt, sum_by}
use Rattle.std.specs.List.{AllByRecursion}
use Rattle.std.specs.Ordering.{nat_cmp}
use Rattle.std.specs.FinMap.{FinMap, get, insert}
use Rattle.std.proofs.lemmas.Bool.{and_parts, ltb-true}
use Rattle.std.proofs.lemmas.List.{drop_more, map_more, set_at, get_or_at, get_or_default, length-map}
use Rattle.std.proofs.lemmas.List.Sums.{sum_by-cons}
use Rattle.graph_model.specs.Ids.{rises, rises_from}
use Rattle.oid_table.specs.MapLaws.{get-insert_other}
use Rattle.entity_index.specs.declared.row.Row.{Row}
use Rattle.channel.specs.Parts.{headers_in}
use Rattle.channel.specs.Taking.{row_at, rows_behind, with_before}
use Rattle.channel.specs.declared.part.Slot.{Slot}
use Rattle.channel.proofs.part.put_rows.Invariants.{id_of, size_of, ArePut}
use Rattle.channel.proofs.part.put_rows.Goals as goal

-- the id has the row that it had
abbrev IsSame : FinMap nat_cmp Row → FinMap nat_cmp Row → Slot → Type 0
IsSame was now s = get now s.header.id ≡ get was s.header.id

-- a lower id's new row leaves those of the others
others_same : (was now : FinMap nat_cmp Row) (id : ℕ) (row : Row) (slots : List Slot) → rises_from id (map id_of slots) ≡ true → AllByRecursion (IsSame was now) slots
    → AllByRecursion (IsSame was (insert now id row)) slots
others_same was now id row slots rise same = from id slots (omega arith) rise same
  where
    from : (low : ℕ) (slots : List Slot) → id ≤ low → rises_from low (map id_of slots) ≡ true → AllByRecursion (IsSame was now) slots
        → AllByRecursion (IsSame was (insert now id row)) slots
    from low [] le rise same = tt
    from low (s ∷ slots) le rise same =
        let t = and_parts (nat_lt low s.header.id) (rises_from s.header.id (map id_of slots)) rise in
        let above : low < s.header.id = ltb-true low s.header.id t.0 in
        (get-insert_other now id row s.header.id (λ e. omega (arith, e, le, above)) ∙ same.0, from s.header.id slots (omega (arith, le, above)) t.1 same.1)

rises_behind : (id : ℕ) (ids : List ℕ) → rises_from id ids ≡ true → rises ids ≡ true
rises_behind id [] rise = refl
rises_behind id (x ∷ xs) rise = (and_parts (nat_lt id x) (rises_from x xs) rise).1

module _ (odd : Bool) (old : List Slot) (was : FinMap nat_cmp Row) (file start i : ℕ) (slots : List Slot) (now : FinMap nat_cmp Row) (at : ℕ) (s : Slot) where
  module _ (within : i < length old) (s_is : s ≡ get_or old i s) where
    parts : drop i old ≡ s ∷ drop (i + 1) old
    parts = drop_more old i s within ∙ ap (λ (q : Slot). q ∷ drop (i + 1) old) (sym s_is)

    front_more : map (with_before was) (take (i + 1) old) ≡ map (with_before was) (take i old) ++ with_before was s ∷ []
    front_more = map_more (with_before was) old i s within ∙ ap (λ (q : Slot). map (with_before was) (take i old) ++ with_before was q ∷ []) (sym s_is)

    -- the next slot gets its row
    next_put : ArePut odd old was file start i slots now at
        → ArePut odd old was file start (i + 1) (set slots i (with_before now s)) (insert now s.header.id (row_at odd file at s.header)) (at + s.header.length)
    next_put put =
        let more = drop (i + 1) old in
        let front = map (with_before was) (take i old) in
        let same : AllByRecursion (IsSame was now) (s ∷ more) = subst (AllByRecursion (IsSame was now)) parts put.same in
        let rise : rises (map id_of (s ∷ more)) ≡ true = subst (λ (rest : List Slot). rises (map id_of rest) ≡ true) parts put.ordered in
        let sum : sum_by size_of (drop i old) ≡ s.header.length + sum_by size_of more = ap (sum_by size_of) parts ∙ sum_by-cons size_of s more in
        let as_was : with_before now s ≡ with_before was s = ap (λ (before : Option Row). record s { before = before }) same.0 in
        let long : length front ≡ i = length-map (take i old) (with_before was) ∙ omega (arith, length-take i old, within) in
        record {
          rows = sym (ap (λ (rest : List Slot). rows_behind odd file at (headers_in rest) now) parts) ∙ put.rows;
          slots_are =
              ap (λ (l : List Slot). set l i (with_before now s)) (put.slots_are ∙ ap (λ (rest : List Slot). front ++ rest) parts)
              ∙ set_at front s more (with_before now s) i long
              ∙ ap (λ (q : Slot). front ++ q ∷ more) as_was
              ∙ sym (append_assoc front (with_before was s ∷ []) more)
              ∙ ap (λ (l : List Slot). l ++ more) (sym front_more);
          same = others_same was now s.header.id (row_at odd file at s.header) more rise same.1;
          ordered = rises_behind s.header.id (map id_of more) rise;
          fits = omega (arith, sum, put.fits);
        }

-- what stands at a place behind the slots that have their rows
read_behind : (old : List Slot) (was : FinMap nat_cmp Row) (i : ℕ) (slots : List Slot) (d : Slot) → i < length old → slots ≡ map (with_before was) (take i old) ++ drop i old
    → get_or slots i d ≡ get_or old i d
read_behind old was i slots d within slots_are =
    let front = map (with_before was) (take i old) in
    let long : length front ≡ i = length-map (take i old) (with_before was) ∙ omega (arith, length-take i old, within) in
    ap (λ (l : List Slot). get_or l i d) (slots_are ∙ ap (λ (rest : List Slot). front ++ rest) (drop_more old i d within))
    ∙ get_or_at front (get_or old i d) (drop (i + 1) old) d i long

-- the same by what the calls answer
record IsNext (odd : Bool) (slots : List Slot) (i file at : ℕ) (now : FinMap nat_cmp Row) (d s : Slot) (before : Option Row) (row : Row) (new : FinMap nat_cmp Row) : Type 0 where
  pub item : s ≡ get_or slots i d
  pub before_is : before ≡ get now s.header.id
  pub row_is : row ≡ row_at odd file at s.header
  pub new_is : new ≡ insert now s.header.id row

put_by_calls : (odd : Bool) (old : List Slot) (was : FinMap nat_cmp Row) (file start i : ℕ) (slots : List Slot) (now : FinMap nat_cmp Row) (at : ℕ)
    (d s : Slot) (before : Option Row) (row : Row) (new : FinMap nat_cmp Row)
    → i < length old → ArePut odd old was file start i slots now at → IsNext odd slots i file at now d s before row new
    → ArePut odd old was file start (i + 1) (set slots i (record { header = s.header; before = before })) new (at + s.header.length)
put_by_calls odd old was file start i slots now at d s before row new within put next =
    let read : s ≡ get_or old i s = next.item ∙ read_behind old was i slots d within put.slots_are ∙ get_or_default old i d s within in
    let at_next = at + s.header.length in
    let slots_with : Option Row → List Slot = λ b. set slots i (record { header = s.header; before = b }) in
    subst (λ (m : FinMap nat_cmp Row). ArePut odd old was file start (i + 1) (slots_with before) m at_next) (sym (next.new_is ∙ ap (insert now s.header.id) next.row_is))
    (subst (λ (b : Option Row). ArePut odd old was file start (i + 1) (slots_with b) (insert now s.header.id (row_at odd file at s.header)) at_next) (sym next.before_is)
    (next_put odd old was file start i slots now at s within read put))

less_room : (n m : ℕ) (b : Bool) → n + (if b then 0 else 1) ≡ m → m ≤ n + 1
less_room n m true e = omega (arith, e)
less_room n m false e = omega (arith, e)

pub loop-slot-preserved : goal.loop-slot-preserved
loop-slot-preserved c =
    let l = c.loop-slot in
    let none : Slot = record { header = record { length = 0; type_id = 0; id = 0; count = 0 }; before = None } in
    let s : Slot = get_or l.slots l.slot-index none in
    let within : l.slot-index < length c.args.slots.now = omega arith in
    let next : IsNext c.args.swept_odd l.slots l.slot-index c.args.place.file l.at l.index.contents none s c.copied-slot.result c.stored_at.result c.put.new.self.contents =
    record { item = refl; before_is = c.copied-slot.ensures ∙ c.row.ensures; row_is = c.stored_at.ensures; new_is = c.put.ensures.rows } in
    record {
      put = put_by_calls c.args.swept_odd c.args.slots.now c.args.index.now.contents c.args.place.file c.args.place.at l.slot-index l.slots l.index.contents l.at
          none s c.copied-slot.result c.stored_at.result c.put.new.self.contents within l.invariant.put next;
      room = omega (arith, less_room c.put.new.self.spare l.index.spare _ c.put.ensures.spare, l.invariant.room);
    }
