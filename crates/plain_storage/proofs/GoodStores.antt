-- A store that may be kept is good.
use Rattle.std.proofs.Common.{inl, inr, ◌≡◌, ◌≤◌, ◌^◌, [], ◌∷◌, ℕ, true, List, arith, nat_eq, nat_le, ◌||◌, not}
use Rattle.std.specs.List.{AllByRecursion, list_all}
use Rattle.std.proofs.lemmas.Bool.{and_parts, leb-true, or_cases, eqb-true}
use Rattle.graph_model.specs.Graph.{Graph, edges, entity_size, ids, lists}
use Rattle.graph_model.specs.Ids.{rises}
use Rattle.graph_model.specs.Stores.{is_good_edge, is_good_id, is_good_record, is_held_or_root, total_size}
use Rattle.graph_model.specs.declared.entity.Record.{Record}
use Rattle.graph_model.specs.declared.entity.StoreOp.{StoreOp}
use Rattle.plain_storage.specs.Keeping.{MayKeep, Plain}
use Rattle.plain_storage.specs.Serving.{IsGoodRecord, IsGoodStore}

good_id : (next x : ℕ) → is_good_id next x ≡ true → 1 ≤ x
good_id next x good = elim (or_cases (nat_eq x 1) _ good) [
  | inl one ↦ let is = eqb-true x 1 one in omega arith
  | inr high ↦ let low = leb-true 1024 x (and_parts (nat_le 1024 x) _ high).0 in omega arith
]

good_record : (g : Graph) (held : List ℕ) (op : StoreOp) (r : Record) → is_good_record g held op r ≡ true → IsGoodRecord r × (is_good_id op.next_id r.id ≡ true)
good_record g held op r good =
    let a = and_parts (is_good_id op.next_id r.id) _ good in
    let b = and_parts (not (lists g r.id) || is_held_or_root held r.id) _ a.1 in
    let d = and_parts (list_all (is_good_edge g held op r.id) (edges r.entity)) _ b.1 in
    let e = and_parts (nat_le 1 r.entity.type_id) _ d.1 in
    (record { id = good_id op.next_id r.id a.0; type_id = leb-true 1 r.entity.type_id e.0; size = leb-true (entity_size r.entity) 1048576 e.1 }, a.0)

module _ (g : Graph) (held : List ℕ) (op : StoreOp) where
  good_records : (rs : List Record) → list_all (is_good_record g held op) rs ≡ true → AllByRecursion IsGoodRecord rs × AllByRecursion (λ r. is_good_id op.next_id r.id ≡ true) rs
  good_records [] good = (tt, tt)
  good_records (r ∷ rs) good =
      let both = and_parts (is_good_record g held op r) (list_all (is_good_record g held op) rs) good in
      let first = good_record g held op r both.0 in
      let rest = good_records rs both.1 in
      ((first.0, rest.0), (first.1, rest.1))

-- and does not lower the next id
pub good_store : (p : Plain) (op : StoreOp) → MayKeep p op → IsGoodStore op × (p.next_id ≤ op.next_id)
good_store p op may =
    let a = and_parts (nat_le p.next_id op.next_id) _ may.valid in
    let b = and_parts (nat_le op.next_id (2 ^ 48)) _ a.1 in
    let d = and_parts (rises (ids op.records)) _ b.1 in
    let e = and_parts (nat_le (total_size op.records) 16777216) _ d.1 in
    let good = good_records p.graph p.held op op.records e.1 in
    (record { some = may.some; order = d.0; good = good.0; good_ids = good.1; fits = may.fits; most = leb-true op.next_id (2 ^ 48) b.0 }, leb-true p.next_id op.next_id a.0)
