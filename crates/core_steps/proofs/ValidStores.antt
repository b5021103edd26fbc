-- What a valid store says of itself and of each id that it lists.
use Rattle.std.proofs.Common.{◌≡◌, ◌≤◌, ◌^◌, ℕ, Bool, true, false, cond, not, ◌&&◌, ◌||◌, List, [], ◌∷◌, Option, Some, None, refl, sym, subst, arith, ⊎_elim}
use Rattle.std.specs.Prelude.{nat_eq, nat_le, nat_lt, is_some}
use Rattle.std.specs.List.{list_all}
use Rattle.std.proofs.lemmas.Bool.{and_from, and_parts, eqb-true, leb-true, lt-ltb, ltb-true, or_cases, or_left, or_right}
use Rattle.graph_model.specs.declared.entity.Entity.{Entity}
use Rattle.graph_model.specs.declared.entity.Record.{Record}
use Rattle.graph_model.specs.declared.entity.StoreOp.{StoreOp}
use Rattle.graph_model.specs.Ids.{has, rises}
use Rattle.graph_model.specs.Graph.{Graph, edges, entity_of, entity_size, ids, lists}
use Rattle.graph_model.specs.Stores.{is_good_edge, is_good_id, is_good_record, is_held_or_root, is_valid_store, total_size}

-- a record of a list that passes a test
pub listed_passes : (test : Record → Bool) (rs : List Record) (i : ℕ) (e : Entity) → list_all test rs ≡ true → entity_of rs i ≡ Some e
    → test (record { id = i; entity = e }) ≡ true
listed_passes test [] i e t s = cc
listed_passes test (r ∷ rs) i e t s = let u = and_parts (test r) (list_all test rs) t in
    (elim (nat_eq i r.id) as (λ b. nat_eq i r.id ≡ b → cond b (Some r.entity) (entity_of rs i) ≡ Some e → test (record { id = i; entity = e }) ≡ true) [
      | true ↦ λ f s. let same : i ≡ r.id = eqb-true i r.id f in let ent : r.entity ≡ e = cc in
          subst (λ (j : ℕ). test (record { id = j; entity = e }) ≡ true) (sym same)
          (subst (λ (d : Entity). test (record { id = r.id; entity = d }) ≡ true) ent u.0)
      | false ↦ λ f s. listed_passes test rs i e u.1 s
    ]) refl s

pub some_entity : (o : Option Entity) → is_some o ≡ true → (e : Entity) × (o ≡ Some e)
some_entity None t = cc
some_entity (Some e) t = (e, refl)

pub good_id_more : (n m x : ℕ) → n ≤ m → is_good_id n x ≡ true → is_good_id m x ≡ true
good_id_more n m x l g = ⊎_elim (λ s. or_left (nat_eq x 1) (nat_le 1024 x && nat_lt x m) s)
    (λ s. let t = and_parts (nat_le 1024 x) (nat_lt x n) s in let u = ltb-true x n t.1 in
    or_right (nat_eq x 1) (nat_le 1024 x && nat_lt x m) (and_from (nat_le 1024 x) (nat_lt x m) t.0 (lt-ltb x m (omega arith))))
    (or_cases (nat_eq x 1) (nat_le 1024 x && nat_lt x n) g)

pub record ValidStore (g : Graph) (held_ids : List ℕ) (op : StoreOp) : Type 0 where
  pub next_high : op.next_id ≤ 2 ^ 48
  pub ordered : rises (ids op.records) ≡ true
  pub records : list_all (is_good_record g held_ids op) op.records ≡ true

pub valid_store : (g : Graph) (held_ids : List ℕ) (next_id : ℕ) (op : StoreOp) → is_valid_store g held_ids next_id op ≡ true → ValidStore g held_ids op
valid_store g held_ids next_id op may = let good = list_all (is_good_record g held_ids op) op.records in
    let small = nat_le (total_size op.records) 16777216 in let high = nat_le op.next_id (2 ^ 48) in
    let p0 = and_parts (nat_le next_id op.next_id) (high && (rises (ids op.records) && (small && good))) may in
    let p1 = and_parts high (rises (ids op.records) && (small && good)) p0.1 in
    let p2 = and_parts (rises (ids op.records)) (small && good) p1.1 in
    record { next_high = leb-true op.next_id (2 ^ 48) p1.0; ordered = p2.0; records = (and_parts small good p2.1).1 }

-- a listed id
pub record ListedWell (g : Graph) (held_ids : List ℕ) (op : StoreOp) (i : ℕ) (e : Entity) : Type 0 where
  pub id : is_good_id (2 ^ 48) i ≡ true
  pub old : (not (lists g i) || is_held_or_root held_ids i) ≡ true
  pub edges_ : list_all (is_good_edge g held_ids op i) (edges e) ≡ true

pub listed_well : (g : Graph) (held_ids : List ℕ) (next_id : ℕ) (op : StoreOp) → is_valid_store g held_ids next_id op ≡ true
    → (i : ℕ) (e : Entity) → entity_of op.records i ≡ Some e → ListedWell g held_ids op i e
listed_well g held_ids next_id op may i e s = let v = valid_store g held_ids next_id op may in
    let q = listed_passes (is_good_record g held_ids op) op.records i e v.records s in
    let old = not (lists g i) || is_held_or_root held_ids i in let led = list_all (is_good_edge g held_ids op i) (edges e) in
    let sized = nat_le 1 e.type_id && nat_le (entity_size e) 1048576 in
    let q0 = and_parts (is_good_id op.next_id i) (old && (led && sized)) q in
    let q1 = and_parts old (led && sized) q0.1 in
    record { id = good_id_more op.next_id (2 ^ 48) i v.next_high q0.0; old = q1.0; edges_ = (and_parts led sized q1.1).0 }

pub list_all_at : (test : ℕ → Bool) (xs : List ℕ) (j : ℕ) → list_all test xs ≡ true → has j xs ≡ true → test j ≡ true
list_all_at test [] j e h = cc
list_all_at test (x ∷ xs) j e h = let t = and_parts (test x) (list_all test xs) e in
    ⊎_elim (λ s. subst (λ (z : ℕ). test z ≡ true) (sym (eqb-true j x s)) t.0) (λ s. list_all_at test xs j t.1 s) (or_cases (nat_eq j x) (has j xs) h)
