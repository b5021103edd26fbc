-- Ids and sizes stay right from store to store.
use Rattle.std.proofs.Common.{◌≡◌, ℕ, ◌≤◌, true, false, cond, ◌&&◌, ◌||◌, List, [], ◌∷◌, Option, Some, None, refl, sym, ap, subst, ◌∙◌, arith}
use Rattle.std.specs.Prelude.{nat_eq, nat_le, nat_lt, is_some}
use Rattle.std.specs.List.{AllByRecursion}
use Rattle.std.proofs.lemmas.Bool.{and_from, and_parts, eqb-true, ltb-true, lt-ltb}
use Rattle.graph_model.specs.Graph.{Graph, entity_of, entity_size, or_else}
use Rattle.graph_model.specs.Stores.{is_good_id}
use Rattle.graph_model.specs.declared.entity.Entity.{Entity}
use Rattle.graph_model.specs.declared.entity.Record.{Record}
use Rattle.graph_model.proofs.Graphs.{entity_of_put_all}
use Rattle.plain_storage.specs.Reading.{IsRightGraph, IsStorePayload}
use Rattle.plain_storage.specs.Stores.{IsObject}

pub right_start : IsRightGraph 1024 []
right_start = record { low = omega arith; high = omega arith; good_ids = λ x there. absurd cc; sizes = λ x entity found. absurd cc }

-- an id that is good stays good under a next id that is no less
pub good_id_stays : (before next x : ℕ) → before ≤ next → is_good_id before x ≡ true → is_good_id next x ≡ true
good_id_stays before next x le good = (elim (nat_eq x 1) as (λ b. (b || (nat_le 1024 x && nat_lt x before)) ≡ true → (b || (nat_le 1024 x && nat_lt x next)) ≡ true) [
  | true ↦ λ e. refl
  | false ↦ λ e. let t = and_parts (nat_le 1024 x) (nat_lt x before) e in let l = ltb-true x before t.1 in and_from (nat_le 1024 x) (nat_lt x next) t.0 (lt-ltb x next (omega arith))
]) good

-- the entity that is found is one of the objects
found_object : (next : ℕ) (rs : List Record) → AllByRecursion (IsObject next) rs → (x : ℕ) (entity : Entity) → entity_of rs x ≡ Some entity
    → (is_good_id next x ≡ true) × (entity_size entity ≤ 1048576)
found_object next [] objects x entity found = absurd cc
found_object next (r ∷ rs) objects x entity found =
    (elim (nat_eq x r.id) as (λ b. nat_eq x r.id ≡ b → cond b (Some r.entity) (entity_of rs x) ≡ Some entity → (is_good_id next x ≡ true) × (entity_size entity ≤ 1048576)) [
      | true ↦ λ e f. let same : r.entity ≡ entity = cc in
          (subst (λ (y : ℕ). is_good_id next y ≡ true) (sym (eqb-true x r.id e)) objects.0.1, subst (λ (v : Entity). entity_size v ≤ 1048576) same objects.0.0.size)
      | false ↦ λ e f. found_object next rs objects.1 x entity f
    ]) refl found

-- what is found after a store was an object of it, or there before
found_after : (before next : ℕ) (rs : List Record) (old : Graph) → before ≤ next → IsRightGraph before old → AllByRecursion (IsObject next) rs → (x : ℕ) (entity : Entity)
    → or_else (entity_of rs x) (entity_of old x) ≡ Some entity → (is_good_id next x ≡ true) × (entity_size entity ≤ 1048576)
found_after before next rs old le right objects x entity found =
    (elim (entity_of rs x) as (λ o. entity_of rs x ≡ o → or_else o (entity_of old x) ≡ Some entity → (is_good_id next x ≡ true) × (entity_size entity ≤ 1048576)) [
      | None ↦ λ e f. (good_id_stays before next x le (right.good_ids x (ap (λ (o : Option Entity). is_some o) f)), right.sizes x entity f)
      | Some v ↦ λ e f. found_object next rs objects x entity (e ∙ f)
    ]) refl found

some_of : (o : Option Entity) → is_some o ≡ true → (entity : Entity) × (o ≡ Some entity)
some_of None is = absurd cc
some_of (Some entity) is = (entity, refl)

pub right_more : (number before next : ℕ) (payload : List ℕ) (old new : Graph) → IsRightGraph before old → IsStorePayload number before payload next old new → IsRightGraph next new
right_more number before next payload old new right read =
    let rs = read.store.records in
    let le : before ≤ next = omega (arith, read.follows.no_less, read.next_is) in
    let objects : AllByRecursion (IsObject next) rs = subst (λ (n : ℕ). AllByRecursion (IsObject n) rs) (sym read.next_is) read.follows.objects in
    let each : (x : ℕ) (entity : Entity) → entity_of new x ≡ Some entity → (is_good_id next x ≡ true) × (entity_size entity ≤ 1048576) = λ x entity found.
    found_after before next rs old le right objects x entity (sym (entity_of_put_all rs old x) ∙ ap (λ (g : Graph). entity_of g x) (sym read.made) ∙ found) in
    record {
      low = omega (arith, le, right.low);
      high = omega (arith, read.follows.most, read.next_is);
      good_ids = λ x there. let e = some_of (entity_of new x) there in (each x e.0 e.1).0;
      sizes = λ x entity found. (each x entity found).1;
    }
