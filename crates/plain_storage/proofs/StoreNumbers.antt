-- The two numbers in front of a store's entities.
use Rattle.std.proofs.Common.{◌≡◌, ℕ, ◌≤◌, ◌<◌, ◌^◌, List, [], ◌∷◌, ◌++◌, length, drop, Option, Some, None, refl, sym, ap, ◌∙◌, length-append, arith}
use Rattle.std.specs.List.{flat_map, AllByRecursion}
use Rattle.std.proofs.lemmas.List.{drop-drop, length-drop}
use Rattle.field_bytes.specs.Fields.{bytes_of, number_at}
use Rattle.field_bytes.proofs.Laws.{IsBytes, IsBytes-drop, number_at-bytes_of, number_at-drop, drop-bytes_of, number_of_8}
use Rattle.entity_form.specs.Spelling.{numbers_bytes}
use Rattle.graph_model.specs.Graph.{Graph, ids, put_all}
use Rattle.graph_model.specs.Ids.{rises, rises_from}
use Rattle.graph_model.specs.declared.entity.Record.{Record}
use Rattle.graph_model.specs.declared.entity.StoreOp.{StoreOp}
use Rattle.std.proofs.lemmas.Bool.{and_from, lt-ltb, eqb-true, not-false}
use Rattle.std.specs.Prelude.{nat_lt, true, false, not}
use Rattle.std.specs.Option.{option_eq}
use lib.Dec.{eqb}
use Rattle.plain_storage.specs.Reading.{AreObjects, IsStorePayload}
use Rattle.plain_storage.specs.Stores.{record_bytes, payload_of, IsObject, MayFollow}
use Rattle.plain_storage.proofs.EntityFronts.{record_is_long}
use Rattle.plain_storage.proofs.PutOrder.{put_all_in_order, rises_from-rises}

abbrev pub two_numbers : ℕ → ℕ → List ℕ
two_numbers n m = numbers_bytes (n ∷ m ∷ [])

two_parts : (n m : ℕ) (rest : List ℕ) → two_numbers n m ++ rest ≡ bytes_of 8 n ++ (bytes_of 8 m ++ rest)
two_parts n m rest = refl

-- bytes with two numbers begin with their spellings
pub numbers_spelled : (bytes : List ℕ) (n m : ℕ) → IsBytes bytes → 16 < length bytes → number_at 8 bytes 0 ≡ Some n → number_at 8 bytes 8 ≡ Some m → bytes ≡ two_numbers n m ++ drop 16 bytes
numbers_spelled bytes n m fits long first second =
    let a = number_of_8 bytes n fits first in
    let b = number_of_8 (drop 8 bytes) m (IsBytes-drop 8 bytes fits) (number_at-drop 8 bytes 8 (omega arith) ∙ second) in
    a.parts ∙ ap (λ (l : List ℕ). bytes_of 8 n ++ l) (b.parts ∙ ap (λ (l : List ℕ). bytes_of 8 m ++ l) (drop-drop 8 8 bytes)) ∙ sym (two_parts n m (drop 16 bytes))

pub second_number : (bytes rest : List ℕ) (n m : ℕ) → m < 2 ^ 64 → bytes ≡ two_numbers n m ++ rest → number_at 8 bytes 8 ≡ Some m
second_number bytes rest n m small is =
    let parts : bytes ≡ bytes_of 8 n ++ (bytes_of 8 m ++ rest) = is ∙ two_parts n m rest in
    sym (number_at-drop 8 bytes 8 (omega (arith, ap length is))) ∙ ap (λ (l : List ℕ). number_at 8 l 0) (ap (drop 8) parts ∙ drop-bytes_of 8 n (bytes_of 8 m ++ rest))
    ∙ number_at-bytes_of 8 m rest (omega arith)

pub some_number : (x y : ℕ) (o : Option ℕ) → o ≡ Some x → o ≡ Some y → x ≡ y
some_number x y o p q = cc

pub same_option : (o : Option ℕ) (n : ℕ) → not (option_eq eqb o (Some n)) ≡ false → o ≡ Some n
same_option None n is = absurd cc
same_option (Some m) n is = ap (λ (k : ℕ). Some k) (eqb-true m n (not-false (eqb m n) is))

-- behind the numbers of a store stand its entities
pub store_behind : (number : ℕ) (op : StoreOp) (payload : List ℕ) → payload ≡ payload_of number op → drop 16 payload ≡ flat_map record_bytes op.records
store_behind number op payload is = ap (drop 16) is

some_bytes : (records : List Record) → 0 < length records → 0 < length (flat_map record_bytes records)
some_bytes [] some = absurd (omega arith)
some_bytes (r ∷ records) some = omega (arith, length-append (record_bytes r) (flat_map record_bytes records), record_is_long r)

pub store_is_some : (before : ℕ) (op : StoreOp) → MayFollow before op → 0 < length (flat_map record_bytes op.records)
store_is_some before op follows = some_bytes op.records follows.some

rises-from_0 : (next_id : ℕ) (records : List Record) → AllByRecursion (IsObject next_id) records → rises (ids records) ≡ true → rises_from 0 (ids records) ≡ true
rises-from_0 next_id [] objects order = refl
rises-from_0 next_id (r ∷ records) objects order = and_from (nat_lt 0 r.id) (rises_from r.id (ids records)) (lt-ltb 0 r.id (omega (arith, objects.0.0.id))) order

-- the entities of a store that may follow are objects
pub store_objects : (before : ℕ) (op : StoreOp) (bytes : List ℕ) (old : Graph) → MayFollow before op → bytes ≡ flat_map record_bytes op.records
    → AreObjects 0 op.next_id bytes old (put_all op.records old)
store_objects before op bytes old follows spelled = record {
  records = op.records;
  order = rises-from_0 op.next_id op.records follows.objects follows.order;
  objects = follows.objects;
  spelled = spelled;
  made = sym (put_all_in_order op.records old follows.order);
}

some_records : (bytes : List ℕ) (records : List Record) → 0 < length bytes → bytes ≡ flat_map record_bytes records → 0 < length records
some_records bytes [] some is = absurd (omega (arith, ap length is))
some_records bytes (r ∷ records) some is = omega arith

-- objects behind two numbers that may follow are a store
pub store_read : (number before next_id : ℕ) (payload : List ℕ) (old new : Graph) → payload ≡ two_numbers number next_id ++ drop 16 payload → 16 < length payload
    → before ≤ next_id → next_id ≤ 2 ^ 48 → AreObjects 0 next_id (drop 16 payload) old new → IsStorePayload number before payload next_id old new
store_read number before next_id payload old new numbers long low high these =
    let order : rises (ids these.records) ≡ true = rises_from-rises 0 (ids these.records) these.order in
    record {
      store = record { records = these.records; next_id = next_id };
      follows = record {
        some = some_records (drop 16 payload) these.records (omega (arith, length-drop 16 payload)) these.spelled;
        order = order;
        objects = these.objects;
        no_less = low;
        most = high;
      };
      spelled = numbers ∙ ap (λ (l : List ℕ). two_numbers number next_id ++ l) these.spelled;
      next_is = refl;
      made = these.made ∙ put_all_in_order these.records old order;
    }
