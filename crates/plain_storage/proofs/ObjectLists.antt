-- Objects, one behind the other.
use Rattle.std.proofs.Common.{◌≡◌, ℕ, ◌<◌, true, List, [], ◌∷◌, ◌++◌, length, refl, sym, ap, subst, ◌∙◌, length-append, arith}
use Rattle.std.specs.Prelude.{nat_lt}
use Rattle.std.specs.List.{flat_map, AllByRecursion}
use Rattle.std.proofs.lemmas.Bool.{and_from, and_parts, lt-ltb, ltb-true}
use Rattle.graph_model.specs.Graph.{Graph, ids, put}
use Rattle.graph_model.specs.Ids.{rises_from}
use Rattle.graph_model.specs.declared.entity.Record.{Record}
use Rattle.plain_storage.specs.Reading.{AreObjects, put_each}
use Rattle.plain_storage.specs.Stores.{record_bytes, IsObject}
use Rattle.plain_storage.proofs.EntityFronts.{Fits, same_front, record_is_long}

-- an object in front of others
pub objects_more : (last next_id : ℕ) (r : Record) (bytes more : List ℕ) (old new : Graph) → last < r.id → IsObject next_id r → bytes ≡ record_bytes r ++ more
    → AreObjects r.id next_id more (put r old) new → AreObjects last next_id bytes old new
objects_more last next_id r bytes more old new above is parts others = record {
  records = r ∷ others.records;
  order = and_from (nat_lt last r.id) (rises_from r.id (ids others.records)) (lt-ltb last r.id above) others.order;
  objects = (is, others.objects);
  spelled = parts ∙ ap (λ (l : List ℕ). record_bytes r ++ l) others.spelled;
  made = others.made;
}

-- no object is left
pub objects_end : (last next_id : ℕ) (graph : Graph) → AreObjects last next_id [] graph graph
objects_end last next_id graph = record { records = []; order = refl; objects = tt; spelled = refl; made = refl }

-- the object in front, and the others
pub record IsFirstObject (last next_id : ℕ) (bytes : List ℕ) (old new : Graph) : Type 0 where
  pub first : Record
  pub above : last < first.id
  pub is : IsObject next_id first
  pub more : List ℕ
  pub parts : bytes ≡ record_bytes first ++ more
  pub others : AreObjects first.id next_id more (put first old) new

first_of_these : (last next_id : ℕ) (bytes : List ℕ) (old new : Graph) (records : List Record) → 0 < length bytes → rises_from last (ids records) ≡ true
    → AllByRecursion (IsObject next_id) records → bytes ≡ flat_map record_bytes records → new ≡ put_each records old → IsFirstObject last next_id bytes old new
first_of_these last next_id bytes old new [] some order objects spelled made = absurd (omega (arith, ap length spelled))
first_of_these last next_id bytes old new (r ∷ records) some order objects spelled made =
    let t = and_parts (nat_lt last r.id) (rises_from r.id (ids records)) order in
    record {
      first = r;
      above = ltb-true last r.id t.0;
      is = objects.0;
      more = flat_map record_bytes records;
      parts = spelled;
      others = record { records = records; order = t.1; objects = objects.1; spelled = refl; made = made };
    }

pub first_object : (last next_id : ℕ) (bytes : List ℕ) (old new : Graph) → 0 < length bytes → AreObjects last next_id bytes old new → IsFirstObject last next_id bytes old new
first_object last next_id bytes old new some these = first_of_these last next_id bytes old new these.records some these.order these.objects these.spelled these.made

-- behind the object that was read
pub objects_rest : (last next_id : ℕ) (r : Record) (bytes more : List ℕ) (old new : Graph) → 0 < length bytes → Fits r → bytes ≡ record_bytes r ++ more
    → AreObjects last next_id bytes old new → (last < r.id) × IsObject next_id r × AreObjects r.id next_id more (put r old) new
objects_rest last next_id r bytes more old new some fits parts these =
    let first = first_object last next_id bytes old new some these in
    let one = same_front first.first r first.more more first.is.0 fits (sym first.parts ∙ parts) in (
      subst (λ (s : Record). last < s.id) one.same first.above,
      subst (λ (s : Record). IsObject next_id s) one.same first.is,
      subst (λ (l : List ℕ). AreObjects r.id next_id l (put r old) new) one.behind (subst (λ (s : Record). AreObjects s.id next_id first.more (put s old) new) one.same first.others),
    )

-- the same bytes are the same objects
pub records_same : (next_id next_id' : ℕ) (a b : List Record) (bytes : List ℕ) → AllByRecursion (IsObject next_id) a → AllByRecursion (IsObject next_id') b
    → bytes ≡ flat_map record_bytes a → bytes ≡ flat_map record_bytes b → a ≡ b
records_same next_id next_id' [] [] bytes objects objects' is is' = refl
records_same next_id next_id' [] (r ∷ b) bytes objects objects' is is' =
    absurd (omega (arith, ap length is, ap length is', length-append (record_bytes r) (flat_map record_bytes b), record_is_long r))
records_same next_id next_id' (r ∷ a) [] bytes objects objects' is is' =
    absurd (omega (arith, ap length is, ap length is', length-append (record_bytes r) (flat_map record_bytes a), record_is_long r))
records_same next_id next_id' (r ∷ a) (s ∷ b) bytes objects objects' is is' =
    let one = same_front r s (flat_map record_bytes a) (flat_map record_bytes b) objects.0.0 objects'.0.0 (sym is ∙ is') in
    let rest = records_same next_id next_id' a b (flat_map record_bytes a) objects.1 objects'.1 refl one.behind in
    λ i. one.same i ∷ rest i
