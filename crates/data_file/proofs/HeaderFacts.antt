-- One header stands at a place.
use Rattle.std.proofs.Common.{◌≡◌, ℕ, ◌≤◌, ◌==◌, ◌&&◌, Bool, true, List, take, Some, sym, ap, ◌∙◌}
use Rattle.std.proofs.lemmas.Bool.{and_parts, and_from, eqb-true, eq-eqb}
use Rattle.std.proofs.lemmas.List.{take-take}
use Rattle.entity_form.specs.declared.places.Header.{Header}
use Rattle.data_file.specs.Headers.{BeginsWith}

pub record SameFields (a b : Header) : Type 0 where
  pub length : a.length ≡ b.length
  pub type_id : a.type_id ≡ b.type_id
  pub id : a.id ≡ b.id
  pub count : a.count ≡ b.count

pub same_header : (bytes : List ℕ) (a b : Header) → BeginsWith bytes a → BeginsWith bytes b → SameFields a b
same_header bytes a b first second = record {
  length = cc (first.length, second.length);
  type_id = cc (first.type_id, second.type_id);
  id = cc (first.id, second.id);
  count = cc (first.count, second.count);
}

pub begins_same : (bytes : List ℕ) (a b : Header) → SameFields a b → BeginsWith bytes a → BeginsWith bytes b
begins_same bytes a b same begins = record {
  length = begins.length ∙ ap (λ (n : ℕ). Some n) same.length;
  type_id = begins.type_id ∙ ap (λ (n : ℕ). Some n) same.type_id;
  id = begins.id ∙ ap (λ (n : ℕ). Some n) same.id;
  count = begins.count ∙ ap (λ (n : ℕ). Some n) same.count;
}

abbrev pub same_test : Header → Header → Bool
same_test a b = a.length == b.length && (a.type_id == b.type_id && (a.id == b.id && a.count == b.count))

pub test_same : (a b : Header) → SameFields a b → same_test a b ≡ true
test_same a b same =
    and_from _ _ (eq-eqb a.length b.length same.length)
    (and_from _ _ (eq-eqb a.type_id b.type_id same.type_id) (and_from _ _ (eq-eqb a.id b.id same.id) (eq-eqb a.count b.count same.count)))

pub same_tested : (a b : Header) → same_test a b ≡ true → SameFields a b
same_tested a b is =
    let first = and_parts (a.length == b.length) _ is in
    let second = and_parts (a.type_id == b.type_id) _ first.1 in
    let third = and_parts (a.id == b.id) (a.count == b.count) second.1 in
    record {
      length = eqb-true a.length b.length first.0;
      type_id = eqb-true a.type_id b.type_id second.0;
      id = eqb-true a.id b.id third.0;
      count = eqb-true a.count b.count third.1;
    }

-- the first 32 bytes are those of a longer front
pub first_32 : (size : ℕ) (out bytes : List ℕ) → 32 ≤ size → take size out ≡ take size bytes → take 32 out ≡ take 32 bytes
first_32 size out bytes le same = sym (take-take 32 size out le) ∙ ap (take 32) same ∙ take-take 32 size bytes le
