-- The bytes of a store's records, one behind the other.
use Rattle.std.proofs.Common.{◌≡◌, ◌≤◌, ◌<◌, ◌+◌, ℕ, List, [], ◌∷◌, ◌++◌, length, take, drop, get_or, refl, sym, ap, ◌∙◌, arith, length-append, take-append-drop}
use Rattle.std.specs.List.{flat_map}
use Rattle.std.proofs.lemmas.Grind.{flat_map-append}
use Rattle.std.proofs.lemmas.List.{append-nil, drop_all, take_more}
use Rattle.field_bytes.specs.Fields.{with_bytes}
use Rattle.field_bytes.proofs.Laws.{with_bytes-behind}
use Rattle.entity_form.proofs.Spellings.{length-entity_bytes}
use Rattle.graph_model.specs.Graph.{entity_size}
use Rattle.graph_model.specs.Stores.{total_size}
use Rattle.graph_model.specs.declared.entity.Record.{Record}
use Rattle.plain_storage.specs.Stores.{record_bytes}

pub length-records_bytes : (rs : List Record) → length (flat_map record_bytes rs) ≡ total_size rs
length-records_bytes [] = refl
length-records_bytes (r ∷ rs) =
    omega (arith, length-append (record_bytes r) (flat_map record_bytes rs), length-entity_bytes (r.id, r.entity), length-records_bytes rs)

total_size-append : (rs ss : List Record) → total_size (rs ++ ss) ≡ total_size rs + total_size ss
total_size-append [] ss = omega arith
total_size-append (r ∷ rs) ss = omega (arith, total_size-append rs ss)

module _ (rs : List Record) (i : ℕ) (r : Record) (within : i < length rs) (r_is : r ≡ get_or rs i r) where
  taken : take (i + 1) rs ≡ take i rs ++ r ∷ []
  taken = take_more rs i r within ∙ ap (λ (q : Record). take i rs ++ q ∷ []) (sym r_is)

  size_more : total_size (take (i + 1) rs) ≡ total_size (take i rs) + entity_size r.entity
  size_more = let parts = total_size-append (take i rs) (r ∷ []) in let more = ap total_size taken in omega arith

  size_within : total_size (take (i + 1) rs) ≤ total_size rs
  size_within =
      let parts = total_size-append (take (i + 1) rs) (drop (i + 1) rs) in
      let whole = ap total_size (take-append-drop (i + 1) rs) in
      omega arith

  module _ (at place : ℕ) (place_is : place ≡ at + total_size (take i rs)) where
    -- there is room for the next record
    pub room_for : (room : ℕ) → at + total_size rs ≤ room → place + entity_size r.entity ≤ room
    room_for room fits = omega (arith, size_more, size_within)

    pub place_more : place + entity_size r.entity ≡ at + total_size (take (i + 1) rs)
    place_more = omega (arith, size_more)

    -- the next record is written behind those before
    pub written_more : (out : List ℕ) → at + total_size rs ≤ length out
        → with_bytes (with_bytes out at (flat_map record_bytes (take i rs))) place (record_bytes r) ≡ with_bytes out at (flat_map record_bytes (take (i + 1) rs))
    written_more out fits =
        let before = flat_map record_bytes (take i rs) in
        let long : length before ≡ total_size (take i rs) = length-records_bytes (take i rs) in
        let here : place ≡ at + length before = omega arith in
        let more : flat_map record_bytes (take (i + 1) rs) ≡ before ++ record_bytes r =
        ap (flat_map record_bytes) taken ∙ flat_map-append record_bytes (take i rs) (r ∷ []) ∙ ap (λ (l : List ℕ). before ++ l) (append-nil (record_bytes r)) in
        ap (λ (p : ℕ). with_bytes (with_bytes out at before) p (record_bytes r)) here
        ∙ with_bytes-behind out at before (record_bytes r) (omega (arith, size_more, size_within))
        ∙ ap (with_bytes out at) (sym more)

-- three parts that fill the bytes
pub three_parts : (out a b d : List ℕ) (p q : ℕ) → p ≡ length a → q ≡ length a + length b → length a + length b + length d ≡ length out
    → with_bytes (with_bytes (with_bytes out 0 a) p b) q d ≡ (a ++ b) ++ d
three_parts out a b d p q p_is q_is full =
    let both : length (a ++ b) ≡ length a + length b = length-append a b in
    let all : length ((a ++ b) ++ d) ≡ length out = omega (arith, length-append (a ++ b) d) in
    let behind_first : p ≡ 0 + length a = omega arith in
    let behind_both : q ≡ 0 + length (a ++ b) = omega arith in
    ap (λ (n : ℕ). with_bytes (with_bytes (with_bytes out 0 a) n b) q d) behind_first
    ∙ ap (λ (l : List ℕ). with_bytes l q d) (with_bytes-behind out 0 a b (omega arith))
    ∙ ap (λ (n : ℕ). with_bytes (with_bytes out 0 (a ++ b)) n d) behind_both
    ∙ with_bytes-behind out 0 (a ++ b) d (omega arith)
    ∙ ap (λ (l : List ℕ). ((a ++ b) ++ d) ++ l) (drop_all (0 + length ((a ++ b) ++ d)) out (omega arith))
    ∙ append-nil ((a ++ b) ++ d)
