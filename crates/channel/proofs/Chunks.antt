-- The chunk of a part: whole entities, and where each stands.
use Rattle.std.proofs.Common.{◌≡◌, ℕ, ◌+◌, ◌<◌, ◌≤◌, ◌==◌, if◌then◌else◌, Bool, true, false, cond, List, [], ◌∷◌, ◌++◌, map, length, Option, Some, None, unwrap_or, option_map, refl, ap, sym, ◌∙◌, arith, length-append, inl, inr}
use Rattle.std.specs.Prelude.{nat_eq, nat_lt}
use Rattle.std.specs.List.{AllByRecursion, flat_map}
use Rattle.std.specs.Option.{option_or}
use Rattle.std.proofs.lemmas.Bool.{and_parts, ltb-true, eqb-true, eq-eqb, ne_eqb, cases_eq, cond-false}
use Rattle.field_bytes.specs.Fields.{number_at}
use Rattle.graph_model.specs.Ids.{rises, rises_from}
use Rattle.graph_model.specs.Graph.{entity_size, ids}
use Rattle.graph_model.specs.Stores.{total_size}
use Rattle.graph_model.specs.declared.entity.Record.{Record}
use Rattle.entity_form.specs.declared.places.Header.{Header}
use Rattle.entity_form.proofs.Spellings.{length-entity_bytes}
use Rattle.data_file.specs.Chunks.{IsEntity, IsChunk, entities_of}
use Rattle.channel_files.specs.declared.place.Place.{Place}
use Rattle.channel_files.specs.Heads.{chunk_of}
use Rattle.channel_files.specs.Table.{Occurrence, occurrence, occurrences_from, last_of, occurrences_of}
use Rattle.channel_files.proofs.NumbersInFront.{number_there}
use Rattle.channel_files.proofs.WholeEntities.{first_entity}
use Rattle.channel.specs.Entities.{chunk_for}
use Rattle.channel.specs.Parts.{IsRightRecord}
use Rattle.channel.proofs.Spelled.{spelled, header_spelled}
use Rattle.channel.proofs.PartRows.{Spot, spot_of}

length-spelled : (r : Record) → length (spelled r) ≡ entity_size r.entity
length-spelled r = length-entity_bytes (r.id, r.entity)

pub chunk_length : (rs : List Record) → length (chunk_for rs) ≡ total_size rs
chunk_length [] = refl
chunk_length (r ∷ rs) = omega (arith, length-append (spelled r) (chunk_for rs), length-spelled r, chunk_length rs)

-- ---- whole entities

record_is_whole : (r : Record) → IsRightRecord r → IsEntity (spelled r)
record_is_whole r is =
    let long : 32 ≤ length (spelled r) = omega (arith, length-spelled r) in
    let told : unwrap_or (number_at 8 (spelled r) 0) 0 ≡ length (spelled r) = ap (λ (h : Header). h.length) (header_spelled r is) ∙ sym (length-spelled r) in
    record {
      length_is = number_there (spelled r) 0 (omega (arith, long)) ∙ ap (λ (n : ℕ). Some n) told;
      least = long;
      most = omega (arith, length-spelled r, is.size);
    }

all_whole : (rs : List Record) → AllByRecursion IsRightRecord rs → AllByRecursion IsEntity (map spelled rs)
all_whole [] all = tt
all_whole (r ∷ rs) all = (record_is_whole r all.0, all_whole rs all.1)

one_by_one : (rs : List Record) → chunk_for rs ≡ flat_map (λ e. e) (map spelled rs)
one_by_one [] = refl
one_by_one (r ∷ rs) = ap (λ (more : List ℕ). spelled r ++ more) (one_by_one rs)

pub chunk_is_whole : (rs : List Record) → AllByRecursion IsRightRecord rs → IsChunk (chunk_for rs)
chunk_is_whole rs all = record { entities = map spelled rs; whole = all_whole rs all; split = one_by_one rs }

-- ---- the entities of the chunk

pub chunk_entities : (rs : List Record) → AllByRecursion IsRightRecord rs → entities_of (chunk_for rs) ≡ map spelled rs
chunk_entities [] all = refl
chunk_entities (r ∷ rs) all =
    first_entity (spelled r) (chunk_for rs) (record_is_whole r all.0) ∙ ap (λ (more : List (List ℕ)). spelled r ∷ more) (chunk_entities rs all.1)

-- ---- the last entity of an id

abbrev pub occurrence_at : ℕ → Spot → Occurrence
occurrence_at file s = record { id = s.of.id; file = file; at = s.at; bytes = spelled s.of }

-- the record's occurrence at a place
abbrev found_at : ℕ → ℕ → Record → Occurrence
found_at file at r = record { id = r.id; file = file; at = at; bytes = spelled r }

found_there : (file at : ℕ) (r : Record) → IsRightRecord r → occurrence file at (spelled r) ≡ found_at file at r
found_there file at r is =
    let id : unwrap_or (number_at 8 (spelled r) 16) 0 ≡ r.id = ap (λ (h : Header). h.id) (header_spelled r is) in
    ap (λ (id : ℕ). record { id = id; file = file; at = at; bytes = spelled r }) id

-- an id is not among greater ones
not_later : (at x y : ℕ) (rs : List Record) → x ≤ y → rises_from y (ids rs) ≡ true → spot_of at rs x ≡ None
not_later at x y [] le rise = refl
not_later at x y (r ∷ rs) le rise =
    let t = and_parts (nat_lt y r.id) (rises_from r.id (ids rs)) rise in
    let above : y < r.id = ltb-true y r.id t.0 in
    let apart : nat_eq x r.id ≡ false = ne_eqb x r.id (λ same. omega (arith, same, le, above)) in
    cond-false (nat_eq x r.id) (Some (record { at = at; of = r })) (spot_of (at + entity_size r.entity) rs x) apart
    ∙ not_later (at + entity_size r.entity) x r.id rs (omega (arith, le, above)) t.1

none_behind : (at : ℕ) (r : Record) (rs : List Record) → rises (ids (r ∷ rs)) ≡ true → (x : ℕ) → nat_eq x r.id ≡ true → spot_of at rs x ≡ None
none_behind at r rs ordered x same = not_later at x r.id rs (omega (arith, eqb-true x r.id same)) ordered

rises_behind : (r : Record) (rs : List Record) → rises (ids (r ∷ rs)) ≡ true → rises (ids rs) ≡ true
rises_behind r [] ordered = refl
rises_behind r (s ∷ rs) ordered = (and_parts (nat_lt r.id s.id) (rises_from s.id (ids rs)) ordered).1

same_test : (x y : ℕ) → (y == x) ≡ nat_eq x y
same_test x y = elim (cases_eq x y) [
  | inl same ↦ eq-eqb y x (sym same) ∙ sym (eq-eqb x y same)
  | inr apart ↦ ne_eqb y x (λ e. apart (sym e)) ∙ sym (ne_eqb x y apart)
]

-- from the right or from the left, where the right has none if the left has one
from_right : (f : Spot → Occurrence) (here : Bool) (s : Spot) (later : Option Spot) → (here ≡ true → later ≡ None)
    → option_or (option_map f later) (if here then Some (f s) else None) ≡ option_map f (cond here (Some s) later)
from_right f true s later none = ap (λ (o : Option Spot). option_or (option_map f o) (Some (f s))) (none refl)
from_right f false s None none = refl
from_right f false s (Some t) none = refl

last_here : (file at x : ℕ) (rs : List Record) → AllByRecursion IsRightRecord rs → rises (ids rs) ≡ true
    → last_of x (occurrences_from file at (map spelled rs)) ≡ option_map (occurrence_at file) (spot_of at rs x)
last_here file at x [] all ordered = refl
last_here file at x (r ∷ rs) all ordered =
    let behind = at + entity_size r.entity in
    let here : Spot = record { at = at; of = r } in
    let later = spot_of behind rs x in
    let others : (place : ℕ) → Option Occurrence = λ place. last_of x (occurrences_from file place (map spelled rs)) in
    ap (λ (size : ℕ). option_or (others (at + size)) (if (occurrence file at (spelled r)).id == x then Some (occurrence file at (spelled r)) else None)) (length-spelled r)
    ∙ ap (λ (o : Occurrence). option_or (others behind) (if o.id == x then Some o else None)) (found_there file at r all.0)
    ∙ ap (λ (o : Option Occurrence). option_or o (if r.id == x then Some (found_at file at r) else None)) (last_here file behind x rs all.1 (rises_behind r rs ordered))
    ∙ ap (λ (b : Bool). option_or (option_map (occurrence_at file) later) (if b then Some (found_at file at r) else None)) (same_test x r.id)
    ∙ from_right (occurrence_at file) (nat_eq x r.id) here later (none_behind behind r rs ordered x)

-- the last entity of an id in the chunk is the record's
pub last_in_chunk : (number : ℕ) (place : Place) (rs : List Record) (x : ℕ) → AllByRecursion IsRightRecord rs → rises (ids rs) ≡ true
    → last_of x (occurrences_of (chunk_of number place (chunk_for rs))) ≡ option_map (occurrence_at place.file) (spot_of place.at rs x)
last_in_chunk number place rs x all ordered =
    ap (λ (entities : List (List ℕ)). last_of x (occurrences_from place.file place.at entities)) (chunk_entities rs all) ∙ last_here place.file place.at x rs all ordered
