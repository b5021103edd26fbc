-- The entity that bytes spell is the one that they were written for, and the other way round.
use Rattle.std.proofs.Common.{◌≡◌, ◌≤◌, ◌<◌, ◌+◌, ◌*◌, ◌^◌, ℕ, zero, suc, List, [], ◌∷◌, ◌++◌, length, map, drop, take, nat_le, Option, Some, None, unwrap_or, refl, sym, ap, ◌∙◌, append_assoc, arith, length-append, length-drop}
use Rattle.std.specs.List.{AllByRecursion}
use Rattle.std.proofs.lemmas.Bool.{cond-true, le-leb}
use Rattle.std.proofs.lemmas.Grind.{flat_map-append}
use Rattle.std.proofs.lemmas.List.{take_at, drop_at, drop-drop}
use Rattle.byteorder.specs.Endian.{little_number}
use Rattle.byteorder.specs.Numbers.{little_number-reads_back}
use Rattle.field_bytes.specs.Fields.{bytes_of, number_at}
use Rattle.field_bytes.proofs.Laws.{IsBytes, IsBytes-drop, number_at-bytes_of, number_at-drop, drop-bytes_of, number_of_8, length-bytes_of}
use Rattle.graph_model.specs.Graph.{entity_size}
use Rattle.graph_model.specs.declared.entity.Entity.{Entity}
use Rattle.graph_model.specs.declared.entity.Record.{Record}
use Rattle.entity_form.specs.declared.places.Header.{Header}
use Rattle.entity_form.specs.Spelling.{IsHeaderOf, entity_bytes, numbers_bytes}
use Rattle.entity_form.proofs.Spellings.{BeginsWithHeader, entity_read, length-entity_bytes, length-numbers_bytes}
use Rattle.channel_files.specs.Whole.{header_of}
use Rattle.data_file.specs.Headers.{BeginsWith}
use Rattle.channel_files.proofs.NumbersInFront.{number_in_front, number_there}
use Rattle.channel.specs.Entities.{AreBytesOf, numbers_in, entity_in, header_for, chunk_for}
use Rattle.channel.specs.Parts.{IsRightRecord, records_in}

-- the bytes of a record
abbrev pub spelled : Record → List ℕ
spelled r = entity_bytes (r.id, r.entity)

-- ---- the header

abbrev FitsNumber : ℕ → Type 0
FitsNumber x = x < 2 ^ 64

-- the numbers before the references
abbrev header_numbers : Record → List ℕ
header_numbers r = entity_size r.entity ∷ r.entity.type_id ∷ r.id ∷ length r.entity.refs ∷ []

-- the bytes behind these
abbrev behind_header : Record → List ℕ
behind_header r = numbers_bytes r.entity.refs ++ r.entity.plain

in_four : (a b c d rest : List ℕ) → (a ++ (b ++ (c ++ (d ++ [])))) ++ rest ≡ a ++ (b ++ (c ++ (d ++ rest)))
in_four a b c d rest = simp append_assoc

spelled_parts : (r : Record) → spelled r ≡ numbers_bytes (header_numbers r) ++ behind_header r
unfolding entity_bytes
spelled_parts r =
    ap (λ (t : List ℕ). t ++ r.entity.plain) (flat_map-append (bytes_of 8) (header_numbers r) r.entity.refs)
    ∙ append_assoc (numbers_bytes (header_numbers r)) (numbers_bytes r.entity.refs) r.entity.plain

in_fields : (r : Record) → spelled r ≡ bytes_of 8 (entity_size r.entity) ++ (bytes_of 8 r.entity.type_id ++ (bytes_of 8 r.id ++ (bytes_of 8 (length r.entity.refs) ++ behind_header r)))
in_fields r =
    spelled_parts r
    ∙ in_four (bytes_of 8 (entity_size r.entity)) (bytes_of 8 r.entity.type_id) (bytes_of 8 r.id) (bytes_of 8 (length r.entity.refs)) (behind_header r)

-- a number of eight bytes stands at a place, and the rest behind it
record StandsAt (bytes : List ℕ) (at n : ℕ) (rest : List ℕ) : Type 0 where
  pub number : number_at 8 bytes at ≡ Some n
  pub behind : drop (at + 8) bytes ≡ rest
  pub within : at + 8 ≤ length bytes

stands_at : (bytes : List ℕ) (at n : ℕ) (rest : List ℕ) → at ≤ length bytes → drop at bytes ≡ bytes_of 8 n ++ rest → FitsNumber n → StandsAt bytes at n rest
stands_at bytes at n rest within e small =
    record {
      number = sym (number_at-drop 8 bytes at within) ∙ ap (λ (b : List ℕ). number_at 8 b 0) e ∙ number_at-bytes_of 8 n rest (omega (arith, small));
      behind = sym (drop-drop 8 at bytes) ∙ ap (drop 8) e ∙ drop-bytes_of 8 n rest;
      within = omega (arith, ap length e, length-append (bytes_of 8 n) rest, length-bytes_of 8 n, length-drop at bytes);
    }

-- the bytes begin with these four numbers
record BeginsSo (bytes : List ℕ) (h : Header) (rest : List ℕ) : Type 0 where
  pub length_is : number_at 8 bytes 0 ≡ Some h.length
  pub type_id_is : number_at 8 bytes 8 ≡ Some h.type_id
  pub id_is : number_at 8 bytes 16 ≡ Some h.id
  pub count_is : number_at 8 bytes 24 ≡ Some h.count
  pub behind : drop 32 bytes ≡ rest

spelled_begins : (r : Record) → IsRightRecord r → BeginsSo (spelled r) (header_for r) (behind_header r)
spelled_begins r is =
    let bytes = spelled r in
    let from_count = bytes_of 8 (length r.entity.refs) ++ behind_header r in
    let from_id = bytes_of 8 r.id ++ from_count in
    let from_type = bytes_of 8 r.entity.type_id ++ from_id in
    let first : StandsAt bytes 0 (entity_size r.entity) from_type = stands_at bytes 0 (entity_size r.entity) from_type (omega arith) (in_fields r) (omega (arith, is.size)) in
    let second : StandsAt bytes 8 r.entity.type_id from_id = stands_at bytes 8 r.entity.type_id from_id first.within first.behind (omega (arith, is.type_id)) in
    let third : StandsAt bytes 16 r.id from_count = stands_at bytes 16 r.id from_count second.within second.behind (omega (arith, is.id)) in
    let fourth : StandsAt bytes 24 (length r.entity.refs) (behind_header r) =
    stands_at bytes 24 (length r.entity.refs) (behind_header r) third.within third.behind (omega (arith, is.size)) in
    record { length_is = first.number; type_id_is = second.number; id_is = third.number; count_is = fourth.number; behind = fourth.behind }

-- the header of four numbers that may be there
abbrev header_from : Option ℕ → Option ℕ → Option ℕ → Option ℕ → Header
header_from a b c d = record { length = unwrap_or a 0; type_id = unwrap_or b 0; id = unwrap_or c 0; count = unwrap_or d 0 }

header_read : (bytes : List ℕ) (h : Header) (rest : List ℕ) → BeginsSo bytes h rest → header_of bytes ≡ h
header_read bytes h rest begins =
    ap (λ (a : Option ℕ). header_from a (number_at 8 bytes 8) (number_at 8 bytes 16) (number_at 8 bytes 24)) begins.length_is
    ∙ ap (λ (b : Option ℕ). header_from (Some h.length) b (number_at 8 bytes 16) (number_at 8 bytes 24)) begins.type_id_is
    ∙ ap (λ (c : Option ℕ). header_from (Some h.length) (Some h.type_id) c (number_at 8 bytes 24)) begins.id_is
    ∙ ap (λ (d : Option ℕ). header_from (Some h.length) (Some h.type_id) (Some h.id) d) begins.count_is

-- bytes that were read to the front of others begin with the header that was found there
pub header_in_front : (out : List ℕ) (n : ℕ) (h : Header) → 32 ≤ n → n ≤ length out → BeginsWith (take 32 out) h → header_of (take n out) ≡ h
header_in_front out n h long within begins =
    let same : (at : ℕ) → at + 8 ≤ 32 → number_at 8 (take n out) at ≡ number_at 8 (take 32 out) at =
    λ at fits. number_in_front n at out (omega (arith, fits, long)) within ∙ sym (number_in_front 32 at out fits (omega (arith, long, within))) in
    header_read (take n out) h (drop 32 (take n out)) (record {
      length_is = same 0 (omega arith) ∙ begins.length;
      type_id_is = same 8 (omega arith) ∙ begins.type_id;
      id_is = same 16 (omega arith) ∙ begins.id;
      count_is = same 24 (omega arith) ∙ begins.count;
      behind = refl;
    })

pub header_spelled : (r : Record) → IsRightRecord r → header_of (spelled r) ≡ header_for r
header_spelled r is = header_read (spelled r) (header_for r) (behind_header r) (spelled_begins r is)

-- ---- the references

-- so many numbers are read as they were written
numbers_again : (xs rest : List ℕ) → AllByRecursion FitsNumber xs → numbers_in (length xs) (numbers_bytes xs ++ rest) ≡ xs
numbers_again [] rest fit = refl
numbers_again (x ∷ xs) rest fit =
    let behind = numbers_bytes xs ++ rest in
    let one_more : length (x ∷ xs) ≡ suc (length xs) = omega arith in
    let parts : numbers_bytes (x ∷ xs) ++ rest ≡ bytes_of 8 x ++ behind = append_assoc (bytes_of 8 x) (numbers_bytes xs) rest in
    ap (λ (n : ℕ). numbers_in n (numbers_bytes (x ∷ xs) ++ rest)) one_more
    ∙ ap (λ (b : List ℕ). little_number 8 b ∷ numbers_in (length xs) (drop 8 b)) parts
    ∙ ap (λ (n : ℕ). n ∷ numbers_in (length xs) (drop 8 (bytes_of 8 x ++ behind))) (little_number-reads_back 8 x behind (omega (arith, fit.0)))
    ∙ ap (λ (b : List ℕ). x ∷ numbers_in (length xs) b) (drop-bytes_of 8 x behind)
    ∙ ap (λ (ys : List ℕ). x ∷ ys) (numbers_again xs rest fit.1)

length-numbers_in : (n : ℕ) (bytes : List ℕ) → length (numbers_in n bytes) ≡ n
length-numbers_in zero bytes = refl
length-numbers_in (suc n) bytes = omega (arith, length-numbers_in n (drop 8 bytes))

-- bytes as the numbers that are read from them, and what stands behind
record AreNumbers (n : ℕ) (bytes : List ℕ) : Type 0 where
  pub spelled_so : bytes ≡ numbers_bytes (numbers_in n bytes) ++ drop (8 * n) bytes
  pub fit : AllByRecursion FitsNumber (numbers_in n bytes)

-- the entity with the header's type, these references and these plain bytes
abbrev entity_with : Header → List ℕ → List ℕ → Entity
entity_with h refs plain = record { type_id = h.type_id; refs = refs; plain = plain }

pub entity_spelled : (r : Record) → IsRightRecord r → entity_in (spelled r) ≡ r.entity
entity_spelled r is =
    let bytes = spelled r in
    let count = length r.entity.refs in
    let begins = spelled_begins r is in
    let refs : numbers_in count (drop 32 bytes) ≡ r.entity.refs = ap (numbers_in count) begins.behind ∙ numbers_again r.entity.refs r.entity.plain is.refs in
    let plain : drop (32 + 8 * count) bytes ≡ r.entity.plain =
    sym (drop-drop (8 * count) 32 bytes) ∙ ap (drop (8 * count)) begins.behind ∙ drop_at (numbers_bytes r.entity.refs) r.entity.plain (8 * count) (length-numbers_bytes r.entity.refs) in
    ap (λ (h : Header). entity_with h (numbers_in h.count (drop 32 bytes)) (drop (32 + 8 * h.count) bytes)) (header_spelled r is)
    ∙ ap (λ (refs : List ℕ). entity_with (header_for r) refs (drop (32 + 8 * count) bytes)) refs
    ∙ ap (entity_with (header_for r) r.entity.refs) plain

-- ---- bytes that were read

first_number : (bytes : List ℕ) → 8 ≤ length bytes → number_at 8 bytes 0 ≡ Some (little_number 8 bytes)
first_number bytes long = cond-true (nat_le (0 + 8) (length bytes)) (Some (little_number 8 bytes)) None (le-leb (0 + 8) (length bytes) (omega (arith, long)))

are_numbers : (n : ℕ) (bytes : List ℕ) → IsBytes bytes → 8 * n ≤ length bytes → AreNumbers n bytes
are_numbers zero bytes fits long = record { spelled_so = refl; fit = tt }
are_numbers (suc n) bytes fits long =
    let first = number_of_8 bytes (little_number 8 bytes) fits (first_number bytes (omega (arith, long))) in
    let behind = drop 8 bytes in
    let others : AreNumbers n behind = are_numbers n behind (IsBytes-drop 8 bytes fits) (omega (arith, long, length-drop 8 bytes)) in
    let place : 8 + 8 * n ≡ 8 * suc n = omega arith in
    record {
      spelled_so =
          first.parts
          ∙ ap (λ (t : List ℕ). bytes_of 8 (little_number 8 bytes) ++ t) others.spelled_so
          ∙ ap (λ (t : List ℕ). bytes_of 8 (little_number 8 bytes) ++ (numbers_bytes (numbers_in n behind) ++ t)) (drop-drop (8 * n) 8 bytes ∙ ap (λ (k : ℕ). drop k bytes) place)
          ∙ sym (append_assoc (bytes_of 8 (little_number 8 bytes)) (numbers_bytes (numbers_in n behind)) (drop (8 * suc n) bytes));
      fit = (first.small, others.fit);
    }

header_begins : (bytes : List ℕ) → 32 ≤ length bytes → BeginsWithHeader bytes (header_of bytes)
header_begins bytes long =
    record {
      length_is = number_there bytes 0 (omega (arith, long));
      type_id_is = number_there bytes 8 (omega (arith, long));
      id_is = number_there bytes 16 (omega (arith, long));
      count_is = number_there bytes 24 (omega (arith, long));
    }

-- bytes that begin with a right header spell the entity that is read from them
pub spells_itself : (bytes : List ℕ) → IsBytes bytes → 32 ≤ length bytes → IsHeaderOf (header_of bytes) (length bytes) → AreBytesOf (header_of bytes).id (entity_in bytes) bytes
spells_itself bytes fits long is =
    let h = header_of bytes in
    let behind = drop 32 bytes in
    let refs = numbers_in h.count behind in
    let plain = drop (32 + 8 * h.count) bytes in
    let numbers : AreNumbers h.count behind = are_numbers h.count behind (IsBytes-drop 32 bytes fits) (omega (arith, is.4, length-drop 32 bytes)) in
    let parts : behind ≡ numbers_bytes refs ++ plain = numbers.spelled_so ∙ ap (λ (t : List ℕ). numbers_bytes refs ++ t) (drop-drop (8 * h.count) 32 bytes) in
    let read = entity_read bytes refs plain h fits (IsBytes-drop (32 + 8 * h.count) bytes fits) (header_begins bytes long) long is parts (length-numbers_in h.count behind) numbers.fit in
    record { entity = read.0; spelled = read.1 }

-- ---- parts

-- headers and bytes give back the records
pub records_back : (rs : List Record) → AllByRecursion IsRightRecord rs → records_in (map header_for rs) (chunk_for rs) ≡ rs
records_back [] all = refl
records_back (r ∷ rs) all =
    let size = entity_size r.entity in
    let behind = chunk_for rs in
    let size_is : length (spelled r) ≡ size = length-entity_bytes (r.id, r.entity) in
    ap (λ (bytes : List ℕ). (record { id = r.id; entity = entity_in bytes }) ∷ records_in (map header_for rs) (drop size (spelled r ++ behind))) (take_at (spelled r) behind size size_is)
    ∙ ap (λ (e : Entity). (record { id = r.id; entity = e }) ∷ records_in (map header_for rs) (drop size (spelled r ++ behind))) (entity_spelled r all.0)
    ∙ ap (λ (bytes : List ℕ). r ∷ records_in (map header_for rs) bytes) (drop_at (spelled r) behind size size_is)
    ∙ ap (λ (more : List Record). r ∷ more) (records_back rs all.1)

pub read_back : (headers : List Header) (bytes : List ℕ) (rs : List Record) → AllByRecursion IsRightRecord rs → headers ≡ map header_for rs → bytes ≡ chunk_for rs → records_in headers bytes ≡ rs
read_back headers bytes rs all headers_are bytes_are =
    ap (λ (h : List Header). records_in h bytes) headers_are ∙ ap (records_in (map header_for rs)) bytes_are ∙ records_back rs all
