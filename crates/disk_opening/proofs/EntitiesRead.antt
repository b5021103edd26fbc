-- Bytes that begin with a header of their length spell an entity.
use Rattle.std.proofs.Common.{◌≡◌, ℕ, zero, suc, ◌+◌, ◌*◌, ◌<◌, ◌≤◌, ◌^◌, ◌++◌, List, length, drop, nat_le, Some, None, refl, sym, ap, ◌∙◌, arith, append_assoc, length-drop}
use Rattle.std.specs.List.{AllByRecursion}
use Rattle.std.proofs.lemmas.Bool.{cond-true, le-leb}
use Rattle.std.proofs.lemmas.List.{drop-drop}
use Rattle.byteorder.specs.Endian.{little_number}
use Rattle.field_bytes.specs.Fields.{bytes_of}
use Rattle.field_bytes.proofs.Laws.{IsBytes, IsBytes-drop, number_of_8}
use Rattle.entity_form.specs.Spelling.{IsEntity, IsHeaderOf, entity_bytes, numbers_bytes}
use Rattle.entity_form.proofs.Spellings.{entity_read}
use Rattle.channel_files.specs.Whole.{header_of}
use Rattle.channel_files.proofs.NumbersInFront.{number_there}
use Rattle.channel.specs.Entities.{entity_in, numbers_in}

-- so many numbers stand in front of the bytes, and each fits eight of them
record StandInFront (n : ℕ) (bytes : List ℕ) : Type 0 where
  pub split : bytes ≡ numbers_bytes (numbers_in n bytes) ++ drop (8 * n) bytes
  pub many : length (numbers_in n bytes) ≡ n
  pub fit : AllByRecursion (λ (x : ℕ). x < 2 ^ 64) (numbers_in n bytes)

in_front : (n : ℕ) (bytes : List ℕ) → IsBytes bytes → 8 * n ≤ length bytes → StandInFront n bytes
in_front zero bytes fits long = record { split = refl; many = refl; fit = tt }
in_front (suc n) bytes fits long =
    let one : 8 ≤ length bytes = omega arith in
    let first = number_of_8 bytes (little_number 8 bytes) fits (cond-true (nat_le (0 + 8) (length bytes)) (Some (little_number 8 bytes)) None (le-leb (0 + 8) (length bytes) (omega arith))) in
    let behind = drop 8 bytes in
    let others : StandInFront n behind = in_front n behind (IsBytes-drop 8 bytes fits) (omega (arith, long, length-drop 8 bytes)) in
    let place : 8 + 8 * n ≡ 8 * suc n = omega arith in
    record {
      split =
          first.parts
          ∙ ap (λ (t : List ℕ). bytes_of 8 (little_number 8 bytes) ++ t) others.split
          ∙ ap (λ (t : List ℕ). bytes_of 8 (little_number 8 bytes) ++ (numbers_bytes (numbers_in n behind) ++ t)) (drop-drop (8 * n) 8 bytes ∙ ap (λ (k : ℕ). drop k bytes) place)
          ∙ sym (append_assoc (bytes_of 8 (little_number 8 bytes)) (numbers_bytes (numbers_in n behind)) (drop (8 * suc n) bytes));
      many = let m = others.many in omega arith;
      fit = (first.small, others.fit);
    }

pub entity_spelled_so : (bytes : List ℕ) → IsBytes bytes → IsHeaderOf (header_of bytes) (length bytes)
    → IsEntity ((header_of bytes).id, entity_in bytes) × (bytes ≡ entity_bytes ((header_of bytes).id, entity_in bytes))
entity_spelled_so bytes fits is =
    let h = header_of bytes in
    let behind = drop 32 bytes in
    let long : 32 ≤ length bytes = omega (arith, is.4) in
    let numbers : StandInFront h.count behind = in_front h.count behind (IsBytes-drop 32 bytes fits) (omega (arith, is.4, length-drop 32 bytes)) in
    let parts : behind ≡ numbers_bytes (numbers_in h.count behind) ++ drop (32 + 8 * h.count) bytes =
    numbers.split ∙ ap (λ (t : List ℕ). numbers_bytes (numbers_in h.count behind) ++ t) (drop-drop (8 * h.count) 32 bytes) in
    entity_read bytes (numbers_in h.count behind) (drop (32 + 8 * h.count) bytes) h fits (IsBytes-drop (32 + 8 * h.count) bytes fits)
    record {
      length_is = number_there bytes 0 (omega (arith, long));
      type_id_is = number_there bytes 8 (omega (arith, long));
      id_is = number_there bytes 16 (omega (arith, long));
      count_is = number_there bytes 24 (omega (arith, long));
    }
    long is parts numbers.many numbers.fit
