-- Bytes that begin with an entity begin with that one only.
use Rattle.std.proofs.Common.{◌≡◌, ℕ, ◌≤◌, List, [], ◌∷◌, ◌++◌, length, take, drop, Option, Some, refl, sym, ap, ◌∙◌, append_assoc, append-nil, arith}
use Rattle.std.proofs.lemmas.List.{take_at, drop_at}
use Rattle.field_bytes.specs.Fields.{bytes_of, number_at}
use Rattle.field_bytes.proofs.Laws.{number_at-bytes_of}
use Rattle.graph_model.specs.Graph.{entity_size}
use Rattle.graph_model.specs.declared.entity.Entity.{Entity}
use Rattle.graph_model.specs.declared.entity.Record.{Record}
use Rattle.entity_form.specs.Spelling.{IsEntity, numbers_bytes, entity_bytes}
use Rattle.entity_form.proofs.Spellings.{length-entity_bytes, told_apart}
use Rattle.plain_storage.specs.Stores.{record_bytes}

abbrev pub Fits : Record → Type 0
Fits r = IsEntity (r.id, r.entity)

pub length-record_bytes : (r : Record) → length (record_bytes r) ≡ entity_size r.entity
length-record_bytes r = length-entity_bytes (r.id, r.entity)

-- the first number is the length
pub front_number : (r : Record) (more : List ℕ) → Fits r → number_at 8 (record_bytes r ++ more) 0 ≡ Some (length (record_bytes r))
unfolding entity_bytes
front_number r more fits =
    let size = entity_size r.entity in
    let others = numbers_bytes (r.entity.type_id ∷ r.id ∷ length r.entity.refs ∷ r.entity.refs) in
    let parts : record_bytes r ++ more ≡ bytes_of 8 size ++ (others ++ (r.entity.plain ++ more)) =
    ap (λ (l : List ℕ). l ++ more) (append_assoc (bytes_of 8 size) others r.entity.plain)
    ∙ append_assoc (bytes_of 8 size) (others ++ r.entity.plain) more
    ∙ ap (λ (l : List ℕ). bytes_of 8 size ++ l) (append_assoc others r.entity.plain more) in
    ap (λ (l : List ℕ). number_at 8 l 0) parts ∙ number_at-bytes_of 8 size (others ++ (r.entity.plain ++ more)) (omega (arith, fits.size))
    ∙ ap (λ (n : ℕ). Some n) (sym (length-record_bytes r))

some_same : (x y : ℕ) (a b : Option ℕ) → a ≡ Some x → b ≡ Some y → a ≡ b → x ≡ y
some_same x y a b p q e = cc

-- entities that begin the same bytes are one, and so is what is behind
pub record SameFront (r s : Record) (more rest : List ℕ) : Type 0 where
  pub same : r ≡ s
  pub behind : more ≡ rest

record_from : ℕ × Entity → Record
record_from p = record { id = p.0; entity = p.1 }

pub same_front : (r s : Record) (more rest : List ℕ) → Fits r → Fits s → record_bytes r ++ more ≡ record_bytes s ++ rest → SameFront r s more rest
unfolding record_from
same_front r s more rest r_fits s_fits e =
    let n = length (record_bytes r) in
    let len : n ≡ length (record_bytes s) =
    some_same n (length (record_bytes s)) (number_at 8 (record_bytes r ++ more) 0) (number_at 8 (record_bytes s ++ rest) 0)
    (front_number r more r_fits) (front_number s rest s_fits) (ap (λ (l : List ℕ). number_at 8 l 0) e) in
    let bytes : record_bytes r ≡ record_bytes s = sym (take_at (record_bytes r) more n refl) ∙ ap (take n) e ∙ take_at (record_bytes s) rest n (sym len) in
    let behind : more ≡ rest = sym (drop_at (record_bytes r) more n refl) ∙ ap (drop n) e ∙ drop_at (record_bytes s) rest n (sym len) in
    let one = told_apart (r.id, r.entity) (s.id, s.entity) [] r_fits s_fits (append-nil (record_bytes r) ∙ bytes) in
    record { same = ap record_from one.1; behind = behind }

-- an entity is some bytes
pub record_is_long : (r : Record) → 32 ≤ length (record_bytes r)
record_is_long r = omega (arith, length-record_bytes r)
