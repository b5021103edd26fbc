-- What holds of each entity of each chunk holds of a table's.
use Rattle.std.proofs.Common.{◌≡◌, ℕ, ◌+◌, ◌==◌, length, unwrap_or, refl, ◌⊎◌, inl, inr, nat_le, if◌then◌else◌, Bool, true, false, List, [], ◌∷◌, ◌++◌, Option, Some, None, ap, sym, subst, ◌∙◌}
use Rattle.std.specs.List.{flat_map, AllByRecursion}
use Rattle.std.specs.Option.{option_or}
use Rattle.std.proofs.lemmas.Bool.{eqb-true}
use Rattle.std.proofs.lemmas.Option.{cond_some}
use Rattle.field_bytes.specs.Fields.{number_at}
use Rattle.data_file.specs.Chunks.{entities_of}
use Rattle.channel_files.specs.Chunks.{Chunk}
use Rattle.channel_files.specs.Table.{Occurrence, occurrences_from, occurrences_of, last_of, up_to, table_at}

either : (a b : Option Occurrence) (o : Occurrence) → option_or a b ≡ Some o → (a ≡ Some o) ⊎ (b ≡ Some o)
either (Some x) b o is = inl is
either None b o is = inr is

-- what holds of each entity of a chunk
abbrev pub OfEach : (Occurrence → Type 0) → Chunk → Type 0
OfEach P c = AllByRecursion P (occurrences_of c)

both : (P : Occurrence → Type 0) (front os : List Occurrence) → AllByRecursion P front → AllByRecursion P os → AllByRecursion P (front ++ os)
both P [] os first second = second
both P (o ∷ front) os first second = (first.0, both P front os first.1 second)

with_or_not : (P : Occurrence → Type 0) (b : Bool) (c : Chunk) (chunks : List Chunk) → OfEach P c → AllByRecursion P (flat_map occurrences_of chunks) → AllByRecursion P (flat_map occurrences_of (if b then c ∷ chunks else chunks))
with_or_not P true c chunks here all = both P (occurrences_of c) (flat_map occurrences_of chunks) here all
with_or_not P false c chunks here all = all

of_each_up_to : (P : Occurrence → Type 0) (number : ℕ) (chunks : List Chunk) → AllByRecursion (OfEach P) chunks → AllByRecursion P (flat_map occurrences_of (up_to number chunks))
of_each_up_to P number [] all = tt
of_each_up_to P number (c ∷ chunks) all = with_or_not P (nat_le c.number number) c (up_to number chunks) all.0 (of_each_up_to P number chunks all.1)

last_found : (P : Occurrence → Type 0) (id : ℕ) (os : List Occurrence) (o : Occurrence) → AllByRecursion P os → last_of id os ≡ Some o → P o
last_found P id [] o all is = absurd cc
last_found P id (q ∷ os) o all is = elim (either (last_of id os) (if q.id == id then Some q else None) o is) [
  | inl later ↦ last_found P id os o all.1 later
  | inr here ↦ subst P (cond_some (q.id == id) q o here).1 all.0
]

-- the entity of an id bears it
last_id : (id : ℕ) (os : List Occurrence) (o : Occurrence) → last_of id os ≡ Some o → o.id ≡ id
last_id id [] o is = absurd cc
last_id id (q ∷ os) o is = elim (either (last_of id os) (if q.id == id then Some q else None) o is) [
  | inl later ↦ last_id id os o later
  | inr here ↦ let found = cond_some (q.id == id) q o here in ap (λ (o : Occurrence). o.id) (sym found.1) ∙ eqb-true q.id id found.0
]

pub table_found : (P : Occurrence → Type 0) (number id : ℕ) (chunks : List Chunk) (o : Occurrence) → AllByRecursion (OfEach P) chunks → table_at number chunks id ≡ Some o → P o
table_found P number id chunks o all is = last_found P id (flat_map occurrences_of (up_to number chunks)) o (of_each_up_to P number chunks all) is

pub table_id : (number id : ℕ) (chunks : List Chunk) (o : Occurrence) → table_at number chunks id ≡ Some o → o.id ≡ id
table_id number id chunks o is = last_id id (flat_map occurrences_of (up_to number chunks)) o is

-- the id that its bytes spell
abbrev pub HasOwnId : Occurrence → Type 0
HasOwnId o = o.id ≡ unwrap_or (number_at 8 o.bytes 16) 0

own_ids_from : (file at : ℕ) (entities : List (List ℕ)) → AllByRecursion HasOwnId (occurrences_from file at entities)
own_ids_from file at [] = tt
own_ids_from file at (e ∷ entities) = (refl, own_ids_from file (at + length e) entities)

own_ids : (chunks : List Chunk) → AllByRecursion (OfEach HasOwnId) chunks
own_ids [] = tt
own_ids (c ∷ chunks) = (own_ids_from c.file c.at (entities_of c.bytes), own_ids chunks)

pub own_id : (number id : ℕ) (chunks : List Chunk) (o : Occurrence) → table_at number chunks id ≡ Some o → HasOwnId o
own_id number id chunks o is = table_found HasOwnId number id chunks o (own_ids chunks) is
