-- One type more in the log of types.
use Rattle.std.proofs.Common.{⊎_elim, inl, inr, ◌⊎◌, ◌≡◌, ◌+◌, ◌++◌, [], ◌∷◌, ℕ, Bool, List, length, length-append, ap, sym, subst, ◌∙◌, arith}
use Rattle.std.specs.List.{AllByRecursion}
use Rattle.store_io.specs.Disk.{Only}
use Rattle.gated_log.specs.Log.{payloads_of, IsLogOf, IsBeforeOrAfter, Each}
use Rattle.type_desc.specs.Grammar.{record_text}
use Rattle.type_desc.specs.declared.desc.TypeDesc.{TypeDesc}
use Rattle.type_dictionary.specs.Records.{IsNextRecord, IsRecorded, records_from}
use Rattle.plain_storage.specs.Types.{types_header, AreTypesHeld}
use Rattle.plain_storage.proofs.Opening.{file_payloads}

abbrev one_record : ℕ → TypeDesc → List (List ℕ)
one_record id desc = record_text (id, desc) ∷ []

-- the record of a type behind others
pub records_from-push : (id : ℕ) (types : List TypeDesc) (desc : TypeDesc) → records_from id (types ++ desc ∷ []) ≡ records_from id types ++ record_text (id + length types, desc) ∷ []
records_from-push id [] desc =
    let same : id ≡ id + 0 = omega arith in
    ap (λ n. one_record n desc) same
records_from-push id (first ∷ types) desc =
    let same : (id + 1) + length types ≡ id + length (first ∷ types) = omega arith in
    ap (λ (l : List (List ℕ)). record_text (id, first) ∷ l)
    (records_from-push (id + 1) types desc ∙ ap (λ n. records_from (id + 1) types ++ record_text (n, desc) ∷ []) same)

pub recorded-push : (types : List TypeDesc) (desc : TypeDesc) → AllByRecursion IsRecorded types → IsRecorded desc → AllByRecursion IsRecorded (types ++ desc ∷ [])
recorded-push [] desc each last = (last, tt)
recorded-push (first ∷ types) desc each last = (each.0, recorded-push types desc each.1 last)

-- the log of one record more holds one type more
pub holds_more : (file text image : List ℕ) (types : List TypeDesc) (desc : TypeDesc) → AreTypesHeld file types → IsNextRecord types text desc
    → IsLogOf types_header (payloads_of file ++ text ∷ []) image → AreTypesHeld image (types ++ desc ∷ [])
holds_more file text image types desc held next log =
    let before = file_payloads types_header (records_from 16 types) file held.log in
    let all : payloads_of file ++ text ∷ [] ≡ records_from 16 (types ++ desc ∷ []) =
    ap (λ (ps : List (List ℕ)). ps ++ text ∷ []) before ∙ ap (λ (t : List ℕ). records_from 16 types ++ t ∷ []) next.spelled ∙ sym (records_from-push 16 types desc) in
    record {
      few = omega (arith, next.room, length-append types (desc ∷ []));
      recorded = recorded-push types desc held.recorded next.recorded;
      log = inr (subst (λ (ps : List (List ℕ)). IsLogOf types_header ps image) all log);
    }

-- the log of the same records holds the same types
pub holds_same : (file image : List ℕ) (types : List TypeDesc) → AreTypesHeld file types → IsLogOf types_header (payloads_of file) image → AreTypesHeld image types
holds_same file image types held log = record {
  few = held.few;
  recorded = held.recorded;
  log = inr (subst (λ (ps : List (List ℕ)). IsLogOf types_header ps image) (file_payloads types_header (records_from 16 types) file held.log) log);
}

pub holds_either : (file text image : List ℕ) (types : List TypeDesc) (desc : TypeDesc) → AreTypesHeld file types → IsNextRecord types text desc
    → IsBeforeOrAfter types_header (payloads_of file) text image → AreTypesHeld image types ⊎ AreTypesHeld image (types ++ desc ∷ [])
holds_either file text image types desc held next either =
    ⊎_elim (λ log. inl (holds_same file image types held log)) (λ log. inr (holds_more file text image types desc held next log)) either

-- where a stop leaves one file alone, each image is its log
pub only_log : (header file : List ℕ) (leaves : List ℕ → Bool) → Only file leaves → IsLogOf header (payloads_of file) file → Each leaves (IsLogOf header (payloads_of file))
only_log header file leaves only log image left = subst (λ (l : List ℕ). IsLogOf header (payloads_of file) l) (sym (only image left)) log
