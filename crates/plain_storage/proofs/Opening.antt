-- What a fault of an opening says, and what a file holds that is opened.
use Rattle.std.proofs.Common.{⊎_elim, inl, inr, ◌⊎◌, ◌≤◌, ◌<◌, length, arith, ◌≡◌, [], ℕ, Result, Ok, Err, IsErrAnd, IsErrOf, List, refl, ap, sym, subst, ◌∙◌}
use Rattle.std.proofs.lemmas.Bool.{le-leb, cases_lt}
use Rattle.gated_log.specs.Log.{payloads_of, IsNoLog, IsLogOf}
use Rattle.gated_log.proofs.Payloads.{log_payloads}
use Rattle.gated_log.specs.declared.opening.LogFault.{LogFault}
use Rattle.gated_log.specs.declared.opening.LogFault.TheVariants.{Fault, Header, Cut}
use Rattle.std.specs.List.{AllByRecursion}
use Rattle.type_desc.specs.declared.desc.TypeDesc.{TypeDesc}
use Rattle.type_dictionary.specs.Records.{IsRecorded, records_from}
use Rattle.plain_storage.specs.Faults.{log_fault}
use Rattle.plain_storage.specs.Logs.{IsLogFile}
use Rattle.plain_storage.specs.Types.{types_header, AreTypesHeld, AreRecords}
use Rattle.plain_storage.specs.declared.fault.OpenFault.{OpenFault}
use Rattle.plain_storage.specs.declared.fault.OpenFault.TheVariants as open_

-- the fault that was answered
pub fault_was : {T : Type 0} (r : Result T OpenFault) (e : LogFault) → IsErrAnd r (λ f. f ≡ log_fault e) → IsErrOf r open_.Damaged → log_fault e ≡ open_.Damaged
fault_was (Ok x) e is damaged = absurd is
fault_was (Err f) e is damaged = cc

-- a fault of the log that is damage, and not of its header, is that it is cut
pub cut_of : (e : LogFault) (P : Type 0) → log_fault e ≡ open_.Damaged → (e ≡ Header → ⊥) → ((at : ℕ) → e ≡ Cut at → P) → P
cut_of Fault P damaged not_header cut = cc
cut_of Header P damaged not_header cut = absurd (not_header refl)
cut_of (Cut at) P damaged not_header cut = cut at refl

pub same_fault : {T : Type 0} (r : Result T OpenFault) (e d : OpenFault) → IsErrAnd r (λ f. f ≡ e) → IsErrOf r d → e ≡ d
same_fault (Ok x) e d is was = absurd is
same_fault (Err f) e d is was = cc

pub short_payloads : (file : List ℕ) → length file ≤ 9 → payloads_of file ≡ []
short_payloads file short = rw (le-leb (length file) 9 short) refl

-- the payloads of a log's file
pub file_payloads : (header : List ℕ) (payloads : List (List ℕ)) (file : List ℕ) → IsLogFile header payloads file → payloads_of file ≡ payloads
file_payloads header payloads file is = ⊎_elim (λ short. short_payloads file short.0 ∙ sym short.1) (λ log. log_payloads header payloads file log) is

-- the payloads of a file that holds types are their records
pub records_of_file : (file : List ℕ) (types : List TypeDesc) → AreTypesHeld file types → AreRecords [] (payloads_of file) types
records_of_file file types held = record {
  more = types;
  types_are = refl;
  few = held.few;
  recorded = held.recorded;
  spelled = file_payloads types_header (records_from 16 types) file held.log;
}

-- a file whose payloads are records of types holds these
pub file_of_records : (file : List ℕ) (types : List TypeDesc) → AreRecords [] (payloads_of file) types → IsLogFile types_header (payloads_of file) file → AreTypesHeld file types
file_of_records file types these log =
    let spelled : payloads_of file ≡ records_from 16 types = these.spelled ∙ ap (records_from 16) (sym these.types_are) in
    record {
      few = these.few;
      recorded = subst (λ (l : List TypeDesc). AllByRecursion IsRecorded l) (sym these.types_are) these.recorded;
      log = subst (λ (ps : List (List ℕ)). IsLogFile types_header ps file) spelled log;
    }

-- a file that is no log, or whose payloads are no records, holds no types
pub not_held : (file : List ℕ) → ((9 < length file) × IsNoLog types_header file) ⊎ ((all : List TypeDesc) → ¬ (AreRecords [] (payloads_of file) all))
    → (types : List TypeDesc) → AreTypesHeld file types → ⊥
not_held file fault types held =
    ⊎_elim
    (λ no_log. ⊎_elim (λ short. absurd (omega (arith, short.0, no_log.0))) (λ log. no_log.1 (records_from 16 types) log) held.log)
    (λ none. none types (records_of_file file types held))
    fault

-- a log that is open, and whose payloads are records, stands in a file that holds their types
pub opened_holds : (file new : List ℕ) (types : List TypeDesc) → AreRecords [] (payloads_of file) types → (9 < length file → new ≡ file) → IsLogOf types_header (payloads_of new) new
    → AreTypesHeld file types
opened_holds file new types these same log =
    ⊎_elim
    (λ long. file_of_records file types these (inr (subst (λ (l : List ℕ). IsLogOf types_header (payloads_of l) l) (same long) log)))
    (λ short. file_of_records file types these (inl (short, short_payloads file short)))
    (cases_lt 9 (length file))

-- what a file holds, another with the same payloads holds too
pub holds_too : (file image : List ℕ) (types : List TypeDesc) → AreTypesHeld file types → payloads_of image ≡ payloads_of file → IsLogFile types_header (payloads_of image) image
    → AreTypesHeld image types
holds_too file image types held same log =
    file_of_records image types (subst (λ (ps : List (List ℕ)). AreRecords [] ps types) (sym same) (records_of_file file types held)) log

-- a short file holds no type
pub short_file : (file : List ℕ) → length file ≤ 9 → AreTypesHeld file []
short_file file short = record { few = omega arith; recorded = tt; log = inl (short, refl) }
