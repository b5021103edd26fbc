-- One more record of a dictionary log is passed.
use Rattle.std.proofs.Common.{◌≡◌, ℕ, ◌+◌, List, [], ◌∷◌, ◌++◌, length, refl, sym, ap, ◌∙◌, subst, arith, length-append, append_assoc, append-nil}
use Rattle.std.specs.List.{AllByRecursion}
use Rattle.type_desc.specs.Grammar.{record_text}
use Rattle.type_desc.specs.declared.desc.TypeDesc.{TypeDesc}
use Rattle.type_dictionary.specs.Records.{GainsRecord, IsNextRecord, IsRecorded, records_from}
use Rattle.disk_opening.specs.TypesReading.{AreTypes, HasPassedTypes, IsTypeFault}

records-push : (id : ℕ) (types : List TypeDesc) (desc : TypeDesc) → records_from id (types ++ desc ∷ []) ≡ records_from id types ++ record_text (id + length types, desc) ∷ []
records-push id [] desc = ap (λ n. record_text (n, desc) ∷ []) (omega arith)
records-push id (d ∷ types) desc = ap (λ ps. record_text (id, d) ∷ ps) (records-push (id + 1) types desc ∙ ap (λ n. records_from (id + 1) types ++ record_text (n, desc) ∷ []) (omega arith))

recorded-push : (types : List TypeDesc) (desc : TypeDesc) → AllByRecursion IsRecorded types → IsRecorded desc → AllByRecursion IsRecorded (types ++ desc ∷ [])
recorded-push [] desc all one = (one, tt)
recorded-push (d ∷ types) desc all one = (all.0, recorded-push types desc all.1 one)

-- before the first record
pub none_passed : (payloads : List (List ℕ)) (types : List TypeDesc) → types ≡ [] → HasPassedTypes payloads payloads types
none_passed payloads types none = subst (HasPassedTypes payloads payloads) (sym none) record { few = omega arith; recorded = tt; split = refl }

pub type_passed : (payloads left left' : List (List ℕ)) (types types' : List TypeDesc) (payload : List ℕ) → HasPassedTypes payloads left types → left ≡ payload ∷ left' → GainsRecord types types' payload
    → HasPassedTypes payloads left' types'
type_passed payloads left left' types types' payload so parts gains = subst (HasPassedTypes payloads left') (sym gains.gained) record {
  few = omega (arith, gains.next.room, length-append types (gains.desc ∷ []));
  recorded = recorded-push types gains.desc so.recorded gains.next.recorded;
  split = so.split ∙ ap (λ l. records_from 16 types ++ l) (parts ∙ ap (λ p. p ∷ left') gains.next.spelled) ∙ sym (append_assoc (records_from 16 types) (record_text (16 + length types, gains.desc) ∷ []) left')
      ∙ ap (λ l. l ++ left') (sym (records-push 16 types gains.desc));
}

-- behind the last record
pub all_passed : (payloads left : List (List ℕ)) (types : List TypeDesc) → HasPassedTypes payloads left types → left ≡ [] → AreTypes payloads types
all_passed payloads left types so none = record { few = so.few; recorded = so.recorded; spelled = so.split ∙ ap (λ l. records_from 16 types ++ l) none ∙ append-nil (records_from 16 types) }

-- one that no type spells there
pub wrong_type : (payloads left left' : List (List ℕ)) (types : List TypeDesc) (payload : List ℕ) (count at : ℕ) → HasPassedTypes payloads left types → left ≡ payload ∷ left' → count ≡ length types → at ≡ count + 1
    → ((desc : TypeDesc) → ¬ (IsNextRecord types payload desc)) → IsTypeFault payloads at
wrong_type payloads left left' types payload count at so parts counted numbered wrong = record {
  types = types;
  payload = payload;
  behind = left';
  front = record { few = so.few; recorded = so.recorded; split = so.split ∙ ap (λ l. records_from 16 types ++ l) parts };
  number = omega (arith, counted, numbered);
  wrong = wrong;
}
