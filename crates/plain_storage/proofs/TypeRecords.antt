-- Records of types, one behind the other.
use Rattle.std.proofs.Common.{◌≡◌, ◌≤◌, ◌+◌, ◌++◌, [], ◌∷◌, ℕ, List, length, refl, ap, sym, ◌∙◌, arith, append_assoc, append-nil, length-append}
use Rattle.std.specs.List.{AllByRecursion}
use Rattle.type_desc.specs.Grammar.{record_text}
use Rattle.type_desc.specs.declared.desc.TypeDesc.{TypeDesc}
use Rattle.type_dictionary.specs.Records.{IsNextRecord, IsRecorded, records_from}
use Rattle.plain_storage.specs.Types.{AreRecords}

one_longer : (before : List TypeDesc) (desc : TypeDesc) → (16 + length before) + 1 ≡ 16 + length (before ++ desc ∷ [])
one_longer before desc = omega (arith, length-append before (desc ∷ []))

-- one record in front of others
pub records_more : (before : List TypeDesc) (desc : TypeDesc) (payload : List ℕ) (rest : List (List ℕ)) (types : List TypeDesc) → IsNextRecord before payload desc
    → AreRecords (before ++ desc ∷ []) rest types → AreRecords before (payload ∷ rest) types
records_more before desc payload rest types next others = record {
  more = desc ∷ others.more;
  types_are = others.types_are ∙ append_assoc before (desc ∷ []) others.more;
  few = others.few;
  recorded = (next.recorded, others.recorded);
  spelled = ap (λ (p : List ℕ). p ∷ rest) next.spelled
      ∙ ap (λ (ps : List (List ℕ)). record_text (16 + length before, desc) ∷ ps) (others.spelled ∙ ap (λ n. records_from n others.more) (sym (one_longer before desc)));
}

-- no record is left
pub records_end : (before : List TypeDesc) → length before ≤ 65536 → AreRecords before [] before
records_end before few = record { more = []; types_are = sym (append-nil before); few = few; recorded = tt; spelled = refl }

abbrev heads : List (List ℕ) → List ℕ
heads [] = []
heads (p ∷ ps) = p

abbrev tails : List (List ℕ) → List (List ℕ)
tails [] = []
tails (p ∷ ps) = ps

-- the first of the records, and the others
pub record IsFirstType (before : List TypeDesc) (payload : List ℕ) (rest : List (List ℕ)) (types : List TypeDesc) : Type 0 where
  pub desc : TypeDesc
  pub next : IsNextRecord before payload desc
  pub others : AreRecords (before ++ desc ∷ []) rest types

first_of_types : (before : List TypeDesc) (payload : List ℕ) (rest : List (List ℕ)) (types more : List TypeDesc) → types ≡ before ++ more → length types ≤ 65536 → AllByRecursion IsRecorded more
    → payload ∷ rest ≡ records_from (16 + length before) more → IsFirstType before payload rest types
first_of_types before payload rest types [] types_are few recorded spelled = absurd (no_payload payload rest spelled)
  where
    no_payload : (payload : List ℕ) (rest : List (List ℕ)) → ◌≡◌ {A = List (List ℕ)} (payload ∷ rest) [] → ⊥
    no_payload payload rest is = cc
first_of_types before payload rest types (desc ∷ more) types_are few recorded spelled = record {
  desc = desc;
  next = record { room = omega (arith, few, ap length types_are, length-append before (desc ∷ more)); recorded = recorded.0; spelled = ap heads spelled };
  others = record {
    more = more;
    types_are = types_are ∙ sym (append_assoc before (desc ∷ []) more);
    few = few;
    recorded = recorded.1;
    spelled = ap tails spelled ∙ ap (λ n. records_from n more) (one_longer before desc);
  };
}

pub first_type : (before : List TypeDesc) (payload : List ℕ) (rest : List (List ℕ)) (types : List TypeDesc) → AreRecords before (payload ∷ rest) types → IsFirstType before payload rest types
first_type before payload rest types these = first_of_types before payload rest types these.more these.types_are these.few these.recorded these.spelled

end_of_types : (before types more : List TypeDesc) (id : ℕ) → types ≡ before ++ more → ◌≡◌ {A = List (List ℕ)} [] (records_from id more) → types ≡ before
end_of_types before types [] id types_are spelled = types_are ∙ append-nil before
end_of_types before types (desc ∷ more) id types_are spelled = absurd (no_payload spelled)
  where
    no_payload : ◌≡◌ {A = List (List ℕ)} [] (record_text (id, desc) ∷ records_from (id + 1) more) → ⊥
    no_payload is = cc

pub types_ended : (before types : List TypeDesc) → AreRecords before [] types → types ≡ before
types_ended before types these = end_of_types before types these.more (16 + length before) these.types_are these.spelled
