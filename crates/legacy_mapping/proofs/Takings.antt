-- Values that are taken out of their places one after the other.
use Rattle.std.proofs.Common.{◌≡◌, ◌≢◌, ℕ, zero, suc, ◌+◌, ◌<◌, ◌≤◌, List, [], ◌∷◌, ◌++◌, take, length, set, map, Option, Some, None, refl, sym, ap, ◌∙◌, arith}
use Rattle.std.specs.Option.{ForSome}
use Rattle.std.specs.Prelude.{slice_get, unwrap_or}
use Rattle.entity_form.specs.Values.{default_of, kind_of}
use Rattle.entity_form.specs.declared.value.Value.{Value}
use Rattle.type_desc.specs.declared.desc.Kind.{Kind}
use Rattle.legacy_mapping.specs.Conversion.{Suits, converted, value_from}
use Rattle.legacy_mapping.specs.Sources.{AreApart}
use Rattle.legacy_mapping.proofs.Conversions.{converted-more, suits_within}

-- another place
pub get_else : {X : Type 0} (xs : List X) (k j : ℕ) (y : X) → k ≢ j → slice_get (set xs k y) j ≡ slice_get xs j
get_else [] k j y apart = refl
get_else (x ∷ xs) zero zero y apart = absurd (apart refl)
get_else (x ∷ xs) zero (suc j) y apart = refl
get_else (x ∷ xs) (suc k) zero y apart = refl
get_else (x ∷ xs) (suc k) (suc j) y apart = get_else xs k j y (λ e. apart (ap suc e))

-- the values for the members before the n-th were taken out, and those for the others stand in their places
pub record AreTaken (first left : List Value) (kinds : List Kind) (sources : List (Option ℕ)) (n : ℕ) (taken : List Value) : Type 0 where
  pub long : length left ≡ length first
  pub stands : (k i : ℕ) → n ≤ k → slice_get sources k ≡ Some (Some i) → slice_get left i ≡ slice_get first i
  pub values : taken ≡ converted first (take n kinds) (take n sources)

pub none_taken : (values : List Value) (kinds : List Kind) (sources : List (Option ℕ)) → AreTaken values values kinds sources 0 []
none_taken values kinds sources = record { long = refl; stands = λ k i above at. refl; values = refl }

value_there : (first left : List Value) (kinds : List Kind) (sources : List (Option ℕ)) (n : ℕ) (taken : List Value) (kind : Kind) (source : Option ℕ) → AreTaken first left kinds sources n taken
    → slice_get sources n ≡ Some source → value_from left kind source ≡ value_from first kind source
value_there first left kinds sources n taken kind None t at = refl
value_there first left kinds sources n taken kind (Some i) t at = ap (λ (o : Option Value). unwrap_or o (default_of kind)) (t.stands n i (omega arith) at)

pub source_there : (first left : List Value) (kinds : List Kind) (sources : List (Option ℕ)) (n : ℕ) (taken : List Value) (source : Option ℕ) → AreTaken first left kinds sources n taken
    → Suits (map kind_of first) kinds sources → slice_get sources n ≡ Some source → ForSome source (λ i. i < length left)
source_there first left kinds sources n taken source t suits at = λ i e. let within = suits_within first kinds sources n source suits at i e in let long = t.long in omega arith

pub one_more : (first left after : List Value) (kinds : List Kind) (sources : List (Option ℕ)) (n : ℕ) (taken : List Value) (kind : Kind) (source : Option ℕ) → AreApart sources → length sources ≡ length kinds
    → AreTaken first left kinds sources n taken → slice_get kinds n ≡ Some kind → slice_get sources n ≡ Some source → length after ≡ length left
    → ((k : ℕ) → source ≢ Some k → slice_get after k ≡ slice_get left k) → AreTaken first after kinds sources (n + 1) (taken ++ value_from left kind source ∷ [])
one_more first left after kinds sources n taken kind source apart same t kind_at at long others = record {
  long = long ∙ t.long;
  stands = λ k i above there.
      others i (λ e. let one : n ≡ k = apart n k i (at ∙ ap Some e) there in absurd (omega arith)) ∙ t.stands k i (omega arith) there;
  values = rw (value_there first left kinds sources n taken kind source t at, t.values) (sym (converted-more first kinds sources n kind source same kind_at at));
}
