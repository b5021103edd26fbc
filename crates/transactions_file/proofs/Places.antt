-- A file at a place of a list by rising number.
use Rattle.std.proofs.Common.{◌≡◌, ℕ, zero, suc, ◌+◌, ◌-◌, ◌≤◌, ◌<◌, false, List, [], ◌∷◌, ◌++◌, length, get_or, set, take, drop, Option, Some, None, Result, Ok, Err, IfOk, IfErr, IfSome, IfNone, refl, sym, ap, ◌∙◌, arith}
use Rattle.std.specs.List.{remove}
use Rattle.std.specs.List.Sorted.{IsSearchInRange, IsBinarySearchResult, IsNonDecreasingBy}
use Rattle.std.specs.Ordering.{nat_cmp, ordering_index}
use Rattle.std.proofs.lemmas.Cmp.{ranked}
use Rattle.std.proofs.lemmas.List.Sorted.{IsNonDecreasingBy-from_default}
use Rattle.std.proofs.lemmas.Bool.Decides.{nat_tests}
use Rattle.transactions_file.specs.Files.{is_live, length_of, set_length, without, IsRising, IsAt}
use Rattle.transactions_file.proofs.Lengths.{dead_set}
use Rattle.transactions_file.proofs.Rising.{dead_below}

abbrev number_at : List (ℕ × ℕ) → ℕ → ℕ
number_at files i = (get_or files i (0, 0)).0

-- a later number is above an earlier one
least : (low high : ℕ) (files : List (ℕ × ℕ)) → IsRising low high files → (j : ℕ) → j < length files → low ≤ number_at files j
least low high [] rising j within = absurd (omega arith)
least low high ((p, n) ∷ files) rising zero within = rising.0
least low high ((p, n) ∷ files) rising (suc j) within = omega (arith, rising.0, least (p + 1) high files rising.1 j (omega arith))

rises : (low high : ℕ) (files : List (ℕ × ℕ)) → IsRising low high files → (i j : ℕ) → i < j → j < length files → number_at files i < number_at files j
rises low high [] rising i j lt within = absurd (omega arith)
rises low high ((p, n) ∷ files) rising i zero lt within = absurd (omega arith)
rises low high ((p, n) ∷ files) rising zero (suc j) lt within = omega (arith, least (p + 1) high files rising.1 j (omega arith))
rises low high ((p, n) ∷ files) rising (suc i) (suc j) lt within = rises (p + 1) high files rising.1 i j (omega arith) (omega arith)

-- no place has the number
absent : (files : List (ℕ × ℕ)) (f : ℕ) → ((j : ℕ) → j < length files → number_at files j ≡ f → ⊥) → is_live files f ≡ false
absent [] f none = refl
absent ((p, n) ∷ files) f none = grind (arith, nat_tests, none 0 (omega arith), absent files f (λ j lt. none (suc j) (omega arith)))

module _ (files : List (ℕ × ℕ)) (low high : ℕ) (rising : IsRising low high files) (f : ℕ) where
  comparisons_rise : IsNonDecreasingBy (λ pair. ordering_index (nat_cmp pair.0 f)) files
  comparisons_rise = IsNonDecreasingBy-from_default (λ pair. ordering_index (nat_cmp pair.0 f)) files (0, 0) (λ i j le within.
      let rise : number_at files i ≤ number_at files j = grind (arith, rises low high files rising i j, λ (same : i ≡ j). ap (number_at files) same) in
      grind (arith, nat_tests))

  -- a binary search by number ends at the file, or there is none
  pub searched : (r : Result ℕ ℕ) → IsSearchInRange r (length files) → IsBinarySearchResult (λ pair. nat_cmp pair.0 f) files r
      → record { found : IfOk r (IsAt files f); none : IfErr r (λ at. is_live files f ≡ false) }
  searched (Ok at) in_range equal = record { found = record { within = in_range; number = ranked _ f _ (sym (equal (0, 0))) }; none = tt }
  searched (Err at) in_range parted = record {
    found = tt;
    none = absent files f (λ j within same. grind (
      arith,
      λ (lt : j < at). ranked _ f _ (sym ((parted comparisons_rise).0 j (0, 0) (omega arith) lt)),
      λ (le : at ≤ j). ranked _ f _ (sym ((parted comparisons_rise).1 j (0, 0) le within)),
    ));
  }

pub length_found : (low high : ℕ) (files : List (ℕ × ℕ)) (f i : ℕ) → IsRising low high files → IsAt files f i → length_of files f ≡ Some (get_or files i (0, 0)).1
length_found low high [] f i rising at = absurd (omega (arith, at.within))
length_found low high ((p, n) ∷ files) f zero rising at = grind (arith, nat_tests, at.number)
length_found low high ((p, n) ∷ files) f (suc i) rising at =
    grind (
      arith,
      nat_tests,
      at.number,
      least (p + 1) high files rising.1 i (omega (arith, at.within)),
      length_found (p + 1) high files f i rising.1 (record { within = omega (arith, at.within); number = at.number }),
    )

pub set_found : (low high : ℕ) (files : List (ℕ × ℕ)) (f i m : ℕ) → IsRising low high files → IsAt files f i → set files i ((get_or files i (0, 0)).0, m) ≡ set_length files f m
set_found low high [] f i m rising at = absurd (omega (arith, at.within))
set_found low high ((p, n) ∷ files) f zero m rising at = grind (arith, nat_tests, at.number, dead_set files f m (dead_below (p + 1) high f files rising.1 (omega (arith, at.number))))
set_found low high ((p, n) ∷ files) f (suc i) m rising at =
    grind (
      arith,
      nat_tests,
      at.number,
      least (p + 1) high files rising.1 i (omega (arith, at.within)),
      set_found (p + 1) high files f i m rising.1 (record { within = omega (arith, at.within); number = at.number }),
    )

pub without_dead : (files : List (ℕ × ℕ)) (f : ℕ) → is_live files f ≡ false → without files f ≡ files
without_dead [] f dead = refl
without_dead ((p, n) ∷ files) f dead = grind (arith, nat_tests, without_dead files f)

pub without_found : (low high : ℕ) (files : List (ℕ × ℕ)) (f i : ℕ) → IsRising low high files → IsAt files f i → remove files i ≡ without files f
without_found low high [] f i rising at = absurd (omega (arith, at.within))
without_found low high ((p, n) ∷ files) f zero rising at = grind (arith, nat_tests, at.number, without_dead files f (dead_below (p + 1) high f files rising.1 (omega (arith, at.number))))
without_found low high ((p, n) ∷ files) f (suc i) rising at =
    grind (
      arith,
      nat_tests,
      at.number,
      least (p + 1) high files rising.1 i (omega (arith, at.within)),
      without_found (p + 1) high files f i rising.1 (record { within = omega (arith, at.within); number = at.number }),
    )
