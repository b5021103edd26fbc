-- Files by rising number.
use Rattle.std.proofs.Common.{◌≡◌, ℕ, ◌+◌, ◌≤◌, ◌<◌, ◌==◌, not, if◌then◌else◌, Bool, true, false, List, [], ◌∷◌, ◌++◌, refl, arith}
use Rattle.std.proofs.lemmas.Bool.Decides.{nat_tests}
use Rattle.transactions_file.specs.Files.{is_live, length_of, set_length, without, IsRising}

pub within : (low high : ℕ) (files : List (ℕ × ℕ)) → IsRising low high files → low ≤ high
within low high [] rising = rising
within low high ((p, n) ∷ files) rising = omega (arith, rising.0, within (p + 1) high files rising.1)

pub lower : (less low high : ℕ) (files : List (ℕ × ℕ)) → less ≤ low → IsRising low high files → IsRising less high files
lower less low high [] le rising = omega (arith, le, rising)
lower less low high ((p, n) ∷ files) le rising = (omega (arith, le, rising.0), rising.1)

pub higher : (low high more : ℕ) (files : List (ℕ × ℕ)) → high ≤ more → IsRising low high files → IsRising low more files
higher low high more [] le rising = omega (arith, le, rising)
higher low high more ((p, n) ∷ files) le rising = (rising.0, higher (p + 1) high more files le rising.1)

pub rising_push : (low high f : ℕ) (files : List (ℕ × ℕ)) → IsRising low high files → high ≤ f → IsRising low (f + 1) (files ++ (f, 0) ∷ [])
rising_push low high f [] rising le = (omega (arith, rising, le), omega arith)
rising_push low high f ((p, n) ∷ files) rising le = (rising.0, rising_push (p + 1) high f files rising.1 le)

pub rising_set : (low high f m : ℕ) (files : List (ℕ × ℕ)) → IsRising low high files → IsRising low high (set_length files f m)
rising_set low high f m [] rising = rising
rising_set low high f m ((p, n) ∷ files) rising = (rising.0, rising_set (p + 1) high f m files rising.1)

kept_or_not : (b : Bool) (low high p n : ℕ) (files : List (ℕ × ℕ)) → low ≤ p → IsRising (p + 1) high files → IsRising low high (if b then (p, n) ∷ files else files)
kept_or_not true low high p n files le rising = (le, rising)
kept_or_not false low high p n files le rising = lower low (p + 1) high files (omega (arith, le)) rising

pub rising_without : (low high f : ℕ) (files : List (ℕ × ℕ)) → IsRising low high files → IsRising low high (without files f)
rising_without low high f [] rising = rising
rising_without low high f ((p, n) ∷ files) rising = kept_or_not (not (p == f)) low high p n (without files f) rising.0 (rising_without (p + 1) high f files rising.1)

pub dead_below : (low high f : ℕ) (files : List (ℕ × ℕ)) → IsRising low high files → f < low → is_live files f ≡ false
dead_below low high f [] rising lt = refl
dead_below low high f ((p, n) ∷ files) rising lt = grind (arith, nat_tests, rising.0, dead_below (p + 1) high f files rising.1)

pub dead_above : (low high f : ℕ) (files : List (ℕ × ℕ)) → IsRising low high files → high ≤ f → is_live files f ≡ false
dead_above low high f [] rising le = refl
dead_above low high f ((p, n) ∷ files) rising le = grind (arith, nat_tests, within (p + 1) high files rising.1, dead_above (p + 1) high f files rising.1)
