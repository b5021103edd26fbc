-- The live files after a change.
use Rattle.std.proofs.Common.{◌≡◌, ◌≢◌, ℕ, ◌+◌, true, false, List, [], ◌∷◌, ◌++◌, refl, arith}
use Rattle.std.proofs.lemmas.Bool.Decides.{nat_tests}
use Rattle.transactions_file.specs.Files.{is_live, length_in, length_of, set_length, without}

pub dead_length : (files : List (ℕ × ℕ)) (f : ℕ) → is_live files f ≡ false → length_in files f ≡ 0
dead_length [] f dead = refl
dead_length ((p, n) ∷ files) f dead = grind (arith, nat_tests, dead_length files f)

pub dead_set : (files : List (ℕ × ℕ)) (f n : ℕ) → is_live files f ≡ false → set_length files f n ≡ files
dead_set [] f n dead = refl
dead_set ((p, m) ∷ files) f n dead = grind (arith, nat_tests, dead_set files f n)

pub length_set : (files : List (ℕ × ℕ)) (f n : ℕ) → is_live files f ≡ true → length_in (set_length files f n) f ≡ n
length_set [] f n live = absurd cc
length_set ((p, m) ∷ files) f n live = grind (arith, nat_tests, length_set files f n)

pub length_set_other : (files : List (ℕ × ℕ)) (f n g : ℕ) → g ≢ f → length_in (set_length files f n) g ≡ length_in files g
length_set_other [] f n g ne = refl
length_set_other ((p, m) ∷ files) f n g ne = grind (arith, nat_tests, length_set_other files f n g ne)

pub live_set : (files : List (ℕ × ℕ)) (f n g : ℕ) → is_live (set_length files f n) g ≡ is_live files g
live_set [] f n g = refl
live_set ((p, m) ∷ files) f n g = grind (arith, nat_tests, live_set files f n g)

pub length_without : (files : List (ℕ × ℕ)) (f g : ℕ) → g ≢ f → length_in (without files f) g ≡ length_in files g
length_without [] f g ne = refl
length_without ((p, m) ∷ files) f g ne = grind (arith, nat_tests, length_without files f g ne)

pub live_without : (files : List (ℕ × ℕ)) (f : ℕ) → is_live (without files f) f ≡ false
live_without [] f = refl
live_without ((p, m) ∷ files) f = grind (arith, nat_tests, live_without files f)

pub dead_without : (files : List (ℕ × ℕ)) (f g : ℕ) → is_live files g ≡ false → is_live (without files f) g ≡ false
dead_without [] f g dead = refl
dead_without ((p, m) ∷ files) f g dead = grind (arith, nat_tests, dead_without files f g)

pub length_push : (files : List (ℕ × ℕ)) (f g : ℕ) → length_in (files ++ (f, 0) ∷ []) g ≡ length_in files g
length_push [] f g = grind (arith, nat_tests)
length_push ((p, m) ∷ files) f g = grind (arith, nat_tests, length_push files f g)

pub live_push : (files : List (ℕ × ℕ)) (f g : ℕ) → g ≢ f → is_live (files ++ (f, 0) ∷ []) g ≡ is_live files g
live_push [] f g ne = grind (arith, nat_tests)
live_push ((p, m) ∷ files) f g ne = grind (arith, nat_tests, live_push files f g ne)

pub live_push_same : (files : List (ℕ × ℕ)) (f : ℕ) → is_live (files ++ (f, 0) ∷ []) f ≡ true
live_push_same [] f = grind (arith, nat_tests)
live_push_same ((p, m) ∷ files) f = grind (arith, nat_tests, live_push_same files f)
