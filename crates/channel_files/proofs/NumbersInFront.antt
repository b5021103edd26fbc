-- A number of eight bytes that ends within a front of some bytes is the one that stands in the bytes.
use Rattle.std.proofs.Common.{◌≡◌, ℕ, suc, ◌+◌, ◌-◌, ◌*◌, ◌≤◌, nat_le, List, [], ◌∷◌, length, take, drop, Option, Some, None, unwrap_or, refl, ap, sym, ◌∙◌, arith, length-take, length-drop}
use Rattle.std.proofs.lemmas.Bool.{cond-true, le-leb}
use Rattle.std.proofs.lemmas.List.{drop-take}
use Rattle.field_bytes.specs.Fields.{number_at}
use Rattle.field_bytes.proofs.Laws.{number_at-drop, number_at-none}

-- what stands behind the eight bytes does not matter
eight_alone : (a b c d e f g h : ℕ) (x y : List ℕ) → number_at 8 (a ∷ b ∷ c ∷ d ∷ e ∷ f ∷ g ∷ h ∷ x) 0 ≡ number_at 8 (a ∷ b ∷ c ∷ d ∷ e ∷ f ∷ g ∷ h ∷ y) 0
eight_alone a b c d e f g h x y =
    let with_x : List ℕ = a ∷ b ∷ c ∷ d ∷ e ∷ f ∷ g ∷ h ∷ x in
    let with_y : List ℕ = a ∷ b ∷ c ∷ d ∷ e ∷ f ∷ g ∷ h ∷ y in
    let number : Option ℕ = Some (a + 256 * (b + 256 * (c + 256 * (d + 256 * (e + 256 * (f + 256 * (g + 256 * (h + 256 * 0)))))))) in
    cond-true (nat_le (0 + 8) (length with_x)) number None (le-leb (0 + 8) (length with_x) (omega arith))
    ∙ sym (cond-true (nat_le (0 + 8) (length with_y)) number None (le-leb (0 + 8) (length with_y) (omega arith)))

first_eight : (m : ℕ) (bytes : List ℕ) → 8 ≤ m → 8 ≤ length bytes → number_at 8 (take m bytes) 0 ≡ number_at 8 bytes 0
first_eight m [] le some = absurd (omega (arith, some))
first_eight m (a ∷ []) le some = absurd (omega (arith, some))
first_eight m (a ∷ b ∷ []) le some = absurd (omega (arith, some))
first_eight m (a ∷ b ∷ c ∷ []) le some = absurd (omega (arith, some))
first_eight m (a ∷ b ∷ c ∷ d ∷ []) le some = absurd (omega (arith, some))
first_eight m (a ∷ b ∷ c ∷ d ∷ e ∷ []) le some = absurd (omega (arith, some))
first_eight m (a ∷ b ∷ c ∷ d ∷ e ∷ f ∷ []) le some = absurd (omega (arith, some))
first_eight m (a ∷ b ∷ c ∷ d ∷ e ∷ f ∷ g ∷ []) le some = absurd (omega (arith, some))
first_eight m (a ∷ b ∷ c ∷ d ∷ e ∷ f ∷ g ∷ h ∷ rest) le some =
    let more : m ≡ suc (suc (suc (suc (suc (suc (suc (suc (m - 8)))))))) = omega (arith, le) in
    ap (λ (k : ℕ). number_at 8 (take k (a ∷ b ∷ c ∷ d ∷ e ∷ f ∷ g ∷ h ∷ rest)) 0) more ∙ eight_alone a b c d e f g h (take (m - 8) rest) rest

pub number_in_front : (n at : ℕ) (bytes : List ℕ) → at + 8 ≤ n → n ≤ length bytes → number_at 8 (take n bytes) at ≡ number_at 8 bytes at
number_in_front n at bytes le within =
    let parts : n ≡ at + (n - at) = omega arith in
    let front : drop at (take n bytes) ≡ take (n - at) (drop at bytes) = ap (λ (k : ℕ). drop at (take k bytes)) parts ∙ drop-take at (n - at) bytes in
    sym (number_at-drop 8 (take n bytes) at (omega (arith, length-take n bytes)))
    ∙ ap (λ (b : List ℕ). number_at 8 b 0) front
    ∙ first_eight (n - at) (drop at bytes) (omega arith) (omega (arith, length-drop at bytes))
    ∙ number_at-drop 8 bytes at (omega arith)

some_there : (o : Option ℕ) → (o ≡ None → ⊥) → o ≡ Some (unwrap_or o 0)
some_there (Some n) there = refl
some_there None there = absurd (there refl)

-- a number that ends within the bytes is there
pub number_there : (bytes : List ℕ) (at : ℕ) → at + 8 ≤ length bytes → number_at 8 bytes at ≡ Some (unwrap_or (number_at 8 bytes at) 0)
number_there bytes at le = some_there (number_at 8 bytes at) (λ none. absurd (omega (arith, number_at-none 8 bytes at none, le)))
