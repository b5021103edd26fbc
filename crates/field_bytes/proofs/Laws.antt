-- A number that was written is read again, and bytes that were read are the number's.
use Rattle.std.proofs.Common.{◌≡◌, ℕ, ◌+◌, ◌-◌, ◌^◌, ◌<◌, ◌≤◌, Bool, true, false, cond, leb, List, [], ◌∷◌, ◌++◌, length, get_or, take, drop, Option, Some, None, refl, sym, ap, ◌∙◌, append_assoc, arith, inl, inr, w32, w64}
use Rattle.std.specs.Int.{to_le_bytes}
use Rattle.std.proofs.lemmas.Nat.{le_bytes_4, le_bytes_8}
use Rattle.std.proofs.lemmas.Bool.{le-leb, lt-leb, leb-false, cases_lt}
use Rattle.std.proofs.lemmas.List.{length-drop, length-append, length-take, take_at, drop_at, drop-drop, get_or-take, get_or_past, get_or-drop, append-nil, take-append-drop}
use Rattle.byteorder.specs.Endian.{little_number}
use Rattle.byteorder.specs.Numbers.{little_number-reads_back, length-bytes_low_first}
use Rattle.field_bytes.specs.Fields.{bytes_of, number_at, with_bytes, with_number}

pub length-bytes_of : (size value : ℕ) → length (bytes_of size value) ≡ size
length-bytes_of size value = length-bytes_low_first 0 size value

chosen : (t : Bool) (x y : Option ℕ) → t ≡ true → cond t x y ≡ x
chosen true x y is = refl
chosen false x y is = absurd cc

pub number_at-bytes_of : (size value : ℕ) (rest : List ℕ) → value < 256 ^ size → number_at size (bytes_of size value ++ rest) 0 ≡ Some value
number_at-bytes_of size value rest small =
    let long : 0 + size ≤ length (bytes_of size value ++ rest) = omega (arith, length-append (bytes_of size value) rest, length-bytes_of size value) in
    chosen (leb (0 + size) (length (bytes_of size value ++ rest))) (Some (little_number size (bytes_of size value ++ rest))) None (le-leb _ _ long)
    ∙ ap (λ (n : ℕ). Some n) (little_number-reads_back size value rest small)

-- a number at a place is the first of the bytes from there on
pub number_at-drop : (size : ℕ) (bytes : List ℕ) (at : ℕ) → at ≤ length bytes → number_at size (drop at bytes) 0 ≡ number_at size bytes at
number_at-drop size bytes at within =
    let n = length bytes in
    let len : length (drop at bytes) ≡ n - at = length-drop at bytes in
    let number : Option ℕ = Some (little_number size (drop at bytes)) in
    let same : leb (0 + size) (length (drop at bytes)) ≡ leb (at + size) n = elim (cases_lt n (at + size)) [
      | inl lt ↦ lt-leb (0 + size) (length (drop at bytes)) (omega arith) ∙ sym (lt-leb (at + size) n lt)
      | inr le ↦ le-leb (0 + size) (length (drop at bytes)) (omega arith) ∙ sym (le-leb (at + size) n le)
    ] in
    ap (λ (t : Bool). cond t number None) same

-- where there is no number, the bytes end before
pub number_at-none : (size : ℕ) (bytes : List ℕ) (at : ℕ) → number_at size bytes at ≡ None → length bytes < at + size
number_at-none size bytes at e = leb-false (at + size) (length bytes) (untaken (leb (at + size) (length bytes)) (little_number size (drop at bytes)) e)
  where
    untaken : (t : Bool) (x : ℕ) → cond t (Some x) None ≡ None → t ≡ false
    untaken true x e = absurd cc
    untaken false x e = refl

pub drop-bytes_of : (size value : ℕ) (rest : List ℕ) → drop size (bytes_of size value ++ rest) ≡ rest
drop-bytes_of size value rest = drop_at (bytes_of size value) rest size (length-bytes_of size value)

-- ---- bytes that were read

abbrev pub IsBytes : List ℕ → Type 0
IsBytes bytes = (i : ℕ) → get_or bytes i 0 < 256

some_is : (t : Bool) (x n : ℕ) → cond t (Some x) None ≡ Some n → (t ≡ true) × (x ≡ n)
some_is true x n e = (refl, cc)
some_is false x n e = absurd cc

-- the bytes that were read are those of the number
pub record IsNumber (size : ℕ) (limit : ℕ) (bytes : List ℕ) (n : ℕ) : Type 0 where
  pub parts : bytes ≡ bytes_of size n ++ drop size bytes
  pub small : n < limit

front_fits : (n : ℕ) (bytes : List ℕ) → IsBytes bytes → IsBytes (take n bytes)
front_fits n bytes fits i = elim (cases_lt i n) [
  | inl lt ↦ rw (get_or-take n bytes i 0 lt) (fits i)
  | inr le ↦ rw (get_or_past (take n bytes) i 0 (omega (arith, length-take n bytes))) (omega arith)
]

pub number_of_4 : (bytes : List ℕ) (n : ℕ) → IsBytes bytes → number_at 4 bytes 0 ≡ Some n → IsNumber 4 (2 ^ 32) bytes n
number_of_4 [] n fits e = absurd cc
number_of_4 (a ∷ []) n fits e = absurd cc
number_of_4 (a ∷ b ∷ []) n fits e = absurd cc
number_of_4 (a ∷ b ∷ c ∷ []) n fits e = absurd cc
number_of_4 (a ∷ b ∷ c ∷ d ∷ rest) n fits e =
    let bytes : List ℕ = a ∷ b ∷ c ∷ d ∷ rest in
    let s = some_is (leb (0 + 4) (length bytes)) (little_number 4 bytes) n e in
    let four : List ℕ = a ∷ b ∷ c ∷ d ∷ [] in
    let a_fits : a < 256 = fits 0 in
    let b_fits : b < 256 = fits 1 in
    let c_fits : c < 256 = fits 2 in
    let d_fits : d < 256 = fits 3 in
    let are_bytes : IsBytes four = front_fits 4 bytes fits in
    let same : to_le_bytes w32 n ≡ four = le_bytes_4 four n refl are_bytes (omega (arith, s.1)) in
    record { parts = ap (λ (t : List ℕ). t ++ rest) (sym same); small = omega (arith, s.1) }

pub number_of_8 : (bytes : List ℕ) (n : ℕ) → IsBytes bytes → number_at 8 bytes 0 ≡ Some n → IsNumber 8 (2 ^ 64) bytes n
number_of_8 [] n fits is = absurd cc
number_of_8 (a ∷ []) n fits is = absurd cc
number_of_8 (a ∷ b ∷ []) n fits is = absurd cc
number_of_8 (a ∷ b ∷ c ∷ []) n fits is = absurd cc
number_of_8 (a ∷ b ∷ c ∷ d ∷ []) n fits is = absurd cc
number_of_8 (a ∷ b ∷ c ∷ d ∷ e ∷ []) n fits is = absurd cc
number_of_8 (a ∷ b ∷ c ∷ d ∷ e ∷ f ∷ []) n fits is = absurd cc
number_of_8 (a ∷ b ∷ c ∷ d ∷ e ∷ f ∷ g ∷ []) n fits is = absurd cc
number_of_8 (a ∷ b ∷ c ∷ d ∷ e ∷ f ∷ g ∷ h ∷ rest) n fits is =
    let bytes : List ℕ = a ∷ b ∷ c ∷ d ∷ e ∷ f ∷ g ∷ h ∷ rest in
    let s = some_is (leb (0 + 8) (length bytes)) (little_number 8 bytes) n is in
    let eight : List ℕ = a ∷ b ∷ c ∷ d ∷ e ∷ f ∷ g ∷ h ∷ [] in
    let a_fits : a < 256 = fits 0 in
    let b_fits : b < 256 = fits 1 in
    let c_fits : c < 256 = fits 2 in
    let d_fits : d < 256 = fits 3 in
    let e_fits : e < 256 = fits 4 in
    let f_fits : f < 256 = fits 5 in
    let g_fits : g < 256 = fits 6 in
    let h_fits : h < 256 = fits 7 in
    let same : to_le_bytes w64 n ≡ eight = le_bytes_8 eight n refl (front_fits 8 bytes fits) (omega (arith, s.1)) in
    record { parts = ap (λ (t : List ℕ). t ++ rest) (sym same); small = omega (arith, s.1) }

pub IsBytes-drop : (n : ℕ) (bytes : List ℕ) → IsBytes bytes → IsBytes (drop n bytes)
IsBytes-drop n bytes fits i = rw get_or-drop (fits (n + i))

-- ---- bytes that are written one after the other

drop_behind : (front rest : List ℕ) (n : ℕ) → drop (length front + n) (front ++ rest) ≡ drop n rest
drop_behind front rest n = sym (drop-drop n (length front) (front ++ rest)) ∙ ap (drop n) (drop_at front rest (length front) refl)

-- a number is written as its bytes are
pub with_number-bytes : (size : ℕ) (bytes : List ℕ) (at value : ℕ) → with_number size bytes at value ≡ with_bytes bytes at (bytes_of size value)
with_number-bytes size bytes at value = rw (length-bytes_of size value) refl

-- nothing written changes nothing
pub with_bytes-none : (bytes : List ℕ) (at : ℕ) → with_bytes bytes at [] ≡ bytes
with_bytes-none bytes at =
    let here : at + 0 ≡ at = omega arith in
    rw (here, append-nil (take at bytes)) (take-append-drop at bytes)

-- what is written behind what was written is written with it
pub with_bytes-behind : (bytes : List ℕ) (at : ℕ) (new more : List ℕ) → at + length new ≤ length bytes → with_bytes (with_bytes bytes at new) (at + length new) more ≡ with_bytes bytes at (new ++ more)
with_bytes-behind bytes at new more room =
    let front = take at bytes ++ new in
    let rest = drop (at + length new) bytes in
    let front_len : length front ≡ at + length new = omega (arith, length-append (take at bytes) new, length-take at bytes) in
    let kept : take (at + length new) (front ++ rest) ≡ front = take_at front rest (at + length new) front_len in
    let place : at + length new + length more ≡ length front + length more = omega arith in
    let behind : drop (at + length new + length more) (front ++ rest) ≡ drop (length more) rest = ap (λ n. drop n (front ++ rest)) place ∙ drop_behind front rest (length more) in
    let end : drop (length more) rest ≡ drop (at + length (new ++ more)) bytes =
    drop-drop (length more) (at + length new) bytes ∙ ap (λ n. drop n bytes) (omega (arith, length-append new more)) in
    rw (kept, behind, end) (ap (λ (t : List ℕ). t ++ drop (at + length (new ++ more)) bytes) (append_assoc (take at bytes) new more))
