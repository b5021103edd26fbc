-- What a set has, and what becomes of it, by its flags.
use Rattle.std.proofs.Common.{◌≡◌, ◌∙◌, ℕ, zero, suc, ◌+◌, ◌<◌, ◌≤◌, Bool, true, false, cond, not, ◌&&◌, ◌||◌, List, [], ◌∷◌, length, get_or, set, refl, sym, ap, subst, arith, add-zero, add-one, zero-add}
use Rattle.std.specs.Prelude.{nat_eq}
use Rattle.std.specs.List.{list_all, range_with_len, zip}
use Rattle.std.proofs.lemmas.Bool.{eq-eqb, ne_eqb, lt-ltb, le-ltb}
use Rattle.std.proofs.lemmas.List.{set-get_or, get_or_past}
use Rattle.graph_model.specs.Ids.{has, insert, add, remove}
use Rattle.core_hands.specs.Numbers.{numbers_from}

above : (k x : ℕ) → x < k → nat_eq x k ≡ false
above k x below = ne_eqb x k (λ same. absurd (omega arith))

later : (k i : ℕ) → nat_eq (k + suc i) k ≡ false
later k i = ne_eqb (k + suc i) k (λ same. absurd (omega arith))

here : (k : ℕ) → nat_eq (k + 0) k ≡ true
here k = eq-eqb (k + 0) k (omega arith)

next : (k i : ℕ) → k + suc i ≡ (k + 1) + i
next k i = omega arith

-- a number below that of the first flag is no member
has_none : (k x : ℕ) (flags : List Bool) → x < k → has x (numbers_from k flags) ≡ false
has_none k x [] below = refl
has_none k x (true ∷ flags) below = rw (above k x below) (has_none (k + 1) x flags (omega arith))
has_none k x (false ∷ flags) below = has_none (k + 1) x flags (omega arith)

-- a number is a member where its flag is set
pub has_number : (k i : ℕ) (flags : List Bool) → has (k + i) (numbers_from k flags) ≡ get_or flags i false
has_number k i [] = refl
has_number k zero (true ∷ flags) = rw (here k) refl
has_number k zero (false ∷ flags) = has_none (k + 1) (k + 0) flags (omega arith)
has_number k (suc i) (true ∷ flags) = rw (later k i) (ap (λ (x : ℕ). has x (numbers_from (k + 1) flags)) (next k i) ∙ has_number (k + 1) i flags)
has_number k (suc i) (false ∷ flags) = ap (λ (x : ℕ). has x (numbers_from (k + 1) flags)) (next k i) ∙ has_number (k + 1) i flags

pub has_flag : (i : ℕ) (flags : List Bool) → has i (numbers_from 0 flags) ≡ get_or flags i false
has_flag i flags = ap (λ (x : ℕ). has x (numbers_from 0 flags)) (sym (zero-add i)) ∙ has_number 0 i flags

pub has_past : (i : ℕ) (flags : List Bool) → length flags ≤ i → has i (numbers_from 0 flags) ≡ false
has_past i flags past = has_flag i flags ∙ get_or_past flags i false past

insert_none : (k x : ℕ) (flags : List Bool) → x < k → insert x (numbers_from k flags) ≡ x ∷ numbers_from k flags
insert_none k x [] below = refl
insert_none k x (true ∷ flags) below = rw (le-ltb k x (omega arith)) refl
insert_none k x (false ∷ flags) below = insert_none (k + 1) x flags (omega arith)

insert_number : (k i : ℕ) (flags : List Bool) → i < length flags → get_or flags i false ≡ false → insert (k + i) (numbers_from k flags) ≡ numbers_from k (set flags i true)
insert_number k i [] within clear = absurd (omega arith)
insert_number k zero (true ∷ flags) within clear = cc
insert_number k zero (false ∷ flags) within clear = insert_none (k + 1) (k + 0) flags (omega arith) ∙ ap (λ (x : ℕ). x ∷ numbers_from (k + 1) flags) (add-zero k)
insert_number k (suc i) (true ∷ flags) within clear = rw (lt-ltb k (k + suc i) (omega arith))
    (ap (λ (xs : List ℕ). k ∷ xs) (ap (λ (x : ℕ). insert x (numbers_from (k + 1) flags)) (next k i) ∙ insert_number (k + 1) i flags (omega arith) clear))
insert_number k (suc i) (false ∷ flags) within clear = ap (λ (x : ℕ). insert x (numbers_from (k + 1) flags)) (next k i) ∙ insert_number (k + 1) i flags (omega arith) clear

-- a flag that is set puts its number into the set
pub add_flag : (i : ℕ) (flags : List Bool) → i < length flags → numbers_from 0 (set flags i true) ≡ add i (numbers_from 0 flags)
add_flag i flags within = by (get_or flags i false) refl
  where
    by : (b : Bool) → get_or flags i false ≡ b → numbers_from 0 (set flags i true) ≡ cond (has i (numbers_from 0 flags)) (numbers_from 0 flags) (insert i (numbers_from 0 flags))
    by true e = let member : has i (numbers_from 0 flags) ≡ true = has_flag i flags ∙ e in
        let same : set flags i true ≡ flags = subst (λ (b : Bool). set flags i b ≡ flags) e (set-get_or flags i false) in
        ap (λ (fs : List Bool). numbers_from 0 fs) same ∙ sym (ap (λ (b : Bool). cond b (numbers_from 0 flags) (insert i (numbers_from 0 flags))) member)
    by false e = let none : has i (numbers_from 0 flags) ≡ false = has_flag i flags ∙ e in
        let put : insert i (numbers_from 0 flags) ≡ numbers_from 0 (set flags i true) = ap (λ (x : ℕ). insert x (numbers_from 0 flags)) (sym (zero-add i)) ∙ insert_number 0 i flags within e in
        sym put ∙ sym (ap (λ (b : Bool). cond b (numbers_from 0 flags) (insert i (numbers_from 0 flags))) none)

remove_none : (k x : ℕ) (flags : List Bool) → x < k → remove x (numbers_from k flags) ≡ numbers_from k flags
remove_none k x [] below = refl
remove_none k x (true ∷ flags) below = rw (above k x below) (ap (λ (xs : List ℕ). k ∷ xs) (remove_none (k + 1) x flags (omega arith)))
remove_none k x (false ∷ flags) below = remove_none (k + 1) x flags (omega arith)

remove_number : (k i : ℕ) (flags : List Bool) → remove (k + i) (numbers_from k flags) ≡ numbers_from k (set flags i false)
remove_number k i [] = refl
remove_number k zero (true ∷ flags) = rw (here k) refl
remove_number k zero (false ∷ flags) = remove_none (k + 1) (k + 0) flags (omega arith)
remove_number k (suc i) (true ∷ flags) = rw (later k i)
    (ap (λ (xs : List ℕ). k ∷ xs) (ap (λ (x : ℕ). remove x (numbers_from (k + 1) flags)) (next k i) ∙ remove_number (k + 1) i flags))
remove_number k (suc i) (false ∷ flags) = ap (λ (x : ℕ). remove x (numbers_from (k + 1) flags)) (next k i) ∙ remove_number (k + 1) i flags

-- a flag that is cleared takes its number out of the set; past the last nothing changes
pub remove_flag : (i : ℕ) (flags : List Bool) → numbers_from 0 (set flags i false) ≡ remove i (numbers_from 0 flags)
remove_flag i flags = sym (remove_number 0 i flags) ∙ ap (λ (x : ℕ). remove x (numbers_from 0 flags)) (zero-add i)

set_past : (i : ℕ) (flags : List Bool) → length flags ≤ i → set flags i false ≡ flags
set_past i [] past = refl
set_past zero (flag ∷ flags) past = absurd (omega arith)
set_past (suc i) (flag ∷ flags) past = ap (λ (fs : List Bool). flag ∷ fs) (set_past i flags (omega arith))

pub remove_past : (i : ℕ) (flags : List Bool) → length flags ≤ i → numbers_from 0 flags ≡ remove i (numbers_from 0 flags)
remove_past i flags past = ap (λ (fs : List Bool). numbers_from 0 fs) (sym (set_past i flags past)) ∙ remove_flag i flags

has_after : (a n x : ℕ) → a + n ≤ x → has x (range_with_len a n) ≡ false
has_after a zero x past = refl
has_after a (suc n) x past = rw (ne_eqb x a (λ same. absurd (omega arith))) (has_after (a + 1) n x (omega arith))

insert_after : (a n : ℕ) → insert (a + n) (range_with_len a n) ≡ range_with_len a (suc n)
insert_after a zero = ap (λ (x : ℕ). x ∷ []) (add-zero a)
insert_after a (suc n) = rw (lt-ltb a (a + suc n) (omega arith))
    (ap (λ (xs : List ℕ). a ∷ xs) (ap (λ (x : ℕ). insert x (range_with_len (a + 1) n)) (next a n) ∙ insert_after (a + 1) n))

-- the numbers below n, and n
pub add_next : (n : ℕ) → add n (range_with_len 0 n) ≡ range_with_len 0 (n + 1)
add_next n =
    let new : has n (range_with_len 0 n) ≡ false = has_after 0 n n (omega arith) in
    let put : insert n (range_with_len 0 n) ≡ range_with_len 0 (suc n) = ap (λ (x : ℕ). insert x (range_with_len 0 n)) (sym (zero-add n)) ∙ insert_after 0 n in
    ap (λ (b : Bool). cond b (range_with_len 0 n) (insert n (range_with_len 0 n))) new ∙ (put ∙ ap (λ (m : ℕ). range_with_len 0 m) (sym (add-one n)))

or_false : (b : Bool) → (b || false) ≡ b
or_false true = refl
or_false false = refl

or_true : (b : Bool) → (b || true) ≡ true
or_true true = refl
or_true false = refl

-- a test holds of each member where it holds of the flags that are set
wanted : (test : ℕ → Bool) (k : ℕ) (flags wants : List Bool) → length wants ≤ length flags → ((i : ℕ) → test (k + i) ≡ get_or flags i false)
    → list_all (λ (p : Bool × Bool). p.0 || not p.1) (zip flags wants) ≡ list_all test (numbers_from k wants)
wanted test k [] [] within at = refl
wanted test k (flag ∷ flags) [] within at = refl
wanted test k [] (want ∷ wants) within at = absurd (omega arith)
wanted test k (flag ∷ flags) (true ∷ wants) within at =
    let first : test k ≡ flag = ap test (sym (add-zero k)) ∙ at 0 in
    let rest = wanted test (k + 1) flags wants (omega arith) (λ i. ap test (sym (next k i)) ∙ at (suc i)) in
    rw (first, or_false flag) (ap (λ (b : Bool). flag && b) rest)
wanted test k (flag ∷ flags) (false ∷ wants) within at =
    let rest = wanted test (k + 1) flags wants (omega arith) (λ i. ap test (sym (next k i)) ∙ at (suc i)) in
    rw (or_true flag) rest

pub includes_flags : (flags wants : List Bool) → length wants ≤ length flags
    → list_all (λ (p : Bool × Bool). p.0 || not p.1) (zip flags wants) ≡ list_all (λ (x : ℕ). has x (numbers_from 0 flags)) (numbers_from 0 wants)
includes_flags flags wants within = wanted (λ (x : ℕ). has x (numbers_from 0 flags)) 0 flags wants within (λ i. has_number 0 i flags)
