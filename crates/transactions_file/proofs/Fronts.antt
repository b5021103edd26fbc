-- The places of a list of which the first `used` are files.
use Rattle.std.proofs.Common.{◌≡◌, ℕ, suc, ◌+◌, ◌-◌, ◌^◌, ◌≤◌, ◌<◌, List, [], ◌∷◌, ◌++◌, length, get_or, set, take, drop, Some, sym, ap, subst, ◌∙◌, arith, length-take}
use Rattle.std.specs.List.{remove}
use Rattle.std.proofs.lemmas.List.{drop-take, take-take, length-take-le, get_or-take, get_or_default, take_more_set}
use Rattle.std.proofs.Math.Seq.{take-append-add, take-set-lt}
use Rattle.transactions_file.specs.Files.{length_of, set_length, without, Files, IsRising, IsAt}
use Rattle.transactions_file.proofs.Places.{length_found, set_found, without_found}
use Rattle.transactions_file.proofs.Rising.{higher, rising_push}

take_over : {X : Type 0} (a b : List X) (n m : ℕ) → length a ≡ n → take (n + m) (a ++ b) ≡ a ++ take m b
take_over a b n m is = ap (λ (k : ℕ). take (k + m) (a ++ b)) (sym is) ∙ take-append-add a b m

pub remove_front : {X : Type 0} (items : List X) (used i : ℕ) → i < used → used ≤ length items → take (used - 1) (remove items i) ≡ remove (take used items) i
remove_front items used i lt within =
    let m = used - suc i in
    let all : used ≡ suc i + m = omega arith in
    let less : used - 1 ≡ i + m = omega arith in
    let front : take i (take used items) ≡ take i items = take-take i used items (omega arith) in
    let behind : drop (suc i) (take used items) ≡ take m (drop (suc i) items) = ap (λ (k : ℕ). drop (suc i) (take k items)) all ∙ drop-take (suc i) m items in
    ap (λ (k : ℕ). take k (remove items i)) less
    ∙ take_over (take i items) (drop (suc i) items) i m (length-take-le i items (omega arith))
    ∙ sym (ap (λ (l : List _). l ++ drop (suc i) (take used items)) front ∙ ap (λ (l : List _). take i items ++ l) behind)

-- the file at this place gets this length
pub set_front : (items : List (ℕ × ℕ)) (used f i m : ℕ) (x : ℕ × ℕ) → IsRising 0 (2 ^ 64) (take used items) → IsAt (take used items) f i → x ≡ get_or items i x
    → take used (set items i (x.0, m)) ≡ set_length (take used items) f m
set_front items used f i m x rising at read =
    let below : i < used = omega (arith, at.within, length-take used items) in
    let within : i < length items = omega (arith, at.within, length-take used items) in
    let here : x.0 ≡ (get_or (take used items) i (0, 0)).0 = ap (λ (p : ℕ × ℕ). p.0) (read ∙ get_or_default items i x (0, 0) within ∙ sym (get_or-take used items i (0, 0) below)) in
    take-set-lt used items i (x.0, m) below
    ∙ ap (λ (k : ℕ). set (take used items) i (k, m)) here
    ∙ set_found 0 (2 ^ 64) (take used items) f i m rising at

-- the file at this place is taken out
pub without_front : (items : List (ℕ × ℕ)) (used f i : ℕ) → IsRising 0 (2 ^ 64) (take used items) → IsAt (take used items) f i → used ≤ length items
    → take (used - 1) (remove items i) ≡ without (take used items) f
without_front items used f i rising at within =
    remove_front items used i (omega (arith, at.within, length-take used items)) within ∙ without_found 0 (2 ^ 64) (take used items) f i rising at

-- an empty file more
pub push_front : (items : List (ℕ × ℕ)) (used f : ℕ) → used < length items → IsRising 0 f (take used items) → f < 2 ^ 64
    → IsRising 0 (2 ^ 64) (take (used + 1) (set items used (f, 0)))
push_front items used f within rising small =
    subst (IsRising 0 (2 ^ 64)) (sym (take_more_set items used (f, 0) within))
    (higher 0 (f + 1) (2 ^ 64) (take used items ++ (f, 0) ∷ []) (omega arith) (rising_push 0 f f (take used items) rising (omega arith)))

-- the length of the file at this place
pub length_front : (items : List (ℕ × ℕ)) (used f i : ℕ) (x : ℕ × ℕ) → IsRising 0 (2 ^ 64) (take used items) → IsAt (take used items) f i → x ≡ get_or items i x
    → length_of (take used items) f ≡ Some x.1
length_front items used f i x rising at read =
    let below : i < used = omega (arith, at.within, length-take used items) in
    let within : i < length items = omega (arith, at.within, length-take used items) in
    length_found 0 (2 ^ 64) (take used items) f i rising at
    ∙ ap (λ (p : ℕ × ℕ). Some p.1) (get_or-take used items i (0, 0) below ∙ sym (read ∙ get_or_default items i x (0, 0) within))

abbrev pub made : List (ℕ × ℕ) → ℕ → Files
made pairs spare = record { pairs = pairs; spare = spare }

pub listed : (pairs pairs' : List (ℕ × ℕ)) (spare spare' : ℕ) → pairs ≡ pairs' → spare ≡ spare' → made pairs spare ≡ made pairs' spare'
listed pairs pairs' spare spare' same_pairs same_spare = cc
