-- A file that ends within a record is no log.
use Rattle.std.proofs.Common.{◌≡◌, ◌≢◌, ◌+◌, ◌≤◌, ◌<◌, [], ◌∷◌, ◌++◌, ℕ, true, false, List, length, take, drop, get_or, nat_le, ◌&&◌, ap, subst, refl, sym, ◌∙◌, arith, append_assoc, length-append}
use Rattle.std.specs.Int.{w32, to_le_bytes, from_le_bytes}
use Rattle.std.proofs.lemmas.List.{drop_more, append_cancel_left, take_at, drop_at}
use Rattle.std.proofs.lemmas.Bool.{le-leb}
use Rattle.gated_log.specs.Log.{is_whole, sized, records, AllSized, IsLogOf}
use Rattle.gated_log.specs.Reading.{IsReading}
use Rattle.gated_log.specs.State.{OpeningState}
use Rattle.gated_log.proofs.Payloads.{size_bytes, length-sized}

-- the size of a record is read from its first bytes
size_of : (p tail : List ℕ) → length p ≤ 1048576 → from_le_bytes w32 (take 4 (sized p ++ tail)) ≡ length p
size_of p tail fits =
    let size = to_le_bytes w32 (length p) in
    ap (λ (l : List ℕ). from_le_bytes w32 (take 4 l)) (append_assoc size p tail) ∙ ap (λ (l : List ℕ). from_le_bytes w32 l) (take_at size (p ++ tail) 4 refl) ∙ size_bytes p fits

-- and its payload stands behind them
payload_in : (p tail : List ℕ) → take (length p) (drop 4 (sized p ++ tail)) ≡ p
payload_in p tail =
    let size = to_le_bytes w32 (length p) in
    ap (λ (l : List ℕ). take (length p) (drop 4 l)) (append_assoc size p tail) ∙ ap (λ (l : List ℕ). take (length p) l) (drop_at size (p ++ tail) 4 refl) ∙ take_at p tail (length p) refl

whole_test : (size n : ℕ) → 1 ≤ size → size ≤ 1048576 → 5 + size ≤ n → (nat_le 1 size && (nat_le size 1048576 && nat_le (5 + size) n)) ≡ true
whole_test size n some fits room = rw (le-leb 1 size some, le-leb size 1048576 fits, le-leb (5 + size) n room) refl

whole_record : (p tail : List ℕ) → 1 ≤ length p → length p ≤ 1048576 → 1 ≤ length tail → is_whole (sized p ++ tail) ≡ true
whole_record p tail some fits more =
    let long : 5 + length p ≤ length (sized p ++ tail) = omega (arith, length-append (sized p) tail, length-sized p) in
    let P : ℕ → Type 0 = λ size. (nat_le 1 size && (nat_le size 1048576 && nat_le (5 + size) (length (sized p ++ tail)))) ≡ true in
    subst P (sym (size_of p tail fits)) (whole_test (length p) (length (sized p ++ tail)) some fits long)

pub same_record : (p q tail tail' : List ℕ) → length p ≤ 1048576 → length q ≤ 1048576 → sized p ++ tail ≡ sized q ++ tail' → p ≡ q
same_record p q tail tail' fits fits' same =
    let long : length p ≡ length q = sym (size_of p tail fits) ∙ ap (λ (l : List ℕ). from_le_bytes w32 (take 4 l)) same ∙ size_of q tail' fits' in
    sym (payload_in p tail) ∙ ap (λ (l : List ℕ). take (length p) (drop 4 l)) same ∙ ap (λ (n : ℕ). take n (drop 4 (sized q ++ tail'))) long ∙ payload_in q tail'

tails : (x y : ℕ) (l m : List ℕ) → x ∷ l ≡ y ∷ m → (x ≡ y) × (l ≡ m)
tails x y l m e = (cc, cc)

pub not_within : (passed payloads : List (List ℕ)) (gate : ℕ) (rest bytes : List ℕ) → AllSized passed → AllSized payloads → gate ≢ 1
    → records passed ++ (1 ∷ bytes) ≡ records payloads ++ gate ∷ rest → is_whole bytes ≡ false → ⊥
not_within [] [] gate rest bytes sizes sizes' closed same part = closed (sym (tails 1 gate bytes rest same).0)
not_within [] (p ∷ payloads) gate rest bytes sizes sizes' closed same part =
    let here : bytes ≡ sized p ++ (records payloads ++ gate ∷ rest) = (tails 1 1 _ _ same).1 ∙ append_assoc (sized p) (records payloads) (gate ∷ rest) in
    let whole = whole_record p (records payloads ++ gate ∷ rest) sizes'.0 sizes'.1 (omega (arith, length-append (records payloads) (gate ∷ rest))) in
    cc (ap is_whole here, whole, part)
not_within (q ∷ passed) [] gate rest bytes sizes sizes' closed same part = closed (sym (tails 1 gate _ rest same).0)
not_within (q ∷ passed) (p ∷ payloads) gate rest bytes sizes sizes' closed same part =
    let here : sized q ++ (records passed ++ (1 ∷ bytes)) ≡ sized p ++ (records payloads ++ gate ∷ rest) =
    sym (append_assoc (sized q) (records passed) (1 ∷ bytes)) ∙ (tails 1 1 _ _ same).1 ∙ append_assoc (sized p) (records payloads) (gate ∷ rest) in
    let one = same_record q p (records passed ++ (1 ∷ bytes)) (records payloads ++ gate ∷ rest) sizes.1 sizes'.1 here in
    let next = append_cancel_left (sized q) (records passed ++ (1 ∷ bytes)) (records payloads ++ gate ∷ rest) (here ∙ ap (λ (l : List ℕ). sized l ++ (records payloads ++ gate ∷ rest)) (sym one)) in
    not_within passed payloads gate rest bytes sizes.2 sizes'.2 closed next part

-- an opening that stands at an open gate with no whole record behind it
pub no_log : (opening : OpeningState) (bytes : List ℕ) → IsReading opening bytes → 9 < length bytes → get_or bytes opening.at 0 ≡ 1 → opening.at < length bytes → is_whole (drop (opening.at + 1) bytes) ≡ false
    → (payloads : List (List ℕ)) → IsLogOf opening.header payloads bytes → ⊥
no_log opening bytes reading long gate within part payloads is =
    let at_gate : drop opening.at bytes ≡ 1 ∷ drop (opening.at + 1) bytes = drop_more bytes opening.at 0 within ∙ ap (λ (g : ℕ). g ∷ drop (opening.at + 1) bytes) gate in
    let both = append_cancel_left opening.header (records reading.passed ++ drop opening.at bytes) (records payloads ++ is.gate ∷ is.rest) (sym (reading.split long) ∙ is.split) in
    not_within reading.passed payloads is.gate is.rest (drop (opening.at + 1) bytes) reading.all_sized is.all_sized is.closed (ap (λ (l : List ℕ). records reading.passed ++ l) (sym at_gate) ∙ both) part
