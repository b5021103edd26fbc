-- Numbers that are written one after another.
use Rattle.std.proofs.Common.{◌≡◌, ℕ, ◌+◌, ◌<◌, ◌≤◌, List, [], ◌∷◌, ◌++◌, length, take, drop, get_or, sym, ap, ◌∙◌, arith, length-append}
use Rattle.std.specs.List.{flat_map}
use Rattle.std.proofs.lemmas.Grind.{flat_map-append}
use Rattle.std.proofs.lemmas.List.{append-nil, take_at, take_more, length-take-le}
use Rattle.field_bytes.specs.Fields.{bytes_of, with_number}
use Rattle.field_bytes.proofs.Laws.{length-bytes_of}

pub put_more : (out : List ℕ) (at byte : ℕ) (fields : List ℕ) (index : ℕ) → at + 8 ≤ length out → index < length fields
    → take at out ≡ byte ∷ flat_map (bytes_of 8) (take index fields)
    → take (at + 8) (with_number 8 out at (get_or fields index 0)) ≡ byte ∷ flat_map (bytes_of 8) (take (index + 1) fields)
put_more out at byte fields index room within before =
    let number = get_or fields index 0 in
    take_at (take at out ++ bytes_of 8 number) (drop (at + 8) out) (at + 8) (length-append (take at out) (bytes_of 8 number) ∙ omega (arith, length-take-le at out (omega arith), length-bytes_of 8 number))
    ∙ ap (λ (l : List ℕ). l ++ bytes_of 8 number) before
    ∙ ap (λ (l : List ℕ). byte ∷ (flat_map (bytes_of 8) (take index fields) ++ l)) (sym (append-nil (bytes_of 8 number)))
    ∙ ap (λ (l : List ℕ). byte ∷ l) (sym (flat_map-append (bytes_of 8) (take index fields) (number ∷ [])))
    ∙ ap (λ (l : List ℕ). byte ∷ flat_map (bytes_of 8) l) (sym (take_more fields index 0 within))
