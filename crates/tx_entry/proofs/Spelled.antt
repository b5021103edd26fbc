-- A payload whose length is its kind's is the spelling of the entry that is read from it.
use Rattle.std.proofs.Common.{◌≡◌, ℕ, zero, suc, ◌+◌, ◌*◌, ◌≤◌, nat_le, List, [], ◌∷◌, ◌++◌, length, drop, unwrap_or, Option, Some, None, sym, ap, ◌∙◌, arith, length-drop}
use Rattle.std.specs.List.{flat_map}
use Rattle.std.proofs.lemmas.Bool.{cond-true, le-leb}
use Rattle.std.proofs.lemmas.List.{drop-drop, drop_all}
use Rattle.field_bytes.specs.Fields.{bytes_of, number_at}
use Rattle.field_bytes.proofs.Laws.{IsBytes, IsBytes-drop, number_of_8}
use Rattle.tx_entry.specs.declared.kind.Kind.{Kind}
use Rattle.tx_entry.specs.declared.kind.Kind.TheVariants.{Creation, Store, Transfer, Truncation, Deletion}
use Rattle.tx_entry.specs.Kinds.{byte_of, count_of}
use Rattle.tx_entry.specs.Entries.{field, entry_at, spelling}

-- eight bytes are those of the number in front
number_front : (bytes : List ℕ) → IsBytes bytes → 8 ≤ length bytes → bytes ≡ bytes_of 8 (unwrap_or (number_at 8 bytes 0) 0) ++ drop 8 bytes
number_front bytes are_bytes long =
    let is = cond-true (nat_le (0 + 8) (length bytes)) (Some _) None (le-leb (0 + 8) (length bytes) long) in
    (number_of_8 bytes _ are_bytes is).parts ∙ ap (λ (o : Option ℕ). bytes_of 8 (unwrap_or o 0) ++ drop 8 bytes) (sym is)

-- so many fields from this index on
abbrev fields_from : List ℕ → ℕ → ℕ → List ℕ
fields_from p index zero = []
fields_from p index (suc n) = field p index ∷ fields_from p (index + 1) n

fields_spelled : (p : List ℕ) (index n : ℕ) → IsBytes p → length p ≡ 1 + 8 * (index + n) → flat_map (bytes_of 8) (fields_from p index n) ≡ drop (1 + 8 * index) p
fields_spelled p index zero are_bytes long = sym (drop_all (1 + 8 * index) p (omega arith))
fields_spelled p index (suc n) are_bytes long =
    let here = drop (1 + 8 * index) p in
    let front = number_front here (IsBytes-drop (1 + 8 * index) p are_bytes) (omega (arith, length-drop (1 + 8 * index) p)) in
    let next : 1 + 8 * (index + 1) ≡ (1 + 8 * index) + 8 = omega arith in
    let rest : drop (1 + 8 * (index + 1)) p ≡ drop 8 here = ap (λ (k : ℕ). drop k p) next ∙ sym (drop-drop 8 (1 + 8 * index) p) in
    ap (λ (l : List ℕ). bytes_of 8 (field p index) ++ l) (fields_spelled p (index + 1) n are_bytes (omega arith) ∙ rest) ∙ sym front

pub spelled : (kind : Kind) (byte : ℕ) (fields : List ℕ) → IsBytes (byte ∷ fields) → byte ≡ byte_of kind → length (byte ∷ fields) ≡ 1 + 8 * count_of kind
    → spelling (entry_at kind (byte ∷ fields)) ≡ byte ∷ fields
spelled Creation byte fields are is long = ap (λ (k : ℕ). k ∷ flat_map (bytes_of 8) (fields_from (byte ∷ fields) 0 1)) (sym is) ∙ ap (λ (l : List ℕ). byte ∷ l) (fields_spelled (byte ∷ fields) 0 1 are long)
spelled Store byte fields are is long = ap (λ (k : ℕ). k ∷ flat_map (bytes_of 8) (fields_from (byte ∷ fields) 0 5)) (sym is) ∙ ap (λ (l : List ℕ). byte ∷ l) (fields_spelled (byte ∷ fields) 0 5 are long)
spelled Transfer byte fields are is long = ap (λ (k : ℕ). k ∷ flat_map (bytes_of 8) (fields_from (byte ∷ fields) 0 4)) (sym is) ∙ ap (λ (l : List ℕ). byte ∷ l) (fields_spelled (byte ∷ fields) 0 4 are long)
spelled Truncation byte fields are is long = ap (λ (k : ℕ). k ∷ flat_map (bytes_of 8) (fields_from (byte ∷ fields) 0 3)) (sym is) ∙ ap (λ (l : List ℕ). byte ∷ l) (fields_spelled (byte ∷ fields) 0 3 are long)
spelled Deletion byte fields are is long = ap (λ (k : ℕ). k ∷ flat_map (bytes_of 8) (fields_from (byte ∷ fields) 0 1)) (sym is) ∙ ap (λ (l : List ℕ). byte ∷ l) (fields_spelled (byte ∷ fields) 0 1 are long)
