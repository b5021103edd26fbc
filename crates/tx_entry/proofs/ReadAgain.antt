-- What is written is read.
use Rattle.std.proofs.Common.{◌≡◌, ℕ, ◌<◌, ◌^◌, ◌++◌, List, [], ◌∷◌, unwrap_or, Option, Ok, ap, ◌∙◌, arith}
use Rattle.std.specs.List.{flat_map}
use Rattle.field_bytes.specs.Fields.{bytes_of, number_at}
use Rattle.field_bytes.proofs.Laws.{number_at-bytes_of}
use Rattle.tx_entry.specs.declared.entry.Entry.TheVariants.{Creation, Store, Transfer, Truncation, Deletion}
use Rattle.tx_entry.specs.Entries.{entry_of, spelling}

-- the number in front of these bytes
abbrev first : List ℕ → ℕ
first bytes = unwrap_or (number_at 8 bytes 0) 0

first_is : (n : ℕ) (rest : List ℕ) → n < 2 ^ 64 → first (bytes_of 8 n ++ rest) ≡ n
first_is n rest small = ap (λ (o : Option ℕ). unwrap_or o 0) (number_at-bytes_of 8 n rest (omega (arith, small)))

pub again-Creation : (a : ℕ) → a < 2 ^ 64 → entry_of (spelling (Creation a)) ≡ Ok (Creation a)
again-Creation a fa =
    ap (λ (n : ℕ). Ok (Creation n)) (first_is a [] fa)

pub again-Store : (a b c d e : ℕ) → a < 2 ^ 64 → b < 2 ^ 64 → c < 2 ^ 64 → d < 2 ^ 64 → e < 2 ^ 64 → entry_of (spelling (Store a b c d e)) ≡ Ok (Store a b c d e)
again-Store a b c d e fa fb fc fd fe =
    ap (λ (n : ℕ). Ok (Store n (first (bytes_of 8 b ++ flat_map (bytes_of 8) (c ∷ d ∷ e ∷ []))) (first (bytes_of 8 c ++ flat_map (bytes_of 8) (d ∷ e ∷ []))) (first (bytes_of 8 d ++ flat_map (bytes_of 8) (e ∷ []))) (first (bytes_of 8 e ++ [])))) (first_is a (flat_map (bytes_of 8) (b ∷ c ∷ d ∷ e ∷ [])) fa)
    ∙ ap (λ (n : ℕ). Ok (Store a n (first (bytes_of 8 c ++ flat_map (bytes_of 8) (d ∷ e ∷ []))) (first (bytes_of 8 d ++ flat_map (bytes_of 8) (e ∷ []))) (first (bytes_of 8 e ++ [])))) (first_is b (flat_map (bytes_of 8) (c ∷ d ∷ e ∷ [])) fb)
    ∙ ap (λ (n : ℕ). Ok (Store a b n (first (bytes_of 8 d ++ flat_map (bytes_of 8) (e ∷ []))) (first (bytes_of 8 e ++ [])))) (first_is c (flat_map (bytes_of 8) (d ∷ e ∷ [])) fc)
    ∙ ap (λ (n : ℕ). Ok (Store a b c n (first (bytes_of 8 e ++ [])))) (first_is d (flat_map (bytes_of 8) (e ∷ [])) fd)
    ∙ ap (λ (n : ℕ). Ok (Store a b c d n)) (first_is e [] fe)

pub again-Transfer : (a b c d : ℕ) → a < 2 ^ 64 → b < 2 ^ 64 → c < 2 ^ 64 → d < 2 ^ 64 → entry_of (spelling (Transfer a b c d)) ≡ Ok (Transfer a b c d)
again-Transfer a b c d fa fb fc fd =
    ap (λ (n : ℕ). Ok (Transfer n (first (bytes_of 8 b ++ flat_map (bytes_of 8) (c ∷ d ∷ []))) (first (bytes_of 8 c ++ flat_map (bytes_of 8) (d ∷ []))) (first (bytes_of 8 d ++ [])))) (first_is a (flat_map (bytes_of 8) (b ∷ c ∷ d ∷ [])) fa)
    ∙ ap (λ (n : ℕ). Ok (Transfer a n (first (bytes_of 8 c ++ flat_map (bytes_of 8) (d ∷ []))) (first (bytes_of 8 d ++ [])))) (first_is b (flat_map (bytes_of 8) (c ∷ d ∷ [])) fb)
    ∙ ap (λ (n : ℕ). Ok (Transfer a b n (first (bytes_of 8 d ++ [])))) (first_is c (flat_map (bytes_of 8) (d ∷ [])) fc)
    ∙ ap (λ (n : ℕ). Ok (Transfer a b c n)) (first_is d [] fd)

pub again-Truncation : (a b c : ℕ) → a < 2 ^ 64 → b < 2 ^ 64 → c < 2 ^ 64 → entry_of (spelling (Truncation a b c)) ≡ Ok (Truncation a b c)
again-Truncation a b c fa fb fc =
    ap (λ (n : ℕ). Ok (Truncation n (first (bytes_of 8 b ++ flat_map (bytes_of 8) (c ∷ []))) (first (bytes_of 8 c ++ [])))) (first_is a (flat_map (bytes_of 8) (b ∷ c ∷ [])) fa)
    ∙ ap (λ (n : ℕ). Ok (Truncation a n (first (bytes_of 8 c ++ [])))) (first_is b (flat_map (bytes_of 8) (c ∷ [])) fb)
    ∙ ap (λ (n : ℕ). Ok (Truncation a b n)) (first_is c [] fc)

pub again-Deletion : (a : ℕ) → a < 2 ^ 64 → entry_of (spelling (Deletion a)) ≡ Ok (Deletion a)
again-Deletion a fa =
    ap (λ (n : ℕ). Ok (Deletion n)) (first_is a [] fa)
