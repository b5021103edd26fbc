-- Adding and removing ids one at a time, from the last of a list, and numbers chosen one at a time.
use Rattle.std.proofs.Common.{◌≡◌, ◌∙◌, ℕ, ◌+◌, Bool, cond, List, [], ◌∷◌, ◌++◌, refl, ap, sym, arith}
use Rattle.std.specs.List.{filter, range_with_len}
use Rattle.std.proofs.lemmas.List.{map-id}
use Rattle.std.proofs.lemmas.List.FromFn.{filter_of_map_range_with_len_more}
use Rattle.graph_model.specs.Ids.{add, add_all, remove, remove_all}

pub add_all_last : (xs : List ℕ) (x : ℕ) (ys : List ℕ) → add_all (xs ++ x ∷ []) ys ≡ add_all xs (add x ys)
add_all_last [] x ys = refl
add_all_last (z ∷ xs) x ys = ap (λ (zs : List ℕ). add z zs) (add_all_last xs x ys)

pub remove_all_last : (xs : List ℕ) (x : ℕ) (ys : List ℕ) → remove_all (xs ++ x ∷ []) ys ≡ remove_all xs (remove x ys)
remove_all_last [] x ys = refl
remove_all_last (z ∷ xs) x ys = ap (λ (zs : List ℕ). remove z zs) (remove_all_last xs x ys)

-- the chosen ones of one number more
pub chosen_more : (p : ℕ → Bool) (n : ℕ) → filter p (range_with_len 0 (n + 1)) ≡ filter p (range_with_len 0 n) ++ cond (p n) (n ∷ []) []
chosen_more p n =
    ap (λ (xs : List ℕ). filter p xs) (sym (map-id (range_with_len 0 (n + 1))))
    ∙ (filter_of_map_range_with_len_more p (λ (x : ℕ). x) 0 n n (omega arith)
    ∙ ap (λ (xs : List ℕ). filter p xs ++ cond (p n) (n ∷ []) []) (map-id (range_with_len 0 n)))
