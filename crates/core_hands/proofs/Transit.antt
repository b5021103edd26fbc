-- How many ids are in transit.
use Rattle.std.proofs.Common.{◌≡◌, ◌∙◌, ℕ, suc, ◌≤◌, List, [], ◌∷◌, length, take, refl, ap}
use Rattle.std.proofs.lemmas.List.{length-take-le}
use Rattle.graph_model.proofs.IdSets.{length_insert}
use Rattle.core_hands.specs.Held.{sorted}

length_sorted : (xs : List ℕ) → length (sorted xs) ≡ length xs
length_sorted [] = refl
length_sorted (x ∷ xs) = length_insert x (sorted xs) ∙ ap suc (length_sorted xs)

pub length_transit : (n : ℕ) (xs : List ℕ) → n ≤ length xs → length (sorted (take n xs)) ≡ n
length_transit n xs within = length_sorted (take n xs) ∙ length-take-le n xs within
