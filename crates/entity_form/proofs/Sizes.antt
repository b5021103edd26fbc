-- How many bytes the entity of an object has.
use Rattle.std.proofs.Common.{◌≡◌, ◌+◌, ◌*◌, List, [], ◌∷◌, length, refl, arith}
use Rattle.std.specs.Prelude.{sum_by}
use Rattle.std.specs.List.{flat_map}
use Rattle.std.proofs.lemmas.List.{length-append}
use Rattle.std.proofs.lemmas.List.Sums.{sum_by-cons}
use Rattle.entity_form.specs.declared.value.Value.{Value}
use Rattle.entity_form.specs.Values.{refs_of, plain_of, value_size}

-- it has those of its values
pub size_by_values : (values : List Value) → 32 + 8 * length (flat_map refs_of values) + length (flat_map plain_of values) ≡ 32 + sum_by value_size values
size_by_values [] = refl
size_by_values (v ∷ vs) =
    let refs : length (flat_map refs_of (v ∷ vs)) ≡ length (refs_of v) + length (flat_map refs_of vs) = length-append (refs_of v) (flat_map refs_of vs) in
    let plain : length (flat_map plain_of (v ∷ vs)) ≡ length (plain_of v) + length (flat_map plain_of vs) = length-append (plain_of v) (flat_map plain_of vs) in
    let sum : sum_by value_size (v ∷ vs) ≡ value_size v + sum_by value_size vs = sum_by-cons value_size v vs in
    omega (arith, refs, plain, sum, size_by_values vs)
