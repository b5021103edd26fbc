-- Distances between places, counted upwards and round.
use Rattle.std.proofs.Common.{◌≡◌, ℕ, ◌+◌, ◌-◌, ◌/◌, ◌^◌, bit_xor, ◌<◌, ◌≤◌, ◌⊎◌, inl, inr, arith}
use Rattle.std.proofs.lemmas.Grind.{common_steps}
use Rattle.std.proofs.lemmas.Nat.{and_le_r}
use Rattle.std.proofs.lemmas.Bool.{cases_lt}
use Rattle.oid_table.specs.Distances.{distance, next_place, scattered, home_of}

-- upwards it is the difference, and else the way goes over the end
pub distance_up : (n a b : ℕ) → a ≤ b → distance n a b + a ≡ b
distance_up n a b up = grind (arith, common_steps)

pub distance_round : (n a b : ℕ) → b < a → a ≤ n → distance n a b + a ≡ n + b
distance_round n a b down within = grind (arith, common_steps)

-- the same as one fact by cases
pub distance_cases : (n a b : ℕ) → a ≤ n → ((a ≤ b) × (distance n a b + a ≡ b)) ⊎ ((b < a) × (distance n a b + a ≡ n + b))
distance_cases n a b within =
    elim (cases_lt b a) [
      | inl down ↦ inr (down, distance_round n a b down within)
      | inr up ↦ inl (up, distance_up n a b up)
    ]

pub distance-lt : (n a b : ℕ) → a < n → b < n → distance n a b < n
distance-lt n a b a_in b_in =
    elim (distance_cases n a b (omega arith)) [ inl up ↦ omega arith | inr round ↦ omega arith ]

pub distance-same : (n a : ℕ) → distance n a a ≡ 0
distance-same n a = let up = distance_up n a a (omega arith) in omega arith

-- places at one distance are one place
pub distance-injective : (n a x y : ℕ) → a < n → x < n → y < n → distance n a x ≡ distance n a y → x ≡ y
distance-injective n a x y a_in x_in y_in same =
    elim (distance_cases n a x (omega arith)) [
      | inl up_x ↦ elim (distance_cases n a y (omega arith)) [ inl up_y ↦ omega arith | inr round_y ↦ omega arith ]
      | inr round_x ↦ elim (distance_cases n a y (omega arith)) [ inl up_y ↦ omega arith | inr round_y ↦ omega arith ]
    ]

-- a place that two others pass over: on the way from a home to a place that is not between them
pub passes_over : (n start home gap stop place : ℕ) → start < n → home < n → gap < n → stop < n → place < n
    → distance n start gap < distance n start stop → distance n home gap < distance n home place
    → (distance n start place ≤ distance n start gap) ⊎ (distance n start stop < distance n start place)
    → distance n home stop < distance n home place
passes_over n start home gap stop place start_in home_in gap_in stop_in place_in ahead by outside =
    let w1 = distance_cases n start gap (omega arith) in
    let w2 = distance_cases n start stop (omega arith) in
    let w3 = distance_cases n start place (omega arith) in
    let w4 = distance_cases n home gap (omega arith) in
    let w5 = distance_cases n home stop (omega arith) in
    let w6 = distance_cases n home place (omega arith) in
    grind (arith, w1, w2, w3, w4, w5, w6)

pub next_place-lt : (n a : ℕ) → a < n → next_place n a < n
next_place-lt n a a_in = grind (arith, common_steps)

-- the next place is one further, unless that is once round
pub distance-next_place : (n a p : ℕ) → a < n → p < n → distance n a p + 1 < n → distance n a (next_place n p) ≡ distance n a p + 1
distance-next_place n a p a_in p_in short = grind (arith, common_steps)

-- the home of a key is one of the places
pub home_of-lt : (n key : ℕ) → 0 < n → home_of n key < n
unfolding home_of
home_of-lt n key some =
    let below = and_le_r (bit_xor (scattered key) (scattered key / 2 ^ 32)) (n - 1) in
    omega arith
