-- What is refused as too much to be stored is too big.
use Rattle.std.proofs.Common.{◌≡◌, ℕ, Bool, true, false, cond, ◌||◌, List, [], ◌∷◌, Some, refl, subst}
use Rattle.std.specs.Prelude.{nat_lt, IsSomeAnd}
use Rattle.std.specs.List.{list_any}
use Rattle.std.proofs.lemmas.Bool.{or_left}
use Rattle.graph_model.specs.Graph.{entity_size}
use Rattle.graph_model.specs.declared.entity.Record.{Record}
use Rattle.session_model.specs.Answer.{are_too_big}
use Rattle.storer.specs.Faults.{IsRefused, as_said, first_big, size_of, total_of}
use Rattle.storer.specs.declared.fault.GatherFault.{GatherFault}
use Rattle.storer.specs.declared.fault.GatherFault.TheVariants.{EntityTooBig}

abbrev any_big : List Record → Bool
any_big records = list_any (λ (r : Record). nat_lt 1048576 (entity_size r.entity)) records

first_is_big : (rs : List Record) (P : Record → Type 0) → IsSomeAnd (first_big rs) P → any_big rs ≡ true
first_is_big [] P found = absurd found
first_is_big (r ∷ rs) P found = by (nat_lt 1048576 (size_of r)) (first_is_big rs P) found
  where
    by : (b : Bool) → (IsSomeAnd (first_big rs) P → any_big rs ≡ true) → IsSomeAnd (cond b (Some r) (first_big rs)) P → (b || any_big rs) ≡ true
    by true ih found = refl
    by false ih found = ih found

-- an entity is too big
pub big_alone : (most : ℕ) (rs : List Record) (fault : GatherFault) (id size : ℕ) → fault ≡ EntityTooBig id size → IsRefused most rs fault → are_too_big most rs ≡ true
big_alone most rs fault id size is refused =
    or_left (any_big rs) (nat_lt most (total_of rs)) (first_is_big rs (λ (r : Record). (r.id ≡ id) × (size ≡ as_said (size_of r))) (subst (λ (f : GatherFault). IsRefused most rs f) is refused))
