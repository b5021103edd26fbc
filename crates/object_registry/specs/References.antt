-- References other than none.
use Rattle.std.specs.Prelude.{ℕ, not, nat_eq, List}
use Rattle.std.specs.List.{filter}

-- without the reference 0, which is none
abbrev pub without_none : List ℕ → List ℕ
without_none ids = filter (λ (x : ℕ). not (nat_eq x 0)) ids
