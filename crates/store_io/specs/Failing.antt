-- Which calls of a source, sink or disk in memory fail.
use Rattle.std.specs.Prelude.{ℕ, ◌+◌, ◌==◌, nat_lt, Bool, false, List, Option, Some, None}
use Rattle.std.specs.List.{list_any}

-- the list names this call
abbrev pub is_listed : List ℕ → ℕ → Bool
is_listed fails call = list_any (λ n. n == call) fails

-- this call comes after the last one before the stop
abbrev pub is_stopped : Option ℕ → ℕ → Bool
is_stopped None call = false
is_stopped (Some last) call = nat_lt last call

-- this call comes after the first one behind the stop
abbrev pub is_past : Option ℕ → ℕ → Bool
is_past None call = false
is_past (Some last) call = nat_lt (last + 1) call
