-- What the entries of the two maps stand for.
use Rattle.std.specs.Prelude.{ℕ, List, String, map, string_bytes}
use Rattle.session_model.specs.Answer.{Binding}
use Rattle.session_model.specs.Instances.{Instance, Instances, Held}
use Rattle.object_registry.specs.Bindings.{binding}

abbrev pub bindings_of : {Y : Type 0} → List (String Y × ℕ) → List Binding
bindings_of entries = map (λ e. binding (string_bytes e.0) e.1) entries

abbrev pub held : ℕ → Instance → Held
held id instance = record { id = id; instance = instance }

abbrev pub held_in : List (ℕ × Instance) → Instances
held_in entries = map (λ e. held e.0 e.1) entries
