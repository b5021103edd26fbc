-- A hand as it is kept: ids in any order, and the open store's channels as sets.
use Rattle.std.specs.Prelude.{ℕ, Option, Some, None, List, [], ◌∷◌}
use Rattle.graph_model.specs.Ids.{insert}
use Rattle.core_steps.specs.declared.state.OpenStore.{OpenStore}
use Rattle.core_hands.specs.declared.hand.StoreParts.{StoreParts}

-- the ids by rising number, with as many repeats
abbrev pub sorted : List ℕ → List ℕ
sorted [] = []
sorted (x ∷ xs) = insert x (sorted xs)

abbrev pub open_store_of : Option StoreParts → Option OpenStore
open_store_of None = None
open_store_of (Some s) = Some (record { number = s.number; channels = s.channels; written = s.written })
