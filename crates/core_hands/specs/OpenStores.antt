-- What a hand says of its open store.
use Rattle.std.specs.Prelude.{ℕ, Bool, false, Option, Some, None, List, []}
use Rattle.graph_model.specs.Ids.{add}
use Rattle.core_steps.specs.declared.state.OpenStore.{OpenStore}
use Rattle.core_steps.specs.Rows.{is_complete}

-- the number of the open store
abbrev pub number_of : Option OpenStore → Option ℕ
number_of None = None
number_of (Some o) = Some o.number

-- the channels of the open store
abbrev pub channels_of : Option OpenStore → List ℕ
channels_of None = []
channels_of (Some o) = o.channels

-- a store is open, and each of its channels has its part
abbrev pub is_whole : Option OpenStore → Bool
is_whole None = false
is_whole (Some o) = is_complete o

-- the open store, where there is one, once a channel has its part
abbrev pub with_part : ℕ → Option OpenStore → Option OpenStore
with_part j None = None
with_part j (Some o) = Some (record o { written = add j o.written })
