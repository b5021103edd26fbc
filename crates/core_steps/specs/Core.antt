-- The core: channels, a monitor, hands and a book.
use Rattle.std.specs.Prelude.{ℕ, ◌%◌, Bool, true, false, nat_eq, Option, Some, None, List, [], ◌∷◌, ◌++◌, map, get_or}
use Rattle.graph_model.specs.declared.entity.Record.{Record}
use Rattle.graph_model.specs.declared.entity.StoreOp.{StoreOp}
pub use Rattle.core_steps.specs.declared.state.Phase.{Phase}
pub use Rattle.core_steps.specs.declared.state.Phase.TheVariants.{Idle, Marking, Sweeping}
pub use Rattle.core_steps.specs.declared.state.CoreChannel.{CoreChannel}
pub use Rattle.core_steps.specs.declared.state.CoreMonitor.{CoreMonitor}
pub use Rattle.core_steps.specs.declared.state.OpenStore.{OpenStore}
use Rattle.core_steps.specs.declared.state.HandState.{HandState}
pub use Rattle.core_steps.specs.declared.state.Book.{Book}
use Rattle.core_steps.specs.declared.state.CoreState.{CoreState}
use Rattle.graph_model.specs.Stores.{next_after}
use Rattle.graph_model.specs.Graph.{Graph, after}

-- a hand, as actors hold them
abbrev pub Hand : Type 0
Hand = HandState

-- channels, a monitor, hands and a book
abbrev pub Core : Type 0
Core = CoreState

-- THE BOOK

-- the graph: that of the start after the ended stores
abbrev pub graph : Book → Graph
graph b = after b.start b.ended

-- the next id before a store: that of the last ended store, or the start's
abbrev pub next_before : Book → ℕ
next_before b = next_after b.start_next b.ended

abbrev pub records_of : Option StoreOp → List Record
records_of None = []
records_of (Some op) = op.records

-- the records of the open store
abbrev pub open_records : Book → List Record
open_records b = records_of b.opened

-- CHANNELS AND HANDS BY NUMBER

-- a hand that holds nothing and has seen cycle 0, not closed, and no ended store
abbrev pub new_hand : Hand
new_hand = record {
  transit = [];
  credit = 0;
  cycle_seen = 0;
  closed_seen = false;
  ended_seen = 0;
  begun_reports = [];
  swept_reports = [];
  opened = None;
}

-- what stands for a channel past the last
abbrev pub no_channel : CoreChannel
no_channel = record { table = []; marked = []; grey = []; pins = []; phase = Idle 0; last_part = 0; confirmed = 0 }

abbrev pub channel_at : List CoreChannel → ℕ → CoreChannel
channel_at cs j = get_or cs j no_channel

abbrev pub hand_at : List Hand → ℕ → Hand
hand_at hs a = get_or hs a new_hand

-- the number of the channel that an id belongs to, of n channels
abbrev pub home : ℕ → ℕ → ℕ
home n x = x % n

abbrev pub is_home : ℕ → ℕ → ℕ → Bool
is_home n j x = nat_eq (home n x) j

-- the pins of each channel
abbrev pub pins_of : List CoreChannel → List (List ℕ)
pins_of cs = map (λ (x : CoreChannel). x.pins) cs

-- the ids in any of the lists
abbrev pub in_any : List (List ℕ) → List ℕ
in_any [] = []
in_any (xs ∷ xss) = xs ++ in_any xss

-- the held ids: those pinned on any channel
abbrev pub held : List CoreChannel → List ℕ
held cs = in_any (pins_of cs)

abbrev pub written_of : Option OpenStore → List ℕ
written_of None = []
written_of (Some o) = o.written

-- PHASES

abbrev pub cycle_of : Phase → ℕ
cycle_of (Idle c) = c
cycle_of (Marking c) = c
cycle_of (Sweeping c left) = c

abbrev pub left_of : Phase → List ℕ
left_of (Idle c) = []
left_of (Marking c) = []
left_of (Sweeping c left) = left

abbrev pub is_idle : Phase → Bool
is_idle (Idle c) = true
is_idle (Marking c) = false
is_idle (Sweeping c left) = false

abbrev pub is_marking : Phase → Bool
is_marking (Idle c) = false
is_marking (Marking c) = true
is_marking (Sweeping c left) = false

abbrev pub is_idle_of : ℕ → Phase → Bool
is_idle_of b (Idle c) = nat_eq c b
is_idle_of b (Marking c) = false
is_idle_of b (Sweeping c left) = false
