-- What a quiet cycle leaves: settled cores, and tables that hold exactly what is reached.
use Rattle.std.specs.Prelude.{◌≡◌, ◌↔◌, ℕ, ◌<◌, Bool, true, false, None, List, length}
use Rattle.std.specs.List.{list_all}
use Rattle.graph_model.specs.Ids.{has}
use Rattle.graph_model.specs.Graph.{lists}
use Rattle.core_steps.specs.Core.{Phase, Idle, Marking, Sweeping, Core, graph, channel_at, home}
use Rattle.core_steps.specs.Events.{Step, is_quiet}
use Rattle.core_steps.specs.Good.{channel_of, IsLiveId, InTransit}

-- no step makes a store or changes a pin: so is a cycle quiet, from its BeginCycle on
abbrev pub are_quiet : List Step → Bool
are_quiet ss = list_all (λ (s : Step). is_quiet s.event) ss

-- what the phase of channel j says where it is of a cycle above b: done with it, its table has exactly the channel's ids of what is reached and in
-- the graph; in it, what is marked, and what a sweep has left in the table, is reached
abbrev pub SettledChannel : ℕ → Core → ℕ → Phase → Type 0
SettledChannel b c j (Idle d) = b < d
    → (x : ℕ) → (lists (channel_at c.channels j).table x ≡ true) ↔ ((home (length c.channels) x ≡ j) × IsLiveId c x × (lists (graph c.book) x ≡ true))
SettledChannel b c j (Marking d) = b < d → (x : ℕ) → has x (channel_at c.channels j).marked ≡ true → IsLiveId c x
SettledChannel b c j (Sweeping d left) = b < d → (x : ℕ) → (has x (channel_at c.channels j).marked ≡ true → IsLiveId c x)
    × (lists (channel_at c.channels j).table x ≡ true → has x left ≡ false → IsLiveId c x)

-- no store is open, and in the cycles above b only what is reached was marked, sent or left by sweeps
pub record IsSettledFrom (b : ℕ) (c : Core) : Type 0 where
  pub none_open : c.book.opened ≡ None
  pub transit : b < c.monitor.cycle → (x : ℕ) → InTransit c x → IsLiveId c x
  pub channels : (j : ℕ) → SettledChannel b c j (channel_at c.channels j).phase

-- each channel is done with a cycle above b
abbrev pub IsSweptAbove : ℕ → Core → Type 0
IsSweptAbove b c = (j : ℕ) → j < length c.channels → (d : ℕ) × (b < d) × ((channel_at c.channels j).phase ≡ Idle d)

-- the tables have exactly the ids that are reached and in the graph
abbrev pub HoldsReached : Core → Type 0
HoldsReached c = (x : ℕ) → (lists (channel_of c x).table x ≡ true) ↔ (IsLiveId c x × (lists (graph c.book) x ≡ true))
