-- Why the monitor does not begin or close a cycle.
use Rattle.std.specs.Prelude.{◌≡◌, ◌≢◌, ◌<◌, ◌&&◌, ℕ, not, nat_eq, Option, Some, List, Bool}
use Rattle.std.specs.List.{position}
use Rattle.core_steps.specs.declared.state.CoreMonitor.{CoreMonitor}
use Rattle.core_steps.specs.Rows.{all_set}
use Rattle.mark_monitor.specs.declared.fault.MonitorFault.{MonitorFault}
use Rattle.mark_monitor.specs.declared.fault.MonitorFault.TheVariants.{NotSwept, Pending, StoreOpen, NotBegun}

-- the least place at which no flag is set
abbrev pub first_clear : List Bool → Option ℕ
first_clear flags = position not flags

-- a channel has not swept, and it is the least such
abbrev pub IsBeginFault : CoreMonitor → MonitorFault → Type 0
IsBeginFault m (NotSwept j) = first_clear m.swept ≡ Some j
IsBeginFault m (Pending n) = ⊥
IsBeginFault m (StoreOpen k) = ⊥
IsBeginFault m (NotBegun j) = ⊥

-- something is pending; or nothing is, but a store is open; or neither, but a channel has not begun, and it is the least such
abbrev pub IsCloseFault : CoreMonitor → MonitorFault → Type 0
IsCloseFault m (NotSwept j) = ⊥
IsCloseFault m (Pending n) = (n ≡ m.pending) × (0 < n)
IsCloseFault m (StoreOpen k) = (m.pending ≡ 0) × (m.stores_begun ≢ m.stores_ended) × (k ≡ m.stores_begun)
IsCloseFault m (NotBegun j) = (m.pending ≡ 0) × (m.stores_begun ≡ m.stores_ended) × (first_clear m.begun ≡ Some j)

-- nothing is pending, no store is open, and each channel has begun
abbrev pub may_close : CoreMonitor → Bool
may_close m = nat_eq m.pending 0 && (nat_eq m.stores_begun m.stores_ended && all_set m.begun)
