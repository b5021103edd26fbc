-- What rows say of marking and sweeping.
use Rattle.std.specs.Prelude.{◌≡◌, ℕ, ◌-◌, ◌%◌, Bool, false, cond, not, ◌||◌, nat_eq, List, map}
use Rattle.std.specs.List.{filter}
use Rattle.std.specs.Ordering.{nat_cmp}
use Rattle.std.specs.FinMap.{FinMap, entries}
use Rattle.core_steps.specs.declared.state.Phase.{Phase}
use Rattle.core_steps.specs.declared.state.Phase.TheVariants as core
use Rattle.entity_index.specs.declared.row.Row.{Row}
use Rattle.channel.specs.declared.phase.Stage.{Stage}
use Rattle.channel.specs.declared.phase.Stage.TheVariants.{Idle, Marking, Sweeping}

-- the ids whose rows meet a test, rising
abbrev pub ids_where : (Row → Bool) → FinMap nat_cmp Row → List ℕ
ids_where test rows = map (λ (e : ℕ × Row). e.0) (filter (λ (e : ℕ × Row). test e.1) (entries rows))

abbrev pub is_odd : ℕ → Bool
is_odd cycle = nat_eq (cycle % 2) 1

-- the sweep of this cycle visited the row, which keeps the parity of the last cycle that did
abbrev pub is_visited : ℕ → Row → Bool
is_visited cycle row = cond row.state.swept_odd (is_odd cycle) (not (is_odd cycle))

-- a visit clears the bit `marked`: what a sweep visited and left in the table was marked
abbrev pub is_marked : Stage → Row → Bool
is_marked (Idle cycle) row = row.state.marked
is_marked (Marking cycle) row = row.state.marked
is_marked (Sweeping cycle) row = row.state.marked || is_visited cycle row

abbrev pub is_grey : Row → Bool
is_grey row = row.state.grey

abbrev pub phase_in : Stage → FinMap nat_cmp Row → Phase
phase_in (Idle cycle) rows = core.Idle cycle
phase_in (Marking cycle) rows = core.Marking cycle
phase_in (Sweeping cycle) rows = core.Sweeping cycle (ids_where (λ (row : Row). not (is_visited cycle row)) rows)

-- the parity that a row keeps which is stored now: no sweep has to visit it before that of the next cycle, or that of this one where the channel marks
abbrev pub parity_at : Stage → Bool
parity_at (Idle cycle) = is_odd cycle
parity_at (Marking cycle) = is_odd (cycle - 1)
parity_at (Sweeping cycle) = is_odd cycle

-- neither marked nor grey, and visited in this cycle
pub record IsAtRest (cycle : ℕ) (row : Row) : Type 0 where
  pub marked : row.state.marked ≡ false
  pub grey : row.state.grey ≡ false
  pub visited : row.state.swept_odd ≡ is_odd cycle

-- on an Idle channel each row is at rest; on one that marks none was visited in its cycle
abbrev pub FitsStage : Stage → Row → Type 0
FitsStage (Idle cycle) row = IsAtRest cycle row
FitsStage (Marking cycle) row = row.state.swept_odd ≡ is_odd (cycle - 1)
FitsStage (Sweeping cycle) row = Unit {0}
