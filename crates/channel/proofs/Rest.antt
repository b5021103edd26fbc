-- Rows of an Idle channel, and rows that are pinned or not.
use Rattle.std.proofs.Common.{◌≡◌, ℕ, Bool, true, false, not, List, [], Option, Some, None, inl, inr, refl, sym, ap, ◌∙◌, arith}
use Rattle.std.proofs.lemmas.Bool.{cases_eq}
use Rattle.std.specs.Option.{option_map_or}
use Rattle.std.specs.Ordering.{nat_cmp}
use Rattle.std.specs.FinMap.{FinMap, get, insert}
use Rattle.oid_table.specs.MapLaws.{get-insert_same, get-insert_other}
use Rattle.core_steps.specs.Core.{Hand, is_idle}
use Rattle.core_steps.specs.Rows.{marks_pin, part_marked}
use Rattle.core_steps.specs.declared.state.CoreChannel.{CoreChannel}
use Rattle.core_steps.specs.declared.state.Phase.{Phase}
use Rattle.core_steps.specs.declared.state.Phase.TheVariants as core
use Rattle.core_hands.specs.OpenStores.{with_part}
use Rattle.entity_index.specs.declared.row.Row.{Row}
use Rattle.channel.specs.declared.phase.Stage.{Stage}
use Rattle.channel.specs.declared.phase.Stage.TheVariants.{Idle, Marking, Sweeping}
use Rattle.channel.specs.Given.{HasGiven}
use Rattle.channel.specs.Stages.{FitsStage, parity_at, ids_where, is_grey, is_marked, is_visited, phase_in}
use Rattle.channel.specs.Taking.{stored_state}
use Rattle.channel.proofs.Pins.{has_where, same_set, where_rises}

-- the row with or without its pin
abbrev pub with_pin : Bool → Row → Row
with_pin b row = record row { state = record row.state { pinned = b } }

-- IDS

none_met : (test : Row → Bool) (o : Option Row) → ((row : Row) → o ≡ Some row → test row ≡ false) → option_map_or test o false ≡ false
none_met test None each = refl
none_met test (Some row) each = each row refl

pub ids_none : (test : Row → Bool) (rows : FinMap nat_cmp Row) → ((id : ℕ) (row : Row) → get rows id ≡ Some row → test row ≡ false) → ids_where test rows ≡ []
ids_none test rows each = same_set _ [] (where_rises test rows) refl (λ x. has_where test rows x ∙ none_met test (get rows x) (each x))

pub ids_same : (test : Row → Bool) (rows : FinMap nat_cmp Row) (id : ℕ) (row new : Row) → get rows id ≡ Some row → test new ≡ test row → ids_where test (insert rows id new) ≡ ids_where test rows
ids_same test rows id row new is same = same_set _ _ (where_rises test (insert rows id new)) (where_rises test rows) (λ x. has_where test (insert rows id new) x ∙ at x ∙ sym (has_where test rows x))
  where
    at : (x : ℕ) → option_map_or test (get (insert rows id new) x) false ≡ option_map_or test (get rows x) false
    at x = elim (cases_eq x id) [
      | inl e ↦
          ap (λ (k : ℕ). option_map_or test (get (insert rows id new) k) false) e ∙ ap (λ (o : Option Row). option_map_or test o false) (get-insert_same rows id new) ∙ same
          ∙ sym (ap (λ (k : ℕ). option_map_or test (get rows k) false) e ∙ ap (λ (o : Option Row). option_map_or test o false) is)
      | inr differs ↦ ap (λ (o : Option Row). option_map_or test o false) (get-insert_other rows id new x differs)
    ]

-- PINS

pub fits_pin : (stage : Stage) (row : Row) (b : Bool) → FitsStage stage row → FitsStage stage (with_pin b row)
fits_pin (Idle cycle) row b fits = record { marked = fits.marked; grey = fits.grey; visited = fits.visited }
fits_pin (Marking cycle) row b fits = fits
fits_pin (Sweeping cycle) row b fits = tt

pub marked_pin : (stage : Stage) (rows : FinMap nat_cmp Row) (id : ℕ) (row : Row) (b : Bool) → get rows id ≡ Some row
    → ids_where (is_marked stage) (insert rows id (with_pin b row)) ≡ ids_where (is_marked stage) rows
marked_pin (Idle cycle) rows id row b is = ids_same (is_marked (Idle cycle)) rows id row (with_pin b row) is refl
marked_pin (Marking cycle) rows id row b is = ids_same (is_marked (Marking cycle)) rows id row (with_pin b row) is refl
marked_pin (Sweeping cycle) rows id row b is = ids_same (is_marked (Sweeping cycle)) rows id row (with_pin b row) is refl

pub grey_pin : (rows : FinMap nat_cmp Row) (id : ℕ) (row : Row) (b : Bool) → get rows id ≡ Some row → ids_where is_grey (insert rows id (with_pin b row)) ≡ ids_where is_grey rows
grey_pin rows id row b is = ids_same is_grey rows id row (with_pin b row) is refl

pub phase_pin : (stage : Stage) (rows : FinMap nat_cmp Row) (id : ℕ) (row : Row) (b : Bool) → get rows id ≡ Some row → phase_in stage (insert rows id (with_pin b row)) ≡ phase_in stage rows
phase_pin (Idle cycle) rows id row b is = refl
phase_pin (Marking cycle) rows id row b is = refl
phase_pin (Sweeping cycle) rows id row b is = ap (λ (left : List ℕ). core.Sweeping cycle left) (ids_same (λ (row : Row). not (is_visited cycle row)) rows id row (with_pin b row) is refl)

pub no_mark : (x : ℕ) (phase : Phase) (c : CoreChannel) → is_idle phase ≡ true → marks_pin x phase c ≡ false
no_mark x (core.Idle cycle) c idle = refl
no_mark x (core.Marking cycle) c idle = absurd cc
no_mark x (core.Sweeping cycle left) c idle = refl

-- IDLE

pub unmarked : (xs : List ℕ) (phase : Phase) (r : CoreChannel × Hand) → is_idle phase ≡ true → part_marked xs phase r ≡ r
unmarked xs (core.Idle cycle) r idle = refl
unmarked xs (core.Marking cycle) r idle = absurd cc
unmarked xs (core.Sweeping cycle left) r idle = absurd cc

pub fits_stored : (stage : Stage) (before : FinMap nat_cmp Row) (row : Row) → is_idle (phase_in stage before) ≡ true → row.state ≡ stored_state (parity_at stage) → FitsStage stage row
fits_stored (Idle cycle) before row idle is = record { marked = ap (λ s. s.marked) is; grey = ap (λ s. s.grey) is; visited = ap (λ s. s.swept_odd) is }
fits_stored (Marking cycle) before row idle is = absurd cc
fits_stored (Sweeping cycle) before row idle is = absurd cc

pub same_phase : (stage : Stage) (before now : FinMap nat_cmp Row) → is_idle (phase_in stage before) ≡ true → phase_in stage now ≡ phase_in stage before
same_phase (Idle cycle) before now idle = refl
same_phase (Marking cycle) before now idle = refl
same_phase (Sweeping cycle) before now idle = absurd cc

abbrev AllFit : Stage → FinMap nat_cmp Row → Type 0
AllFit stage rows = (id : ℕ) (row : Row) → get rows id ≡ Some row → FitsStage stage row

pub none_marked : (stage : Stage) (before rows : FinMap nat_cmp Row) → is_idle (phase_in stage before) ≡ true → AllFit stage rows → ids_where (is_marked stage) rows ≡ []
none_marked (Idle cycle) before rows idle fits = ids_none (is_marked (Idle cycle)) rows (λ id row is. (fits id row is).marked)
none_marked (Marking cycle) before rows idle fits = absurd cc
none_marked (Sweeping cycle) before rows idle fits = absurd cc

pub none_grey : (stage : Stage) (before rows : FinMap nat_cmp Row) → is_idle (phase_in stage before) ≡ true → AllFit stage rows → ids_where is_grey rows ≡ []
none_grey (Idle cycle) before rows idle fits = ids_none is_grey rows (λ id row is. (fits id row is).grey)
none_grey (Marking cycle) before rows idle fits = absurd cc
none_grey (Sweeping cycle) before rows idle fits = absurd cc

pub has_given : (number count : ℕ) (old new : Hand) → new ≡ record old { opened = with_part number old.opened } → HasGiven number count old new
has_given number count old new is =
    let credit : new.credit ≡ old.credit = ap (λ (h : Hand). h.credit) is in
    record { rest = is ∙ ap (λ (n : ℕ). record old { opened = with_part number old.opened; credit = n }) (sym credit); most = omega (arith, credit); least = omega (arith, credit) }
