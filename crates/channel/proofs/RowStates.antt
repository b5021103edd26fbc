-- A channel one of whose rows gets another state: it stays sound, and its table stays.
use Rattle.std.proofs.Common.{◌≡◌, ◌≤◌, ℕ, ◌-◌, Bool, true, false, cond, ◌==◌, if◌then◌else◌, IsSome, IfSome, List, [], ◌∷◌, Option, Some, None, option_map, inl, inr, refl, sym, ap, subst, ◌∙◌}
use Rattle.std.specs.Prelude.{is_some, nat_le}
use Rattle.std.specs.Ordering.{nat_cmp}
use Rattle.std.specs.FinMap.{FinMap, get, insert}
use Rattle.std.proofs.lemmas.Bool.{and_from, cases_eq, le-leb}
use Rattle.graph_model.specs.Graph.{lists}
use Rattle.graph_model.specs.declared.entity.Entity.{Entity}
use Rattle.graph_model.specs.declared.entity.Record.{Record}
use Rattle.core_steps.specs.Core.{Hand, is_idle}
use Rattle.channel.specs.Stages.{FitsStage}
use Rattle.channel.proofs.Rest.{grey_pin, marked_pin, no_mark, phase_pin}
use Rattle.core_steps.specs.Rows.{channel_step, given, greyed, marks_pin, pinned as core_pinned}
use Rattle.core_steps.specs.declared.event.Event.{Event}
use Rattle.core_steps.specs.declared.event.Event.TheVariants.{Pin, Unpin}
use Rattle.oid_table.specs.MapLaws.{get-insert_same, get-insert_other}
use Rattle.oid_table.specs.Table.{Table, value_at, with_value}
use Rattle.entity_index.specs.Rows.{ChangesRow, pinned, unpinned, with_state}
use Rattle.entity_index.specs.declared.row.Row.{Row}
use Rattle.entity_index.specs.declared.row.State.{State}
use Rattle.channel.specs.declared.part.Slot.{Slot}
use Rattle.channel.specs.State.{ChannelState}
use Rattle.channel.specs.Core.{core_of, last_part, place_with}
use Rattle.channel.specs.OnDisk.{IsOnDisk, Stands, row_before}
use Rattle.channel.specs.Sound.{HasRoom, IsRightRow, IsSound}
use Rattle.channel.proofs.Tables.{entity_of_table, entity_under, table_same}
use Rattle.channel.proofs.Pins.{pins_absent, pins_pinned, pins_unpinned}

-- ROWS

-- what holds once any row of the id was changed holds of the rows that were changed so
pub row_changed : (rows : FinMap nat_cmp Row) (old new : Table Row) (id : ℕ) (change : Row → Row) (P : FinMap nat_cmp Row → ℕ → Type 0) → rows ≡ old.contents
    → IsSome (get rows id) → ChangesRow old new id change → ((row : Row) → get rows id ≡ Some row → P (insert rows id (change row)) old.spare) → P new.contents new.spare
row_changed rows old new id change P same some changes each =
    by (value_at old id) (ap (λ (m : FinMap nat_cmp Row). get m id) same) (subst (λ (m : FinMap nat_cmp Row). IsSome (get m id)) same some) changes
  where
    by : (o : Option Row) → get rows id ≡ o → IsSome o → IfSome o (λ row. new ≡ with_value old id (change row)) → P new.contents new.spare
    by None is some changes = absurd cc
    by (Some row) is some changes =
        let at_old = subst (λ (m : FinMap nat_cmp Row). P (insert m id (change row)) old.spare) same (each row is) in
        subst (λ (t : Table Row). P t.contents t.spare) (sym changes) at_old

-- what holds of each row, whatever its state, holds once a row has another state
pub each_row : (rows : FinMap nat_cmp Row) (id : ℕ) (row : Row) (s : State) (P : ℕ → Row → Type 0) → get rows id ≡ Some row
    → (P id row → P id (with_state s row)) → ((x : ℕ) (r : Row) → get rows x ≡ Some r → P x r)
    → (x : ℕ) (r : Row) → get (insert rows id (with_state s row)) x ≡ Some r → P x r
each_row rows id row s P is any each x r found = elim (cases_eq x id) as (λ _. P x r) [
  | inl same ↦
      let here = subst (λ (y : ℕ). get (insert rows id (with_state s row)) y ≡ Some r) same found in
      let first = get-insert_same rows id (with_state s row) in
      let new : with_state s row ≡ r = cc in
      subst (λ (y : ℕ). P y r) (sym same) (subst (P id) new (any (each id row is)))
  | inr differs ↦ each x r (sym (get-insert_other rows id (with_state s row) x differs) ∙ found)
]

-- THE CHANNEL

stands_still : (reads : ℕ → List ℕ) (number id : ℕ) (row : Row) (s : State) → Stands reads number id row → Stands reads number id (with_state s row)
stands_still reads number id row s stands = record { last = stands.last; header = stands.header }

before_still : (reads : ℕ → List ℕ) (number : ℕ) (slots : List Slot) (id : ℕ) (row : Row) (s : State)
    → IfSome (row_before slots id row) (Stands reads number id) → IfSome (row_before slots id (with_state s row)) (Stands reads number id)
before_still reads number [] id row s stands = stands_still reads number id row s stands
before_still reads number (slot ∷ slots) id row s stands =
    let later = before_still reads number slots id row s in
    (elim (slot.header.id == id) as (λ t. IfSome (if t then slot.before else row_before slots id row) (Stands reads number id)
    → IfSome (if t then slot.before else row_before slots id (with_state s row)) (Stands reads number id)) [
      | true ↦ λ stands. stands
      | false ↦ later
    ]) stands

module _ {D : Type 0} (tells : Bool) (reads : D → ℕ → List ℕ) (c : ChannelState D) (id : ℕ) (row : Row) (s : State) (is : get c.rows id ≡ Some row) (fits : FitsStage c.phase row → FitsStage c.phase (with_state s row)) where
  abbrev changed : ChannelState D
  changed = record c { rows = insert c.rows id (with_state s row) }

  on_disk_still : IsOnDisk reads c → IsOnDisk reads changed
  on_disk_still on = record {
    of_disk = on.of_disk;
    whole = on.whole;
    rows = each_row c.rows id row s (Stands (reads c.files.disk) (last_part c)) is (stands_still (reads c.files.disk) (last_part c) id row s) on.rows;
    before = λ unconfirmed. each_row c.rows id row s (λ x r. IfSome (row_before c.replaced x r) (Stands (reads c.files.disk) (last_part c - 1) x)) is
        (before_still (reads c.files.disk) (last_part c - 1) c.replaced id row s) (on.before unconfirmed);
    types = on.types;
    right = on.right;
    waits = λ unconfirmed. let w = on.waits unconfirmed in record { some = w.some; newest = w.newest; right = w.right };
  }

  sound_still : IsSound tells reads c → IsSound tells reads changed
  sound_still sound = record {
    number = sound.number;
    channels = sound.channels;
    sizes = sound.sizes;
    rows = λ x r found.
        let right = each_row c.rows id row s (IsRightRow c) is (λ right. record { live = right.live; id_is = right.id_is; header = right.header; fits = fits right.fits }) sound.rows x r found in
        record { live = right.live; id_is = right.id_is; header = right.header; fits = right.fits };
    types = sound.types;
    types_file = sound.types_file;
    on_disk = λ tells up. on_disk_still (sound.on_disk tells up);
  }

  room_still : (spare : ℕ) → HasRoom c spare → HasRoom changed spare
  room_still spare room = record { rows = room.rows; files = room.files }

-- a channel stays sound, and has as much room, where a row gets another state
pub invariant_still : {D : Type 0} (tells : Bool) (reads : D → ℕ → List ℕ) (c : ChannelState D) (old new : Table Row) (id : ℕ) (state : Row → State) → ((row : Row) → FitsStage c.phase row → FitsStage c.phase (with_state (state row) row)) → c.rows ≡ old.contents
    → IsSome (get c.rows id) → ChangesRow old new id (λ row. with_state (state row) row) → IsSound tells reads c → HasRoom c old.spare
    → IsSound tells reads (record c { rows = new.contents }) × HasRoom (record c { rows = new.contents }) new.spare
invariant_still tells reads c old new id state fits same some changes sound room =
    row_changed c.rows old new id (λ row. with_state (state row) row) (λ rows spare. IsSound tells reads (record c { rows = rows }) × HasRoom (record c { rows = rows }) spare) same some changes
    (λ row is. (sound_still tells reads c id row (state row) is (fits row) sound, room_still tells reads c id row (state row) is (fits row) old.spare room))

-- THE CORE

module _ {D : Type 0} (reads : D → ℕ → List ℕ) (c : ChannelState D) (id : ℕ) where
  row_of_listed : (o : Option Row) → is_some (option_map (entity_under (reads c.files.disk)) o) ≡ true → IsSome o
  row_of_listed None listed = listed
  row_of_listed (Some row) listed = refl

  -- an id of the table has a row
  pub has_row : lists (core_of reads c).table id ≡ true → IsSome (get c.rows id)
  has_row listed = row_of_listed (get c.rows id) (sym (ap (λ (o : Option Entity). is_some o) (entity_of_table (reads c.files.disk) c.rows id)) ∙ listed)

  module _ (h : Hand) (part : List Record) where
    -- what the core's channel is once a row was changed
    abbrev IsThen : Event → FinMap nat_cmp Row → Type 0
    IsThen event rows = channel_step (place_with c part) (core_of reads c) h event ≡ Some (core_of reads (record c { rows = rows }), h)

    pinned_row : is_idle (core_of reads c).phase ≡ true → lists (core_of reads c).table id ≡ true → 1 ≤ h.credit → (row : Row) → get c.rows id ≡ Some row → IsThen (Pin id) (insert c.rows id (pinned row))
    pinned_row idle listed credit row is =
        let may = and_from (lists (core_of reads c).table id) (nat_le 1 h.credit) listed (le-leb 1 h.credit credit) in
        let table = table_same (reads c.files.disk) c.rows id row (pinned row) is refl in
        let pins = pins_pinned c.rows id row is in
        let core = core_of reads c in
        let marked = marked_pin c.phase c.rows id row true is in
        let grey = grey_pin c.rows id row true is in
        let phase = phase_pin c.phase c.rows id row true is in
        ap (λ t. given t (cond (marks_pin id core.phase core) (greyed id (core_pinned id core, h)) (core_pinned id core, h))) may
        ∙ ap (λ t. Some (cond t (greyed id (core_pinned id core, h)) (core_pinned id core, h))) (no_mark id core.phase core idle)
        ∙ (λ i. Some (record core { table = sym table i; pins = sym pins i; marked = sym marked i; grey = sym grey i; phase = sym phase i }, h))

    unpinned_row : (row : Row) → get c.rows id ≡ Some row → IsThen (Unpin id) (insert c.rows id (unpinned row))
    unpinned_row row is =
        let table = table_same (reads c.files.disk) c.rows id row (unpinned row) is refl in
        let pins = pins_unpinned c.rows id row is in
        let marked = marked_pin c.phase c.rows id row false is in
        let grey = grey_pin c.rows id row false is in
        let phase = phase_pin c.phase c.rows id row false is in
        λ i. Some (record (core_of reads c) { table = sym table i; pins = sym pins i; marked = sym marked i; grey = sym grey i; phase = sym phase i }, h)

    -- the event is a pin, where no cycle marks
    pub pin_event : (old new : Table Row) → c.rows ≡ old.contents → ChangesRow old new id pinned → is_idle (core_of reads c).phase ≡ true → lists (core_of reads c).table id ≡ true → 1 ≤ h.credit → IsThen (Pin id) new.contents
    pin_event old new same changes idle listed credit = row_changed c.rows old new id pinned (λ rows spare. IsThen (Pin id) rows) same (has_row listed) changes (pinned_row idle listed credit)

    -- it takes a pin away
    pub unpin_event : (old new : Table Row) → c.rows ≡ old.contents → IsSome (get c.rows id) → ChangesRow old new id unpinned → IsThen (Unpin id) new.contents
    unpin_event old new same some changes = row_changed c.rows old new id unpinned (λ rows spare. IsThen (Unpin id) rows) same some changes unpinned_row

    -- an id without a row is not pinned
    pub unpin_none : get c.rows id ≡ None → channel_step (place_with c part) (core_of reads c) h (Unpin id) ≡ Some (core_of reads c, h)
    unpin_none is = λ i. Some (record (core_of reads c) { pins = sym (pins_absent c.rows id is) i }, h)
