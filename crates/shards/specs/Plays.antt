-- What a turn may do, and what each step on the table tells.
use Rattle.std.specs.Prelude.{◌≡◌, ◌≢◌, ◌⊎◌, ℕ, Bool, true, false, is_some, [], ◌∷◌, Option, Some, None, length, slice_get}
use Rattle.atomic_table.specs.Table.{Me, Step}
use Rattle.core_steps.specs.declared.unit.Ending.{Ending}
use Rattle.core_steps.specs.declared.unit.Ending.TheVariants.{Sound, Fault, Full, Broken}
use Rattle.core_steps.specs.Core.{Core, Hand, in_any}
use Rattle.core_steps.specs.declared.event.Event.{Event}
use Rattle.core_steps.specs.Events.{is_worker}
use Rattle.core_steps.specs.Good.{IsGood}
use Rattle.core_steps.specs.Rows.{Part, part_step}
use Rattle.core_steps.specs.Steps as core
use Rattle.core_steps.specs.Steps.{part_at, permits, place_in}
use Rattle.core_steps.specs.Told.{Told, GoesOn, listed}
use Rattle.shards.specs.Known.{Known, gave, is_late, refused, saw_stop, stopping, took}
use Rattle.shards.specs.Backed.{next_id_then}
use Rattle.shards.specs.Due.{IsEarly, NothingIsDue}
use Rattle.shards.specs.Kept.{DeskFits}
use Rattle.shards.specs.Words.{word_of}

-- WHAT A TURN MAY DO

module _ {C : Type 0} where
  -- a new ending is right: the unit failed; it is full, or the session's hand has a store of a number above 2^63 open; some unit does not tell
  abbrev pub IsRightEnding : Known C → Told → Hand → Ending → Type 0
  IsRightEnding v t h Sound = ⊥
  IsRightEnding v t h Fault = t.failed ≡ true
  IsRightEnding v t h (Full n) = (t.full ≡ true) ⊎ ((v.own.actor ≡ 0) × (is_late h ≡ true))
  IsRightEnding v t h (Broken x) = v.tells ≡ false

  -- what any turn leaves of what a unit told, with the hand h behind it, also where units do not tell. No worker changes what is listed.
  pub record Returns (v : Known C) (t t' : Told) (h : Hand) : Type 0 where
    pub goes_on : GoesOn t t'
    pub ends : (t'.ending ≡ t.ending) ⊎ IsRightEnding v t' h t'.ending
    pub tells : is_some t'.part ≡ is_some t.part
    pub others : v.own.actor ≢ 0 → listed t' ≡ listed t

  -- unit and hand are what this event, being allowed, makes of those taken; a worker makes no event of stores or pins
  pub record Makes (v : Known C) (k : ℕ) (t t' : Told) (h' : Hand) (e : Event) : Type 0 where
    pub who : v.own.actor ≢ 0 → is_worker e ≡ true
    pub may : permits v.desk.book (in_any v.desk.pins) v.own.actor e ≡ true
    pub part : Part
    pub was : t.part ≡ Some part
    pub new_part : Part
    pub is : t'.part ≡ Some new_part
    pub made : part_step (place_in v.channels v.desk.book k) part v.own.hand e ≡ Some (new_part, h')
    pub next_id : t'.next_id ≡ next_id_then v.desk.book (Some e) t.next_id
    pub early : v.own.actor ≢ 0 → IsEarly part e

  -- unit and hand are those taken, and a worker passed over nothing that is due
  pub record Rests (v : Known C) (k : ℕ) (t t' : Told) (h' : Hand) : Type 0 where
    pub part : t'.part ≡ t.part
    pub hand : h' ≡ v.own.hand
    pub next_id : t'.next_id ≡ t.next_id
    pub due : v.own.actor ≢ 0 → NothingIsDue (place_in v.channels v.desk.book k) t' h'

  -- THE CORE AT A STEP

  -- when the turn was taken, unit, hand and desk were of one good core, of as many channels as the pass knows: so the last shard is the monitor
  pub record Glimpse (v : Known C) (k : ℕ) (t : Told) : Type 0 where
    pub core : Core
    pub good : IsGood core
    pub channels : length core.channels ≡ v.channels
    pub shard : t.part ≡ part_at core k
    pub hand : slice_get core.hands v.own.actor ≡ Some v.own.hand
    pub desk : v.own.actor ≡ 0 → (start : Core) × DeskFits start core v.desk

  -- the assembled core changed by exactly this one step: from one with the unit and hand taken to one with those given back
  pub record Steps (v : Known C) (k : ℕ) (t t' : Told) (h' : Hand) (e : Event) : Type 0 where
    pub before : Core
    pub after : Core
    pub good : IsGood before
    pub still_good : IsGood after
    pub step : core.step before record { actor = v.own.actor; shard = k; event = e } ≡ Some after
    pub shard : t.part ≡ part_at before k
    pub hand : slice_get before.hands v.own.actor ≡ Some v.own.hand
    pub new_shard : t'.part ≡ part_at after k
    pub new_hand : slice_get after.hands v.own.actor ≡ Some h'

-- THE STEPS

module _ {C : Type 0} (told : C → Told) where
  -- a try of the turn of the shard whose word it is: the word read 0, and the unit was taken; or it read 1
  abbrev pub tried : Step (Option C) → Me (Option C) (Known C) → ℕ → Me (Option C) (Known C) → Type 0
  tried st m n m' = (k : ℕ) → st.word ≡ word_of k → (n ≡ 0 → (u : C) × (m' ≡ (took m.0 k u, (k, Some u) ∷ m.1)) × (m.0.tells ≡ true → Glimpse m.0 k (told u)))
      × (n ≢ 0 → (n ≡ 1) × (m' ≡ (refused m.0 k, m.1)))

module _ {C : Type 0} (told : C → Told) (turns : Option Event → C → C → Type 0) where
  -- by an event that is asked for, or by none
  abbrev pub Goes : Known C → ℕ → C → C → Hand → Bool → (Event → Type 0) → Option Event → Type 0
  Goes v k u u' h true asks o = v.tells ≡ true → (e : Event) × (o ≡ Some e) × asks e × Makes v k (told u) (told u') h e × turns (Some e) u u'
  Goes v k u u' h false asks o = (o ≡ None) × (v.tells ≡ true → Rests v k (told u) (told u') h × turns None u u')

  -- a turn given back
  abbrev pub left : Hand → Bool → (Event → Type 0) → Step (Option C) → Me (Option C) (Known C) → ℕ → Me (Option C) (Known C) → Type 0
  left h moves asks st m n m' = (k : ℕ) (u u' : C) → m.0.taken ≡ Some (k, u) → m.1 ≡ (k, Some u') ∷ []
      → (o : Option Event) × Goes m.0 k u u' h moves asks o × (m' ≡ (gave m.0 k (told u) (told u') h o, []))
      × (m.0.tells ≡ true → (e : Event) → o ≡ Some e → Steps m.0 k (told u) (told u') h e)

module _ {C : Type 0} where
  -- the stop was set
  abbrev pub stopped : Step (Option C) → Me (Option C) (Known C) → ℕ → Me (Option C) (Known C) → Type 0
  stopped st m n m' = m' ≡ (stopping m.0, m.1)

  -- the stop word read 1, and the view has seen it; or not, and then the view had neither set nor seen it
  abbrev pub looked : Step (Option C) → Me (Option C) (Known C) → ℕ → Me (Option C) (Known C) → Type 0
  looked st m n m' = (n ≡ 1 → m' ≡ (saw_stop m.0, m.1)) × (n ≢ 1 → m' ≡ m) × ((m.0.stop.has_set ≡ true) ⊎ (m.0.stop.has_seen ≡ true) → n ≡ 1)
