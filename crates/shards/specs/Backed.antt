-- What a unit has besides what it tells, and how turns keep it.
use Rattle.std.specs.Prelude.{◌≡◌, ℕ, Option, Some, None, List, set, slice_get}
use Rattle.graph_model.specs.declared.entity.StoreOp.{StoreOp}
use Rattle.core_steps.specs.Core.{Core}
use Rattle.core_steps.specs.declared.state.Book.{Book}
use Rattle.core_steps.specs.declared.event.Event.{Event}
use Rattle.core_steps.specs.declared.event.Event.TheVariants.{StorePart}
use Rattle.core_steps.specs.declared.event.Step.{Step}
use Rattle.core_steps.specs.Good.{IsGood}
use Rattle.core_steps.specs.Steps.{part_at, step, with_actor}
use Rattle.core_steps.specs.Told.{Told}

abbrev pub next_id_of : Option StoreOp → ℕ → ℕ
next_id_of None n = n
next_id_of (Some op) n = op.next_id

-- a part takes the next id of the open store to the channel's log, and no other event changes it
abbrev pub next_id_then : Book → Option Event → ℕ → ℕ
next_id_then b (Some StorePart) n = next_id_of b.opened n
next_id_then b _ n = n

module _ {C : Type 0} (told : C → Told) (backs : Core → List C → Type 0) (turns : Option Event → C → C → Type 0) where
  -- an allowed step, by which a unit turned into another, leaves the units backed
  abbrev pub EventsKeep : Type 0
  EventsKeep = (c d : Core) (s : Step) (us : List C) (u v : C) → IsGood c → step c s ≡ Some d → backs c us → slice_get us s.shard ≡ Some u
      → (told u).part ≡ part_at c s.shard → (told v).part ≡ part_at d s.shard
      → (told v).next_id ≡ next_id_then c.book (Some s.event) (told u).next_id → turns (Some s.event) u v → backs d (set us s.shard v)

  -- so does a turn without a step
  abbrev pub RestsKeep : Type 0
  RestsKeep = (c : Core) (us : List C) (k : ℕ) (u v : C) → IsGood c → backs c us → slice_get us k ≡ Some u → (told u).part ≡ part_at c k
      → (told v).part ≡ (told u).part → (told v).next_id ≡ (told u).next_id → turns None u v → backs c (set us k v)

-- so does one more actor
abbrev pub ActorsKeep : {C : Type 0} → (Core → List C → Type 0) → Type 0
ActorsKeep {C} backs = (c : Core) (us : List C) → IsGood c → backs c us → backs (with_actor c) us
