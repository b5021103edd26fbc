-- The rule: at each moment the units at home and in views, the hands and the book are one core, which is good, and which the steps that were made led to.
use Rattle.std.specs.Prelude.{◌≡◌, ◌≢◌, ◌⊎◌, ℕ, suc, ◌+◌, ◌<◌, ◌≤◌, ◌^◌, Bool, true, false, List, map, length, slice_get, slice_index, Option, Some, None}
use mathlib.Core.Option.{some, none}
use mathlib.Core.Option as maybe
use lib.ListN.{get_elem?}
use Rattle.atomic_table.specs.Table.{State}
use Rattle.core_steps.specs.declared.unit.Ending.{Ending}
use Rattle.core_steps.specs.declared.unit.Ending.TheVariants.{Sound, Fault, Full, Broken}
use Rattle.core_steps.specs.Core.{Core, pins_of}
use Rattle.core_steps.specs.declared.event.Step.{Step}
use Rattle.core_steps.specs.Good.{IsGood}
use Rattle.core_steps.specs.Settled.{IsSettledFrom}
use Rattle.core_steps.specs.Steps.{part_at, run, steps_by}
use Rattle.core_steps.specs.Told.{Told, listed}
use Rattle.call_counts.specs.Counts.{Rose}
use Rattle.shards.specs.Known.{Own, Desk, Ended, Known, all_tell}
use Rattle.shards.specs.Words.{word_of}

-- ENDINGS

-- why a unit ended so: its count rose since the start; it is full, or the session had a store of a number above 2^63 open; some unit does not tell
abbrev pub IsCaused : Bool → Bool → ℕ → Told → Ending → Type 0
IsCaused all late start t Sound = Unit {0}
IsCaused all late start t Fault = Rose start t.faults
IsCaused all late start t (Full n) = (t.full ≡ true) ⊎ (late ≡ true)
IsCaused all late start t (Broken x) = all ≡ false

-- of a unit whose count was that at the start: it did not fall, and the unit failed only where it rose, and ended only for a cause
pub record IsExplained (all late : Bool) (start : ℕ) (t : Told) : Type 0 where
  pub least : start ≤ t.faults
  pub failed : t.failed ≡ true → Rose start t.faults
  pub ended : IsCaused all late start t t.ending

-- an ending that a view has is caused
abbrev pub IsCausedThere : Bool → Bool → List ℕ → List Told → Option Ended → Type 0
IsCausedThere all late starts ts None = Unit {0}
IsCausedThere all late starts ts (Some e) = (t : Told) → get_elem? ts e.shard ≡ some t → IsCaused all late (slice_index starts e.shard) t e.ending

-- THE CORE

-- an actor has this hand in the core, and made these of its steps
pub record Stands (c : Core) (log : List Step) (o : Own) : Type 0 where
  pub hand : slice_get c.hands o.actor ≡ Some o.hand
  pub mine : steps_by o.actor log ≡ o.mine

-- what actor 0 knows is so; from the first cycle that it saw after its last store or change of a pin the core is settled; and the
-- cycle's number is at most 2^63 and one more for each cycle that it began
pub record DeskFits (from c : Core) (d : Desk) : Type 0 where
  pub start : d.start ≡ from
  pub book : d.book ≡ c.book
  pub pins : d.pins ≡ pins_of c.channels
  pub settled : (b : ℕ) → d.since ≡ Some b → IsSettledFrom b c
  pub cycles : c.monitor.cycle ≤ 2 ^ 63 + d.begun

-- a view has the actor, as its own or as one that was joined
abbrev pub HasActor : {C : Type 0} → Known C → ℕ → Type 0
HasActor v a = (v.own.actor ≡ a) ⊎ ((i : ℕ) × (o : Own) × (get_elem? v.joined i ≡ some o) × (o.actor ≡ a))

-- a live view has it
pub record HasSeat {C : Type 0} (views : List (Known C)) (a : ℕ) : Type 0 where
  pub seat : ℕ
  pub view : Known C
  pub there : get_elem? views seat ≡ some view
  pub live : view.live ≡ true
  pub has : HasActor view a

module _ {C : Type 0} (told : C → Told) (backs : Core → List C → Type 0) where
  -- what units and live views stand for
  pub record Assembles (units : List C) (actors : ℕ) (views : List (Known C)) : Type 0 where
    pub core : Core
    pub start : Core
    pub log : List Step
    pub good : IsGood core
    pub runs : run start log ≡ Some core
    pub count : length units ≡ length core.channels + 1
    pub hands : length core.hands ≡ actors
    pub shards : (k : ℕ) (u : C) → get_elem? units k ≡ some u → (told u).part ≡ part_at core k
    pub seats : (j : ℕ) (v : Known C) → get_elem? views j ≡ some v → v.live ≡ true → Stands core log v.own
    pub joined : (j : ℕ) (v : Known C) → get_elem? views j ≡ some v → v.live ≡ true → (i : ℕ) (o : Own) → get_elem? v.joined i ≡ some o → Stands core log o
    pub desk : (j : ℕ) (v : Known C) → get_elem? views j ≡ some v → v.live ≡ true → v.own.actor ≡ 0 → DeskFits start core v.desk
    pub backed : backs core units

  -- THE SHARDS

  -- the unit u of shard k is at home where its word is 0; else its word is 1, and a live view took it
  pub record IsAtHomeOrOut (all late : Bool) (start : ℕ) (u : C) (words : List ℕ) (homes : List (maybe.Option (Option C))) (views : List (Known C)) (owner : ℕ → ℕ) (k : ℕ) : Type 0 where
    pub home : slice_index words (word_of k) ≡ 0 → get_elem? homes k ≡ some (some (Some u))
    pub out : slice_index words (word_of k) ≢ 0 → (slice_index words (word_of k) ≡ 1) × ((v : Known C) × (get_elem? views (owner k) ≡ some v) × (v.live ≡ true) × (v.taken ≡ Some (k, u)))
    pub explained : IsExplained all late start (told u)

  -- THE VIEWS

  -- the live view of seat j: no other seat has its actors; what it took is that unit; where it is actor 0's, it lists what no other actor changes
  pub record IsSeatOf (units : List C) (starts : List ℕ) (actors : ℕ) (all late : Bool) (owner keeper : ℕ → ℕ) (words : List ℕ) (j : ℕ) (v : Known C) : Type 0 where
    pub keeps : keeper v.own.actor ≡ suc j
    pub there : v.own.actor < actors
    pub joined : (i : ℕ) (o : Own) → get_elem? v.joined i ≡ some o → (keeper o.actor ≡ 0) × (o.actor < actors)
    pub taken : (k : ℕ) (u : C) → v.taken ≡ Some (k, u) → (owner k ≡ j) × (slice_index words (word_of k) ≡ 1) × (get_elem? units k ≡ some u)
    pub listed : v.own.actor ≡ 0 → (v.desk.lists ≡ map (λ (u : C). listed (told u)) units) × (v.desk.made ≡ actors) × (v.desk.late ≡ late) × (v.desk.counts ≡ starts)
    pub ended : IsCausedThere all late starts (map told units) v.ended
    pub endings : (i : ℕ) (e : Ended) → get_elem? v.endings i ≡ some e → IsCausedThere all late starts (map told units) (Some e)
    pub stop : (v.stop.has_set ≡ true) ⊎ (v.stop.has_seen ≡ true) → slice_index words (word_of (length units)) ≡ 1
    pub tells : v.tells ≡ all
    pub channels : v.channels + 1 ≡ length units

  -- THE RULE

  pub record Kept (s : State (Option C) (Known C)) : Type 0 where
    pub units : List C
    pub starts : List ℕ
    pub actors : ℕ
    pub all : Bool
    pub late : Bool
    pub tell : all_tell (map told units) ≡ all
    pub owner : ℕ → ℕ
    pub keeper : ℕ → ℕ
    pub wide : length s.words ≡ word_of (length s.homes) + 1
    pub deep : length units ≡ length s.homes
    pub each_shard : (k : ℕ) (u : C) → get_elem? units k ≡ some u → IsAtHomeOrOut all late (slice_index starts k) u s.words s.homes s.views owner k
    pub each_actor : (a : ℕ) → a < actors → HasSeat s.views a
    pub each_seat : (j : ℕ) (v : Known C) → get_elem? s.views j ≡ some v → v.live ≡ true → IsSeatOf units starts actors all late owner keeper s.words j v
    pub assembles : all ≡ true → Assembles units actors s.views
