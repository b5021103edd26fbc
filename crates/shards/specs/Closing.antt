-- What the last pass and the units are when the shards are closed.
use Rattle.std.specs.Prelude.{◌≡◌, ℕ, ◌+◌, ◌<◌, true, List, length, map, slice_get, slice_index, Some}
use mathlib.Core.Option.{some}
use lib.ListN.{get_elem?}
use Rattle.core_steps.specs.declared.event.Step.{Step}
use Rattle.core_steps.specs.Core.{Core}
use Rattle.core_steps.specs.Good.{IsGood}
use Rattle.core_steps.specs.Steps.{part_at, run}
use Rattle.core_steps.specs.Told.{Told}
use Rattle.shards.specs.Known.{Ended, Known, Own}
use Rattle.shards.specs.Kept.{DeskFits, IsCausedThere, IsExplained, Stands}

-- each actor but 0 has joined
abbrev pub HasAll : {C : Type 0} → Known C → Type 0
HasAll v = (a : ℕ) → 0 < a → a < v.desk.made → (i : ℕ) × (o : Own) × (get_elem? v.joined i ≡ some o) × (o.actor ≡ a)

module _ {C : Type 0} (told : C → Told) (backs : Core → List C → Type 0) where
  -- the units, hands and book are one good core, to which the steps of all actors led from the start
  pub record IsLastCore (v : Known C) (units : List C) : Type 0 where
    pub core : Core
    pub log : List Step
    pub good : IsGood core
    pub runs : run v.desk.start log ≡ Some core
    pub parts : (k : ℕ) (u : C) → slice_get units k ≡ Some u → (told u).part ≡ part_at core k
    pub hands : length core.hands ≡ v.desk.made
    pub own : Stands core log v.own
    pub joined : (i : ℕ) (o : Own) → get_elem? v.joined i ≡ some o → Stands core log o
    pub desk : DeskFits v.desk.start core v.desk
    pub backed : backs core units

  -- the units as they come back; each ending that the pass has is caused, and so is each unit's own
  pub record AreClosed (v : Known C) (units : List C) : Type 0 where
    pub count : length units ≡ v.channels + 1
    pub explained : (k : ℕ) (u : C) → slice_get units k ≡ Some u → IsExplained v.tells v.desk.late (slice_index v.desk.counts k) (told u)
    pub ended : IsCausedThere v.tells v.desk.late v.desk.counts (map told units) v.ended
    pub endings : (i : ℕ) (e : Ended) → get_elem? v.endings i ≡ some e → IsCausedThere v.tells v.desk.late v.desk.counts (map told units) (Some e)
    pub core : v.tells ≡ true → IsLastCore v units
