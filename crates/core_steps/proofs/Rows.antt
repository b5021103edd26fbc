-- Runs that the prover computes: a first store in each format, and a cycle with a store in it.
use Rattle.std.specs.Prelude.{◌≡◌, ℕ, Option, Some, None, List, [], ◌∷◌, ◌++◌, map, refl, take}
use Rattle.graph_model.specs.declared.entity.Entity.{Entity}
use Rattle.graph_model.specs.declared.entity.Record.{Record}
use Rattle.graph_model.specs.declared.entity.StoreOp.{StoreOp}
use Rattle.graph_model.specs.Graph.{ids}
use Rattle.core_steps.specs.Core.{Core, CoreChannel}
use Rattle.core_steps.specs.Events.{BeginCycle, BeginMark, CloseCycle, Confirm, Deliver, Event, MarkSome, Pin, ReportBegun, ReportSwept, Reserve, Return, Step, StoreBegin, StoreEnd, StorePart, SweepSome}
use Rattle.core_steps.specs.Steps.{IsFirstRefused, run, start}

abbrev node : List ℕ → Entity
node refs = record { type_id = 16; refs = refs; plain = [] }

abbrev at : ℕ → List ℕ → Record
at x refs = record { id = x; entity = node refs }

-- a step of the session, and one of the worker
abbrev session : ℕ → Event → Step
session k e = record { actor = 0; shard = k; event = e }

abbrev worker : ℕ → Event → Step
worker k e = record { actor = 1; shard = k; event = e }

abbrev tables_and_pins : Option Core → List (List ℕ × List ℕ)
tables_and_pins None = []
tables_and_pins (Some c) = map (λ (x : CoreChannel). (ids x.table, x.pins)) c.channels

abbrev pending_of : Option Core → ℕ
pending_of None = 0
pending_of (Some c) = c.monitor.pending

abbrev core_or : Core → Option Core → Core
core_or c None = c
core_or c (Some d) = d

-- A FIRST STORE

abbrev empty : Core
empty = start [] 1024 0 2 1 1

abbrev first_store : StoreOp
first_store = record { records = at 1 (1024 ∷ []) ∷ at 1024 [] ∷ []; next_id = 1025 }

abbrev first_steps : List Step
first_steps = session 2 (Reserve 2) ∷ session 2 (StoreBegin first_store) ∷ session 0 StorePart ∷ session 1 StorePart
    ∷ session 2 StoreEnd ∷ session 0 Confirm ∷ session 1 Confirm ∷ []

-- channel 1 has id 1, and channel 0 has id 1024, both pinned
first_store_is_allowed : tables_and_pins (run empty first_steps) ≡ (1024 ∷ [], 1024 ∷ []) ∷ (1 ∷ [], 1 ∷ []) ∷ []
first_store_is_allowed = refl

abbrev early_end : List Step
early_end = session 2 (Reserve 2) ∷ session 2 (StoreBegin first_store) ∷ session 0 StorePart ∷ session 2 StoreEnd ∷ []

no_early_end : IsFirstRefused empty early_end 3
no_early_end = record { core = core_or empty (run empty (take 3 early_end)); leads = refl; bad = session 2 StoreEnd; at = refl; refused = refl }

abbrev without_credit : List Step
without_credit = session 2 (StoreBegin first_store) ∷ session 0 StorePart ∷ []

no_part_without_credit : IsFirstRefused empty without_credit 1
no_part_without_credit = record {
  core = core_or empty (run empty (take 1 without_credit));
  leads = refl;
  bad = session 0 StorePart;
  at = refl;
  refused = refl;
}

-- AN OPEN CYCLE WITH A STORE IN IT

abbrev two_ids : Core
two_ids = start (at 1 (1024 ∷ []) ∷ at 1024 [] ∷ []) 1025 1 2 2 1

abbrev pinned_steps : List Step
pinned_steps = session 2 (Reserve 1) ∷ session 1 (Pin 1) ∷ session 0 (Pin 1024) ∷ session 2 (Return 1) ∷ []

abbrev both_pinned : Core
both_pinned = core_or two_ids (run two_ids pinned_steps)

abbrev second_store : StoreOp
second_store = record { records = at 1024 (1025 ∷ []) ∷ at 1025 [] ∷ []; next_id = 1026 }

abbrev open_cycle_steps : List Step
open_cycle_steps = worker 2 BeginCycle ∷ worker 2 (Reserve 4) ∷ worker 0 BeginMark ∷ worker 0 (MarkSome (1024 ∷ [])) ∷ session 2 (Reserve 2)
    ∷ session 2 (StoreBegin second_store) ∷ session 0 StorePart ∷ worker 0 (MarkSome (1024 ∷ [])) ∷ worker 1 BeginMark
    ∷ worker 1 (Deliver (1025 ∷ [])) ∷ session 1 StorePart ∷ []

abbrev early_close : List Step
early_close = open_cycle_steps ++ worker 2 CloseCycle ∷ []

-- two grey ids and four credits
six_are_pending : pending_of (run both_pinned open_cycle_steps) ≡ 6
six_are_pending = refl

no_early_close : IsFirstRefused both_pinned early_close 11
no_early_close = record {
  core = core_or both_pinned (run both_pinned (take 11 early_close));
  leads = refl;
  bad = worker 2 CloseCycle;
  at = refl;
  refused = refl;
}

abbrev closing_steps : List Step
closing_steps = session 2 StoreEnd ∷ worker 1 (MarkSome (1 ∷ 1025 ∷ [])) ∷ worker 0 (Deliver (1024 ∷ [])) ∷ worker 2 (Return 6)
    ∷ worker 2 (ReportBegun 0) ∷ worker 2 (ReportBegun 1) ∷ worker 2 CloseCycle ∷ []

abbrev sweeping_steps : List Step
sweeping_steps = worker 0 (SweepSome (1024 ∷ [])) ∷ worker 1 (SweepSome (1 ∷ 1025 ∷ [])) ∷ worker 2 (ReportSwept 0) ∷ worker 2 (ReportSwept 1) ∷ []

closed_and_swept : tables_and_pins (run both_pinned (open_cycle_steps ++ (closing_steps ++ sweeping_steps)))
    ≡ (1024 ∷ [], 1024 ∷ []) ∷ (1 ∷ 1025 ∷ [], 1 ∷ 1025 ∷ []) ∷ []
closed_and_swept = refl

-- FORMAT 2: A STORE IS ON THE CHANNELS OF ITS IDS, AND LISTS AT LEAST ONE

abbrev empty_2 : Core
empty_2 = start [] 1024 0 2 1 2

abbrev one_id : StoreOp
one_id = record { records = at 1 [] ∷ []; next_id = 1024 }

one_channel_is_enough : tables_and_pins (run empty_2 (session 2 (Reserve 1) ∷ session 2 (StoreBegin one_id) ∷ session 1 StorePart
    ∷ session 2 StoreEnd ∷ session 1 Confirm ∷ [])) ≡ ([], []) ∷ (1 ∷ [], 1 ∷ []) ∷ []
one_channel_is_enough = refl

abbrev part_elsewhere : List Step
part_elsewhere = session 2 (Reserve 1) ∷ session 2 (StoreBegin one_id) ∷ session 0 StorePart ∷ []

no_part_elsewhere : IsFirstRefused empty_2 part_elsewhere 2
no_part_elsewhere = record {
  core = core_or empty_2 (run empty_2 (take 2 part_elsewhere));
  leads = refl;
  bad = session 0 StorePart;
  at = refl;
  refused = refl;
}

abbrev empty_store : List Step
empty_store = session 2 (StoreBegin (record { records = []; next_id = 1024 })) ∷ []

no_empty_store : IsFirstRefused empty_2 empty_store 0
no_empty_store = record { core = empty_2; leads = refl; bad = session 2 (StoreBegin (record { records = []; next_id = 1024 })); at = refl; refused = refl }
