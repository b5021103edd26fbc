-- What a line that stores gathers.
use Rattle.std.specs.Prelude.{◌≡◌, ℕ, true, false, Some, None, Result, Ok, Err, List}
use Rattle.graph_model.specs.declared.entity.StoreOp.{StoreOp}
use Rattle.session_model.specs.Answer.{are_too_big, gathered_records, id_in}
use Rattle.session_lines.specs.declared.memory.Memory.{Memory}
use Rattle.session_lines.specs.declared.refusal.Stop.{Stop}
use Rattle.session_lines.specs.declared.refusal.Stop.TheVariants.{Refused, NoMemory}
use Rattle.session_lines.specs.declared.refusal.Refusal.TheVariants.{NoName, TooBig}
use Rattle.storer.specs.Gathered.{gathered_ids}
use Rattle.storer.specs.declared.gathering.Gathering.{Gathering}
use Rattle.session_lines.specs.Limits.{most_bytes}

-- what is gathered from the object of the name, which is not too big
pub record Gathers (gathering : Gathering) (memory : Memory) (name : List ℕ) (op : StoreOp) : Type 0 where
  pub start : ℕ
  pub named : id_in memory.registry.names name ≡ Some start
  pub records : op.records ≡ gathered_records memory.registry.instances (gathered_ids gathering memory.registry.instances start)
  pub next_id : op.next_id ≡ memory.next_id
  pub fits : are_too_big most_bytes op.records ≡ false

-- the name is bound, and what is gathered is too big
pub record GathersTooMuch (gathering : Gathering) (memory : Memory) (name : List ℕ) : Type 0 where
  pub start : ℕ
  pub named : id_in memory.registry.names name ≡ Some start
  pub big : are_too_big most_bytes (gathered_records memory.registry.instances (gathered_ids gathering memory.registry.instances start)) ≡ true

-- what is gathered, or why nothing is stored
abbrev pub IsGathered : Gathering → Memory → List ℕ → Result StoreOp Stop → Type 0
IsGathered gathering memory name (Ok op) = Gathers gathering memory name op
IsGathered gathering memory name (Err (Refused NoName)) = id_in memory.registry.names name ≡ None
IsGathered gathering memory name (Err (Refused TooBig)) = GathersTooMuch gathering memory name
IsGathered gathering memory name (Err NoMemory) = Unit {0}
IsGathered gathering memory name (Err _) = ⊥
