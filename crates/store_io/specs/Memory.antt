-- A source and a sink in memory, as contracts see them.
use Rattle.std.specs.Prelude.{ℕ, List}

pub record SourceState : Type 0 where
  -- the bytes still to come
  pub left : List ℕ
  -- the most that one read gives
  pub piece : ℕ
  -- the calls that fail, by number from 1
  pub fails : List ℕ
  pub calls : ℕ
  pub faults : ℕ

pub record SinkState : Type 0 where
  pub written : List ℕ
  -- the calls that fail, by number from 1
  pub fails : List ℕ
  pub calls : ℕ
  pub faults : ℕ
