-- Units of 16 bytes, each clear (`false`) or part of a block (`true`), and what a node of the tree knows of them.
-- No public clause cites this module.
use Rattle.std.specs.Prelude.{◌≡◌, ℕ, zero, suc, max, ◌+◌, ◌-◌, ◌<◌, ◌≤◌, Bool, true, false, List, [], ◌∷◌, ◌++◌, length, slice_index_or}
use Rattle.entity_region.specs.declared.runs.Runs.{Runs}

abbrev pub unit_at : List Bool → ℕ → Bool
unit_at units u = slice_index_or units u true

-- these n units are clear
pub record IsClear (units : List Bool) (at n : ℕ) : Type 0 where
  pub inside : at + n ≤ length units
  pub clear : (u : ℕ) → at ≤ u → u < at + n → unit_at units u ≡ false

-- the longest clear runs: at the front, at the back, and anywhere
pub record AreRuns (units : List Bool) (runs : Runs) : Type 0 where
  pub front : IsClear units 0 runs.front
  pub front_most : (n : ℕ) → IsClear units 0 n → n ≤ runs.front
  pub back_at : ℕ
  pub back_is : back_at + runs.back ≡ length units
  pub back : IsClear units back_at runs.back
  pub back_most : (at n : ℕ) → IsClear units at n → at + n ≡ length units → n ≤ runs.back
  pub most_at : ℕ
  pub most : IsClear units most_at runs.most
  pub most_most : (at n : ℕ) → IsClear units at n → n ≤ runs.most

-- a node of two halves
pub record IsFork (IsPart : List Runs → List Bool → Type 0) (nodes : List Runs) (units : List Bool) : Type 0 where
  pub top : Runs
  pub left : List Runs
  pub right : List Runs
  pub front : List Bool
  pub back : List Bool
  pub nodes_are : nodes ≡ top ∷ (left ++ right)
  pub units_are : units ≡ front ++ back
  pub even : length left ≡ length right
  pub halves : length front ≡ length back
  pub left_part : IsPart left front
  pub right_part : IsPart right back
  pub runs : AreRuns units top

pub record IsLeaf (nodes : List Runs) (units : List Bool) : Type 0 where
  pub top : Runs
  pub nodes_are : nodes ≡ top ∷ []
  pub runs : AreRuns units top

-- a tree over units, of so many levels above its leaves
abbrev pub IsTree : ℕ → List Runs → List Bool → Type 0
IsTree zero nodes units = IsLeaf nodes units
IsTree (suc levels) nodes units = IsFork (IsTree levels) nodes units

-- how many nodes and units a tree of so many levels has, whose leaves have so many units
abbrev pub node_count : ℕ → ℕ
node_count zero = 1
node_count (suc levels) = suc (node_count levels + node_count levels)

abbrev pub unit_count : ℕ → ℕ → ℕ
unit_count width zero = width
unit_count width (suc levels) = unit_count width levels + unit_count width levels

pub record IsShape (levels nodes units : ℕ) : Type 0 where
  pub width : ℕ
  pub nodes_are : nodes ≡ node_count levels
  pub units_are : units ≡ unit_count width levels

-- a shape that grows by one level after another, until its leaves are short
pub record IsGrown (count width leaves levels nodes units : ℕ) : Type 0 where
  pub nodes_are : nodes ≡ node_count levels
  pub units_are : units ≡ unit_count width levels
  pub leaves_are : leaves ≡ unit_count 1 levels
  pub enough : count ≤ units
  pub few : units + 1 ≤ count + leaves
  pub some : levels < leaves
  pub nodes_few : nodes + 1 ≡ leaves + leaves
  pub leaves_few : leaves ≤ 32768

-- there is a run of so many clear units
pub record IsThere (units : List Bool) (n : ℕ) : Type 0 where
  pub at : ℕ
  pub clear : IsClear units at n

-- the runs of so many units with others behind them
pub record AreJoined (runs : Runs) (len : ℕ) (others : Runs) (others_len : ℕ) (joined : Runs) : Type 0 where
  pub front_within : runs.front < len → joined.front ≡ runs.front
  pub front_over : runs.front ≡ len → joined.front ≡ len + others.front
  pub back_within : others.back < others_len → joined.back ≡ others.back
  pub back_over : others.back ≡ others_len → joined.back ≡ others_len + runs.back
  pub most : joined.most ≡ max (max runs.most others.most) (runs.back + others.front)

-- the first n clear units
pub record IsFirstClear (units : List Bool) (n at : ℕ) : Type 0 where
  pub clear : IsClear units at n
  pub first : (other : ℕ) → IsClear units other n → at ≤ other

-- the units from one place to another have a value, and all others are as before
pub record IsFilled (old new : List Bool) (from to : ℕ) (value : Bool) : Type 0 where
  pub count : length new ≡ length old
  pub within : (u : ℕ) → from ≤ u → u < to → unit_at new u ≡ value
  pub before : (u : ℕ) → u < from → unit_at new u ≡ unit_at old u
  pub behind : (u : ℕ) → to ≤ u → unit_at new u ≡ unit_at old u

-- what is known of the first units, up to a place
pub record IsScanned (units : List Bool) (place front back most : ℕ) : Type 0 where
  pub place_in : place ≤ length units
  pub front_in : front ≤ place
  pub front_clear : IsClear units 0 front
  pub front_most : (n : ℕ) → IsClear units 0 n → n ≤ place → n ≤ front
  pub back_in : back ≤ place
  pub back_clear : IsClear units (place - back) back
  pub back_most : (at n : ℕ) → IsClear units at n → at + n ≡ place → n ≤ back
  pub most_at : ℕ
  pub most_in : most_at + most ≤ place
  pub most_clear : IsClear units most_at most
  pub most_most : (at n : ℕ) → IsClear units at n → at + n ≤ place → n ≤ most

-- no run of so many clear units begins before the last units up to a place, all clear
pub record IsSought (units : List Bool) (wanted place run : ℕ) : Type 0 where
  pub place_in : place ≤ length units
  pub short : run < wanted
  pub run_in : run ≤ place
  pub run_clear : IsClear units (place - run) run
  pub none_before : (at : ℕ) → IsClear units at wanted → place ≤ at + run
