-- What a storage is asked and answers: when an ask is allowed, and what its reply says of the storage before and after.
use Rattle.std.specs.Prelude.{◌≡◌, ℕ, ◌+◌, ◌<◌, Bool, true, not, ◌&&◌, ◌||◌, Some, List, [], ◌∷◌, ◌++◌, length, ◌↔◌}
use Rattle.graph_model.specs.declared.entity.Entity.{Entity}
use Rattle.graph_model.specs.declared.entity.StoreOp.{StoreOp}
use Rattle.graph_model.specs.declared.ask.Ask.{Ask}
use Rattle.graph_model.specs.declared.ask.Ask.TheVariants.{Look, Hold, Release, Store, KeepType, Collect, Tidy}
use Rattle.graph_model.specs.declared.ask.Reply.{Reply}
use Rattle.graph_model.specs.declared.ask.Reply.TheVariants.{Found, Held, Released, Stored, TypeKept, Count, Tidied}
use Rattle.graph_model.specs.Ids.{has, rises}
use Rattle.graph_model.specs.Graph.{Graph, entity_of, lists, ids, put_all, IsReached}
use Rattle.graph_model.specs.Stores.{is_valid_store, may_hold}

-- what a storage keeps: the graph, the held ids, the number of the last store, the next id, and the type records in order
pub record Storage : Type 0 where
  pub graph : Graph
  pub held : List ℕ
  pub number : ℕ
  pub next_id : ℕ
  pub types : List (List ℕ)

-- x is reached from the root or a held id, and the graph has it
pub record IsKept (graph : Graph) (held : List ℕ) (x : ℕ) : Type 0 where
  pub reached : IsReached graph (1 ∷ held) x
  pub listed : lists graph x ≡ true

-- the graph has each id, and each may be held once those before it are
abbrev pub may_hold_all : Graph → List ℕ → List ℕ → Bool
may_hold_all g held [] = true
may_hold_all g held (x ∷ xs) = lists g x && (may_hold g held x && may_hold_all g (x ∷ held) xs)

-- a store with at least one record that may be made
pub record MayStore (s : Storage) (op : StoreOp) : Type 0 where
  pub not_empty : 0 < length op.records
  pub valid : is_valid_store s.graph s.held s.next_id op ≡ true

-- when an ask is allowed; `is_next_type` tells whether a type record may follow those that are kept
abbrev pub MayAsk : (List (List ℕ) → List ℕ → Bool) → Storage → Ask → Type 0
MayAsk is_next_type s (Look x) = IsKept s.graph s.held x
MayAsk is_next_type s (Hold xs) = may_hold_all s.graph s.held xs ≡ true
MayAsk is_next_type s (Release xs) = Unit {0}
MayAsk is_next_type s (Store op) = MayStore s op
MayAsk is_next_type s (KeepType bytes) = is_next_type s.types bytes ≡ true
MayAsk is_next_type s Collect = Unit {0}
MayAsk is_next_type s Tidy = Unit {0}

-- both lists have the same ids
abbrev pub SameIds : List ℕ → List ℕ → Type 0
SameIds xs ys = (x : ℕ) → has x xs ≡ has x ys

-- everything but the held ids stayed
pub record OnlyHeldChanged (old new : Storage) : Type 0 where
  pub graph : new.graph ≡ old.graph
  pub number : new.number ≡ old.number
  pub next_id : new.next_id ≡ old.next_id
  pub types : new.types ≡ old.types

-- nothing changed
pub record IsSame (old new : Storage) : Type 0 where
  pub others : OnlyHeldChanged old new
  pub held : SameIds new.held old.held

pub record Looks (old : Storage) (x : ℕ) (reply : Reply) (new : Storage) : Type 0 where
  pub entity : Entity
  pub found : entity_of old.graph x ≡ Some entity
  pub reply_is : reply ≡ Found entity
  pub same : IsSame old new

-- the ids are held too
pub record Holds (old : Storage) (xs : List ℕ) (reply : Reply) (new : Storage) : Type 0 where
  pub reply_is : reply ≡ Held
  pub others : OnlyHeldChanged old new
  pub held : (x : ℕ) → has x new.held ≡ (has x xs || has x old.held)

-- the ids are held no longer
pub record Releases (old : Storage) (xs : List ℕ) (reply : Reply) (new : Storage) : Type 0 where
  pub reply_is : reply ≡ Released
  pub others : OnlyHeldChanged old new
  pub held : (x : ℕ) → has x new.held ≡ (has x old.held && not (has x xs))

-- the graph is the one after the store, whose ids are held
pub record Stores (old : Storage) (op : StoreOp) (reply : Reply) (new : Storage) : Type 0 where
  pub reply_is : reply ≡ Stored (old.number + 1)
  pub number : new.number ≡ old.number + 1
  pub graph : new.graph ≡ put_all op.records old.graph
  pub held : (x : ℕ) → has x new.held ≡ (has x (ids op.records) || has x old.held)
  pub next_id : new.next_id ≡ op.next_id
  pub types : new.types ≡ old.types

pub record KeepsType (old : Storage) (bytes : List ℕ) (reply : Reply) (new : Storage) : Type 0 where
  pub reply_is : reply ≡ TypeKept
  pub graph : new.graph ≡ old.graph
  pub held : SameIds new.held old.held
  pub number : new.number ≡ old.number
  pub next_id : new.next_id ≡ old.next_id
  pub types : new.types ≡ old.types ++ bytes ∷ []

-- `kept` is a list without repeats of exactly what is reached from the root and the held ids and is in the graph
pub record Collects (old : Storage) (reply : Reply) (new : Storage) : Type 0 where
  pub kept : List ℕ
  pub order : rises kept ≡ true
  pub exact : (x : ℕ) → (has x kept ≡ true) ↔ IsKept old.graph old.held x
  pub reply_is : reply ≡ Count (length kept)
  pub same : IsSame old new

pub record Tidies (old : Storage) (reply : Reply) (new : Storage) : Type 0 where
  pub reply_is : reply ≡ Tidied
  pub same : IsSame old new

-- the reply to an ask, and the storage before and after
abbrev pub Served : Storage → Ask → Reply → Storage → Type 0
Served old (Look x) reply new = Looks old x reply new
Served old (Hold xs) reply new = Holds old xs reply new
Served old (Release xs) reply new = Releases old xs reply new
Served old (Store op) reply new = Stores old op reply new
Served old (KeepType bytes) reply new = KeepsType old bytes reply new
Served old Collect reply new = Collects old reply new
Served old Tidy reply new = Tidies old reply new
