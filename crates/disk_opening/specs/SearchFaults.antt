-- What a search over the tables of all channels finds, and why it stops.
use Rattle.std.specs.Prelude.{◌≡◌, ◌≢◌, ℕ, true, is_some, List, Some, None}
use Rattle.graph_model.specs.Graph.{Graph, ids}
use Rattle.graph_model.specs.declared.entity.Entity.{Entity}
use Rattle.type_desc.specs.declared.desc.TypeDesc.{TypeDesc}
use Rattle.type_dictionary.specs.Latest.{desc_of}
use Rattle.recovery.specs.Reach.{IsFromRoot, IsRestricted, Tables}
use Rattle.recovery.specs.Stored.{HasKnownForm}
use Rattle.disk_opening.specs.declared.entities.SearchFault.{SearchFault}
use Rattle.disk_opening.specs.declared.entities.SearchFault.TheVariants.{NoMemory, Fault, Missing, NoType, Form, Changed}

-- these are the ids of the tables restricted to what the root reaches; all that it reaches is there, the root excepted, and has its form
pub record IsSearchedWhole (types : List TypeDesc) (tables : Tables) (found : List ℕ) : Type 0 where
  pub graph : Graph
  pub ids_are : ids graph ≡ found
  pub restricted : IsRestricted tables graph
  pub whole : (x : ℕ) → IsFromRoot tables x → x ≢ 1 → is_some (tables x) ≡ true
  pub forms : (x : ℕ) (e : Entity) → IsFromRoot tables x → tables x ≡ Some e → HasKnownForm types x e

-- its entity is of a type that is not known
pub record HasNoType (types : List TypeDesc) (tables : Tables) (x : ℕ) : Type 0 where
  pub entity : Entity
  pub there : tables x ≡ Some entity
  pub unknown : desc_of types entity.type_id ≡ None

-- its entity has not the form of a known type
pub record HasNoForm (types : List TypeDesc) (tables : Tables) (x : ℕ) : Type 0 where
  pub entity : Entity
  pub there : tables x ≡ Some entity
  pub wrong : ¬ (HasKnownForm types x entity)

-- what is wrong with the id that is told; its entity is never another than before
abbrev pub IsFaultAt : List TypeDesc → Tables → SearchFault → Type 0
IsFaultAt types tables NoMemory = Unit {0}
IsFaultAt types tables Fault = Unit {0}
IsFaultAt types tables (Missing x) = tables x ≡ None
IsFaultAt types tables (NoType x) = HasNoType types tables x
IsFaultAt types tables (Form x) = HasNoForm types tables x
IsFaultAt types tables (Changed x) = ⊥

-- the root reaches the id that is told, and where it is missing it is not the root's
abbrev pub IsReachedFault : Tables → SearchFault → Type 0
IsReachedFault tables NoMemory = Unit {0}
IsReachedFault tables Fault = Unit {0}
IsReachedFault tables (Missing x) = IsFromRoot tables x × (x ≢ 1)
IsReachedFault tables (NoType x) = IsFromRoot tables x
IsReachedFault tables (Form x) = IsFromRoot tables x
IsReachedFault tables (Changed x) = Unit {0}

-- what is wrong with this id
abbrev pub IsFaultOf : List TypeDesc → Tables → ℕ → SearchFault → Type 0
IsFaultOf types tables id NoMemory = Unit {0}
IsFaultOf types tables id Fault = Unit {0}
IsFaultOf types tables id (Missing x) = (x ≡ id) × (tables id ≡ None)
IsFaultOf types tables id (NoType x) = (x ≡ id) × HasNoType types tables id
IsFaultOf types tables id (Form x) = (x ≡ id) × HasNoForm types tables id
IsFaultOf types tables id (Changed x) = ⊥

-- the form of this entity was looked at
abbrev pub IsFormFault : List TypeDesc → ℕ → Entity → SearchFault → Type 0
IsFormFault types id e NoMemory = Unit {0}
IsFormFault types id e Fault = ⊥
IsFormFault types id e (Missing x) = ⊥
IsFormFault types id e (NoType x) = (x ≡ id) × (desc_of types e.type_id ≡ None)
IsFormFault types id e (Form x) = (x ≡ id) × ¬ (HasKnownForm types id e)
IsFormFault types id e (Changed x) = ⊥

-- the bytes of an entity were read; they are never others than before where the disk tells
abbrev pub IsReadFault : SearchFault → Type 0
IsReadFault NoMemory = Unit {0}
IsReadFault Fault = Unit {0}
IsReadFault (Missing x) = ⊥
IsReadFault (NoType x) = ⊥
IsReadFault (Form x) = ⊥
IsReadFault (Changed x) = ⊥
