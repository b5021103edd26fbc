-- The session stands at a state whose names, instances or next id are others.
use Rattle.std.proofs.Common.{◌≡◌, ◌≤◌, ℕ, List, Some, ap, ◌∙◌, sym, arith}
use Rattle.graph_model.specs.Ids.{has}
use Rattle.graph_model.specs.Served.{Storage}
use Rattle.entity_form.specs.declared.value.Value.{Value}
use Rattle.session_model.specs.Instances.{Instance, Instances, held_ids, instance_at, put_instance}
use Rattle.session_model.specs.Answer.{Binding, State, id_in, with_value}
use Rattle.session_model.specs.Sound.{IsSound}
use Rattle.session_model.proofs.Holding.{held_put, is_saved}
use Rattle.object_registry.specs.Bindings.{SameNames}
use Rattle.object_registry.specs.Registered.{Registered, with_member}
use Rattle.session_lines.specs.declared.memory.Memory.{Memory}
use Rattle.session_lines.specs.Stands.{Stands, IsAtState}

abbrev pub with_objects : State → List Binding → Instances → ℕ → State
with_objects state names instances next = record state { names = names; instances = instances; next_id = next }

-- the held ids are left open
pub stands_objects : (memory : Memory) (registry : Registered) (memory_next : ℕ) (storage : Storage) (state : State) (names : List Binding) (instances : Instances) (next : ℕ) → Stands memory storage state
    → IsSound (with_objects state names instances next) → SameNames registry.names names → registry.instances ≡ instances → memory_next ≡ next → state.next_id ≤ next
    → Stands (record memory { registry = registry; next_id = memory_next }) storage (with_objects state names instances next)
stands_objects memory registry memory_next storage state names instances next s sound same is next_is up = record {
  types = s.types;
  pairs = s.pairs;
  names = same;
  instances = is;
  next_id = next_is;
  started = s.started;
  rooted = s.rooted;
  sound = sound;
  graph = s.graph;
  number = s.number;
  stored_next = (let low = s.stored_next in omega arith);
  records = s.records;
}

-- as many ids are held as before
pub stands_with : (memory : Memory) (registry : Registered) (memory_next : ℕ) (storage : Storage) (state : State) (names : List Binding) (instances : Instances) (next : ℕ) → IsAtState memory storage state
    → IsSound (with_objects state names instances next) → SameNames registry.names names → registry.instances ≡ instances → memory_next ≡ next → state.next_id ≤ next
    → ((y : ℕ) → has y (held_ids instances) ≡ has y (held_ids state.instances))
    → IsAtState (record memory { registry = registry; next_id = memory_next }) storage (with_objects state names instances next)
stands_with memory registry memory_next storage state names instances next at sound same is next_is up held = record {
  stands = stands_objects memory registry memory_next storage state names instances next at.stands sound same is next_is up;
  held = λ y. at.held y ∙ sym (held y);
}

-- a member of an object has another value
pub stands_changed : (memory : Memory) (registry : Registered) (storage : Storage) (state : State) (x : ℕ) (i : Instance) (at : ℕ) (value : Value) → IsAtState memory storage state
    → instance_at state.instances x ≡ Some i → IsSound (with_value state x i at value)
    → registry.names ≡ memory.registry.names → registry.instances ≡ put_instance x (with_member i at value) memory.registry.instances
    → IsAtState (record memory { registry = registry }) storage (with_value state x i at value)
stands_changed memory registry storage state x i at value stands here sound names is =
    stands_with memory registry memory.next_id storage state state.names (put_instance x (with_member i at value) state.instances) state.next_id stands sound
    (λ name. ap (λ (bs : List Binding). id_in bs name) names ∙ stands.stands.names name)
    (is ∙ ap (put_instance x (with_member i at value)) stands.stands.instances)
    stands.stands.next_id (omega arith)
    (held_put state.instances x (with_member i at value) stands.stands.sound.order (sym (ap is_saved here)))
