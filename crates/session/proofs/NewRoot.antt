-- The script begins with a root that was never stored.
use Rattle.std.proofs.Common.{◌≡◌, Bool, true, false, cond, List, [], Ok, refl, ap, ◌∙◌}
use Rattle.graph_model.specs.Ids.{has}
use Rattle.graph_model.specs.Graph.{lists}
use Rattle.graph_model.specs.Served.{Storage}
use Rattle.type_desc.specs.Root.{root_desc}
use Rattle.entity_form.specs.declared.value.Object.{Object}
use Rattle.session_model.specs.Commands.{Command}
use Rattle.session_model.specs.Instances.{Instance, Instances, held_ids, put_instance}
use Rattle.session_model.specs.Loading.{load}
use Rattle.session_model.specs.Answer.{Binding, State, command_turn, first_instances, fresh, id_in, started_turn}
use Rattle.session_model.proofs.Starting.{begun_sound}
use Rattle.object_registry.specs.Registered.{Registered, unsaved}
use Rattle.session_lines.specs.declared.memory.Memory.{Memory}
use Rattle.session_lines.specs.Limits.{most_bytes}
use Rattle.session_lines.specs.Stands.{IsAtState}

abbrev root_alone : Instances
root_alone = put_instance 1 (fresh 1 root_desc) []

root_first : (state : State) → lists state.graph 1 ≡ false → first_instances state ≡ Ok root_alone
root_first state absent = ap (λ (b : Bool). cond b (load state.types state.pairs state.graph [] 1) (Ok root_alone)) absent

pub begins_without_root : (memory : Memory) (registry : Registered) (root : Object) (storage : Storage) (state : State) → IsAtState memory storage state → state.started ≡ false → lists state.graph 1 ≡ false
    → unsaved root ≡ fresh 1 root_desc → registry.names ≡ memory.registry.names → registry.instances ≡ put_instance 1 (unsaved root) memory.registry.instances
    → (begun : State) × IsAtState (record memory { registry = registry; started = true }) storage begun × (begun.started ≡ true)
    × ((command : Command) → started_turn most_bytes state command (first_instances state) ≡ command_turn most_bytes begun command)
begins_without_root memory registry root storage state at unbegun absent made names is =
    (begun, stands, refl, λ command. ap (started_turn most_bytes state command) (root_first state absent))
  where
    begun : State
    begun = record state { instances = root_alone; started = true }

    none_before : state.instances ≡ []
    none_before = at.stands.sound.unstarted unbegun

    instances : registry.instances ≡ root_alone
    instances = is ∙ (ap (λ (i : Instance). put_instance 1 i memory.registry.instances) made ∙ ap (put_instance 1 (fresh 1 root_desc)) (at.stands.instances ∙ none_before))

    stands : IsAtState (record memory { registry = registry; started = true }) storage begun
    stands = record {
      stands = record {
        types = at.stands.types;
        pairs = at.stands.pairs;
        names = λ name. ap (λ (bs : List Binding). id_in bs name) names ∙ at.stands.names name;
        instances = instances;
        next_id = at.stands.next_id;
        started = refl;
        rooted = λ never. absurd cc;
        sound = begun_sound state root_alone at.stands.sound unbegun (root_first state absent);
        graph = at.stands.graph;
        number = at.stands.number;
        stored_next = at.stands.stored_next;
        records = at.stands.records;
      };
      held = λ x. at.held x ∙ ap (λ (hs : Instances). has x (held_ids hs)) none_before;
    }
