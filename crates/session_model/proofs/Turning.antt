-- Every line leaves a sound state sound.
use Rattle.std.proofs.Common.{◌≡◌, ◌≤◌, arith, ℕ, Bool, true, false, cond, not, ◌&&◌, List, [], ◌∷◌, Option, Some, None, Result, Ok, Err, refl}
use Rattle.session_model.specs.Commands as cmd
use Rattle.session_model.specs.Commands.{Command, command_of}
use Rattle.session_model.specs.Instances.{Instances, gathered_eagerly, gathered_lazily}
use Rattle.session_model.specs.Answer.{State, answered, command_turn, desc_of_instance, first_instances, id_of, is_bound, named_instance, needs_start, no_name, started_turn, turn, turn_of}
use Rattle.session_model.specs.Sound.{IsProperCommand, IsSound}
use Rattle.session_model.proofs.Declaring.{refactor_line_sound, type_line_sound}
use Rattle.session_model.proofs.Following.{follow_line_sound}
use Rattle.session_model.proofs.Forgetting.{forget_line_sound}
use Rattle.session_model.proofs.Gathering.{eagerly, lazily}
use Rattle.session_model.proofs.Judging.{judged_sound}
use Rattle.session_model.proofs.Naming.{drop_line_sound, home_line_sound, new_line_sound, pick_line_sound}
use Rattle.session_model.proofs.Setting.{add_line_sound, cut_line_sound, root_line_sound, set_line_sound}
use Rattle.session_model.proofs.Spelled.{spelled_proper}
use Rattle.session_model.proofs.Starting.{begun_sound}
use Rattle.session_model.proofs.Staying.{next_never_falls}
use Rattle.session_model.proofs.Storing.{store_line_sound}
use Rattle.graph_export.specs.Line.{line}

pub command_sound : (most : ℕ) (state : State) (command : Command) → IsSound state → (needs_start command ≡ true → state.started ≡ true) → IsProperCommand command → IsSound (command_turn most state command).state
command_sound most state (cmd.DeclareType desc) s started proper = type_line_sound state desc s proper
command_sound most state (cmd.Refactor old new) s started proper = refactor_line_sound state old new s proper
command_sound most state (cmd.New name type_name) s started proper = new_line_sound state name type_name s (started refl)
command_sound most state (cmd.SetMember name member rest) s started proper = set_line_sound state name member rest s (started refl) proper
command_sound most state (cmd.AddTo name member target) s started proper = add_line_sound state name member target s (started refl)
command_sound most state (cmd.CutFrom name member index) s started proper = cut_line_sound state name member index s (started refl)
command_sound most state (cmd.SetRoot name) s started proper = root_line_sound state name s (started refl)
command_sound most state (cmd.Store name) s started proper = store_line_sound most state name gathered_lazily lazily s (started refl)
command_sound most state (cmd.StoreAll name) s started proper = store_line_sound most state name gathered_eagerly eagerly s (started refl)
command_sound most state (cmd.Show name) s started proper = judged_sound state (no_name (not (is_bound state name)) ∷ []) (answered state (line (id_of state name) (named_instance state name).object (desc_of_instance state (named_instance state name)))) s (λ none. s)
command_sound most state (cmd.Home name) s started proper = home_line_sound state name s (started refl)
command_sound most state (cmd.Follow name member new) s started proper = follow_line_sound state name member new s (started refl)
command_sound most state (cmd.Pick name member index new) s started proper = pick_line_sound state name member index new s (started refl)
command_sound most state (cmd.DropName name) s started proper = drop_line_sound state name s
command_sound most state cmd.Forget s started proper = forget_line_sound state s (started refl)
command_sound most state cmd.Collect s started proper = s
command_sound most state cmd.Tidy s started proper = s
command_sound most state cmd.Export s started proper = s

started_sound : (most : ℕ) (state : State) (command : Command) (first : Result Instances (List ℕ)) → first_instances state ≡ first → IsSound state → state.started ≡ false → IsProperCommand command
    → IsSound (started_turn most state command first).state
started_sound most state command (Ok ks) e s unbegun proper = command_sound most (record state { instances = ks; started = true }) command (begun_sound state ks s unbegun e) (λ need. refl) proper
started_sound most state command (Err code) e s unbegun proper = s

-- a line that needs the start finds it made
has_begun : (command : Command) (state : State) (need started : Bool) → needs_start command ≡ need → state.started ≡ started → (need && not started) ≡ false → needs_start command ≡ true → state.started ≡ true
has_begun command state true true n e f need = e
has_begun command state true false n e f need = absurd cc
has_begun command state false started n e f need = absurd cc

pub proper_turn_sound : (most : ℕ) (state : State) (command : Command) → IsSound state → IsProperCommand command → IsSound (turn_of most state (Some command)).state
proper_turn_sound most state command s proper = by (needs_start command) state.started refl refl
  where
    by : (need started : Bool) → needs_start command ≡ need → state.started ≡ started
        → IsSound (cond (need && not started) (started_turn most state command (first_instances state)) (command_turn most state command)).state
    by true true n e = command_sound most state command s (has_begun command state true true n e refl) proper
    by true false n e = started_sound most state command (first_instances state) refl s e proper
    by false started n e = command_sound most state command s (has_begun command state false started n e refl) proper

pub turn_sound : (most : ℕ) (state : State) (text : List ℕ) → IsSound state → IsSound (turn most state text).state
unfolding turn
turn_sound most state text s = by (command_of text) refl
  where
    by : (o : Option Command) → command_of text ≡ o → IsSound (turn_of most state o).state
    by None e = s
    by (Some command) e = proper_turn_sound most state command s (spelled_proper text command e)

-- ---- the next id

started_next : (most : ℕ) (state : State) (command : Command) (first : Result Instances (List ℕ)) → first_instances state ≡ first → IsSound state → state.started ≡ false
    → state.next_id ≤ (started_turn most state command first).state.next_id
started_next most state command (Ok ks) e s unbegun = next_never_falls most (record state { instances = ks; started = true }) command (begun_sound state ks s unbegun e) (λ need. refl)
started_next most state command (Err code) e s unbegun = omega arith

pub turn_next : (most : ℕ) (state : State) (text : List ℕ) → IsSound state → state.next_id ≤ (turn most state text).state.next_id
unfolding turn
turn_next most state text s = of_command (command_of text)
  where
    by : (command : Command) (need started : Bool) → needs_start command ≡ need → state.started ≡ started
        → state.next_id ≤ (cond (need && not started) (started_turn most state command (first_instances state)) (command_turn most state command)).state.next_id
    by command true true n e = next_never_falls most state command s (has_begun command state true true n e refl)
    by command true false n e = started_next most state command (first_instances state) refl s e
    by command false started n e = next_never_falls most state command s (has_begun command state false started n e refl)

    of_command : (o : Option Command) → state.next_id ≤ (turn_of most state o).state.next_id
    of_command None = omega arith
    of_command (Some command) = by command (needs_start command) state.started refl refl
