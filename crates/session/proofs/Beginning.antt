-- Whether the script begins before a command, and what is due then.
use Rattle.std.proofs.Common.{◌≡◌, Bool, true, false, cond, not, ◌&&◌, Some, ap, ◌∙◌, sym}
use Rattle.graph_model.specs.Graph.{lists}
use Rattle.graph_model.specs.Served.{Storage}
use Rattle.session_model.specs.Commands.{Command}
use Rattle.session_model.specs.Answer.{State, command_turn, first_instances, needs_start, started_turn, turn_of}
use Rattle.session_lines.specs.declared.memory.Memory.{Memory}
use Rattle.session_lines.specs.Limits.{most_bytes}
use Rattle.session_lines.specs.Stands.{IsAtState}

abbrev must_begin : State → Command → Bool
must_begin state command = needs_start command && not state.started

same_begin : (memory : Memory) (storage : Storage) (state : State) (command : Command) → IsAtState memory storage state → must_begin state command ≡ (needs_start command && not memory.started)
same_begin memory storage state command at = ap (λ (started : Bool). needs_start command && not started) (sym at.stands.started)

-- ---- the command comes at once

pub comes_at_once : (memory : Memory) (storage : Storage) (state : State) (command : Command) → IsAtState memory storage state → (needs_start command && not memory.started) ≡ false
    → turn_of most_bytes state (Some command) ≡ command_turn most_bytes state command
comes_at_once memory storage state command at e =
    ap (λ (b : Bool). cond b (started_turn most_bytes state command (first_instances state)) (command_turn most_bytes state command)) (same_begin memory storage state command at ∙ e)

second_holds : (a b : Bool) → (a && not b) ≡ false → a ≡ true → b ≡ true
second_holds true true e f = f
second_holds true false e f = absurd cc
second_holds false b e f = absurd cc

pub has_begun : (memory : Memory) (storage : Storage) (state : State) (command : Command) → IsAtState memory storage state → (needs_start command && not memory.started) ≡ false
    → needs_start command ≡ true → state.started ≡ true
has_begun memory storage state command at e need = second_holds (needs_start command) state.started (same_begin memory storage state command at ∙ e) need

-- ---- the script begins first

pub comes_later : (memory : Memory) (storage : Storage) (state : State) (command : Command) → IsAtState memory storage state → (needs_start command && not memory.started) ≡ true
    → turn_of most_bytes state (Some command) ≡ started_turn most_bytes state command (first_instances state)
comes_later memory storage state command at e =
    ap (λ (b : Bool). cond b (started_turn most_bytes state command (first_instances state)) (command_turn most_bytes state command)) (same_begin memory storage state command at ∙ e)

pub second_fails : (a b : Bool) → (a && not b) ≡ true → b ≡ false
second_fails true false e = cc
second_fails true true e = absurd cc
second_fails false b e = absurd cc

pub has_not_begun : (memory : Memory) (storage : Storage) (state : State) (command : Command) → IsAtState memory storage state → (needs_start command && not memory.started) ≡ true → state.started ≡ false
has_not_begun memory storage state command at e = second_fails (needs_start command) state.started (same_begin memory storage state command at ∙ e)

-- the graph has the root as the session knows
pub root_is : (memory : Memory) (storage : Storage) (state : State) (command : Command) (b : Bool) → IsAtState memory storage state → (needs_start command && not memory.started) ≡ true → memory.rooted ≡ b → lists state.graph 1 ≡ b
root_is memory storage state command b at e rooted = sym (at.stands.rooted (has_not_begun memory storage state command at e)) ∙ rooted
