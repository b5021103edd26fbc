-- What lines behind lines leave, are answered, make and hold.
use Rattle.std.proofs.Common.{◌≡◌, ◌+◌, ◌++◌, [], ◌∷◌, ℕ, List, length, refl, ap, sym, ◌∙◌, arith, append_assoc, length-append}
use Rattle.std.proofs.lemmas.List.{append-nil}
use Rattle.graph_model.specs.declared.entity.StoreOp.{StoreOp}
use Rattle.graph_model.specs.Graph.{Graph, after, put_all}
use Rattle.session_model.specs.Answer.{State, turn}
use Rattle.session_lines.specs.Limits.{most_bytes}
use Rattle.plain_storage.specs.Held.{PlainHeld}
use Rattle.graph_model.specs.Stores.{next_after}
use Rattle.store_run.specs.Answer.{answers, held_after, held_behind, held_with, opened_on, state_after, stores_of}

pub state_after-append : (state : State) (lines more : List (List ℕ)) → state_after state (lines ++ more) ≡ state_after (state_after state lines) more
state_after-append state [] more = refl
state_after-append state (line ∷ lines) more = state_after-append (turn most_bytes state line).state lines more

pub answers-append : (state : State) (lines more : List (List ℕ)) → answers state (lines ++ more) ≡ answers state lines ++ answers (state_after state lines) more
answers-append state [] more = refl
answers-append state (line ∷ lines) more =
    let text = (turn most_bytes state line).text in
    let next = (turn most_bytes state line).state in
    ap (λ (l : List ℕ). text ++ l) (answers-append next lines more) ∙ sym (append_assoc text (answers next lines) (answers (state_after next lines) more))

pub stores_of-append : (state : State) (lines more : List (List ℕ)) → stores_of state (lines ++ more) ≡ stores_of state lines ++ stores_of (state_after state lines) more
stores_of-append state [] more = refl
stores_of-append state (line ∷ lines) more =
    let stores = (turn most_bytes state line).stores in
    let next = (turn most_bytes state line).state in
    ap (λ (l : List StoreOp). stores ++ l) (stores_of-append next lines more) ∙ sym (append_assoc stores (stores_of next lines) (stores_of (state_after next lines) more))

pub after-append : (graph : Graph) (stores more : List StoreOp) → after graph (stores ++ more) ≡ after (after graph stores) more
after-append graph [] more = refl
after-append graph (op ∷ stores) more = after-append (put_all op.records graph) stores more

pub last_next_id-append : (next_id : ℕ) (stores more : List StoreOp) → next_after next_id (stores ++ more) ≡ next_after (next_after next_id stores) more
last_next_id-append next_id [] more = refl
last_next_id-append next_id (op ∷ stores) more = last_next_id-append op.next_id stores more

-- ---- one line more

pub state_line : (state : State) (lines : List (List ℕ)) (line : List ℕ) → state_after state (lines ++ line ∷ []) ≡ (turn most_bytes (state_after state lines) line).state
state_line state lines line = state_after-append state lines (line ∷ [])

pub answers_line : (state : State) (lines : List (List ℕ)) (line : List ℕ) → answers state (lines ++ line ∷ []) ≡ answers state lines ++ (turn most_bytes (state_after state lines) line).text
answers_line state lines line =
    answers-append state lines (line ∷ []) ∙ ap (λ (l : List ℕ). answers state lines ++ l) (append-nil (turn most_bytes (state_after state lines) line).text)

pub stores_line : (state : State) (lines : List (List ℕ)) (line : List ℕ) → stores_of state (lines ++ line ∷ []) ≡ stores_of state lines ++ (turn most_bytes (state_after state lines) line).stores
stores_line state lines line =
    stores_of-append state lines (line ∷ []) ∙ ap (λ (l : List StoreOp). stores_of state lines ++ l) (append-nil (turn most_bytes (state_after state lines) line).stores)

held_with-append : (start : PlainHeld) (state0 state : State) (stores more : List StoreOp) → held_with start state (stores ++ more) ≡ held_with (held_with start state0 stores) state more
held_with-append start state0 state stores more i = record {
  types = state.types;
  graph = after-append start.graph stores more i;
  number = count i;
  next_id = last_next_id-append start.next_id stores more i;
}
  where
    count : start.number + length (stores ++ more) ≡ (start.number + length stores) + length more
    count = omega (arith, length-append stores more)

-- a line's turn leaves what is held behind the line
pub held_line : (start : PlainHeld) (lines : List (List ℕ)) (line : List ℕ)
    → held_after start (lines ++ line ∷ []) ≡ held_behind (held_after start lines) (turn most_bytes (state_after (opened_on start) lines) line)
held_line start lines line =
    let state = opened_on start in
    let before = state_after state lines in
    let made = turn most_bytes before line in
    ap (λ (s : State). held_with start s (stores_of state (lines ++ line ∷ []))) (state_line state lines line)
    ∙ ap (λ (l : List StoreOp). held_with start made.state l) (stores_line state lines line)
    ∙ held_with-append start before made.state (stores_of state lines) made.stores

-- nothing is answered, and what is held stays
pub held_first : (start : PlainHeld) → held_after start [] ≡ start
held_first start i = record { types = start.types; graph = start.graph; number = count i; next_id = start.next_id }
  where
    count : start.number + 0 ≡ start.number
    count = omega arith
