-- What the images hold of the stores of a script.
use Rattle.std.proofs.Common.{◌≡◌, ◌≤◌, ◌+◌, ◌++◌, [], ◌∷◌, ℕ, Bool, true, false, cond, List, length, take, drop, ⊎_elim, refl, ap, sym, subst, ◌∙◌, arith, append_assoc, length-append}
use Rattle.std.proofs.lemmas.List.{take-append-drop, take_at}
use Rattle.graph_model.specs.declared.entity.StoreOp.{StoreOp}
use Rattle.graph_model.specs.Graph.{after}
use Rattle.session_model.specs.Answer.{State, turn}
use Rattle.session_lines.specs.Limits.{most_bytes}
use Rattle.plain_storage.specs.Held.{IsPlainStored, PlainHeld}
use Rattle.graph_model.specs.Stores.{next_after}
use Rattle.store_run.specs.Acknowledged.{acknowledged, says_stored}
use Rattle.store_run.specs.Answer.{answer, held_with, opened_on, state_after, stores_of}
use Rattle.store_run.specs.Lines.{lines_of}
use Rattle.store_run.specs.Run.{HoldsAcknowledged, HoldsPrefix}
use Rattle.store_run.proofs.AnswerLines.{acknowledged_stores}
use Rattle.store_run.proofs.Appends.{stores_of-append}
use Rattle.store_run.proofs.Said.{said}

-- a line makes at most one store
few_stores : (state : State) (line : List ℕ) → length (turn most_bytes state line).stores ≤ 1
few_stores state line = let is = said state line in omega (arith, is.says, at_most_one (says_stored is.last))
  where
    at_most_one : (b : Bool) → cond b 1 0 ≤ 1
    at_most_one true = omega arith
    at_most_one false = omega arith

few_next : (state : State) (lines : List (List ℕ)) → length (stores_of state (take 1 lines)) ≤ 1
few_next state [] = omega arith
few_next state (line ∷ lines) = omega (arith, few_stores state line, length-append (turn most_bytes state line).stores [])

-- images with the first stores of all
holds_count : (start : PlainHeld) (state : State) (stores more all : List StoreOp) (n : ℕ) (image0 image1 : List ℕ) → all ≡ stores ++ more → n ≤ length stores → length stores ≤ n + 1
    → IsPlainStored image0 image1 (held_with start state stores) → HoldsAcknowledged start all n image0 image1
holds_count start state stores more all n image0 image1 split low high held =
    let count = length stores in
    record {
      count = count;
      every_acknowledged = low;
      one_more = high;
      within = omega (arith, ap length split, length-append stores more);
      types = state.types;
      held = subst (λ (l : List StoreOp). IsPlainStored image0 image1 (record { types = state.types; graph = after start.graph l; number = start.number + count; next_id = next_after start.next_id l }))
          (sym (ap (λ (l : List StoreOp). take count l) split ∙ take_at stores more count refl)) held;
    }

-- the stores of the answered lines are acknowledged, and of the line behind them there is at most one
pub prefix_acknowledged : (start : PlainHeld) (script written0 written image0 image1 : List ℕ) → HoldsPrefix start script written0 written image0 image1
    → HoldsAcknowledged start (answer start script).stores (acknowledged written0 written) image0 image1
prefix_acknowledged start script written0 written image0 image1 prefix =
    let state = opened_on start in
    let done = prefix.done in
    let rest = prefix.rest in
    let is = prefix.answered in
    let all = stores_of state (lines_of script) in
    let behind = state_after state done in
    let next = stores_of behind (take 1 rest) in
    let said_so = acknowledged_stores state done rest is.part is.part_rest written0 written is.next_answer is.short is.put in
    let first : all ≡ stores_of state done ++ stores_of behind rest = ap (stores_of state) is.lines ∙ stores_of-append state done rest in
    let lines : lines_of script ≡ (done ++ take 1 rest) ++ drop 1 rest =
    is.lines ∙ ap (λ (l : List (List ℕ)). done ++ l) (sym (take-append-drop 1 rest)) ∙ sym (append_assoc done (take 1 rest) (drop 1 rest)) in
    let both : all ≡ stores_of state (done ++ take 1 rest) ++ stores_of (state_after state (done ++ take 1 rest)) (drop 1 rest) =
    ap (stores_of state) lines ∙ stores_of-append state (done ++ take 1 rest) (drop 1 rest) in
    let few = few_next behind rest in
    let long : length (stores_of state (done ++ take 1 rest)) ≡ length (stores_of state done) + length next = ap length (stores_of-append state done (take 1 rest)) ∙ length-append (stores_of state done) next in
    ⊎_elim
    (λ held. holds_count start behind (stores_of state done) (stores_of behind rest) all (acknowledged written0 written) image0 image1 first (omega (arith, said_so)) (omega (arith, said_so)) held)
    (λ held. holds_count start (state_after state (done ++ take 1 rest)) (stores_of state (done ++ take 1 rest)) (stores_of (state_after state (done ++ take 1 rest)) (drop 1 rest)) all (acknowledged written0 written) image0 image1
    both (omega (arith, said_so, long)) (omega (arith, said_so, long, few)) held)
    prefix.held
