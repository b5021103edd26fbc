-- An answer is what is due of a turn that is answered so.
use Rattle.std.proofs.Common.{◌≡◌, ℕ, Bool, List, [], ◌∷◌, ◌++◌, Result, Ok, Err, refl, subst, sym}
use Rattle.std.specs.Prelude.{codes, IfOk}
use Rattle.graph_export.specs.Line.{HasNoFeed}
use Rattle.graph_model.specs.Served.{Storage}
use Rattle.session_model.specs.Answer.{State, Turn, answered}
use Rattle.session_lines.specs.declared.memory.Memory.{Memory}
use Rattle.session_lines.specs.declared.outcome.Outcome.{Outcome}
use Rattle.session_lines.specs.declared.refusal.Stop.{Stop}
use Rattle.session_lines.specs.declared.refusal.Stop.TheVariants.{Refused, NoMemory}
use Rattle.session_lines.specs.Stands.{IsAtState}
use Rattle.session_lines.specs.Due.{Answers, Meets}
use Rattle.session_lines.specs.Refusals.{IsOutcomeOf, IsRefusal, Says, code_of, refused_text}
use Rattle.session_lines.proofs.Lines.{refused_no_feed}

pub answers : (front : List ℕ) (memory : Memory) (storage : Storage) (state : State) → HasNoFeed front → IsAtState memory storage state → Answers (front ++ 10 ∷ []) memory storage (answered state front)
answers front memory storage state none stands = record { text_is = refl; line = record { text = front; bytes_is = refl; no_feed = none }; records = refl; stores = refl; housekeeping = refl; stands = stands }

pub answers_turn : (front text : List ℕ) (memory : Memory) (storage : Storage) (state : State) (turn : Turn) → HasNoFeed front → text ≡ front ++ 10 ∷ [] → turn ≡ answered state front → IsAtState memory storage state
    → Answers text memory storage turn
answers_turn front text memory storage state turn none t e stands =
    subst (λ (t' : Turn). Answers text memory storage t') (sym e) (subst (λ (bytes : List ℕ). Answers bytes memory storage (answered state front)) (sym t) (answers front memory storage state none stands))

pub says_refusal : (stop : Stop) (memory : Memory) (storage : Storage) (state : State) (turn : Turn) → IsAtState memory storage state → IsRefusal state turn stop → Says (Err stop) memory storage turn
says_refusal (Refused refusal) memory storage state turn stands is = answers_turn (codes "refused " ++ code_of refusal) (refused_text refusal) memory storage state turn (refused_no_feed refusal) refl is stands
says_refusal NoMemory memory storage state turn stands is = tt

pub meets_said : (is_next_type : List (List ℕ) → List ℕ → Bool) (said : Result (List ℕ) Stop) (outcome : Outcome) (memory : Memory) (storage : Storage) (turn : Turn)
    → IsOutcomeOf said outcome → Says said memory storage turn → Meets is_next_type outcome memory storage turn
meets_said is_next_type (Ok text) outcome memory storage turn is says = subst (λ (o : Outcome). Meets is_next_type o memory storage turn) (sym is) says
meets_said is_next_type (Err (Refused refusal)) outcome memory storage turn is says = subst (λ (o : Outcome). Meets is_next_type o memory storage turn) (sym is) says
meets_said is_next_type (Err NoMemory) outcome memory storage turn is says = absurd is

pub if_meets_said : (is_next_type : List (List ℕ) → List ℕ → Bool) (said : Result (List ℕ) Stop) {E : Type 0} (outcome : Result Outcome E) (memory : Memory) (storage : Storage) (turn : Turn)
    → IfOk outcome (IsOutcomeOf said) → Says said memory storage turn → IfOk outcome (λ o. Meets is_next_type o memory storage turn)
if_meets_said is_next_type said (Ok o) memory storage turn is says = meets_said is_next_type said o memory storage turn is says
if_meets_said is_next_type said (Err e) memory storage turn is says = tt
