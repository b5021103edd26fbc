-- Which refusal a turn gives, and the turn where none is due.
use Rattle.std.proofs.Common.{◌≡◌, Bool, true, false, cond, List, [], ◌∷◌, ap, ◌∙◌, refl}
use Rattle.session_model.specs.Answer.{State, Turn, Refusal, judged, refused}
use Rattle.session_model.proofs.Judging.{NoneDue}

pub judged_first : (state : State) (r : Refusal) (rs : List Refusal) (effect : Turn) → r.due ≡ true → judged state (r ∷ rs) effect ≡ refused state r.code
judged_first state r rs effect e = ap (λ (b : Bool). cond b (refused state r.code) (judged state rs effect)) e

pub judged_next : (state : State) (r : Refusal) (rs : List Refusal) (effect : Turn) → r.due ≡ false → judged state (r ∷ rs) effect ≡ judged state rs effect
judged_next state r rs effect e = ap (λ (b : Bool). cond b (refused state r.code) (judged state rs effect)) e

pub judged_none : (state : State) (rs : List Refusal) (effect : Turn) → NoneDue rs → judged state rs effect ≡ effect
judged_none state [] effect none = refl
judged_none state (r ∷ rs) effect none = judged_next state r rs effect none.0 ∙ judged_none state rs effect none.1
