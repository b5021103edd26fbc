-- A refused line leaves the state, so an effect needs a look only where nothing is refused.
use Rattle.std.proofs.Common.{◌≡◌, Bool, true, false, cond, List, [], ◌∷◌, refl}
use Rattle.session_model.specs.Answer.{State, Turn, Refusal, judged, refused}
use Rattle.session_model.specs.Sound.{IsSound}

-- none of the refusals is due
abbrev pub NoneDue : List Refusal → Type 0
NoneDue [] = Unit {0}
NoneDue (r ∷ refusals) = (r.due ≡ false) × NoneDue refusals

-- what holds of the state, and of that of the effect where nothing is refused, holds behind the line
pub judged_keeps : (P : State → Type 0) (state : State) (refusals : List Refusal) (effect : Turn) → P state → (NoneDue refusals → P effect.state) → P (judged state refusals effect).state
judged_keeps P state [] effect before then = then tt
judged_keeps P state (r ∷ refusals) effect before then = by r.due refl (λ e. judged_keeps P state refusals effect before (λ none. then (e, none)))
  where
    by : (b : Bool) → r.due ≡ b → (r.due ≡ false → P (judged state refusals effect).state) → P (cond b (refused state r.code) (judged state refusals effect)).state
    by true e rest = before
    by false e rest = rest e

pub judged_sound : (state : State) (refusals : List Refusal) (effect : Turn) → IsSound state → (NoneDue refusals → IsSound effect.state) → IsSound (judged state refusals effect).state
judged_sound = judged_keeps IsSound
