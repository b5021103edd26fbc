-- What a refused line is answered, and what a line's answer or refusal says of the turn that is due.
use Rattle.std.specs.Prelude.{◌≡◌, ℕ, Result, Ok, Err, List, [], ◌∷◌, ◌++◌, codes}
use Rattle.graph_model.specs.Served.{Storage}
use Rattle.session_model.specs.Answer.{State, Turn, refused}
use Rattle.session_lines.specs.declared.memory.Memory.{Memory}
use Rattle.session_lines.specs.declared.outcome.Outcome.{Outcome}
use Rattle.session_lines.specs.declared.outcome.Outcome.TheVariants as outcomes
use Rattle.session_lines.specs.declared.refusal.Refusal.{Refusal}
use Rattle.session_lines.specs.declared.refusal.Refusal.TheVariants.{Reserved, Duplicate, Full, NameTaken, NoType, NoName, NoMember, WrongKind, Range, NoRoot, NoTarget, TooBig, BadLine}
use Rattle.session_lines.specs.declared.refusal.Stop.{Stop}
use Rattle.session_lines.specs.declared.refusal.Stop.TheVariants.{Refused, NoMemory}
use Rattle.session_lines.specs.Due.{Answers}

abbrev pub code_of : Refusal → List ℕ
code_of Reserved = codes "reserved"
code_of Duplicate = codes "duplicate"
code_of Full = codes "full"
code_of NameTaken = codes "name-taken"
code_of NoType = codes "no-type"
code_of NoName = codes "no-name"
code_of NoMember = codes "no-member"
code_of WrongKind = codes "wrong-kind"
code_of Range = codes "range"
code_of NoRoot = codes "no-root"
code_of NoTarget = codes "no-target"
code_of TooBig = codes "too-big"
code_of BadLine = codes "bad-line"

abbrev pub refused_text : Refusal → List ℕ
refused_text refusal = (codes "refused " ++ code_of refusal) ++ 10 ∷ []

-- the turn is the refusal for this reason; nothing is said where memory ran out
abbrev pub IsRefusal : State → Turn → Stop → Type 0
IsRefusal state turn (Refused refusal) = turn ≡ refused state (code_of refusal)
IsRefusal state turn NoMemory = Unit {0}

-- the outcome is the answer, or tells the refusal; none is had without memory
abbrev pub IsOutcomeOf : Result (List ℕ) Stop → Outcome → Type 0
IsOutcomeOf (Ok text) outcome = outcome ≡ outcomes.Answer text
IsOutcomeOf (Err (Refused refusal)) outcome = outcome ≡ outcomes.Answer (refused_text refusal)
IsOutcomeOf (Err NoMemory) outcome = ⊥

-- the answer is what is due of the turn, or the turn is this refusal
abbrev pub Says : Result (List ℕ) Stop → Memory → Storage → Turn → Type 0
Says (Ok text) memory storage turn = Answers text memory storage turn
Says (Err (Refused refusal)) memory storage turn = Answers (refused_text refusal) memory storage turn
Says (Err NoMemory) memory storage turn = Unit {0}
