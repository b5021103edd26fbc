-- What may be given to a session, by what it waits for.
use Rattle.std.specs.Prelude.{◌≡◌, ◌<◌, ◌^◌, ℕ, List, Some, None}
use Rattle.graph_model.specs.declared.ask.Ask.{Ask}
use Rattle.graph_model.specs.declared.ask.Ask.TheVariants as asks
use Rattle.graph_model.specs.declared.ask.Reply.{Reply}
use Rattle.graph_model.specs.declared.ask.Reply.TheVariants as replies
use Rattle.session_lines.specs.Broken.{looked_up}
use Rattle.session_lines.specs.declared.outcome.Phase.{Phase}
use Rattle.session_lines.specs.declared.outcome.Phase.TheVariants as phases
use Rattle.session_lines.specs.declared.outcome.Waiting.{Waiting}
use Rattle.session_lines.specs.declared.outcome.Waiting.TheVariants as waits
use Rattle.session.specs.declared.session.Given.{Given}
use Rattle.session.specs.declared.session.Given.TheVariants as given
use Rattle.session.specs.declared.session.SessionStep.{SessionStep as Step}
use Rattle.session.specs.declared.session.SessionStep.TheVariants as step

-- the reply is one to this ask
abbrev pub IsReplyTo : Ask → Reply → Type 0
IsReplyTo (asks.Look x) (replies.Found entity) = Unit {0}
IsReplyTo (asks.Hold xs) replies.Held = Unit {0}
IsReplyTo (asks.Release xs) replies.Released = Unit {0}
IsReplyTo (asks.Store op) (replies.Stored number) = Unit {0}
IsReplyTo (asks.KeepType bytes) replies.TypeKept = Unit {0}
IsReplyTo asks.Collect (replies.Count count) = Unit {0}
IsReplyTo asks.Tidy replies.Tidied = Unit {0}
IsReplyTo _ _ = ⊥

-- the phase takes the reply
abbrev pub TakesReply : Phase → Reply → Type 0
TakesReply (phases.Saying text) reply = Unit {0}
TakesReply (phases.Storing count) (replies.Stored number) = Unit {0}
TakesReply phases.Collecting (replies.Count count) = Unit {0}
TakesReply (phases.Looking loading purpose) (replies.Found entity) = Unit {0}
TakesReply (phases.Holding purpose) replies.Held = Unit {0}
TakesReply (phases.Exporting export) (replies.Found entity) = Unit {0}
TakesReply _ _ = ⊥

-- what is looked up is what is asked for, an id of 64 bits; behind each other step nothing is looked up
abbrev pub LooksUp : Step → Waiting → Type 0
LooksUp (step.Ask (asks.Look x)) waiting = (looked_up waiting ≡ Some x) × (x < 2 ^ 64)
LooksUp _ waiting = looked_up waiting ≡ None

-- a line at first and after `Done`, a reply after `Ask`, and `Printed` after `Print`
abbrev pub Fits : Given → Waiting → Type 0
Fits (given.Line text) waits.ForLine = Unit {0}
Fits (given.Reply reply) (waits.ForReply phase) = TakesReply phase reply
Fits given.Printed waits.ForPrinted = Unit {0}
Fits given.Printed (waits.ForNextLine export) = Unit {0}
Fits _ _ = ⊥

-- behind this step, what fits next
abbrev pub FitsBehind : Step → Waiting → Type 0
FitsBehind (step.Ask ask) waiting = (reply : Reply) → IsReplyTo ask reply → Fits (given.Reply reply) waiting
FitsBehind (step.Print line) waiting = Fits given.Printed waiting
FitsBehind step.Done waiting = (text : List ℕ) → Fits (given.Line text) waiting
FitsBehind (step.Broken id) waiting = Unit {0}
