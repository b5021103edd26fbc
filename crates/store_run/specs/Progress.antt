-- How far a script is served.
use Rattle.std.specs.Prelude.{◌≡◌, ◌≢◌, ℕ, Bool, List, ◌++◌, take}
use Rattle.session.specs.Sessions.{SessionView as Session}
use Rattle.plain_storage.specs.Held.{PlainHeld}
use Rattle.plain_storage.specs.Images.{EachPair}
use Rattle.plain_storage.specs.Keeping.{HoldsEither, Keeps, Plain, held_in}
use Rattle.store_run.specs.Answer.{answers, held_after, opened_on, state_after}
use Rattle.store_run.specs.Full.{IsFullForNext}
use Rattle.graph_export.specs.Line.{HasNoFeed}
use Rattle.store_run.specs.Lines.{lines_of, ended, AllHaveNoFeed}
use Rattle.store_run.specs.Run.{AreAnswered, EndsLine}
use Rattle.store_run.specs.Serving.{IsAt}
use Rattle.store_run.specs.declared.stop.Stop.{Stop}
use Rattle.store_run.specs.declared.stop.Stop.TheVariants.{WriteFault, Full}

-- session, storage and disk stand behind these lines
pub record StandsBehind (start : PlainHeld) (lines : List (List ℕ)) (session : Session) (plain : Plain) (reads : ℕ → List ℕ) : Type 0 where
  pub at_ : IsAt session plain (state_after (opened_on start) lines)
  pub keeps : Keeps plain (state_after (opened_on start) lines).types reads
  pub held : held_in plain (state_after (opened_on start) lines).types ≡ held_after start lines

-- what was read is answered, but for the line that has not ended
pub record IsServed (start : PlainHeld) (session : Session) (plain : Plain) (reads : ℕ → List ℕ) (read unended written0 written : List ℕ) : Type 0 where
  pub lines : List (List ℕ)
  pub read_is : read ≡ ended lines ++ unended
  pub whole : AllHaveNoFeed lines
  pub open_line : HasNoFeed unended
  pub stands : StandsBehind start lines session plain reads
  pub answered : written ≡ written0 ++ answers (opened_on start) lines

-- the whole script is answered
pub record IsFinished (start : PlainHeld) (session : Session) (plain : Plain) (reads : ℕ → List ℕ) (script written0 written : List ℕ) : Type 0 where
  pub stands : StandsBehind start (lines_of script) session plain reads
  pub answered : written ≡ written0 ++ answers (opened_on start) (lines_of script)

-- The first lines are answered whole, and of the next a part. Each image holds what they made, and of the next line all or nothing.
pub record IsPartAnswered (start : PlainHeld) (script : List ℕ) (stop : Stop) (written0 written : List ℕ) (reads : ℕ → List ℕ) (leaves : ℕ → List ℕ → Bool) : Type 0 where
  pub done : List (List ℕ)
  pub rest : List (List ℕ)
  pub answered : AreAnswered start script written0 written done rest
  pub line_end : stop ≢ WriteFault → EndsLine answered.part
  pub full : stop ≡ Full → IsFullForNext (state_after (opened_on start) done) rest reads
  pub images : EachPair leaves (HoldsEither (held_after start done) (held_after start (done ++ take 1 rest)))

-- Whatever was served before, these bytes are served too.
abbrev pub Serves : (session session' : Session) (plain plain' : Plain) (reads reads' : ℕ → List ℕ) (unended unended' bytes written written' : List ℕ) → Type 0
Serves session session' plain plain' reads reads' unended unended' bytes written written' =
    (start : PlainHeld) (read written0 : List ℕ)
    → IsServed start session plain reads read unended written0 written
    → IsServed start session' plain' reads' (read ++ bytes) unended' written0 written'

-- Whatever was served before, and whatever follows these bytes, a part of it all is answered.
abbrev pub Stops : (session : Session) (plain : Plain) (reads : ℕ → List ℕ) (unended bytes : List ℕ) (stop : Stop) (written written' : List ℕ) (reads' : ℕ → List ℕ) (leaves : ℕ → List ℕ → Bool) → Type 0
Stops session plain reads unended bytes stop written written' reads' leaves =
    (start : PlainHeld) (read written0 left : List ℕ)
    → IsServed start session plain reads read unended written0 written
    → IsPartAnswered start (read ++ (bytes ++ left)) stop written0 written' reads' leaves
