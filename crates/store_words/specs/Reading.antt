-- What the readers of a command's words say. No public clause cites this module.
use Rattle.std.specs.Prelude.{◌≡◌, List, map, Result, IfOk, MatchResult}
use Rattle.std.specs.Borrow.{Bor}
use Rattle.store_words.specs.Grammar.{Spell, Takes, Text}
use Rattle.store_words.specs.declared.fault.WordsFault.{WordsFault}
use Rattle.store_words.specs.declared.fault.WordsFault.TheVariants.{NoMemory}
use Rattle.store_words.specs.declared.plan.Plan.{Plan}
use Rattle.store_words.specs.declared.verb.Verb.{Verb}

-- the texts of lent words
abbrev pub words_of : List (Bor Text) → List Text
words_of words = map (λ word. word.now) words

-- a command is given exactly where the words say it, memory aside
pub record IsTaken (verb : Verb) (words : List Text) (result : Result Plan WordsFault) : Type 0 where
  pub spelled : IfOk result (Takes verb words)
  pub only : (command : Plan) → Takes verb words command → MatchResult result (λ given. given ≡ command) (λ fault. fault ≡ NoMemory)

-- a command is given exactly where all of the words spell it, memory aside
pub record IsPlanned (words : List Text) (result : Result Plan WordsFault) : Type 0 where
  pub spelled : IfOk result (Spell words)
  pub only : (command : Plan) → Spell words command → MatchResult result (λ given. given ≡ command) (λ fault. fault ≡ NoMemory)
