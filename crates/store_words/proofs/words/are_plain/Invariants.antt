-- The words before this one are plain.
use Rattle.std.proofs.Common.{◌≡◌, take, true}
use Rattle.std.specs.List.{list_all}
use Rattle.store_words.specs.Grammar.{is_plain, texts}
use Rattle.store_words.proofs.words.are_plain.Given as goal

abbrev pub invariant-loop-word : goal.invariant-loop-word
invariant-loop-word l = list_all is_plain (texts (take l.word-index l.words)) ≡ true
