use Rattle.std.proofs.Common.{rules, ◌≡◌, ◌∙◌, false, sym, ap}
use Rattle.std.specs.String.{string_bytes}
use Rattle.store_words.specs.Grammar.{is_plain}
use Rattle.store_words.proofs.AllWords.{unplain_one}
use Rattle.store_words.proofs.words.are_plain.Goals as goal

pub returns-then-not-is_plain : goal.returns-then-not-is_plain
returns-then-not-is_plain c =
    let other : is_plain c.as_bytes.result.now ≡ false = search rules in
    let same : c.as_bytes.result.now ≡ string_bytes c.word-item.result = search rules in
    let here : is_plain (string_bytes c.word-item.result) ≡ false = ap is_plain (sym same) ∙ other in
    sym (unplain_one c.args.words.now c.loop-word.word-index c.word-item.result (search rules) (ap (λ w. is_plain (string_bytes w)) (sym c.word-item.is) ∙ here))
