use Rattle.std.proofs.Common.{rules, ◌≡◌, ◌∙◌, ◌∷◌, List, true, drop, sym, ap}
use Rattle.std.specs.List.{list_all}
use Rattle.std.specs.String.{string_bytes}
use Rattle.std.proofs.lemmas.Bool.{and_parts}
use Rattle.store_words.specs.Grammar.{Text, is_plain, texts}
use Rattle.store_words.specs.Verbs.{name_of}
use Rattle.store_words.proofs.AllWords.{first_and_more}
use Rattle.store_words.proofs.Spelling.{named_is, taken_planned}
use Rattle.store_words.proofs.words.plan.Goals as goal

pub returns-in-Some-clause-spelled : goal.returns-in-Some-clause-spelled
returns-in-Some-clause-spelled c =
    let plain : list_all is_plain (texts c.args.words.now) ≡ true = search rules in
    let rest : List Text = texts (drop 1 c.args.words.now) in
    let name : c.as_str.result.now ≡ name_of c.in-Some.verb = named_is _ c.in-Some.verb (sym c.named.ensures ∙ c.in-Some.is) in
    let first : texts c.args.words.now ≡ string_bytes c.first-item.result ∷ rest =
    first_and_more c.args.words.now c.first-item.result c.in-len1-up.len_at_least ∙ ap (λ w. string_bytes w ∷ rest) (sym c.first-item.is) in
    let named : texts c.args.words.now ≡ name_of c.in-Some.verb ∷ rest = first ∙ ap (λ w. w ∷ rest) (sym c.as_str.ensures.value ∙ name) in
    let others : list_all is_plain rest ≡ true = (and_parts _ _ (sym (ap (list_all is_plain) named) ∙ plain)).1 in
    (taken_planned (texts c.args.words.now) rest c.in-Some.verb c.planned.result named plain (c.planned.ensures rest named others)).spelled
